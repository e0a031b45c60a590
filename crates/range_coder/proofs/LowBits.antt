-- The bits of a magnitude below its highest one, put and got from the highest down.
use Rattle.std.proofs.Common.{◌≡◌, ℕ, suc, ◌+◌, ◌-◌, ◌*◌, ◌/◌, ◌%◌, ◌^◌, ◌<◌, ◌≤◌, List, [], ◌∷◌, ◌++◌, Bool, true, false, eqb, refl, sym, ap, ◌∙◌, subst, arith, append_assoc}
use Rattle.std.proofs.Math.Nat.{pow-suc, div-div-eq-div-mul, div-one}
use Rattle.std.proofs.lemmas.List.{append-nil}
use Rattle.std.proofs.Math.Pow.{pow_mono}
use Rattle.std.specs.Int.{bit_at, from_bool}
use Rattle.range_coder.specs.Table.{AreLive}
use Rattle.range_coder.specs.Reading.{Reader}
use Rattle.range_coder.specs.Encoding.{Encoding}
use Rattle.range_coder.specs.Choices.{Choice}
use Rattle.range_coder.specs.Coding.{Puts, PutsFront, Gets}
use Rattle.range_coder.specs.Symbol.{choice, bit_slot, low_bits}
use Rattle.range_coder.proofs.Codings.{puts_nil, puts_more, puts_then_front, front_of_more, gets_nil, gets_more}

low_bits-more : (p magnitude : ℕ) → low_bits (p + 1) magnitude ≡ choice (bit_slot p) (eqb (bit_at magnitude p) 1) ∷ low_bits p magnitude
unfolding low_bits
low_bits-more p magnitude = let e : p + 1 ≡ suc p = omega arith in rw e refl

-- so many bits are still to be put
pub record HasPutBits (table : List ℕ) (before : Encoding) (states : List ℕ) (after : Encoding) (left : List ℕ) (count magnitude k : ℕ) : Type 0 where
  pub choices : List Choice
  pub within : k ≤ count
  pub is : low_bits count magnitude ≡ choices ++ low_bits k magnitude
  pub puts : Puts table before states after left choices
  pub live : AreLive table left

pub no_bits_put : (table : List ℕ) (before : Encoding) (states : List ℕ) (count magnitude : ℕ) → AreLive table states → HasPutBits table before states before states count magnitude count
no_bits_put table before states count magnitude live =
    record { choices = []; within = omega arith; is = refl; puts = puts_nil table before states; live = live }

pub bit_put : (table : List ℕ) (before : Encoding) (states : List ℕ) (between : Encoding) (held : List ℕ) (after : Encoding) (left : List ℕ) (count magnitude k p slot : ℕ) (bit : Bool) → HasPutBits table before states between held count magnitude k → k ≡ p + 1 → slot ≡ bit_slot p → bit ≡ eqb (bit_at magnitude p) 1 → Puts table between held after left (choice slot bit ∷ []) → AreLive table left → HasPutBits table before states after left count magnitude p
bit_put table before states between held after left count magnitude k p slot bit h next at set q live =
    let within : k ≤ count = h.within in
    let c : Choice = choice (bit_slot p) (eqb (bit_at magnitude p) 1) in
    let q' : Puts table between held after left (choice (bit_slot p) (eqb (bit_at magnitude p) 1) ∷ []) = rw (at, set) at q in
    let more : low_bits k magnitude ≡ c ∷ low_bits p magnitude = ap (λ (n : ℕ). low_bits n magnitude) next ∙ low_bits-more p magnitude in
    record {
      choices = h.choices ++ c ∷ [];
      within = omega arith;
      is = h.is ∙ ap (λ (cs : List Choice). h.choices ++ cs) more ∙ sym (append_assoc h.choices (c ∷ []) (low_bits p magnitude));
      puts = puts_more table before states between held after left h.choices (c ∷ []) h.puts q';
      live = live;
    }

pub bit_refused : (table : List ℕ) (before : Encoding) (states : List ℕ) (between : Encoding) (held : List ℕ) (after : Encoding) (left : List ℕ) (count magnitude k p slot : ℕ) (bit : Bool) → HasPutBits table before states between held count magnitude k → k ≡ p + 1 → slot ≡ bit_slot p → bit ≡ eqb (bit_at magnitude p) 1 → PutsFront table between held after left (choice slot bit ∷ []) → PutsFront table before states after left (low_bits count magnitude)
bit_refused table before states between held after left count magnitude k p slot bit h next at set q =
    let c : Choice = choice (bit_slot p) (eqb (bit_at magnitude p) 1) in
    let q' : PutsFront table between held after left (choice (bit_slot p) (eqb (bit_at magnitude p) 1) ∷ []) = rw (at, set) at q in
    let more : low_bits k magnitude ≡ c ∷ low_bits p magnitude = ap (λ (n : ℕ). low_bits n magnitude) next ∙ low_bits-more p magnitude in
    let is : low_bits count magnitude ≡ (h.choices ++ c ∷ []) ++ low_bits p magnitude = h.is ∙ ap (λ (cs : List Choice). h.choices ++ cs) more ∙ sym (append_assoc h.choices (c ∷ []) (low_bits p magnitude)) in
    let front = puts_then_front table before states between held after left h.choices (c ∷ []) h.puts q' in
    subst (λ (cs : List Choice). PutsFront table before states after left cs) (sym is) (front_of_more table before states after left (h.choices ++ c ∷ []) (low_bits p magnitude) front)

pub bits_put : (table : List ℕ) (before : Encoding) (states : List ℕ) (after : Encoding) (left : List ℕ) (count magnitude k : ℕ) → k ≡ 0 → HasPutBits table before states after left count magnitude k → Puts table before states after left (low_bits count magnitude)
unfolding low_bits
bits_put table before states after left count magnitude k none h =
    let e : low_bits k magnitude ≡ [] = ap (λ (n : ℕ). low_bits n magnitude) none in
    let is : low_bits count magnitude ≡ h.choices = h.is ∙ ap (λ (cs : List Choice). h.choices ++ cs) e ∙ append-nil h.choices in
    subst (λ (cs : List Choice). Puts table before states after left cs) (sym is) h.puts

-- so many bits are still to be got: the highest ones are known, whatever those below them are
pub record HasGotBits (table : List ℕ) (before : Reader) (states : List ℕ) (after : Reader) (left : List ℕ) (count high k : ℕ) : Type 0 where
  pub choices : List Choice
  pub within : k ≤ count
  pub is : (magnitude : ℕ) → magnitude / 2 ^ k ≡ high → low_bits count magnitude ≡ choices ++ low_bits k magnitude
  pub least : 2 ^ (count - k) ≤ high
  pub most : high < 2 * 2 ^ (count - k)
  pub gets : Gets table before states after left choices
  pub live : AreLive table left

pub no_bits_got : (table : List ℕ) (before : Reader) (states : List ℕ) (count : ℕ) → AreLive table states → HasGotBits table before states before states count 1 count
no_bits_got table before states count live =
    let none : count - count ≡ 0 = omega arith in
    record { choices = []; within = omega arith; is = λ m h. refl; least = rw none (omega arith); most = rw none (omega arith); gets = gets_nil table before states; live = live }

halved : (m p k high value : ℕ) → k ≡ p + 1 → value < 2 → m / 2 ^ p ≡ 2 * high + value → m / 2 ^ k ≡ high
halved m p k high value next small is =
    let one : k ≡ suc p = omega arith in
    let power : 2 ^ k ≡ 2 ^ p * 2 = ap (λ (n : ℕ). 2 ^ n) one ∙ pow-suc 2 p in
    let half : (2 * high + value) / 2 ≡ high = omega arith in
    ap (λ (d : ℕ). m / d) power ∙ sym (div-div-eq-div-mul m (2 ^ p) 2) ∙ ap (λ (n : ℕ). n / 2) is ∙ half

bit_split : (m p k high value : ℕ) → k ≡ p + 1 → value < 2 → m / 2 ^ p ≡ 2 * high + value → low_bits k m ≡ choice (bit_slot p) (eqb value 1) ∷ low_bits p m
bit_split m p k high value next small is =
    let rest : (2 * high + value) % 2 ≡ value = omega arith in
    let bit : bit_at m p ≡ value = ap (λ (n : ℕ). n % 2) is ∙ rest in
    ap (λ (n : ℕ). low_bits n m) next ∙ low_bits-more p m ∙ ap (λ (b : ℕ). choice (bit_slot p) (eqb b 1) ∷ low_bits p m) bit

pub bit_got : (table : List ℕ) (before : Reader) (states : List ℕ) (between : Reader) (held : List ℕ) (after : Reader) (left : List ℕ) (count high k p slot value : ℕ) (bit : Bool) → HasGotBits table before states between held count high k → k ≡ p + 1 → slot ≡ bit_slot p → value < 2 → bit ≡ eqb value 1 → Gets table between held after left (choice slot bit ∷ []) → AreLive table left → HasGotBits table before states after left count (2 * high + value) p
bit_got table before states between held after left count high k p slot value bit h next at small set q live =
    let within : k ≤ count = h.within in
    let c : Choice = choice (bit_slot p) (eqb value 1) in
    let q' : Gets table between held after left (choice (bit_slot p) (eqb value 1) ∷ []) = rw (at, set) at q in
    let least : 2 ^ (count - k) ≤ high = h.least in
    let most : high < 2 * 2 ^ (count - k) = h.most in
    let one : count - p ≡ suc (count - k) = omega arith in
    let power : 2 ^ suc (count - k) ≡ 2 ^ (count - k) * 2 = pow-suc 2 (count - k) in
    record {
      choices = h.choices ++ c ∷ [];
      within = omega arith;
      is = λ m m_high. (h.is m (halved m p k high value next small m_high)) ∙ ap (λ (cs : List Choice). h.choices ++ cs) (bit_split m p k high value next small m_high) ∙ sym (append_assoc h.choices (c ∷ []) (low_bits p m));
      least = rw (one, power) (omega arith);
      most = rw (one, power) (omega arith);
      gets = gets_more table before states between held after left h.choices (c ∷ []) h.gets q';
      live = live;
    }

-- the magnitude whose bits were got
pub bits_got : (table : List ℕ) (before : Reader) (states : List ℕ) (after : Reader) (left : List ℕ) (count magnitude k : ℕ) → k ≡ 0 → HasGotBits table before states after left count magnitude k → Gets table before states after left (low_bits count magnitude)
unfolding low_bits
bits_got table before states after left count magnitude k none h =
    let whole : magnitude / 2 ^ k ≡ magnitude = ap (λ (n : ℕ). magnitude / 2 ^ n) none ∙ div-one magnitude in
    let e : low_bits k magnitude ≡ [] = ap (λ (n : ℕ). low_bits n magnitude) none in
    let is : low_bits count magnitude ≡ h.choices = h.is magnitude whole ∙ ap (λ (cs : List Choice). h.choices ++ cs) e ∙ append-nil h.choices in
    subst (λ (cs : List Choice). Gets table before states after left cs) (sym is) h.gets

pub ruleset coded_bits = (bits_put, bits_got)

-- what is got fits
pub high_fits : (table : List ℕ) (before : Reader) (states : List ℕ) (after : Reader) (left : List ℕ) (count high k : ℕ) → HasGotBits table before states after left count high k → count ≤ 30 → 0 < k → high < 2 ^ 30
high_fits table before states after left count high k h most some =
    let below : high < 2 * 2 ^ (count - k) = h.most in
    let small : 2 ^ (count - k) ≤ 2 ^ 29 = pow_mono {i = count - k} {j = 29} (omega arith) in
    omega arith

-- a bit as a number
pub value_small : (bit : Bool) (value : ℕ) → value ≡ from_bool bit → value < 2
value_small true value is = let e : value ≡ 1 = is in omega arith
value_small false value is = let e : value ≡ 0 = is in omega arith

pub value_is : (bit : Bool) (value : ℕ) → value ≡ from_bool bit → bit ≡ eqb value 1
value_is true value is = let e : value ≡ 1 = is in rw e refl
value_is false value is = let e : value ≡ 0 = is in rw e refl
