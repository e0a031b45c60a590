-- Long division of polynomials over bits: it is linear, and what it leaves may be divided on.
use Rattle.std.proofs.Common.{◌≡◌, ℕ, zero, suc, ◌+◌, ◌-◌, ◌≤◌, Bool, true, false, List, [], ◌∷◌, ◌++◌, length, replicate, refl, sym, ap, ◌∙◌, arith, append_assoc, length-append, zero-add, suc-add}
use Rattle.std.proofs.lemmas.Bool.{true≢false}
use Rattle.std.proofs.lemmas.List.{append-nil, same_from_push, length-replicate, replicate-append-replicate}
use Rattle.cook_bits.specs.Crc.{sum_of, added, divided, remainder_of}

abbrev pub zeros : ℕ → List Bool
zeros count = replicate count false

-- ---- sums

sum_assoc : (x y z : Bool) → sum_of (sum_of x y) z ≡ sum_of x (sum_of y z)
sum_assoc false y z = refl
sum_assoc true false z = refl
sum_assoc true true false = refl
sum_assoc true true true = refl

sum_swap : (x y z : Bool) → sum_of y (sum_of x z) ≡ sum_of x (sum_of y z)
sum_swap false false z = refl
sum_swap false true z = refl
sum_swap true false z = refl
sum_swap true true z = refl

sum_twice : (x y z : Bool) → sum_of (sum_of x y) (sum_of x z) ≡ sum_of y z
sum_twice false y z = refl
sum_twice true false false = refl
sum_twice true false true = refl
sum_twice true true false = refl
sum_twice true true true = refl

pub both : {x y : Bool} {xs ys : List Bool} → x ≡ y → xs ≡ ys → x ∷ xs ≡ y ∷ ys
both p q = cc

pub length-added : (xs row : List Bool) → length (added xs row) ≡ length row
unfolding added
length-added [] row = refl
length-added (x ∷ xs) [] = refl
length-added (x ∷ xs) (y ∷ row) = ap suc (length-added xs row)

pub added_zeros : (count : ℕ) (row : List Bool) → added (zeros count) row ≡ row
unfolding added
added_zeros zero row = refl
added_zeros (suc count) [] = refl
added_zeros (suc count) (y ∷ row) = ap (λ ys. y ∷ ys) (added_zeros count row)

pub added_to_zeros : (row : List Bool) → added row (zeros (length row)) ≡ row
unfolding added
added_to_zeros [] = refl
added_to_zeros (false ∷ row) = ap (λ ys. false ∷ ys) (added_to_zeros row)
added_to_zeros (true ∷ row) = ap (λ ys. true ∷ ys) (added_to_zeros row)

pub added_self : (row : List Bool) → added row row ≡ zeros (length row)
unfolding added
added_self [] = refl
added_self (false ∷ row) = ap (λ ys. false ∷ ys) (added_self row)
added_self (true ∷ row) = ap (λ ys. false ∷ ys) (added_self row)

pub added_padded : (xs : List Bool) (count : ℕ) (row : List Bool) → added (xs ++ zeros count) row ≡ added xs row
unfolding added
added_padded [] count row = added_zeros count row
added_padded (x ∷ xs) count [] = refl
added_padded (x ∷ xs) count (y ∷ row) = ap (λ ys. sum_of x y ∷ ys) (added_padded xs count row)

pub added-append : (xs more row rest : List Bool) → length xs ≡ length row → added (xs ++ more) (row ++ rest) ≡ added xs row ++ added more rest
unfolding added
added-append [] more [] rest e = refl
added-append [] more (y ∷ row) rest e = absurd (omega arith)
added-append (x ∷ xs) more [] rest e = absurd (omega arith)
added-append (x ∷ xs) more (y ∷ row) rest e = ap (λ ys. sum_of x y ∷ ys) (added-append xs more row rest (omega arith))

pub added-append-le : (xs row rest : List Bool) → length xs ≤ length row → added xs (row ++ rest) ≡ added xs row ++ rest
unfolding added
added-append-le [] row rest le = refl
added-append-le (x ∷ xs) [] rest le = absurd (omega arith)
added-append-le (x ∷ xs) (y ∷ row) rest le = ap (λ ys. sum_of x y ∷ ys) (added-append-le xs row rest (omega arith))

pub added_assoc : (xs ys zs : List Bool) → length ys ≡ length zs → added (added xs ys) zs ≡ added xs (added ys zs)
unfolding added
added_assoc [] ys zs e = refl
added_assoc (x ∷ xs) [] [] e = refl
added_assoc (x ∷ xs) [] (z ∷ zs) e = absurd (omega arith)
added_assoc (x ∷ xs) (y ∷ ys) [] e = absurd (omega arith)
added_assoc (x ∷ xs) (y ∷ ys) (z ∷ zs) e = both (sum_assoc x y z) (added_assoc xs ys zs (omega arith))

added_swap : (xs ys zs : List Bool) → length ys ≡ length zs → added ys (added xs zs) ≡ added xs (added ys zs)
unfolding added
added_swap [] ys zs e = refl
added_swap (x ∷ xs) [] [] e = refl
added_swap (x ∷ xs) [] (z ∷ zs) e = absurd (omega arith)
added_swap (x ∷ xs) (y ∷ ys) [] e = absurd (omega arith)
added_swap (x ∷ xs) (y ∷ ys) (z ∷ zs) e = both (sum_swap x y z) (added_swap xs ys zs (omega arith))

added_twice : (xs ys zs : List Bool) → length ys ≡ length zs → added (added xs ys) (added xs zs) ≡ added ys zs
unfolding added
added_twice [] ys zs e = refl
added_twice (x ∷ xs) [] [] e = refl
added_twice (x ∷ xs) [] (z ∷ zs) e = absurd (omega arith)
added_twice (x ∷ xs) (y ∷ ys) [] e = absurd (omega arith)
added_twice (x ∷ xs) (y ∷ ys) (z ∷ zs) e = both (sum_twice x y z) (added_twice xs ys zs (omega arith))

-- ---- division

pub divided_added : (divisor : List Bool) (steps : ℕ) (xs ys : List Bool) → length xs ≡ length ys
    → divided divisor steps (added xs ys) ≡ added (divided divisor steps xs) (divided divisor steps ys)
unfolding added divided
divided_added d zero xs ys e = refl
divided_added d (suc k) [] [] e = refl
divided_added d (suc k) [] (y ∷ ys) e = absurd (omega arith)
divided_added d (suc k) (x ∷ xs) [] e = absurd (omega arith)
divided_added d (suc k) (false ∷ xs) (false ∷ ys) e = divided_added d k xs ys (omega arith)
divided_added d (suc k) (true ∷ xs) (false ∷ ys) e =
    let same : length xs ≡ length ys = omega arith in
    ap (divided d k) (sym (added_assoc d xs ys same)) ∙ divided_added d k (added d xs) ys (length-added d xs ∙ same)
divided_added d (suc k) (false ∷ xs) (true ∷ ys) e =
    let same : length xs ≡ length ys = omega arith in
    ap (divided d k) (sym (added_swap d xs ys same)) ∙ divided_added d k xs (added d ys) (same ∙ sym (length-added d ys))
divided_added d (suc k) (true ∷ xs) (true ∷ ys) e =
    let same : length xs ≡ length ys = omega arith in
    ap (divided d k) (sym (added_twice d xs ys same)) ∙ divided_added d k (added d xs) (added d ys) (length-added d xs ∙ same ∙ sym (length-added d ys))

divided_nothing : (d : List Bool) (k : ℕ) → divided d k [] ≡ []
unfolding divided
divided_nothing d zero = refl
divided_nothing d (suc k) = refl

pub divided_on : (d : List Bool) (j k : ℕ) (row : List Bool) → divided d (j + k) row ≡ divided d k (divided d j row)
unfolding divided
divided_on d zero k row = rw zero-add refl
divided_on d (suc j) k [] = rw suc-add (sym (divided_nothing d k))
divided_on d (suc j) k (false ∷ row) = rw suc-add (divided_on d j k row)
divided_on d (suc j) k (true ∷ row) = rw suc-add (divided_on d j k (added d row))

pub divided_zeros : (d : List Bool) (count : ℕ) (row : List Bool) → divided d count (zeros count ++ row) ≡ row
unfolding divided
divided_zeros d zero row = refl
divided_zeros d (suc count) row = divided_zeros d count row

pub divided-append : (d : List Bool) (k : ℕ) (row rest : List Bool) → k + length d ≤ length row → divided d k (row ++ rest) ≡ divided d k row ++ rest
unfolding divided
divided-append d zero row rest le = refl
divided-append d (suc k) [] rest le = absurd (omega arith)
divided-append d (suc k) (false ∷ row) rest le = divided-append d k row rest (omega arith)
divided-append d (suc k) (true ∷ row) rest le =
    ap (divided d k) (added-append-le d row rest (omega arith)) ∙ divided-append d k (added d row) rest (omega (arith, length-added d row))

pub length-divided : (d : List Bool) (k : ℕ) (row : List Bool) → k ≤ length row → length (divided d k row) + k ≡ length row
unfolding divided
length-divided d zero row le = omega arith
length-divided d (suc k) [] le = absurd (omega arith)
length-divided d (suc k) (false ∷ row) le = omega (arith, length-divided d k row (omega arith))
length-divided d (suc k) (true ∷ row) le = omega (arith, length-divided d k (added d row) (omega (arith, length-added d row)), length-added d row)

-- ---- remainders

pub length-remainder_of : (d start message : List Bool) → length (remainder_of d start message) ≡ length d
unfolding remainder_of
length-remainder_of d start message =
    let row = added start (message ++ zeros (length d)) in
    let len : length row ≡ length message + length d = length-added start (message ++ zeros (length d)) ∙ length-append message (zeros (length d)) ∙ ap (λ n. length message + n) (length-replicate (length d) false) in
    omega (arith, length-divided d (length message) row (omega arith), len)

pub remainder_of_nothing : (d start : List Bool) → length start ≡ length d → remainder_of d start [] ≡ start
unfolding remainder_of divided
remainder_of_nothing d start e = ap (λ n. added start (zeros n)) (sym e) ∙ added_to_zeros start

-- two rows that share no place
beside : (xs ys : List Bool) → added (xs ++ zeros (length ys)) (zeros (length xs) ++ ys) ≡ xs ++ ys
beside xs ys =
    added-append xs (zeros (length ys)) (zeros (length xs)) ys (sym (length-replicate (length xs) false))
    ∙ ap (λ row. row ++ added (zeros (length ys)) ys) (added_to_zeros xs)
    ∙ ap (λ row. xs ++ row) (added_zeros (length ys) ys)

length_beside : (xs ys : List Bool) → length (xs ++ zeros (length ys)) ≡ length (zeros (length xs) ++ ys)
length_beside xs ys =
    length-append xs (zeros (length ys)) ∙ ap (λ n. length xs + n) (length-replicate (length ys) false)
    ∙ sym (length-append (zeros (length xs)) ys ∙ ap (λ n. n + length ys) (length-replicate (length xs) false))

-- the division by the first bits alone turns only what a remainder's length stands behind them
first_part : (d start xs rest : List Bool) → length start ≡ length d → length d ≤ length rest
    → divided d (length xs) (added start (xs ++ rest)) ≡ added (remainder_of d start xs) rest
unfolding remainder_of
first_part d start xs rest e le =
    let n = length d in
    let more = length rest - n in
    let row = added start (xs ++ zeros n) in
    let len : length (xs ++ zeros n) ≡ length xs + n = length-append xs (zeros n) ∙ ap (λ m. length xs + m) (length-replicate n false) in
    let padding : zeros (length rest) ≡ zeros n ++ zeros more = ap zeros (omega arith) ∙ sym (replicate-append-replicate n more false) in
    let front : added start (xs ++ zeros (length rest)) ≡ row ++ zeros more =
    ap (λ z. added start (xs ++ z)) padding ∙ ap (added start) (sym (append_assoc xs (zeros n) (zeros more))) ∙ added-append-le start (xs ++ zeros n) (zeros more) (omega (arith, len)) in
    let whole : added start (xs ++ rest) ≡ added (row ++ zeros more) (zeros (length xs) ++ rest) =
    ap (added start) (sym (beside xs rest)) ∙ sym (added_assoc start (xs ++ zeros (length rest)) (zeros (length xs) ++ rest) (length_beside xs rest)) ∙ ap (λ r. added r (zeros (length xs) ++ rest)) front in
    let lens : length (row ++ zeros more) ≡ length (zeros (length xs) ++ rest) =
    sym (ap length front) ∙ length-added start (xs ++ zeros (length rest)) ∙ length_beside xs rest in
    ap (divided d (length xs)) whole
    ∙ divided_added d (length xs) (row ++ zeros more) (zeros (length xs) ++ rest) lens
    ∙ ap (λ r. added (divided d (length xs) (row ++ zeros more)) r) (divided_zeros d (length xs) rest)
    ∙ ap (λ r. added r rest) (divided-append d (length xs) row (zeros more) (omega (arith, length-added start (xs ++ zeros n), len)))
    ∙ added_padded (divided d (length xs) row) more rest

-- a message in two parts: the first remainder is the start value of the second part
pub remainder_of-append : (d start xs ys : List Bool) → length start ≡ length d → remainder_of d start (xs ++ ys) ≡ remainder_of d (remainder_of d start xs) ys
unfolding remainder_of
remainder_of-append d start xs ys e =
    let rest = ys ++ zeros (length d) in
    let len : length d ≤ length rest = omega (arith, length-append ys (zeros (length d)), length-replicate (length d) false) in
    ap (λ n. divided d n (added start ((xs ++ ys) ++ zeros (length d)))) (length-append xs ys)
    ∙ divided_on d (length xs) (length ys) (added start ((xs ++ ys) ++ zeros (length d)))
    ∙ ap (λ row. divided d (length ys) (divided d (length xs) (added start row))) (append_assoc xs ys (zeros (length d)))
    ∙ ap (divided d (length ys)) (first_part d start xs rest e len)

-- a message's first bits and the start value's count as their sum does, before zeros, and else the rest of the start
-- value alone is left
pub remainder_of_first : (d start more xs ys : List Bool) → length start ≡ length xs → length (start ++ more) ≡ length d
    → remainder_of d (start ++ more) (xs ++ ys)
    ≡ added (remainder_of d (zeros (length d)) (added start xs ++ zeros (length ys))) (remainder_of d (more ++ zeros (length start)) ys)
unfolding remainder_of
remainder_of_first d start more xs ys e whole =
    let n = length d in
    let rest = ys ++ zeros n in
    let first = added start xs in
    let later = added more rest in
    let k = length (xs ++ ys) in
    let len_rest : length rest ≡ length ys + n = length-append ys (zeros n) ∙ ap (λ m. length ys + m) (length-replicate n false) in
    let len_later : length later ≡ length ys + n = length-added more rest ∙ len_rest in
    let len_first : length first ≡ length xs = length-added start xs in
    let cut : added (start ++ more) ((xs ++ ys) ++ zeros n) ≡ first ++ later =
    ap (added (start ++ more)) (append_assoc xs ys (zeros n)) ∙ added-append start more xs rest e in
    let padding : zeros (length later) ≡ zeros (length ys) ++ zeros n = ap zeros len_later ∙ sym (replicate-append-replicate (length ys) n false) in
    let message = first ++ zeros (length ys) in
    let front : first ++ zeros (length later) ≡ added (zeros n) (message ++ zeros n) =
    ap (λ z. first ++ z) padding ∙ sym (append_assoc first (zeros (length ys)) (zeros n)) ∙ sym (added_zeros n (message ++ zeros n)) in
    let count : length message ≡ k = length-append first (zeros (length ys)) ∙ ap (λ m. length first + m) (length-replicate (length ys) false) ∙ ap (λ m. m + length ys) len_first ∙ sym (length-append xs ys) in
    let back : divided d k (zeros (length first) ++ later) ≡ divided d (length ys) (added (more ++ zeros (length start)) rest) =
    ap (λ m. divided d k (zeros m ++ later)) len_first
    ∙ ap (λ m. divided d m (zeros (length xs) ++ later)) (length-append xs ys)
    ∙ divided_on d (length xs) (length ys) (zeros (length xs) ++ later)
    ∙ ap (divided d (length ys)) (divided_zeros d (length xs) later)
    ∙ ap (divided d (length ys)) (sym (added_padded more (length start) rest)) in
    ap (divided d k) (cut ∙ sym (beside first later))
    ∙ divided_added d k (first ++ zeros (length later)) (zeros (length first) ++ later) (length_beside first later)
    ∙ ap (λ r. added (divided d k (first ++ zeros (length later))) r) back
    ∙ ap (λ r. added (divided d k r) (divided d (length ys) (added (more ++ zeros (length start)) rest))) front
    ∙ ap (λ m. added (divided d m (added (zeros n) (message ++ zeros n))) (divided d (length ys) (added (more ++ zeros (length start)) rest))) (sym count)

-- a remainder that stands behind its message leaves none
pub remainder_of_self : (d start : List Bool) → length start ≡ length d → remainder_of d start start ≡ zeros (length d)
unfolding remainder_of
remainder_of_self d start e =
    let n = length d in
    ap (divided d (length start)) (added-append-le start start (zeros n) (omega arith) ∙ ap (λ r. r ++ zeros n) (added_self start))
    ∙ divided_zeros d (length start) (zeros n)

-- ---- only a remainder leaves nothing behind its message, where the divisor's lowest coefficient is set

one_more : (count : ℕ) → zeros count ++ zeros 1 ≡ zeros (suc count)
one_more zero = refl
one_more (suc count) = ap (λ row. false ∷ row) (one_more count)

last_sum : (front row : List Bool) → length front ≡ length row → added (front ++ true ∷ []) (row ++ zeros 1) ≡ added front row ++ true ∷ []
unfolding added
last_sum front row e = added-append front (true ∷ []) row (zeros 1) e

pub only_zeros : (front : List Bool) (steps : ℕ) (row : List Bool) → length row ≡ suc (length front)
    → divided (front ++ true ∷ []) steps (row ++ zeros steps) ≡ zeros (suc (length front)) → row ≡ zeros (suc (length front))
unfolding divided
only_zeros front zero row e left = sym (append-nil row) ∙ left
only_zeros front (suc steps) [] e left = absurd (omega arith)
only_zeros front (suc steps) (false ∷ row) e left =
    let len : length (row ++ zeros 1) ≡ suc (length front) = omega (arith, length-append row (zeros 1)) in
    let next = only_zeros front steps (row ++ zeros 1) len (ap (divided (front ++ true ∷ []) steps) (append_assoc row (zeros 1) (zeros steps)) ∙ left) in
    let same = same_from_push row (zeros (length front)) false false (next ∙ sym (one_more (length front))) in
    ap (λ r. false ∷ r) same.0
only_zeros front (suc steps) (true ∷ row) e left =
    let d = front ++ true ∷ [] in
    let shifted = row ++ zeros 1 in
    let len : length shifted ≡ suc (length front) = omega (arith, length-append row (zeros 1)) in
    let len_d : length d ≡ suc (length front) = omega (arith, length-append front (true ∷ [])) in
    let here : divided d steps (added d shifted ++ zeros steps) ≡ zeros (suc (length front)) =
    ap (divided d steps) (sym (added-append-le d shifted (zeros steps) (omega arith)) ∙ ap (added d) (append_assoc row (zeros 1) (zeros steps))) ∙ left in
    let next = only_zeros front steps (added d shifted) (length-added d shifted ∙ len) here in
    let parts : added d shifted ≡ added front row ++ true ∷ [] = last_sum front row (omega arith) in
    let same = same_from_push (added front row) (zeros (length front)) true false (sym parts ∙ next ∙ sym (one_more (length front))) in
    absurd (true≢false same.1)

pub only_remainder : (front start message : List Bool) → length start ≡ suc (length front) → length message ≡ suc (length front)
    → remainder_of (front ++ true ∷ []) start message ≡ zeros (suc (length front)) → message ≡ start
unfolding remainder_of
only_remainder front start message e f left =
    let d = front ++ true ∷ [] in
    let n = suc (length front) in
    let len_d : length d ≡ n = omega (arith, length-append front (true ∷ [])) in
    let row = added start message in
    let here : divided d n (row ++ zeros n) ≡ zeros n =
    ap (λ k. divided d k (row ++ zeros n)) (sym f)
    ∙ ap (divided d (length message)) (sym (added-append-le start message (zeros n) (omega arith)))
    ∙ ap (λ k. divided d (length message) (added start (message ++ zeros k))) (sym len_d)
    ∙ left in
    let none = only_zeros front n row (length-added start message ∙ f) here in
    sym (added_zeros (length start) message)
    ∙ ap (λ r. added r message) (sym (added_self start))
    ∙ added_assoc start start message (e ∙ sym f)
    ∙ ap (added start) none
    ∙ ap (λ k. added start (zeros k)) (sym e)
    ∙ added_to_zeros start
