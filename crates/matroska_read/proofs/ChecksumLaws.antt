-- Laws of a checksum over the bytes of a file, read in parts.
use Rattle.std.proofs.Common.{◌≡◌, ℕ, ◌+◌, ◌-◌, ◌^◌, ◌<◌, ◌≤◌, ◌==◌, max, not, Bool, List, [], ◌++◌, length, take, drop, Some, None, Result, Ok, Err, refl, sym, ap, subst, ◌∙◌, arith, take-add, drop-drop}
use Rattle.std.specs.Int.{w32, bit_not}
use Rattle.byteorder.specs.Endian.{little_number}
use Rattle.cook_bits.specs.Crc.{ebml_register_after, crc32_ebml_of}
use Rattle.cook_bits.specs.Laws.{RegisterGoesOn, RegisterStays}
use Rattle.shelf_reader.specs.Readings.{answers, Answers}
use Rattle.shelf_reader.specs.Seen.{Seen, Sees, between}
use Rattle.shelf_reader.specs.declared.error.ReadError.{ReadError}
use Rattle.shelf_reader.specs.ReadingLaws.{answers-is, stops-so}
use Rattle.shelf_reader.specs.SeenLaws.{Sees-so, Sees-both}
use Rattle.matroska_read.specs.Clusters.{checksum_of_between, disagrees}
use Rattle.matroska_read.specs.declared.parts.Span.{Span}

-- the register behind the bytes from one place up to another
unfoldable pub register_between : ℕ → ℕ → List ℕ → ℕ
register_between from to bytes = ebml_register_after 0xFFFF_FFFF (between from to bytes)

low_start : 0xFFFF_FFFF < 2 ^ 32
low_start = omega arith

nothing_between : (from : ℕ) (bytes : List ℕ) → between from from bytes ≡ []
nothing_between from bytes =
    let none : from - from ≡ 0 = omega arith in
    rw none refl

-- nothing was read yet
pub Sees-register_none : (known : Seen) (from register : ℕ) → RegisterStays → register ≡ 0xFFFF_FFFF → Sees known (register_between from from) register
unfolding Sees register_between
Sees-register_none None from register stays is = tt
Sees-register_none (Some bytes) from register stays is = rw (nothing_between from bytes) (stays 0xFFFF_FFFF low_start) ∙ sym is

-- a part more was read
between_more : (from at next : ℕ) (bytes : List ℕ) → from ≤ at → at ≤ next → between from next bytes ≡ between from at bytes ++ between at next bytes
between_more from at next bytes low high =
    let whole : next - from ≡ (at - from) + (next - at) = omega arith in
    let skipped : at ≡ from + (at - from) = omega arith in
    rw whole (take-add (at - from) (next - at) (drop from bytes)) ∙ ap (λ (l : List ℕ). between from at bytes ++ take (next - at) l) (drop-drop (at - from) from bytes ∙ ap (λ (n : ℕ). drop n bytes) (sym skipped))

pub Sees-register_more : (known : Seen) (from at next before after : ℕ) (part : List ℕ) → RegisterGoesOn → from ≤ at → at ≤ next → Sees known (register_between from at) before → Sees known (between at next) part → after ≡ ebml_register_after before part → Sees known (register_between from next) after
unfolding register_between
Sees-register_more known from at next before after part goes_on low high first second is =
    Sees-both known (register_between from at) before (between at next) part (register_between from next) after first second
    (λ bytes e f. rw (between_more from at next bytes low high) (goes_on 0xFFFF_FFFF (between from at bytes) (between at next bytes)) ∙ ap (λ (r : ℕ). ebml_register_after r (between at next bytes)) e ∙ ap (λ (l : List ℕ). ebml_register_after before l) f ∙ sym is)

-- the register of all, inverted
pub Sees-checksum : (known : Seen) (from to at register value : ℕ) → Sees known (register_between from at) register → at ≡ max to from → value ≡ bit_not w32 register → Sees known (checksum_of_between from to) value
unfolding register_between checksum_of_between crc32_ebml_of
Sees-checksum known from to at register value sees end is =
    Sees-so known (register_between from at) register (checksum_of_between from to) value sees
    (λ bytes e.
    let same : at - from ≡ to - from = omega arith in
    ap (λ (n : ℕ). bit_not w32 (ebml_register_after 0xFFFF_FFFF (take n (drop from bytes)))) (sym same) ∙ ap (λ (r : ℕ). bit_not w32 r) e ∙ sym is)

pub ruleset checksum_laws = (Sees-register_none, Sees-register_more, Sees-checksum)

-- ---- a checksum against what is found

ok_is : {A F : Type 0} (a b : A) (r : Result A F) → r ≡ Ok a → r ≡ Ok b → a ≡ b
ok_is a b r h k = cc

answer-seen : {T : Type 0} (F : Type 0) (known : Seen) (f : List ℕ → T) (value : T) → Answers {F = F} known (answers f) (Ok value) → Sees known f value
unfolding Answers Sees answers
answer-seen F None f value h = tt
answer-seen F (Some bytes) f value h = ok_is {F = F} (f bytes) value (Ok (f bytes)) refl h

pub disagrees-is : (F : Type 0) (known after : Seen) (checksum : Span) (end found said : ℕ) (part : List ℕ) (damaged : Bool) → after ≡ known → Answers {F = F} after (answers (checksum_of_between checksum.end end)) (Ok found) → Sees after (between checksum.start checksum.end) part
    → said ≡ little_number 4 part → damaged ≡ not (found == said) → Answers {F = F} known (answers (disagrees checksum end)) (Ok damaged)
unfolding disagrees checksum_of_between
disagrees-is F known after checksum end found said part damaged same first second is differs =
    answers-is F known (disagrees checksum end) damaged
    (subst (λ (k : Seen). Sees k (disagrees checksum end) damaged) same
    (Sees-both after (checksum_of_between checksum.end end) found (between checksum.start checksum.end) part (disagrees checksum end) damaged (answer-seen F after (checksum_of_between checksum.end end) found first) second
    (λ bytes e f. ap (λ (c : ℕ). not (c == little_number 4 (between checksum.start checksum.end bytes))) e ∙ ap (λ (l : List ℕ). not (found == little_number 4 l)) f ∙ ap (λ (s : ℕ). not (found == s)) (sym is) ∙ sym differs)))

no_fault : {A F : Type 0} (T : Type 0) (a : A) (r : Result A F) (fault : F) → r ≡ Ok a → r ≡ Err fault → T
no_fault T a r fault h k = let no : ⊥ = cc in absurd no

pub disagrees-stops : {F : Type 0} (known after : Seen) (checksum : Span) (end : ℕ) (error : ReadError F) → after ≡ known → Answers after (answers (checksum_of_between checksum.end end)) (Err error) → Answers known (answers (disagrees checksum end)) (Err error)
unfolding answers
disagrees-stops {F} known after checksum end error same stops =
    subst (λ (k : Seen). Answers k (answers (disagrees checksum end)) (Err error)) same
    (stops-so after (answers (checksum_of_between checksum.end end)) (answers (disagrees checksum end)) error stops (λ bytes fault e. no_fault _ (checksum_of_between checksum.end end bytes) (Ok (checksum_of_between checksum.end end bytes)) fault refl e))
