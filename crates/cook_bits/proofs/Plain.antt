-- A name read byte by byte is judged as its segments are.
use Rattle.std.proofs.Common.{◌≡◌, ◌≢◌, ℕ, zero, suc, ◌+◌, ◌<◌, ◌≤◌, Bool, true, false, not, ◌&&◌, ◌||◌, ◌==◌, if◌then◌else◌, List, [], ◌∷◌, length, get_or, drop, nat_eq, nat_le, refl, sym, ap, ◌∙◌, arith, add-one, drop-cons}
use Rattle.std.proofs.Math.ListN.{drop_of_length-le}
use Rattle.std.specs.List.{list_any, list_all}
use Rattle.std.proofs.lemmas.Bool.Decides.{nat_tests}
use Rattle.cook_bits.specs.declared.names.Seen.{Seen}
use Rattle.cook_bits.specs.declared.names.Seen.TheVariants.{Nothing, OneDot, TwoDots, Named}
use Rattle.cook_bits.specs.Names.{with_first, segments_of, is_plain_segment, is_relative_name}
use Rattle.cook_bits.specs.Segments.{is_named, more_dots, seen_more, are_plain}

-- the first segment, behind what was seen of it, is plain
first_plain : Seen → List ℕ → Bool
first_plain Nothing part = is_plain_segment part
first_plain OneDot part = is_plain_segment (46 ∷ part)
first_plain TwoDots part = is_plain_segment (46 ∷ 46 ∷ part)
first_plain Named part = true

-- the same of all segments
all_plain : Seen → List (List ℕ) → Bool
all_plain seen [] = first_plain seen []
all_plain seen (part ∷ parts) = first_plain seen part && list_all is_plain_segment parts

after : Bool → Seen → Seen
after dot seen = if dot then more_dots seen else Named

first_named : (seen : Seen) → is_named seen ≡ first_plain seen []
unfolding first_plain
first_named Nothing = refl
first_named OneDot = refl
first_named TwoDots = refl
first_named Named = refl

one_byte : (dot : Bool) → not dot ≡ first_plain (after dot Nothing) []
unfolding first_plain after
one_byte true = refl
one_byte false = refl

two_bytes : (dot : Bool) (c : ℕ) → not (dot && (c == 46)) ≡ first_plain (after dot Nothing) (c ∷ [])
unfolding first_plain after
two_bytes true c = refl
two_bytes false c = refl

three_bytes : (dot : Bool) (c d : ℕ) (part : List ℕ) → true ≡ first_plain (after dot Nothing) (c ∷ d ∷ part)
unfolding first_plain after
three_bytes true c d part = refl
three_bytes false c d part = refl

second_byte : (dot : Bool) → not dot ≡ first_plain (after dot OneDot) []
unfolding first_plain after
second_byte true = refl
second_byte false = refl

third_byte : (dot : Bool) (c : ℕ) (part : List ℕ) → true ≡ first_plain (after dot OneDot) (c ∷ part)
unfolding first_plain after
third_byte true c part = refl
third_byte false c part = refl

fourth_byte : (dot : Bool) (part : List ℕ) → true ≡ first_plain (after dot TwoDots) part
unfolding first_plain after
fourth_byte true part = refl
fourth_byte false part = refl

fifth_byte : (dot : Bool) (part : List ℕ) → true ≡ first_plain (after dot Named) part
unfolding first_plain after
fifth_byte true part = refl
fifth_byte false part = refl

first_more : (seen : Seen) (byte : ℕ) (part : List ℕ) → first_plain seen (byte ∷ part) ≡ first_plain (seen_more seen byte) part
unfolding first_plain after
first_more Nothing byte [] = one_byte (byte == 46)
first_more Nothing byte (c ∷ []) = two_bytes (byte == 46) c
first_more Nothing byte (c ∷ d ∷ part) = three_bytes (byte == 46) c d part
first_more OneDot byte [] = second_byte (byte == 46)
first_more OneDot byte (c ∷ part) = third_byte (byte == 46) c part
first_more TwoDots byte part = fourth_byte (byte == 46) part
first_more Named byte part = fifth_byte (byte == 46) part

and_true : (b : Bool) → (b && true) ≡ b
and_true true = refl
and_true false = refl

all_more : (seen : Seen) (byte : ℕ) (parts : List (List ℕ)) → all_plain seen (with_first byte parts) ≡ all_plain (seen_more seen byte) parts
unfolding all_plain
all_more seen byte [] = and_true (first_plain seen (byte ∷ [])) ∙ first_more seen byte []
all_more seen byte (part ∷ parts) = ap (λ (b : Bool). b && list_all is_plain_segment parts) (first_more seen byte part)

-- a segment that was not begun is judged as it stands, and there is always one
record HasFirst (parts : List (List ℕ)) : Type 0 where
  first : List ℕ
  others : List (List ℕ)
  is : parts ≡ first ∷ others

with_first_has : (byte : ℕ) (parts : List (List ℕ)) → HasFirst (with_first byte parts)
with_first_has byte [] = record { first = byte ∷ []; others = []; is = refl }
with_first_has byte (part ∷ parts) = record { first = byte ∷ part; others = parts; is = refl }

has_first_if : (b : Bool) (xs ys : List (List ℕ)) → HasFirst xs → HasFirst ys → HasFirst (if b then xs else ys)
has_first_if true xs ys h k = h
has_first_if false xs ys h k = k

segments_have : (name : List ℕ) → HasFirst (segments_of name)
unfolding segments_of
segments_have [] = record { first = []; others = []; is = refl }
segments_have (byte ∷ rest) = has_first_if (byte == 47) _ _ (record { first = []; others = segments_of rest; is = refl }) (with_first_has byte (segments_of rest))

all_from_nothing : (parts : List (List ℕ)) → HasFirst parts → all_plain Nothing parts ≡ list_all is_plain_segment parts
unfolding all_plain first_plain
all_from_nothing parts h = rw h.is refl

-- one byte, by whether it is zero and whether it is a slash
swap_and : (a b c : Bool) → (a && (b && c)) ≡ (b && (a && c))
swap_and true true c = refl
swap_and true false c = refl
swap_and false true c = refl
swap_and false false c = refl

one_more : (is_zero is_slash none named : Bool) (judged rest_judged : Bool) (slashed others : Bool)
    → judged ≡ (none && others) → rest_judged ≡ (none && slashed)
    → (if is_zero then false else if is_slash then named && rest_judged else judged) ≡ (not is_zero && none && (if is_slash then named && slashed else others))
one_more true s none named j r l o e f = refl
one_more false true none named j r l o e f = rw f (swap_and named none l)
one_more false false none named j r l o e f = e

push_if : (seen : Seen) (b : Bool) (xs ys : List (List ℕ)) → all_plain seen (if b then xs else ys) ≡ (if b then all_plain seen xs else all_plain seen ys)
push_if seen true xs ys = refl
push_if seen false xs ys = refl

zero_or : (byte : ℕ) (any : Bool) → not (nat_eq 0 byte || any) ≡ (not (byte == 0) && not any)
zero_or zero any = refl
zero_or (suc n) any = grind (arith, nat_tests)

plain_law : (seen : Seen) (name : List ℕ) → are_plain seen name ≡ (not (list_any (nat_eq 0) name) && all_plain seen (segments_of name))
unfolding are_plain segments_of all_plain
plain_law seen [] = first_named seen ∙ sym (and_true (first_plain seen []))
plain_law seen (byte ∷ rest) =
    let other = plain_law (seen_more seen byte) rest ∙ ap (λ (b : Bool). not (list_any (nat_eq 0) rest) && b) (sym (all_more seen byte (segments_of rest))) in
    let slash = plain_law Nothing rest ∙ ap (λ (b : Bool). not (list_any (nat_eq 0) rest) && b) (all_from_nothing (segments_of rest) (segments_have rest)) in
    let step = one_more (byte == 0) (byte == 47) (not (list_any (nat_eq 0) rest)) (is_named seen) _ _ _ _ other slash in
    step ∙ rw (zero_or byte (list_any (nat_eq 0) rest), push_if seen (byte == 47) ([] ∷ segments_of rest) (with_first byte (segments_of rest)), first_named seen) refl

pub plain_is : (name : List ℕ) → are_plain Nothing name ≡ (not (list_any (nat_eq 0) name) && list_all is_plain_segment (segments_of name))
plain_is name = plain_law Nothing name ∙ ap (λ (b : Bool). not (list_any (nat_eq 0) name) && b) (all_from_nothing (segments_of name) (segments_have name))

-- ---- a loop's steps

at_byte : (seen : Seen) (name : List ℕ) (i : ℕ) → i < length name → are_plain seen (drop i name) ≡ are_plain seen (get_or name i 0 ∷ drop (i + 1) name)
at_byte seen name i lt = ap (are_plain seen) (rw add-one (drop-cons name i 0 lt))

pub plain_zero : (seen : Seen) (name : List ℕ) (i : ℕ) → i < length name → get_or name i 0 ≡ 0 → false ≡ are_plain seen (drop i name)
unfolding are_plain
plain_zero seen name i lt e = sym (at_byte seen name i lt ∙ ap (λ (b : ℕ). are_plain seen (b ∷ drop (i + 1) name)) e)

pub plain_slash : (seen : Seen) (name : List ℕ) (i : ℕ) → i < length name → get_or name i 0 ≡ 47 → are_plain seen (drop i name) ≡ (is_named seen && are_plain Nothing (drop (i + 1) name))
unfolding are_plain
plain_slash seen name i lt e = at_byte seen name i lt ∙ ap (λ (b : ℕ). are_plain seen (b ∷ drop (i + 1) name)) e

pub plain_slash_refused : (seen : Seen) (name : List ℕ) (i : ℕ) → i < length name → get_or name i 0 ≡ 47 → is_named seen ≡ false → are_plain seen (drop i name) ≡ false
plain_slash_refused seen name i lt e refused = plain_slash seen name i lt e ∙ ap (λ (b : Bool). b && are_plain Nothing (drop (i + 1) name)) refused

pub plain_slash_passed : (seen : Seen) (name : List ℕ) (i : ℕ) → i < length name → get_or name i 0 ≡ 47 → is_named seen ≡ true → are_plain seen (drop i name) ≡ are_plain Nothing (drop (i + 1) name)
plain_slash_passed seen name i lt e passed = plain_slash seen name i lt e ∙ ap (λ (b : Bool). b && are_plain Nothing (drop (i + 1) name)) passed

by_other : (a b : Bool) (x y z : Bool) → a ≡ false → b ≡ false → (if a then x else if b then y else z) ≡ z
by_other a b x y z e f = rw (e, f) refl

pub plain_other : (seen : Seen) (name : List ℕ) (i : ℕ) → i < length name → get_or name i 0 ≢ 0 → get_or name i 0 ≢ 47 → are_plain seen (drop i name) ≡ are_plain (seen_more seen (get_or name i 0)) (drop (i + 1) name)
unfolding are_plain
plain_other seen name i lt n0 n47 = at_byte seen name i lt ∙ by_other (get_or name i 0 == 0) (get_or name i 0 == 47) _ _ _ (grind (arith, nat_tests)) (grind (arith, nat_tests))

pub plain_end : (seen : Seen) (name : List ℕ) (i : ℕ) → length name ≤ i → are_plain seen (drop i name) ≡ is_named seen
unfolding are_plain
plain_end seen name i le = rw (drop_of_length-le name {i = i} le) refl

-- ---- the whole test

pub is_long : (name : List ℕ) → 1024 < length name → is_relative_name name ≡ false
unfolding is_relative_name
is_long name lt = let e : nat_le (length name) 1024 ≡ false = grind (arith, nat_tests) in ap (λ (b : Bool). b && (not (list_any (nat_eq 0) name) && list_all is_plain_segment (segments_of name))) e

pub is_short : (name : List ℕ) → length name ≤ 1024 → is_relative_name name ≡ are_plain Nothing name
unfolding is_relative_name
is_short name le = let e : nat_le (length name) 1024 ≡ true = grind (arith, nat_tests) in ap (λ (b : Bool). b && (not (list_any (nat_eq 0) name) && list_all is_plain_segment (segments_of name))) e ∙ sym (plain_is name)
