-- Slices cut off from a frame's end, one after another.
use Rattle.std.proofs.Common.{◌≡◌, ℕ, zero, suc, ◌+◌, ◌-◌, ◌<◌, ◌≤◌, Bool, true, false, cond, ◌||◌, List, [], ◌∷◌, ◌++◌, length, map, reverse, take, drop, Option, Some, None, Result, Ok, Err, All, refl, sym, ◌∙◌, ap, ap₂, subst, arith, append_assoc, eqb}
use Rattle.std.specs.Prelude.{slice_range}
use Rattle.std.proofs.lemmas.List.{append-nil, length-take-le, take-take, drop-take, reverse-append, take_all, length_push}
use Rattle.std.proofs.lemmas.List.Elements.{All-nil, All-push}
use Rattle.ffv1_frame.specs.declared.error.FrameWhy.{FrameWhy}
use Rattle.ffv1_frame.specs.declared.error.FrameWhy.TheVariants.{FrameShort, SliceSize, SliceCrc, Head, SliceGrid}
use Rattle.ffv1_frame.specs.declared.part.Part.{Part}
use Rattle.ffv1_frame.specs.Footers.{last_size, slice_place, last_coded, last_fault, followed, cut_last, cut_back, slices_of}
use Rattle.ffv1_frame.specs.Parts.{coded_in, IsWithin}

-- with no room left there is no slice to cut off
fault_or_room : (short : Bool) (size crc : Bool) (room : ℕ) (first second third : FrameWhy)
    → cond short (Some first) (cond (size || eqb room 0) (Some second) (cond crc (Some third) None)) ≡ None → 1 ≤ room
fault_or_room true size crc room first second third none = absurd (cc)
fault_or_room false true crc room first second third none = absurd (cc)
fault_or_room false false crc zero first second third none = absurd (cc)
fault_or_room false false crc (suc room) first second third none = omega arith

pub room-left : (ec : Bool) (room : ℕ) (bytes : List ℕ) → last_fault ec room bytes ≡ None → 1 ≤ room
unfolding last_fault
room-left ec room bytes none = fault_or_room _ _ _ room _ _ _ none

-- one slice more
pub cut_back-more : (ec : Bool) (room : ℕ) (bytes : List ℕ) → 0 < length bytes → last_fault ec (suc room) bytes ≡ None
    → cut_back ec (suc room) bytes ≡ followed (cut_back ec room (take (slice_place ec bytes) bytes)) (last_coded ec bytes ∷ [])
unfolding cut_back
cut_back-more ec room [] some none = absurd (omega arith)
cut_back-more ec room (byte ∷ bytes) some none =
    ap (λ fault. cut_last fault (followed (cut_back ec room (take (slice_place ec (byte ∷ bytes)) (byte ∷ bytes))) (last_coded ec (byte ∷ bytes) ∷ []))) none

pub cut_back-fault : (ec : Bool) (room : ℕ) (bytes : List ℕ) (why : FrameWhy) → 0 < length bytes → last_fault ec room bytes ≡ Some why → cut_back ec room bytes ≡ Err why
unfolding cut_back
cut_back-fault ec room [] why some fault = absurd (omega arith)
cut_back-fault ec zero (byte ∷ bytes) why some fault = ap (λ f. cut_last f (Ok [])) fault
cut_back-fault ec (suc room) (byte ∷ bytes) why some fault =
    ap (λ f. cut_last f (followed (cut_back ec room (take (slice_place ec (byte ∷ bytes)) (byte ∷ bytes))) (last_coded ec (byte ∷ bytes) ∷ []))) fault

pub cut_back-none : (ec : Bool) (room : ℕ) → cut_back ec room [] ≡ Ok []
unfolding cut_back
cut_back-none ec zero = refl
cut_back-none ec (suc room) = refl

pub followed-none : (found : Result (List (List ℕ)) FrameWhy) → found ≡ followed found []
followed-none (Ok slices) = let found : List (List ℕ) → Result (List (List ℕ)) FrameWhy = λ xs. Ok xs in ap found (sym (append-nil slices))
followed-none (Err why) = refl

pub followed-twice : (found : Result (List (List ℕ)) FrameWhy) (slice : List ℕ) (behind : List (List ℕ)) → followed (followed found (slice ∷ [])) behind ≡ followed found (slice ∷ behind)
followed-twice (Ok slices) slice behind = let found : List (List ℕ) → Result (List (List ℕ)) FrameWhy = λ xs. Ok xs in ap found (append_assoc slices (slice ∷ []) behind)
followed-twice (Err why) slice behind = refl

-- ---- the loop over the slices

-- what was cut off so far, with what stands before it, is all
pub record SoFar (bytes : List ℕ) (ec : Bool) (most : ℕ) (parts : List Part) (end : ℕ) : Type 0 where
  pub few : length parts ≤ most
  pub high : end ≤ length bytes
  pub within : All (IsWithin bytes) parts
  pub all : cut_back ec most bytes ≡ followed (cut_back ec (most - length parts) (take end bytes)) (map (coded_in bytes) (reverse parts))

pub so_far-none : (bytes : List ℕ) (ec : Bool) (most : ℕ) (parts : List Part) (end : ℕ) → parts ≡ [] → end ≡ length bytes → SoFar bytes ec most parts end
so_far-none bytes ec most parts end none whole =
    let size : length parts ≡ 0 = ap (λ (ps : List Part). length ps) none in
    let room : most ≡ most - length parts = omega arith in
    let P : List Part → Type 0 = λ ps. All (IsWithin bytes) ps in
    record {
      few = omega arith;
      high = omega arith;
      within = subst P (sym none) (All-nil (IsWithin bytes));
      all =
          ap (λ (b : List ℕ). cut_back ec most b) (sym (take_all end bytes (omega arith)))
          ∙ followed-none (cut_back ec most (take end bytes))
          ∙ ap₂ (λ (r : ℕ) (ps : List Part). followed (cut_back ec r (take end bytes)) (map (coded_in bytes) (reverse ps))) room (sym none);
    }

-- the coded bytes of a slice that ends before another begins
coded-before : (bytes : List ℕ) (at len end : ℕ) → at + len ≤ end → end ≤ length bytes → take len (drop at (take end bytes)) ≡ slice_range bytes at (at + len)
coded-before bytes at len end before high =
    let rest : at + (end - at) ≡ end = omega arith in
    let same : (at + len) - at ≡ len = omega arith in
    ap (λ n. take len (drop at (take n bytes))) (sym rest)
    ∙ ap (λ (b : List ℕ). take len b) (drop-take at (end - at) bytes)
    ∙ take-take len (end - at) (drop at bytes) (omega arith)
    ∙ ap (λ n. take n (drop at bytes)) (sym same)

pub so_far-more : (bytes : List ℕ) (ec : Bool) (most : ℕ) (parts : List Part) (end room : ℕ) (part : Part) → SoFar bytes ec most parts end → 0 < end
    → room ≡ most - length parts → last_fault ec room (take end bytes) ≡ None → part.at ≡ slice_place ec (take end bytes) → part.len ≡ last_size ec (take end bytes)
    → part.at + part.len < length (take end bytes) → SoFar bytes ec most (parts ++ part ∷ []) part.at
unfolding last_coded
so_far-more bytes ec most parts end room part so_far some room_is none at len inside =
    let long : length (take end bytes) ≡ end = length-take-le end bytes so_far.high in
    let left : 1 ≤ room = room-left ec room (take end bytes) none in
    let next : suc (most - length (parts ++ part ∷ [])) ≡ room = let n : length (parts ++ part ∷ []) ≡ length parts + 1 = length_push parts part in omega arith in
    let n : length (parts ++ part ∷ []) ≡ length parts + 1 = length_push parts part in
    let high : end ≤ length bytes = so_far.high in
    let step : cut_back ec (suc (most - length (parts ++ part ∷ []))) (take end bytes)
    ≡ followed (cut_back ec (most - length (parts ++ part ∷ [])) (take (slice_place ec (take end bytes)) (take end bytes))) (last_coded ec (take end bytes) ∷ []) =
    cut_back-more ec (most - length (parts ++ part ∷ [])) (take end bytes) (omega arith) (ap (λ r. last_fault ec r (take end bytes)) next ∙ none)
    in
    let front : take (slice_place ec (take end bytes)) (take end bytes) ≡ take part.at bytes =
    ap (λ p. take p (take end bytes)) (sym at) ∙ take-take part.at end bytes (omega arith) in
    let coded : take (last_size ec (take end bytes)) (drop (slice_place ec (take end bytes)) (take end bytes)) ≡ coded_in bytes part =
    ap₂ (λ (l p : ℕ). take l (drop p (take end bytes))) (sym len) (sym at) ∙ coded-before bytes part.at part.len end (omega arith) high in
    let turned : map (coded_in bytes) (reverse (parts ++ part ∷ [])) ≡ coded_in bytes part ∷ map (coded_in bytes) (reverse parts) =
    ap (λ (ps : List Part). map (coded_in bytes) ps) (reverse-append parts (part ∷ [])) in
    record {
      few = omega arith;
      high = omega arith;
      within = All-push (IsWithin bytes) parts part so_far.within (record { high = omega arith });
      all =
          so_far.all
          ∙ ap (λ r. followed (cut_back ec r (take end bytes)) (map (coded_in bytes) (reverse parts))) (sym room_is ∙ sym next)
          ∙ ap (λ (f : Result (List (List ℕ)) FrameWhy). followed f (map (coded_in bytes) (reverse parts))) step
          ∙ ap₂ (λ (b s : List ℕ). followed (followed (cut_back ec (most - length (parts ++ part ∷ [])) b) (s ∷ [])) (map (coded_in bytes) (reverse parts))) front coded
          ∙ followed-twice (cut_back ec (most - length (parts ++ part ∷ [])) (take part.at bytes)) (coded_in bytes part) (map (coded_in bytes) (reverse parts))
          ∙ ap (λ (ss : List (List ℕ)). followed (cut_back ec (most - length (parts ++ part ∷ [])) (take part.at bytes)) ss) (sym turned);
    }

pub so_far-fault : (bytes : List ℕ) (ec : Bool) (most : ℕ) (parts : List Part) (end room : ℕ) (why : FrameWhy) → SoFar bytes ec most parts end → 0 < end
    → room ≡ most - length parts → last_fault ec room (take end bytes) ≡ Some why → cut_back ec most bytes ≡ Err why
so_far-fault bytes ec most parts end room why so_far some room_is fault =
    let long : length (take end bytes) ≡ end = length-take-le end bytes so_far.high in
    so_far.all
    ∙ ap (λ r. followed (cut_back ec r (take end bytes)) (map (coded_in bytes) (reverse parts))) (sym room_is)
    ∙ ap (λ (f : Result (List (List ℕ)) FrameWhy). followed f (map (coded_in bytes) (reverse parts))) (cut_back-fault ec room (take end bytes) why (omega arith) fault)

pub so_far-all : (bytes : List ℕ) (ec : Bool) (most : ℕ) (parts : List Part) (end : ℕ) → SoFar bytes ec most parts end → end ≤ 0
    → cut_back ec most bytes ≡ Ok (map (coded_in bytes) (reverse parts))
so_far-all bytes ec most parts end so_far done =
    let none : end ≡ 0 = omega arith in
    so_far.all
    ∙ ap (λ n. followed (cut_back ec (most - length parts) (take n bytes)) (map (coded_in bytes) (reverse parts))) none
    ∙ ap (λ (f : Result (List (List ℕ)) FrameWhy). followed f (map (coded_in bytes) (reverse parts))) (cut_back-none ec (most - length parts))

-- ---- the faults of footers

abbrev pub IsFooterFault : FrameWhy → Type 0
IsFooterFault FrameShort = Unit {0}
IsFooterFault SliceSize = Unit {0}
IsFooterFault SliceCrc = Unit {0}
IsFooterFault (Head slice) = ⊥
IsFooterFault SliceGrid = ⊥

some_same : (a b : FrameWhy) → Some a ≡ Some b → a ≡ b
some_same a b same = cc

one_of_three : (short size crc : Bool) (first second third why : FrameWhy) → IsFooterFault first → IsFooterFault second → IsFooterFault third
    → cond short (Some first) (cond size (Some second) (cond crc (Some third) None)) ≡ Some why → IsFooterFault why
one_of_three true size crc first second third why a b d is = subst IsFooterFault (some_same first why is) a
one_of_three false true crc first second third why a b d is = subst IsFooterFault (some_same second why is) b
one_of_three false false true first second third why a b d is = subst IsFooterFault (some_same third why is) d
one_of_three false false false first second third why a b d is = absurd (cc)

last-footer : (ec : Bool) (room : ℕ) (bytes : List ℕ) (why : FrameWhy) → last_fault ec room bytes ≡ Some why → IsFooterFault why
unfolding last_fault
last-footer ec room bytes why is = one_of_three _ _ _ FrameShort SliceSize SliceCrc why tt tt tt is

cut_last-err : (fault : Option FrameWhy) (found : Result (List (List ℕ)) FrameWhy) (why : FrameWhy) → ((w : FrameWhy) → fault ≡ Some w → IsFooterFault w)
    → ((w : FrameWhy) → found ≡ Err w → IsFooterFault w) → cut_last fault found ≡ Err why → IsFooterFault why
cut_last-err (Some w) found why last before is = let same : w ≡ why = cc in subst IsFooterFault same (last w refl)
cut_last-err None found why last before is = before why is

followed-err : (found : Result (List (List ℕ)) FrameWhy) (behind : List (List ℕ)) (why : FrameWhy) → followed found behind ≡ Err why → found ≡ Err why
followed-err (Ok slices) behind why is = absurd (cc)
followed-err (Err w) behind why is = is

pub cut_back-footer : (ec : Bool) (room : ℕ) (bytes : List ℕ) (why : FrameWhy) → cut_back ec room bytes ≡ Err why → IsFooterFault why
unfolding cut_back
cut_back-footer ec zero [] why is = absurd (cc)
cut_back-footer ec (suc room) [] why is = absurd (cc)
cut_back-footer ec zero (byte ∷ bytes) why is =
    cut_last-err (last_fault ec zero (byte ∷ bytes)) (Ok []) why (λ w e. last-footer ec zero (byte ∷ bytes) w e) (λ w e. absurd (cc)) is
cut_back-footer ec (suc room) (byte ∷ bytes) why is =
    cut_last-err (last_fault ec (suc room) (byte ∷ bytes)) (followed (cut_back ec room (take (slice_place ec (byte ∷ bytes)) (byte ∷ bytes))) (last_coded ec (byte ∷ bytes) ∷ [])) why
    (λ w e. last-footer ec (suc room) (byte ∷ bytes) w e)
    (λ w e. cut_back-footer ec room (take (slice_place ec (byte ∷ bytes)) (byte ∷ bytes)) w (followed-err (cut_back ec room (take (slice_place ec (byte ∷ bytes)) (byte ∷ bytes))) (last_coded ec (byte ∷ bytes) ∷ []) w e))
    is

pub slices-are : (ec : Bool) (bytes : List ℕ) → 0 < length bytes → slices_of ec bytes ≡ cut_back ec 1024 bytes
unfolding slices_of
slices-are ec [] some = absurd (omega arith)
slices-are ec (byte ∷ bytes) some = refl

pub no-bytes : (ec : Bool) (bytes : List ℕ) → length bytes ≤ 0 → slices_of ec bytes ≡ Err FrameShort
unfolding slices_of
no-bytes ec [] none = refl
no-bytes ec (byte ∷ bytes) none = absurd (omega arith)

pub ruleset cut_laws = (so_far-none, so_far-more, so_far-fault, so_far-all)
