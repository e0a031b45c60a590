-- Where a binary search ends among files whose names rise, and what is put there.
use Rattle.std.proofs.Common.{◌≡◌, ℕ, zero, suc, ◌<◌, ◌≤◌, true, false, List, [], ◌∷◌, ◌++◌, length, take, drop, get_or, set, Some, None, Result, Ok, Err, IfOk, IfErr, refl, ap, subst, ◌∙◌, arith}
use Rattle.std.specs.declared.cmp.Ordering.{Ordering}
use Rattle.std.specs.declared.cmp.Ordering.TheVariants.{Less, Equal, Greater}
use Rattle.std.specs.Cmp.{IsTotalOrder}
use Rattle.std.specs.Cmp.Lexicographic.{nat_list_cmp_total}
use Rattle.std.specs.FinMap.{find, put, slice_cmp-IsAntisymmetric, nat_cmp-IsAntisymmetric}
use Rattle.std.specs.FinMap.Entries.{below_all, by_order}
use Rattle.std.specs.List.Sorted.{IsSearchInRange, IsBinarySearchResult, IsNonDecreasingBy, IsPartitionPoint}
use Rattle.std.specs.Ordering.{ordering_index, ordering_reverse, is_lt, is_eq}
use Rattle.std.proofs.lemmas.Bool.{and_parts}
use Rattle.cook_bits.specs.Names.{File}
use Rattle.shelf_core.specs.Store.{byte_order, IsAscending, bytes_in, put_in, StandsAt, BelongsAt}

-- what the order of names is
total : IsTotalOrder byte_order
total = nat_list_cmp_total

same_name : (x y : List ℕ) → byte_order x y ≡ Equal → x ≡ y
same_name x y = slice_cmp-IsAntisymmetric nat_cmp-IsAntisymmetric x y

turned : (x y : List ℕ) (o : Ordering) → byte_order x y ≡ o → byte_order y x ≡ ordering_reverse o
turned x y o is = total.antisymm y x ∙ ap ordering_reverse is

less : (o : Ordering) → is_lt o ≡ true → o ≡ Less
less Less is = refl
less Equal is = cc
less Greater is = cc

-- a smaller name compares no higher with any name
rises_to : (x y name : List ℕ) (o : Ordering) → byte_order x y ≡ Less → byte_order y name ≡ o → ordering_index (byte_order x name) ≤ ordering_index o
rises_to x y name Less below is = rw (total.trans x y name below is) (omega arith)
rises_to x y name Equal below is = rw (subst (λ (z : List ℕ). byte_order x z ≡ Less) (same_name y name is) below) (omega arith)
rises_to x y name Greater below is = at_most_two (byte_order x name)
  where
    at_most_two : (o : Ordering) → ordering_index o ≤ 2
    at_most_two Less = omega arith
    at_most_two Equal = omega arith
    at_most_two Greater = omega arith

rises : (x y name : List ℕ) → byte_order x y ≡ Less → ordering_index (byte_order x name) ≤ ordering_index (byte_order y name)
rises x y name below = rises_to x y name _ below refl

-- a name below each of the files is below that at any place
below_each : (x : List ℕ) (files : List File) (i : ℕ) (d : File) → below_all byte_order x files ≡ true → i < length files → byte_order x (get_or files i d).0 ≡ Less
below_each x [] i d all lt = absurd (omega arith)
below_each x (f ∷ fs) zero d all lt = less _ (and_parts _ _ all).0
below_each x (f ∷ fs) (suc i) d all lt = below_each x fs i d (and_parts _ _ all).1 (omega arith)

-- the comparisons with a name rise along the files
climbs : (files : List File) (name : List ℕ) → IsAscending files → IsNonDecreasingBy (λ file. ordering_index (byte_order file.0 name)) files
climbs [] name sorted i j d le lt = absurd (omega arith)
climbs (f ∷ fs) name sorted zero zero d le lt = omega arith
climbs (f ∷ fs) name sorted zero (suc j) d le lt = rises _ _ name (below_each f.0 fs j d (and_parts _ _ sorted).0 (omega arith))
climbs (f ∷ fs) name sorted (suc i) zero d le lt = absurd (omega arith)
climbs (f ∷ fs) name sorted (suc i) (suc j) d le lt = climbs fs name (and_parts _ _ sorted).1 i j d (omega arith) (omega arith)

-- what is found and put at the head of a list
found_past : (name : List ℕ) (f : File) (fs : List File) (o : Ordering) → byte_order name f.0 ≡ o → is_eq o ≡ false → find byte_order name (f ∷ fs) ≡ find byte_order name fs
found_past name f fs o is differs = rw (is, differs) refl

put_past : (name bytes : List ℕ) (f : File) (fs : List File) (o : Ordering) → byte_order name f.0 ≡ o → put byte_order name bytes (f ∷ fs) ≡ by_order o ((name, bytes) ∷ f ∷ fs) ((f.0, bytes) ∷ fs) (f ∷ put byte_order name bytes fs)
put_past name bytes f fs o is = rw is refl

-- at the place between the smaller and the greater names no file has the name, and one is put there
not_found : (files : List File) (name : List ℕ) (place : ℕ) → IsPartitionPoint (λ file. byte_order file.0 name ≡ Less) (λ file. byte_order file.0 name ≡ Greater) files place → find byte_order name files ≡ None
not_found [] name place parted = refl
not_found (f ∷ fs) name zero parted = found_past name f fs Less (turned f.0 name Greater (parted.1 0 f (omega arith) (omega arith))) refl ∙ not_found fs name zero ((λ k d _ lt. absurd (omega arith)), (λ k d _ lt. parted.1 (suc k) d (omega arith) (omega arith)))
not_found (f ∷ fs) name (suc place) parted = found_past name f fs Greater (turned f.0 name Less (parted.0 0 f (omega arith) (omega arith))) refl ∙ not_found fs name place ((λ k d _ lt. parted.0 (suc k) d (omega arith) (omega arith)), (λ k d le lt. parted.1 (suc k) d (omega arith) (omega arith)))

put_between : (files : List File) (name bytes : List ℕ) (place : ℕ) → place ≤ length files → IsPartitionPoint (λ file. byte_order file.0 name ≡ Less) (λ file. byte_order file.0 name ≡ Greater) files place → put byte_order name bytes files ≡ take place files ++ (name, bytes) ∷ drop place files
put_between [] name bytes zero le parted = refl
put_between [] name bytes (suc place) le parted = absurd (omega arith)
put_between (f ∷ fs) name bytes zero le parted = put_past name bytes f fs Less (turned f.0 name Greater (parted.1 0 f (omega arith) (omega arith)))
put_between (f ∷ fs) name bytes (suc place) le parted = put_past name bytes f fs Greater (turned f.0 name Less (parted.0 0 f (omega arith) (omega arith))) ∙ ap (λ (rest : List File). f ∷ rest) (put_between fs name bytes place (omega arith) ((λ k d _ lt. parted.0 (suc k) d (omega arith) (omega arith)), (λ k d le lt. parted.1 (suc k) d (omega arith) (omega arith))))

-- where a file stands among those whose names rise, it is found, and one of its name is put in its place
found_at : (files : List File) (name : List ℕ) (place : ℕ) (d : File) → IsAscending files → place < length files → byte_order (get_or files place d).0 name ≡ Equal → find byte_order name files ≡ Some (get_or files place d).1
found_at [] name place d sorted lt is = absurd (omega arith)
found_at (f ∷ fs) name zero d sorted lt is = rw (turned f.0 name Equal is) refl
found_at (f ∷ fs) name (suc place) d sorted lt is =
    let below : byte_order f.0 name ≡ Less = subst (λ (z : List ℕ). byte_order f.0 z ≡ Less) (same_name (get_or fs place d).0 name is) (below_each f.0 fs place d (and_parts _ _ sorted).0 (omega arith)) in
    found_past name f fs Greater (turned f.0 name Less below) refl ∙ found_at fs name place d (and_parts _ _ sorted).1 (omega arith) is

put_over : (files : List File) (name bytes : List ℕ) (place : ℕ) (d : File) → IsAscending files → place < length files → byte_order (get_or files place d).0 name ≡ Equal → put byte_order name bytes files ≡ set files place (name, bytes)
put_over [] name bytes place d sorted lt is = absurd (omega arith)
put_over (f ∷ fs) name bytes zero d sorted lt is = put_past name bytes f fs Equal (turned f.0 name Equal is) ∙ ap (λ (first : List ℕ). (first, bytes) ∷ fs) (same_name f.0 name is)
put_over (f ∷ fs) name bytes (suc place) d sorted lt is =
    let below : byte_order f.0 name ≡ Less = subst (λ (z : List ℕ). byte_order f.0 z ≡ Less) (same_name (get_or fs place d).0 name is) (below_each f.0 fs place d (and_parts _ _ sorted).0 (omega arith)) in
    put_past name bytes f fs Greater (turned f.0 name Less below) ∙ ap (λ (rest : List File). f ∷ rest) (put_over fs name bytes place d (and_parts _ _ sorted).1 (omega arith) is)

-- a binary search by name ends at the file, or at the place for it
pub searched : (files : List File) (name : List ℕ) (r : Result ℕ ℕ) → IsAscending files → IsSearchInRange r (length files) → IsBinarySearchResult (λ file. byte_order file.0 name) files r → record { found : IfOk r (StandsAt files name); free : IfErr r (BelongsAt files name) }
unfolding bytes_in put_in
searched files name (Ok place) sorted in_range equal = record {
  found = record {
    within = in_range;
    named = λ d. same_name (get_or files place d).0 name (equal d);
    holds = λ d. found_at files name place d sorted in_range (equal d);
    put = λ bytes. put_over files name bytes place ([], []) sorted in_range (equal ([], []));
  };
  free = tt;
}
searched files name (Err place) sorted in_range parted = record {
  found = tt;
  free = record {
    within = in_range;
    free = not_found files name place (parted (climbs files name sorted));
    put = λ bytes. put_between files name bytes place in_range (parted (climbs files name sorted));
  };
}
