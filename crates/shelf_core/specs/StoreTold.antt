-- What the laws of a shelf ask of files in memory: they are told, each unsealed name is one of them, and their contents are
-- bytes.
use Rattle.std.specs.Prelude.{◌≡◌, ℕ, zero, suc, ◌<◌, Bool, true, false, ◌&&◌, List, [], ◌∷◌, length, slice_index_or, Option, Some, None, IsSome, is_some, unwrap_or, refl}
use Rattle.std.proofs.Common.{sym, ap, cond, subst, arith}
use Rattle.std.proofs.lemmas.Bool.{and_parts}
use lib.Dec.{T}
use Rattle.std.specs.FinMap.{from_sorted, get, find, get-from_sorted}
use Rattle.std.specs.Ordering.{eq_by_cmp}
use Rattle.cook_bits.specs.Bits.{AreBytes}
use Rattle.cook_bits.specs.Names.{File}
use Rattle.shelf_core.specs.Told.{HasFile, HoldsBytes, IsUnsealedIn, content}
use Rattle.shelf_core.specs.Store.{byte_order, IsAscending, AreOfBytes, AreThere, are_there, told_of, bytes_in}

pub made : (b : Bool) → T b → b ≡ true
made true h = refl
made false h = absurd h

pub shown : (b : Bool) → b ≡ true → T b
shown true h = tt
shown false h = cc

pub both : (a b : Bool) → a ≡ true → b ≡ true → (a && b) ≡ true
both true b p q = q
both false b p q = p

-- files in memory are told
pub told-is_some : (files : List File) → is_some (told_of files) ≡ true
unfolding told_of
told-is_some files = refl

-- what is told of a name is what is found among the files
pub found : (files : List File) (name : List ℕ) → IsAscending files → get (from_sorted {R = byte_order} files) name ≡ bytes_in files name
unfolding bytes_in
found files name sorted = get-from_sorted byte_order files name (shown _ sorted)

pub has-told : (files : List File) (name : List ℕ) → IsAscending files → IsSome (bytes_in files name) → HasFile (told_of files) name
unfolding told_of HasFile
has-told files name sorted some = subst (λ (o : Option (List ℕ)). IsSome o) (sym (found files name sorted)) some

pub told-has : (files : List File) (name : List ℕ) → IsAscending files → HasFile (told_of files) name → IsSome (bytes_in files name)
unfolding told_of HasFile
told-has files name sorted has = subst (λ (o : Option (List ℕ)). IsSome o) (found files name sorted) has

-- each of them is found
there-at : (names : List (List ℕ)) (files : List File) (name : List ℕ) (k : ℕ) → AreThere names files → k < length names → slice_index_or names k name ≡ name → IsSome (bytes_in files name)
unfolding are_there bytes_in
there-at [] files name k there lt is = absurd (omega arith)
there-at (other ∷ names) files name zero there lt is = subst (λ (n : List ℕ). IsSome (find byte_order n files)) is (and_parts _ _ there).0
there-at (other ∷ names) files name (suc k) there lt is = there-at names files name k (and_parts _ _ there).1 (omega arith) is

pub unsealed-found : (names : List (List ℕ)) (files : List File) (name : List ℕ) → AreThere names files → IsUnsealedIn (Some names) name → IsSome (bytes_in files name)
unfolding IsUnsealedIn
unsealed-found names files name there unsealed = there-at names files name unsealed.0 there unsealed.1 unsealed.2

pub unsealed-has : (names : List (List ℕ)) (files : List File) (name : List ℕ) → IsAscending files → AreThere names files → IsUnsealedIn (Some names) name → HasFile (told_of files) name
unsealed-has names files name sorted there unsealed = has-told files name sorted (unsealed-found names files name there unsealed)

-- ---- contents

pub no-bytes : AreBytes []
no-bytes i = omega arith

tied-bytes : (tied : Bool) (file : File) (rest : Option (List ℕ)) → AreBytes file.1 → AreBytes (unwrap_or rest []) → AreBytes (unwrap_or (cond tied (Some file.1) rest) [])
tied-bytes true file rest here behind = here
tied-bytes false file rest here behind = behind

found-bytes : (files : List File) (name : List ℕ) → AreOfBytes files → AreBytes (unwrap_or (find byte_order name files) [])
found-bytes [] name are = no-bytes
found-bytes (file ∷ files) name are = tied-bytes (eq_by_cmp byte_order name file.0) file (find byte_order name files) (are 0 file (omega arith)) (found-bytes files name (λ i d inside. are (suc i) d (omega arith)))

-- what is told are bytes
pub told-bytes : (files : List File) → IsAscending files → AreOfBytes files → HoldsBytes (told_of files)
unfolding told_of content bytes_in
told-bytes files sorted are name = subst AreBytes (ap (λ (o : Option (List ℕ)). unwrap_or o []) (sym (found files name sorted))) (found-bytes files name are)
