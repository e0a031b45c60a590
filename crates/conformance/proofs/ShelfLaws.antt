-- Shelves: a file that was just created is being written, and a file whose length is told is there.
use Rattle.std.proofs.Common.{◌≡◌, ℕ, List, length, Option, Some, None, IsSome, refl}
use Rattle.std.specs.Option.{option_map}
use Rattle.std.specs.FinMap.{get}
use Rattle.std.proofs.lemmas.List.Elements.{Contains-push}
use Rattle.shelf_core.specs.Told.{Told, IsTold, HasFile, length_of, Unsealed, IsUnsealedIn, with_unsealed}

pub created_is_unsealed : (unsealed_before : Unsealed) (name : List ℕ) → IsUnsealedIn (with_unsealed unsealed_before name) name
unfolding with_unsealed IsUnsealedIn
created_is_unsealed None name = tt
created_is_unsealed (Some names) name = Contains-push names name

pub measured_is_there : (told : Told) (name : List ℕ) (n : ℕ) → (IsTold told → Some n ≡ length_of told name) → HasFile told name
unfolding length_of HasFile IsTold
measured_is_there None name n is = tt
measured_is_there (Some files) name n is = by_cases (get files name) (is tt)
  where
    by_cases : (o : Option (List ℕ)) → Some n ≡ option_map length o → IsSome o
    by_cases None e = absurd (cc)
    by_cases (Some bytes) e = refl
