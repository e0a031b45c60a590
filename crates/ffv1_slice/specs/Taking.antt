-- Headers, as they are read.
use Rattle.std.specs.Prelude.{◌≡◌, ℕ, ◌^◌, ◌<◌, Bool, true, false, List, [], ◌∷◌, ◌++◌, length, slice_index, take}
use Rattle.range_coder.specs.Choices.{moved}
use Rattle.range_coder.specs.Coding.{Gets}
use Rattle.range_coder.specs.Reading.{Reader}
use Rattle.range_coder.specs.Symbol.{choice, overlong_choices}
use Rattle.range_coder.specs.Table.{AreLive}
use Rattle.ffv1_params.specs.Parameters.{Parameters}
use Rattle.ffv1_slice.specs.declared.error.SliceWhy.{SliceWhy}
use Rattle.ffv1_slice.specs.declared.error.SliceWhy.TheVariants as why
use Rattle.ffv1_slice.specs.declared.head.SliceHead.{SliceHead}
use Rattle.ffv1_slice.specs.Slice.{AreCells, AreTaken, TellHead, header_choices, front_choices}

-- the number at a place can stand there, behind those before it
pub record MayStand (params : Parameters) (numbers : List ℕ) (place : ℕ) : Type 0 where
  pub cells : place ≡ 3 → AreCells params (slice_index numbers 0) (slice_index numbers 1) (slice_index numbers 2) (slice_index numbers 3)
  pub luma_index : place ≡ 4 → slice_index numbers 4 < length params.sets
  pub difference_index : place ≡ 5 → slice_index numbers 5 < length params.sets

-- the first numbers were read, and taken
pub record NumbersRead (params : Parameters) (before : Reader) (states : List ℕ) (after : Reader) (left numbers : List ℕ) (count : ℕ) : Type 0 where
  pub taken : AreTaken params (take count numbers)
  pub gets : Gets params.table before states after left (header_choices (take count numbers))
  pub live : AreLive params.table left
  pub nine : length numbers ≡ 9

-- a number was too long, or couldn't stand
pub record LongNumber (params : Parameters) (before : Reader) (states : List ℕ) (after : Reader) (left : List ℕ) : Type 0 where
  pub numbers : List ℕ
  pub taken : AreTaken params numbers
  pub few : length numbers < 9
  pub gets : Gets params.table before states after left (header_choices numbers ++ moved 1 overlong_choices)

pub record BadNumber (params : Parameters) (before : Reader) (states : List ℕ) (after : Reader) (left : List ℕ) : Type 0 where
  pub numbers : List ℕ
  pub last : ℕ
  pub taken : AreTaken params numbers
  pub small : last < 2 ^ 31
  pub few : length numbers < 9
  pub refused : AreTaken params (numbers ++ last ∷ []) → ⊥
  pub gets : Gets params.table before states after left (header_choices (numbers ++ last ∷ []))

abbrev pub NumbersFail : Parameters → Reader → List ℕ → Reader → List ℕ → SliceWhy → Type 0
NumbersFail params before states after left why.BadStart = ⊥
NumbersFail params before states after left why.NotKey = ⊥
NumbersFail params before states after left why.BadSymbol = LongNumber params before states after left
NumbersFail params before states after left why.SliceHeader = BadNumber params before states after left
NumbersFail params before states after left why.SampleRange = ⊥

-- the keyframe bit and the header were read
pub record FrontRead (params : Parameters) (first : Bool) (before : Reader) (states : List ℕ) (after : Reader) (left : List ℕ) (head : SliceHead) : Type 0 where
  pub numbers : List ℕ
  pub tell : TellHead params numbers head
  pub gets : Gets params.table before states after left (front_choices first numbers)
  pub live : AreLive params.table left

-- the keyframe bit or a number of the header was refused
pub record KeyIsZero (params : Parameters) (first : Bool) (before : Reader) (states : List ℕ) (after : Reader) (left : List ℕ) : Type 0 where
  pub asked : first ≡ true
  pub gets : Gets params.table before states after left (choice 0 false ∷ [])

pub record LongFront (params : Parameters) (first : Bool) (before : Reader) (states : List ℕ) (after : Reader) (left : List ℕ) : Type 0 where
  pub numbers : List ℕ
  pub taken : AreTaken params numbers
  pub few : length numbers < 9
  pub gets : Gets params.table before states after left (front_choices first numbers ++ moved 1 overlong_choices)

pub record BadFront (params : Parameters) (first : Bool) (before : Reader) (states : List ℕ) (after : Reader) (left : List ℕ) : Type 0 where
  pub numbers : List ℕ
  pub last : ℕ
  pub taken : AreTaken params numbers
  pub small : last < 2 ^ 31
  pub few : length numbers < 9
  pub refused : AreTaken params (numbers ++ last ∷ []) → ⊥
  pub gets : Gets params.table before states after left (front_choices first (numbers ++ last ∷ []))

abbrev pub FrontFails : Parameters → Bool → Reader → List ℕ → Reader → List ℕ → SliceWhy → Type 0
FrontFails params first before states after left why.BadStart = ⊥
FrontFails params first before states after left why.NotKey = KeyIsZero params first before states after left
FrontFails params first before states after left why.BadSymbol = LongFront params first before states after left
FrontFails params first before states after left why.SliceHeader = BadFront params first before states after left
FrontFails params first before states after left why.SampleRange = ⊥
