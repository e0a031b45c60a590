-- Laws of opening: what each refusal of a step says of the package.
use Rattle.std.proofs.Common.{◌≡◌, ℕ, ◌+◌, ◌<◌, ◌≤◌, suc, Bool, true, false, not, nat_lt, cond, if◌then◌else◌, List, [], ◌∷◌, ◌++◌, length, get_or, take, drop, All, Option, Some, None, Ok, Err, refl, sym, ap, ◌∙◌, subst, arith, length-take, length-drop}
use Rattle.std.proofs.lemmas.Bool.Decides.{nat_tests}
use Rattle.std.proofs.lemmas.List.{take-append-le, take_all}
use Rattle.std.proofs.lemmas.List.Elements.{All-get_or}
use Rattle.std.specs.List.{position, position_or_len}
use Rattle.std.specs.Option.{option_map}
use Rattle.std.specs.FinMap.{get}
use Rattle.shelf_core.specs.Told.{Told, IsTold, HasFile, IsFree, content, length_of}
use Rattle.shelf_core.specs.declared.pieces.PieceError.TheVariants as piece
use Rattle.reversal.specs.SideReading.{FailsSide}
use Rattle.reversal.specs.declared.error.SideError.{SideError}
use Rattle.reversal.specs.declared.error.SideError.TheVariants as side
use Rattle.reversal.specs.declared.record.FileRecord.{FileRecord}
use Rattle.cook_restore.specs.Contents.{side_of}
use Rattle.matroska_read.specs.Inside.{EndsBy, KeepsWithin}
use Rattle.cook_restore.specs.Meaning.{meaning_of, outline_meant, side_meant, records_meant, nothing_for, why_of_outline, why_of_side, side_seen}
use Rattle.matroska_read.specs.Outline.{places_of}
use Rattle.matroska_read.specs.Places.{Places, attached_at, outline_at, bytes_at}
use Rattle.cook_restore.specs.Plain.{plain_read}
use Rattle.cook_restore.specs.Restoring.{AreSideRecords, IsNotOpened, IsMissing, IsRefused, IsBeforeFiles, NotRead, NotOutlined, NotRecorded}
use Rattle.matroska_read.specs.Answered.{StopsFor, IsRefusal}
use Rattle.cook_restore.specs.declared.error.PackageWhy.{PackageWhy}
use Rattle.cook_restore.specs.declared.error.PackageWhy.TheVariants as broken
use Rattle.cook_restore.specs.declared.error.RestoreError.{RestoreError}
use Rattle.cook_restore.specs.declared.error.RestoreError.TheVariants as unopened
use Rattle.matroska_read.specs.declared.error.OutlineError.{OutlineError}
use Rattle.matroska_read.specs.declared.error.OutlineError.TheVariants as outlined
use Rattle.matroska_read.specs.declared.error.OutlineFault.{OutlineFault}
use Rattle.matroska_read.specs.declared.error.OutlineFault.TheVariants as outline_fault
use Rattle.matroska_read.specs.declared.files.FileAt.{FileAt}
use Rattle.matroska_read.specs.PlacesLaws.{outline-is, outline-fault}
use Rattle.cook_restore.proofs.PlacesLaws.{side-seen}

-- ---- the length

-- a file without a length is not there
pub IsFree-length_of : (told : Told) (name : List ℕ) → (IsTold told → None ≡ length_of told name) → IsFree told name
unfolding length_of IsFree IsTold
IsFree-length_of None name none = tt
IsFree-length_of (Some files) name none = by_cases (get files name) (none tt)
  where
    by_cases : (o : Option (List ℕ)) → None ≡ option_map length o → o ≡ None
    by_cases None e = refl
    by_cases (Some bytes) e = absurd (cc)

-- a package that isn't there
pub missing-not_opened : (told : Told) (pkg : List ℕ) (faults faults_now : ℕ) (answer : RestoreError) → IsFree told pkg → IsMissing pkg answer → IsNotOpened told pkg faults faults_now answer
missing-not_opened told pkg faults faults_now (unopened.Missing name) free is = (is, free)
missing-not_opened told pkg faults faults_now unopened.NoMemory free is = tt
missing-not_opened told pkg faults faults_now answer free is = absurd is

-- ---- the outline

-- the package ended early
short-not_opened : (told : Told) (pkg : List ℕ) (len faults faults_now at : ℕ) (answer : RestoreError) → (IsTold told → ⊥) → at < len → NotRead pkg len (piece.Short at) answer → IsNotOpened told pkg faults faults_now answer
short-not_opened told pkg len faults faults_now at (unopened.Changed name was now) untold early is = (is.0, untold, omega (arith, early, is.1, is.2))
short-not_opened told pkg len faults faults_now at unopened.NoMemory untold early is = tt
short-not_opened told pkg len faults faults_now at answer untold early is = absurd is

-- the package has the meaning of a fault
refused : (told : Told) (pkg : List ℕ) (why other : PackageWhy) → other ≡ why → IsBeforeFiles why → HasFile told pkg → (IsTold told → meaning_of (content told pkg) ≡ nothing_for why) → IsRefused told pkg other
refused told pkg why other is before there meant = subst (IsRefused told pkg) (sym is) (record { before = before; there = there; meant = meant })

fault-meant : (bytes : List ℕ) (fault : OutlineFault) → places_of bytes ≡ Err fault → meaning_of bytes ≡ nothing_for (why_of_outline fault)
unfolding meaning_of outline_meant
fault-meant bytes fault is = ap outline_meant (outline-fault bytes fault is)

-- the package has no outline
pub outlined-not_opened : (told : Told) (pkg : List ℕ) (len faults faults_now : ℕ) (error : OutlineError) (answer : RestoreError) → HasFile told pkg → (IsTold told → IsRefusal (places_of (content told pkg)) error)
    → StopsFor len faults faults_now error → NotOutlined pkg len error answer → IsNotOpened told pkg faults faults_now answer
outlined-not_opened told pkg len faults faults_now (outlined.Shape place) (unopened.Package why) there fault stops is =
    refused told pkg (broken.Shape place) why is tt there (λ known. fault-meant (content told pkg) (outline_fault.Shape place) (fault known))
outlined-not_opened told pkg len faults faults_now (outlined.Shape place) answer there fault stops is = absurd is
outlined-not_opened told pkg len faults faults_now (outlined.Encoded track) (unopened.Package why) there fault stops is =
    refused told pkg (broken.Encoded track) why is tt there (λ known. fault-meant (content told pkg) (outline_fault.Encoded track) (fault known))
outlined-not_opened told pkg len faults faults_now (outlined.Encoded track) answer there fault stops is = absurd is
outlined-not_opened told pkg len faults faults_now (outlined.TrackUnknown track) (unopened.Package why) there fault stops is =
    refused told pkg (broken.TrackUnknown track) why is tt there (λ known. fault-meant (content told pkg) (outline_fault.TrackUnknown track) (fault known))
outlined-not_opened told pkg len faults faults_now (outlined.TrackUnknown track) answer there fault stops is = absurd is
outlined-not_opened told pkg len faults faults_now (outlined.Short at) answer there fault stops is = short-not_opened told pkg len faults faults_now at answer fault stops is
outlined-not_opened told pkg len faults faults_now outlined.Failed unopened.Failed there fault stops is = stops
outlined-not_opened told pkg len faults faults_now outlined.Failed answer there fault stops is = absurd is
outlined-not_opened told pkg len faults faults_now outlined.NoMemory unopened.NoMemory there fault stops is = tt
outlined-not_opened told pkg len faults faults_now outlined.NoMemory answer there fault stops is = absurd is

-- ---- the bytes of an attached file

-- a piece that was read whole is all of the file
pub bytes-read : (file : FileAt) (bytes held now : List ℕ) (count room len : ℕ) → count ≡ file.len → room ≡ count → len ≡ length bytes → file.at + file.len ≤ len → now ≡ take room (drop file.at bytes)
    → take count (now ++ drop (length now) held) ≡ bytes_at file bytes
unfolding bytes_at
bytes-read file bytes held now count room len is full whole ends read =
    let same : now ≡ take file.len (drop file.at bytes) = read ∙ ap (λ k. take k (drop file.at bytes)) (full ∙ is) in
    let long : length now ≡ file.len = ap length same ∙ omega (arith, whole, ends, length-take file.len (drop file.at bytes), length-drop file.at bytes) in
    take-append-le count now (drop (length now) held) (omega (arith, long, is)) ∙ take_all count now (omega (arith, long, is)) ∙ same

-- ---- the side data

-- the first file of the media type is the one of its number
at-first : (here : Bool) (file other : FileAt) (files : List FileAt) (rest : Option FileAt) (n : ℕ) → cond (not here) (1 + n) 0 < suc (length files) → (n < length files → rest ≡ Some (get_or files n other))
    → (if here then Some file else rest) ≡ Some (get_or (file ∷ files) (cond (not here) (1 + n) 0) other)
at-first true file other files rest n inside so = refl
at-first false file other files rest n inside so = let one : suc n ≡ 1 + n = omega arith in so (omega (arith, inside)) ∙ ap (λ k. Some (get_or (file ∷ files) k other)) one

side_of-at : (files : List FileAt) (other : FileAt) → position_or_len (λ file. file.side) files < length files → side_of files ≡ Some (get_or files (position_or_len (λ file. file.side) files) other)
unfolding side_of
side_of-at [] other inside = absurd (omega (arith, inside))
side_of-at (file ∷ files) other inside = at-first file.side file other files (side_of files) (position_or_len (λ file. file.side) files) inside (side_of-at files other)

none-first : (here : Bool) (file : FileAt) (rest : Option FileAt) (n len : ℕ) → suc len ≤ cond (not here) (1 + n) 0 → (len ≤ n → rest ≡ None) → (if here then Some file else rest) ≡ None
none-first true file rest n len past so = absurd (omega (arith, past))
none-first false file rest n len past so = so (omega (arith, past))

side_of-past : (files : List FileAt) → length files ≤ position_or_len (λ file. file.side) files → side_of files ≡ None
unfolding side_of
side_of-past [] past = refl
side_of-past (file ∷ files) past = none-first file.side file (side_of files) (position_or_len (λ file. file.side) files) (length files) past (side_of-past files)

some-within : (n len number : ℕ) → cond (nat_lt n len) (Some n) None ≡ Some number → (number ≡ n) × (n < len)
some-within n len number is = by_cases (nat_lt n len) refl is
  where
    by_cases : (b : Bool) → nat_lt n len ≡ b → cond b (Some n) None ≡ Some number → (number ≡ n) × (n < len)
    by_cases true e s = (cc, grind (arith, nat_tests))
    by_cases false e s = absurd (cc)

none-past : (n len : ℕ) → cond (nat_lt n len) (Some n) None ≡ None → len ≤ n
none-past n len is = by_cases (nat_lt n len) refl is
  where
    by_cases : (b : Bool) → nat_lt n len ≡ b → cond b (Some n) None ≡ None → len ≤ n
    by_cases true e s = absurd (cc)
    by_cases false e s = grind (arith, nat_tests)

pub side_of-none : (files : List FileAt) → position (λ file. file.side) files ≡ None → side_of files ≡ None
side_of-none files is = side_of-past files (none-past (position_or_len (λ file. file.side) files) (length files) is)

-- the file of the number that was found is the side data
pub side_of-found : (places : Places) (files : List FileAt) (found : Option ℕ) (number : ℕ) (file : FileAt) → files ≡ places.files → found ≡ position (λ file. file.side) files → found ≡ Some number → file ≡ get_or files number file → side_of places.files ≡ Some file
side_of-found places files found number file same is some at =
    let inside = some-within (position_or_len (λ file. file.side) files) (length files) number (sym is ∙ some) in
    subst (λ l. side_of l ≡ Some file) same (side_of-at files file inside.1 ∙ ap (λ k. Some (get_or files k file)) (sym inside.0) ∙ ap Some (sym at))

-- and it keeps within
pub side-ends : (len : ℕ) (places : Places) (files : List FileAt) (found : Option ℕ) (number : ℕ) (file : FileAt) → KeepsWithin len places → files ≡ places.files → found ≡ position (λ file. file.side) files → found ≡ Some number → file ≡ get_or files number file → file.at + file.len ≤ len
side-ends len places files found number file keeps same is some at =
    let inside = some-within (position_or_len (λ file. file.side) files) (length files) number (sym is ∙ some) in
    subst (EndsBy len) (sym at) (All-get_or (EndsBy len) files number file (omega (arith, inside.0, inside.1)) (subst (All (EndsBy len)) (sym same) keeps.files))

-- what is side data at its place is seen as side data
side-shown : (bytes : List ℕ) (places : Places) (o : Option FileAt) → side_of places.files ≡ o → side_seen (outline_at places bytes).files ≡ option_map (attached_at bytes) o
side-shown bytes places o is = side-seen bytes places.files ∙ ap (option_map (attached_at bytes)) is

no_side-meant : (bytes : List ℕ) (places : Places) → places_of bytes ≡ Ok places → side_of places.files ≡ None → meaning_of bytes ≡ nothing_for broken.NoSide
unfolding meaning_of outline_meant side_meant
no_side-meant bytes places is none = ap outline_meant (outline-is bytes places is) ∙ ap (side_meant (outline_at places bytes)) (side-shown bytes places None none)

-- no file is side data
pub no_side-refused : (told : Told) (pkg : List ℕ) (places : Places) (files : List FileAt) (number : Option ℕ) → HasFile told pkg → (IsTold told → places_of (content told pkg) ≡ Ok places) → files ≡ places.files → number ≡ position (λ file. file.side) files → number ≡ None → IsRefused told pkg broken.NoSide
no_side-refused told pkg places files number there outlined same is none = record {
  before = tt;
  there = there;
  meant = λ known. no_side-meant (content told pkg) places (outlined known) (subst (λ l. side_of l ≡ None) same (side_of-none files (sym is ∙ none)));
}

-- the side data was read
pub side-records : (told : Told) (pkg : List ℕ) (places : Places) (side : FileAt) (held : List ℕ) (records : List FileRecord) → side_of places.files ≡ Some side → (IsTold told → held ≡ bytes_at side (content told pkg)) → plain_read held ≡ Ok records
    → IsTold told → AreSideRecords (outline_at places (content told pkg)) records
side-records told pkg places side held records is_side bytes read known = record {
  side = attached_at (content told pkg) side;
  is_side = side-shown (content told pkg) places (Some side) is_side;
  read = ap plain_read (sym (bytes known)) ∙ read;
}

side-meant : (bytes : List ℕ) (places : Places) (side : FileAt) (error : SideError) → places_of bytes ≡ Ok places → side_of places.files ≡ Some side → plain_read (bytes_at side bytes) ≡ Err error → meaning_of bytes ≡ nothing_for (why_of_side error)
unfolding meaning_of outline_meant side_meant records_meant
side-meant bytes places side error is is_side read =
    ap outline_meant (outline-is bytes places is) ∙ ap (side_meant (outline_at places bytes)) (side-shown bytes places (Some side) is_side) ∙ ap (records_meant (outline_at places bytes)) read

-- or it is faulty
pub recorded-not_opened : (told : Told) (pkg : List ℕ) (places : Places) (side : FileAt) (held : List ℕ) (faults faults_now : ℕ) (error : SideError) (answer : RestoreError) → HasFile told pkg → (IsTold told → places_of (content told pkg) ≡ Ok places)
    → side_of places.files ≡ Some side → (IsTold told → held ≡ bytes_at side (content told pkg)) → FailsSide error (plain_read held) → NotRecorded error answer → IsNotOpened told pkg faults faults_now answer
recorded-not_opened told pkg places found held faults faults_now (side.SideBad place) (unopened.Package why) there outlined is_side bytes fails is =
    refused told pkg (broken.SideBad place) why is tt there (λ known. side-meant (content told pkg) places found (side.SideBad place) (outlined known) is_side (ap plain_read (sym (bytes known)) ∙ fails))
recorded-not_opened told pkg places found held faults faults_now (side.SideBad place) answer there outlined is_side bytes fails is = absurd is
recorded-not_opened told pkg places found held faults faults_now (side.SideNames name) (unopened.Package why) there outlined is_side bytes fails is =
    refused told pkg (broken.SideNames name) why is tt there (λ known. side-meant (content told pkg) places found (side.SideNames name) (outlined known) is_side (ap plain_read (sym (bytes known)) ∙ fails))
recorded-not_opened told pkg places found held faults faults_now (side.SideNames name) answer there outlined is_side bytes fails is = absurd is
recorded-not_opened told pkg places found held faults faults_now side.NoMemory unopened.NoMemory there outlined is_side bytes fails is = tt
recorded-not_opened told pkg places found held faults faults_now side.NoMemory answer there outlined is_side bytes fails is = absurd is
