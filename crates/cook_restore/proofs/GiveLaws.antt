-- Laws of giving a file: what it means, and what stands where it was not given.
use Rattle.std.proofs.Common.{◌≡◌, inl, inr, ℕ, ◌+◌, ◌-◌, ◌≤◌, true, false, ◌==◌, List, [], length, take, drop, Option, Some, None, is_some, Ok, Err, IfSome, refl, sym, ap, ◌∙◌, subst, arith, length-take, length-drop}
use Rattle.std.proofs.Math.Seq.{take-length}
use Rattle.std.proofs.lemmas.Bool.Decides.{nat_tests}
use Rattle.md5.specs.Md5.{md5}
use Rattle.cook_bits.specs.Names.{full_name}
use Rattle.shelf_core.specs.Leaves.{LeavesNothing, LeavesPart}
use Rattle.shelf_core.specs.Pieces.{EndsWithin, IsNotShort}
use Rattle.shelf_core.specs.Reads.{Tells, Has, OnlyReads, Failed, Starved, CountsStay, bytes_of}
use Rattle.shelf_core.specs.Told.{Told, IsTold, HasFile, IsFree, Unsealed, GrewPartly, content, grown, with_file, with_unsealed, without_unsealed}
use Rattle.shelf_core.specs.Writes.{Created, Grew, GrewInPart, Wrote, Unchanged, WroteInPart, StoppedWriting}
use Rattle.shelf_core.specs.declared.shelf.Shelf.{Ghosts}
use Rattle.shelf_core.specs.declared.pieces.PieceError.{PieceError}
use Rattle.shelf_core.specs.declared.pieces.PieceError.TheVariants as piece
use Rattle.shelf_core.specs.declared.shelf.ShelfError.{ShelfError}
use Rattle.shelf_core.specs.declared.shelf.ShelfError.TheVariants as shelf
use Rattle.shelf_core.specs.FileLaws.{IsApart-there, content-apart, grown-with_file, is_same_name-itself, IsTold-with_file, IsTold-stays, without-with_unsealed}
use Rattle.shelf_core.specs.LeftLaws.{left_part, left_whole}
use Rattle.shelf_core.specs.PieceLaws.{grown-if_told, GrewPartly-if_told}
use Rattle.reversal.specs.declared.record.FileRecord.{FileRecord}
use Rattle.cook_restore.specs.Contents.{content_found, PlaceEndsBy}
use Rattle.cook_restore.specs.Giving.{asked_there, Means, IsChecked, IsHeld, NotChecked, StopsAdding, NotAdded, NotWritten, NotGiven, IsContentGiven, LeavesContent, content_on, piece_stop, shelf_stop}
use Rattle.cook_restore.specs.Meaning.{checked, is_same_sum}
use Rattle.cook_restore.specs.Restoring.{HasFileIn, IsFreeIn, with_given}
use Rattle.cook_restore.specs.declared.contents.Content.{Content}
use Rattle.cook_restore.specs.declared.stop.Stop.{Stop}
use Rattle.cook_restore.specs.declared.stop.Stop.TheVariants as stop
use Rattle.cook_restore.specs.declared.error.FileWhy.{FileWhy}
use Rattle.cook_restore.specs.declared.error.FileWhy.TheVariants as file

-- ---- a shelf that tells nothing

with_file-untold : (told : Told) (name bytes : List ℕ) → (IsTold told → ⊥) → with_file told name bytes ≡ told
unfolding with_file IsTold
with_file-untold None name bytes untold = refl
with_file-untold (Some files) name bytes untold = absurd (untold tt)

with_unsealed-untold : (told : Told) (unsealed_before : Unsealed) (name : List ℕ) → is_some told ≡ is_some unsealed_before → (IsTold told → ⊥) → with_unsealed unsealed_before name ≡ unsealed_before
unfolding with_unsealed IsTold
with_unsealed-untold told None name together untold = refl
with_unsealed-untold None (Some names) name together untold = absurd (cc)
with_unsealed-untold (Some files) (Some names) name together untold = absurd (untold tt)

-- a part of a file leaves nothing that is told
nothing-untold : (told after : Told) (unsealed_before unsealed_after : Unsealed) (name whole : List ℕ) → is_some told ≡ is_some unsealed_before → (IsTold told → ⊥) → LeavesPart told after unsealed_before unsealed_after name whole → LeavesNothing told after unsealed_before unsealed_after
nothing-untold told after unsealed_before unsealed_after name whole together untold part = record {
  files = part.files ∙ with_file-untold told name (take part.count whole) untold;
  unsealed = part.unsealed ∙ with_unsealed-untold told unsealed_before name together untold;
}

-- ---- the package while a new file is created

bytes-created : {S : Type 0} (g : Ghosts S) (old created : S) (pkg to : List ℕ) → Created g old created to → Has g old pkg → bytes_of g created pkg ≡ bytes_of g old pkg
bytes-created g old created pkg to is there = ap (λ (t : Told). content t pkg) is.files ∙ content-apart (g.files old) to [] pkg (IsApart-there (g.files old) to pkg there is.free)

told-created : {S : Type 0} (g : Ghosts S) (old created : S) (to : List ℕ) → Created g old created to → Tells g created → Tells g old
told-created g old created to is known = IsTold-with_file (g.files old) to [] (subst IsTold is.files known)

created-told : {S : Type 0} (g : Ghosts S) (old created : S) (to : List ℕ) → Created g old created to → Tells g old → Tells g created
created-told g old created to is known = subst IsTold (sym is.files) (IsTold-stays (g.files old) to [] known)

content-created : {S : Type 0} (g : Ghosts S) (old created : S) (pkg to : List ℕ) (found : Content) → Created g old created to → Has g old pkg → content_on g created pkg found ≡ content_on g old pkg found
content-created g old created pkg to found is there = ap (λ b. take found.len (drop found.at b)) (bytes-created g old created pkg to is there)

pub checked-created : {S : Type 0} (g : Ghosts S) (old created : S) (pkg to : List ℕ) (said : FileRecord) (found : Content) → Created g old created to → Has g old pkg → IsChecked g old pkg said found → IsChecked g created pkg said found
checked-created g old created pkg to said found is there good = record {
  len = good.len;
  long = λ known. ap length (content-created g old created pkg to found is there) ∙ good.long (told-created g old created to is known);
  sum = λ known. ap md5 (content-created g old created pkg to found is there) ∙ good.sum (told-created g old created to is known);
}

pub held-created : {S : Type 0} (g : Ghosts S) (old created : S) (pkg to buffer : List ℕ) (found : Content) → Created g old created to → Has g old pkg → IsHeld g old pkg found buffer → IsHeld g created pkg found buffer
held-created g old created pkg to buffer found is there held = λ fits known. held fits (told-created g old created to is known) ∙ sym (content-created g old created pkg to found is there)

-- ---- a content is added to its file

-- a content that was checked lies in the package
pub inside-checked : {S : Type 0} (g : Ghosts S) (shelf : S) (pkg : List ℕ) (said : FileRecord) (found : Content) → IsChecked g shelf pkg said found → Tells g shelf → found.len ≤ length (bytes_of g shelf pkg) - found.at
inside-checked g shelf pkg said found good known = omega (arith, good.long known, length-take found.len (drop found.at (bytes_of g shelf pkg)), length-drop found.at (bytes_of g shelf pkg))

-- bytes that are the content where it is told
pub grew-held : {S : Type 0} (g : Ghosts S) (old new : S) (to bytes whole : List ℕ) → (Tells g old → bytes ≡ whole) → Grew g old new to bytes → Grew g old new to whole
grew-held g old new to bytes whole same grew = record {
  files = grew.files ∙ grown-if_told (g.files old) to bytes whole same;
  unsealed = grew.unsealed;
  faults = grew.faults;
  starved = grew.starved;
}

-- the first of them were added
pub part-held : {S : Type 0} (g : Ghosts S) (old new : S) (pkg to bytes : List ℕ) (found : Content) (error : ShelfError) → (Tells g old → bytes ≡ content_on g old pkg found) → GrewInPart g old new to bytes → (error ≡ shelf.Failed → Failed g old new) → (error ≡ shelf.NoMemory → Starved g old new)
    → NotAdded g old new pkg found to (shelf_stop error)
part-held g old new pkg to bytes found error same grew fault want = record { part = part; cause = cause_of error fault want }
  where
    part : GrewInPart g old new to (content_on g old pkg found)
    part = record { files = GrewPartly-if_told (g.files old) (g.files new) to bytes (content_on g old pkg found) same grew.files; unsealed = grew.unsealed; faults = grew.faults; starved = grew.starved }

    cause_of : (e : ShelfError) → (e ≡ shelf.Failed → Failed g old new) → (e ≡ shelf.NoMemory → Starved g old new) → StopsAdding g old new (shelf_stop e)
    cause_of shelf.Failed f w = f refl
    cause_of shelf.NoMemory f w = w refl

-- what was added whole was added
part-whole : {S : Type 0} (g : Ghosts S) (old new : S) (to bytes : List ℕ) → Grew g old new to bytes → GrewInPart g old new to bytes
part-whole g old new to bytes grew = record {
  files = record { count = length bytes; within = omega arith; is = grew.files ∙ ap (grown (g.files old) to) (sym (take-length bytes)) };
  unsealed = grew.unsealed;
  faults = grew.faults;
  starved = grew.starved;
}

-- a sum that is the same is found the same
same-sum : (sum other : List ℕ) → sum ≡ other → is_same_sum sum other ≡ false → ⊥
same-sum sum other same differs =
    let equal : is_same_sum sum sum ≡ true = is_same_name-itself sum in
    let unequal : is_same_sum sum sum ≡ false = subst (λ b. is_same_sum sum b ≡ false) (sym same) differs in
    cc

-- a copy of another sum
pub another-added : {S : Type 0} (g : Ghosts S) (old new : S) (pkg to sum : List ℕ) (said : FileRecord) (found : Content) (why : FileWhy) → IsChecked g old pkg said found → Grew g old new to (content_on g old pkg found) → (Tells g old → sum ≡ md5 (content_on g old pkg found))
    → is_same_sum sum said.md5 ≡ false → NotAdded g old new pkg found to (stop.File why)
another-added g old new pkg to sum said found why good grew summed differs = record {
  part = part-whole g old new to (content_on g old pkg found) grew;
  cause = λ known. same-sum sum said.md5 (summed known ∙ good.sum known) differs;
}

-- a copy that was not made whole
pub not-copied : {S : Type 0} (g : Ghosts S) (old new : S) (pkg to : List ℕ) (found : Content) (len : ℕ) (error : PieceError) → GrewInPart g old new to (content_on g old pkg found) → PlaceEndsBy len found → EndsWithin found.at found.len error → (Tells g old → IsNotShort error)
    → (error ≡ piece.Failed → Failed g old new) → (error ≡ piece.NoMemory → Starved g old new) → NotAdded g old new pkg found to (piece_stop len error)
not-copied g old new pkg to found len error grew ends within long fault want = record { part = grew; cause = cause_of error within long fault want }
  where
    cause_of : (e : PieceError) → EndsWithin found.at found.len e → (Tells g old → IsNotShort e) → (e ≡ piece.Failed → Failed g old new) → (e ≡ piece.NoMemory → Starved g old new) → StopsAdding g old new (piece_stop len e)
    cause_of (piece.Short now) w l f m = (omega (arith, w.1, ends), l)
    cause_of piece.Failed w l f m = f refl
    cause_of piece.NoMemory w l f m = m refl

-- ---- a file is written

-- what was added in part stands in part
part-written : {S : Type 0} (g : Ghosts S) (old created new : S) (pkg to : List ℕ) (found : Content) → Created g old created to → Has g old pkg → GrewInPart g created new to (content_on g created pkg found) → WroteInPart g old new to (content_on g old pkg found)
part-written g old created new pkg to found is there grew =
    left_part (g.files old) (g.files created) (g.files new) (g.unsealed old) (g.unsealed new) to (content_on g old pkg found) is.files
    (subst (λ b. GrewPartly (g.files created) to b (g.files new)) (content-created g old created pkg to found is there) grew.files) is.free (grew.unsealed ∙ is.unsealed)

pub not-written : {S : Type 0} (g : Ghosts S) (old created new : S) (pkg to : List ℕ) (found : Content) (why : Stop) → is_some (g.files old) ≡ is_some (g.unsealed old) → Created g old created to → Has g old pkg
    → NotAdded g created new pkg found to why → NotWritten g old new pkg found to why
not-written g old created new pkg to found (stop.File why) together is there stopped =
    let untold : Tells g old → ⊥ = λ known. stopped.cause (created-told g old created to is known) in
    (untold, nothing-untold (g.files old) (g.files new) (g.unsealed old) (g.unsealed new) to (content_on g old pkg found) together untold (part-written g old created new pkg to found is there stopped.part))
not-written g old created new pkg to found stop.InTheWay together is there stopped = absurd stopped.cause
not-written g old created new pkg to found (stop.Changed was now) together is there stopped =
    let untold : Tells g old → ⊥ = λ known. stopped.cause.1 (created-told g old created to is known) in
    (stopped.cause.0, untold, nothing-untold (g.files old) (g.files new) (g.unsealed old) (g.unsealed new) to (content_on g old pkg found) together untold (part-written g old created new pkg to found is there stopped.part))
not-written g old created new pkg to found stop.Failed together is there stopped = (omega (arith, is.faults, stopped.cause), inr (part-written g old created new pkg to found is there stopped.part))
not-written g old created new pkg to found stop.NoMemory together is there stopped = (omega (arith, is.starved, stopped.cause), inr (part-written g old created new pkg to found is there stopped.part))

whole-written : {S : Type 0} (g : Ghosts S) (old created full : S) (pkg to : List ℕ) (found : Content) → Created g old created to → Has g old pkg → Grew g created full to (content_on g created pkg found)
    → g.files full ≡ with_file (g.files old) to (content_on g old pkg found)
whole-written g old created full pkg to found is there grew =
    grew.files ∙ ap (grown (g.files created) to) (content-created g old created pkg to found is there) ∙ ap (λ (t : Told). grown t to (content_on g old pkg found)) is.files ∙ grown-with_file (g.files old) to [] (content_on g old pkg found)

-- a file that was added whole and sealed
pub written : {S : Type 0} (g : Ghosts S) (old created full new : S) (pkg to : List ℕ) (found : Content) → Created g old created to → Has g old pkg → Grew g created full to (content_on g created pkg found)
    → g.files new ≡ g.files full → g.unsealed new ≡ without_unsealed (g.unsealed full) to → CountsStay g full new → Wrote g old new to (content_on g old pkg found)
written g old created full new pkg to found is there grew same sealed counts = record {
  free = is.free;
  files = same ∙ whole-written g old created full pkg to found is there grew;
  unsealed = sealed ∙ ap (λ (u : Unsealed). without_unsealed u to) (grew.unsealed ∙ is.unsealed) ∙ without-with_unsealed (g.unsealed old) to is.not_unsealed;
  faults = omega (arith, is.faults, grew.faults, counts.faults);
  starved = omega (arith, is.starved, grew.starved, counts.starved);
}

-- or not sealed
pub not-sealed : {S : Type 0} (g : Ghosts S) (old created full new : S) (pkg to : List ℕ) (found : Content) (error : ShelfError) → Created g old created to → Has g old pkg → Grew g created full to (content_on g created pkg found)
    → g.files new ≡ g.files full → g.unsealed new ≡ g.unsealed full → (error ≡ shelf.Failed → Failed g full new) → (error ≡ shelf.NoMemory → Starved g full new) → NotWritten g old new pkg found to (shelf_stop error)
not-sealed g old created full new pkg to found error is there grew same still fault want = by_error error fault want
  where
    part : WroteInPart g old new to (content_on g old pkg found)
    part = left_whole (g.files old) (g.files new) (g.unsealed old) (g.unsealed new) to (content_on g old pkg found) (same ∙ whole-written g old created full pkg to found is there grew) is.free (still ∙ grew.unsealed ∙ is.unsealed)

    by_error : (e : ShelfError) → (e ≡ shelf.Failed → Failed g full new) → (e ≡ shelf.NoMemory → Starved g full new) → NotWritten g old new pkg found to (shelf_stop e)
    by_error shelf.Failed f w = let rose = f refl in (omega (arith, rose, is.faults, grew.faults), inr part)
    by_error shelf.NoMemory f w = let rose = w refl in (omega (arith, rose, is.starved, grew.starved), inr part)

-- ---- the checking of a content

-- nothing of the name is attached
pub missing-checked : {S : Type 0} (g : Ghosts S) (old new : S) (pkg : List ℕ) (len : ℕ) (said : FileRecord) (found : Option Content) (target : Option (List ℕ)) → found ≡ None → NotChecked g old new (asked_there pkg len said found target) (stop.File file.Missing)
unfolding content_found
missing-checked g old new pkg len said found target none = λ known whole. rw none refl

-- a content in the package is as long as it says
length-found : (at part len : ℕ) (bytes : List ℕ) → at + part ≤ len → len ≡ length bytes → length (take part (drop at bytes)) ≡ part
length-found at part len bytes inside whole = omega (arith, length-take part (drop at bytes), length-drop at bytes)

checked-length : (said : FileRecord) (bytes : List ℕ) → (length bytes ≡ said.length → ⊥) → checked said bytes ≡ Err file.Length
unfolding checked
checked-length said bytes differs = let no : (length bytes == said.length) ≡ false = grind (arith, nat_tests) in rw no refl

checked-sum : (said : FileRecord) (bytes : List ℕ) → length bytes ≡ said.length → is_same_sum (md5 bytes) said.md5 ≡ false → checked said bytes ≡ Err file.Sum
unfolding checked
checked-sum said bytes same differs = let yes : (length bytes == said.length) ≡ true = grind (arith, nat_tests) in rw (yes, differs) refl

checked-good : (said : FileRecord) (bytes : List ℕ) → length bytes ≡ said.length → md5 bytes ≡ said.md5 → checked said bytes ≡ Ok bytes
unfolding checked
checked-good said bytes same sum =
    let yes : (length bytes == said.length) ≡ true = grind (arith, nat_tests) in
    let agrees : is_same_sum (md5 bytes) said.md5 ≡ true = subst (λ b. is_same_sum (md5 bytes) b ≡ true) sum (is_same_name-itself (md5 bytes)) in
    rw (yes, agrees) refl

-- a content of another length
pub length-checked : {S : Type 0} (g : Ghosts S) (old new : S) (pkg : List ℕ) (len : ℕ) (said : FileRecord) (found : Option Content) (place : Content) (target : Option (List ℕ)) → found ≡ Some place → IfSome found (PlaceEndsBy len) → (place.len ≡ said.length → ⊥)
    → NotChecked g old new (asked_there pkg len said found target) (stop.File file.Length)
unfolding content_found
length-checked g old new pkg len said found place target is ends differs = λ known whole.
    let end : PlaceEndsBy len place = subst (λ o. IfSome o (PlaceEndsBy len)) is ends in
    let long = length-found place.at place.len len (bytes_of g old pkg) end whole in
    ap (content_found said (bytes_of g old pkg)) is ∙ checked-length said (content_on g old pkg place) (λ same. differs (sym long ∙ same))

-- or of another sum
pub sum-checked : {S : Type 0} (g : Ghosts S) (old new : S) (pkg sum : List ℕ) (len : ℕ) (said : FileRecord) (found : Option Content) (place : Content) (target : Option (List ℕ)) → found ≡ Some place → place.len ≡ said.length → (Tells g old → length (content_on g old pkg place) ≡ place.len)
    → (Tells g old → sum ≡ md5 (content_on g old pkg place)) → is_same_sum sum said.md5 ≡ false → NotChecked g old new (asked_there pkg len said found target) (stop.File file.Sum)
unfolding content_found
sum-checked g old new pkg sum len said found place target is same long summed differs = λ known whole.
    ap (content_found said (bytes_of g old pkg)) is ∙ checked-sum said (content_on g old pkg place) (long known ∙ same) (subst (λ b. is_same_sum b said.md5 ≡ false) (summed known) differs)

-- ---- the giving of a file

-- what was checked is what the record means
is-found : {S : Type 0} (g : Ghosts S) (old : S) (pkg : List ℕ) (len : ℕ) (said : FileRecord) (found : Option Content) (place : Content) (target : Option (List ℕ)) → found ≡ Some place → IsChecked g old pkg said place
    → Means g old (asked_there pkg len said found target) (Ok (content_on g old pkg place))
unfolding content_found
is-found g old pkg len said found place target is good = λ known whole.
    ap (content_found said (bytes_of g old pkg)) is ∙ checked-good said (content_on g old pkg place) (good.long known ∙ good.len) (good.sum known)

-- a content that is not written was checked all the same
pub given-nowhere : {S : Type 0} (g : Ghosts S) (old new : S) (pkg : List ℕ) (len : ℕ) (said : FileRecord) (found : Option Content) (place : Content) (target : Option (List ℕ)) → OnlyReads g old new → found ≡ Some place
    → IsChecked g old pkg said place → target ≡ None → IsContentGiven g old new (asked_there pkg len said found target) place.len
given-nowhere g old new pkg len said found place target kept is good none = record {
  bytes = content_on g old pkg place;
  long = λ known. sym (good.long known);
  free = subst (λ t. IsFreeIn (g.files old) t said.name) (sym none) tt;
  files = kept.files ∙ ap (λ t. with_given (g.files old) t said.name (content_on g old pkg place)) (sym none);
  unsealed = kept.unsealed;
  is = is-found g old pkg len said found place target is good;
}

-- a content was written, on a shelf that was only read before
pub given-in : {S : Type 0} (g : Ghosts S) (old between new : S) (pkg dir full : List ℕ) (len : ℕ) (said : FileRecord) (found : Option Content) (place : Content) (target : Option (List ℕ)) → OnlyReads g old between → full ≡ full_name dir said.name → target ≡ Some dir
    → Wrote g between new full (content_on g between pkg place) → found ≡ Some place → IsChecked g old pkg said place → IsContentGiven g old new (asked_there pkg len said found target) place.len
given-in g old between new pkg dir full len said found place target kept named aimed wrote is good = record {
  bytes = content_on g old pkg place;
  long = λ known. sym (good.long known);
  free = subst (λ t. IsFreeIn (g.files old) t said.name) (sym aimed) (subst (λ n. IsFree (g.files old) n) named (subst (λ t. IsFree t full) kept.files wrote.free));
  files = wrote.files ∙ ap (λ (t : Told). with_file t full (take place.len (drop place.at (content t pkg)))) kept.files ∙ ap (λ n. with_file (g.files old) n (content_on g old pkg place)) named
      ∙ ap (λ t. with_given (g.files old) t said.name (content_on g old pkg place)) (sym aimed);
  unsealed = wrote.unsealed ∙ kept.unsealed;
  is = is-found g old pkg len said found place target is good;
}

-- what was checked stays so on a shelf that is only read
pub checked-then : {S : Type 0} (g : Ghosts S) (old between : S) (pkg : List ℕ) (said : FileRecord) (found : Content) → OnlyReads g old between → IsChecked g old pkg said found → IsChecked g between pkg said found
checked-then g old between pkg said found kept good = record {
  len = good.len;
  long = λ known. ap (λ (t : Told). length (take found.len (drop found.at (content t pkg)))) kept.files ∙ good.long (subst IsTold kept.files known);
  sum = λ known. ap (λ (t : Told). md5 (take found.len (drop found.at (content t pkg)))) kept.files ∙ good.sum (subst IsTold kept.files known);
}

pub held-then : {S : Type 0} (g : Ghosts S) (old between : S) (pkg buffer : List ℕ) (found : Content) → OnlyReads g old between → IsHeld g old pkg found buffer → IsHeld g between pkg found buffer
held-then g old between pkg buffer found kept held = λ fits known. held fits (subst IsTold kept.files known) ∙ sym (ap (λ (t : Told). take found.len (drop found.at (content t pkg))) kept.files)

-- what a shelf that was only read before is left as
unchanged-then : {S : Type 0} (g : Ghosts S) (old between new : S) → OnlyReads g old between → Unchanged g between new → Unchanged g old new
unchanged-then g old between new kept left = record { files = left.files ∙ kept.files; unsealed = left.unsealed ∙ kept.unsealed }

part-then : {S : Type 0} (g : Ghosts S) (old between new : S) (name bytes : List ℕ) → OnlyReads g old between → WroteInPart g between new name bytes → WroteInPart g old new name bytes
part-then g old between new name bytes kept part = record {
  free = subst (λ t. IsFree t name) kept.files part.free;
  count = part.count;
  within = part.within;
  files = part.files ∙ ap (λ (t : Told). with_file t name (take part.count bytes)) kept.files;
  unsealed = part.unsealed ∙ ap (λ (u : Unsealed). with_unsealed u name) kept.unsealed;
}

-- it was not written whole
leaves-content : {S : Type 0} (g : Ghosts S) (old between new : S) (pkg dir full : List ℕ) (len : ℕ) (said : FileRecord) (found : Option Content) (place : Content) (target : Option (List ℕ)) → OnlyReads g old between → full ≡ full_name dir said.name → target ≡ Some dir
    → found ≡ Some place → IsChecked g old pkg said place → StoppedWriting g between new full (content_on g between pkg place) → LeavesContent g old new (asked_there pkg len said found target)
leaves-content g old between new pkg dir full len said found place target kept named aimed is good (inl nothing) = inl (unchanged-then g old between new kept nothing)
leaves-content g old between new pkg dir full len said found place target kept named aimed is good (inr part) = inr (record {
  dir = dir;
  aimed = aimed;
  bytes = content_on g old pkg place;
  left = subst (λ n. WroteInPart g old new n (content_on g old pkg place)) named
      (part-then g old between new full (content_on g old pkg place) kept
      (subst (λ (t : Told). WroteInPart g between new full (take place.len (drop place.at (content t pkg)))) kept.files part));
  is = is-found g old pkg len said found place target is good;
})

pub not_given : {S : Type 0} (g : Ghosts S) (old between new : S) (pkg dir full : List ℕ) (len : ℕ) (said : FileRecord) (found : Option Content) (place : Content) (target : Option (List ℕ)) (why : Stop) → OnlyReads g old between → full ≡ full_name dir said.name → target ≡ Some dir
    → found ≡ Some place → IsChecked g old pkg said place → NotWritten g between new pkg place full why → NotGiven g old new (asked_there pkg len said found target) why
not_given g old between new pkg dir full len said found place target (stop.File why) kept named aimed is good stopped =
    (unchanged-then g old between new kept stopped.1, λ known. absurd (stopped.0 (subst IsTold (sym kept.files) known)))
not_given g old between new pkg dir full len said found place target stop.InTheWay kept named aimed is good stopped = record {
  there = subst (λ t. HasFileIn (g.files old) t said.name) (sym aimed) (subst (λ n. HasFile (g.files old) n) named (subst (λ t. HasFile t full) kept.files stopped.0));
  left = unchanged-then g old between new kept stopped.1;
  bytes = content_on g old pkg place;
  is = is-found g old pkg len said found place target is good;
}
not_given g old between new pkg dir full len said found place target (stop.Changed was now) kept named aimed is good stopped =
    (stopped.0, unchanged-then g old between new kept stopped.2, λ known. absurd (stopped.1 (subst IsTold (sym kept.files) known)))
not_given g old between new pkg dir full len said found place target stop.Failed kept named aimed is good stopped =
    let rose = stopped.0 in (omega (arith, rose, kept.faults), leaves-content g old between new pkg dir full len said found place target kept named aimed is good stopped.1)
not_given g old between new pkg dir full len said found place target stop.NoMemory kept named aimed is good stopped = leaves-content g old between new pkg dir full len said found place target kept named aimed is good stopped.1
