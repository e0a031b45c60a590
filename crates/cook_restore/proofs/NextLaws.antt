-- Laws of the next file: what its giving says of the package's meaning.
use Rattle.std.proofs.Common.{◌≡◌, ◌⊎◌, inl, inr, ℕ, zero, suc, ◌+◌, ◌<◌, ◌≤◌, Bool, true, false, if◌then◌else◌, List, ◌∷◌, [], length, get_or, Option, Some, None, Ok, Err, All, IfSome, refl, sym, ap, ◌∙◌, subst, arith}
use Rattle.std.proofs.Math.ListN.{get_or-map as get_or-map-any}
use Rattle.std.proofs.lemmas.List.{get_or-map, length-map}
use Rattle.cook_bits.specs.Names.{is_same_name, full_name}
use Rattle.shelf_core.specs.Reads.{Has}
use Rattle.shelf_core.specs.Writes.{WroteInPart}
use Rattle.shelf_core.specs.declared.shelf.Shelf.{Ghosts}
use Rattle.shelf_core.specs.Told.{Told, HasFile, IsFree, Unsealed, content, with_file}
use Rattle.shelf_core.specs.FileLaws.{HasFile-with_file, IsApart-there, content-apart}
use Rattle.reversal.specs.declared.record.FileRecord.{FileRecord}
use Rattle.cook_restore.specs.Contents.{attached_as, others_of, content_found, content_place, content_places, place_or, PlaceEndsBy}
use Rattle.cook_restore.specs.Giving.{Asked, asked_there, asked_at, Means, IsContentGiven, NotGiven, LeavesContent, numbered}
use Rattle.matroska_read.specs.Inside.{EndsBy}
use Rattle.cook_restore.specs.Meaning.{meaning_of, files_meant, content_meant}
use Rattle.matroska_read.specs.Places.{Places, outline_at}
use Rattle.cook_restore.specs.Restoring.{Fits, AreSideRecords, IsMeant, IsMeantWhereTold, IsEnd, IsEndWhereTold, IsThrough, GivesNext, IsNotGiven, LeavesNext, KeepsPackage, next_name, no_record, record_at, with_given, HasFileIn, IsFreeIn}
use Rattle.cook_restore.specs.declared.contents.Content.{Content}
use Rattle.matroska_read.specs.declared.files.FileAt.{FileAt}
use Rattle.cook_restore.specs.declared.error.FileWhy.{FileWhy}
use Rattle.cook_restore.specs.declared.error.PackageWhy.TheVariants as faults
use Rattle.cook_restore.specs.declared.restorer.Restorer.{Restorer}
use Rattle.cook_restore.specs.declared.restorer.FileSum.{FileSum}
use Rattle.cook_restore.specs.declared.stop.Stop.{Stop}
use Rattle.cook_restore.specs.declared.stop.Stop.TheVariants as stop
use Rattle.cook_restore.proofs.MeaningLaws.{meaning-is, meant-next, meant-fault, meant-whole}
use Rattle.cook_restore.proofs.PlacesLaws.{found-is}

-- ---- where contents stand

-- the place for the record of a number
pub place-at : (attached : List FileAt) (records : List FileRecord) (places : List (Option Content)) (k : ℕ) (d : Option Content) → places ≡ content_places attached records → k < length records → get_or places k d ≡ content_place attached (get_or records k no_record)
unfolding content_places
place-at attached records places k d is inside = ap (λ l. get_or l k d) is ∙ get_or-map (content_place attached) records k no_record d inside

pub places-length : (attached : List FileAt) (records : List FileRecord) (places : List (Option Content)) → places ≡ content_places attached records → length places ≡ length records
unfolding content_places
places-length attached records places is = ap length is ∙ length-map records (content_place attached)

-- the files end in the package, so each content does
named-ends : (len : ℕ) (name : List ℕ) (file : FileAt) (files : List FileAt) (same : Bool) → EndsBy len file → IfSome (place_or None (attached_as name files)) (PlaceEndsBy len) → IfSome (place_or None (if same then Some file else attached_as name files)) (PlaceEndsBy len)
unfolding place_or
named-ends len name file files true ends rest = ends
named-ends len name file files false ends rest = rest

attached-ends : (len : ℕ) (name : List ℕ) (files : List FileAt) → All (EndsBy len) files → IfSome (place_or None (attached_as name files)) (PlaceEndsBy len)
unfolding attached_as place_or
attached-ends len name [] ends = tt
attached-ends len name (file ∷ files) ends = named-ends len name file files (is_same_name file.name name) (ends 0 file (omega arith)) (attached-ends len name files (λ i d inside. ends (suc i) d (omega arith)))

others-end : (len : ℕ) (files : List FileAt) → All (EndsBy len) files → All (EndsBy len) (others_of files)
unfolding others_of
others-end len [] ends = ends
others-end len (file ∷ files) ends = by_side file.side (λ i d inside. ends (suc i) d (omega arith)) (others-end len files (λ i d inside. ends (suc i) d (omega arith)))
  where
    by_side : (side : Bool) → All (EndsBy len) files → All (EndsBy len) (others_of files) → All (EndsBy len) (if side then files else file ∷ others_of files)
    by_side true rest others = rest
    by_side false rest others = with_first
      where
        with_first : All (EndsBy len) (file ∷ others_of files)
        with_first zero d inside = ends 0 d (omega arith)
        with_first (suc i) d inside = others i d (omega arith)

pub place-ends : (len : ℕ) (said : FileRecord) (attached : List FileAt) → All (EndsBy len) attached → IfSome (content_place attached said) (PlaceEndsBy len)
unfolding content_place
place-ends len said attached ends = attached-ends len said.name (others_of attached) (others-end len attached ends)

-- ---- the meaning of the next file

next-named : (before : Restorer) → next_name before ≡ (record_at before before.number).name
next-named before = get_or-map-any (λ (r : FileRecord). r.name) before.records.items before.number no_record

sound-records : (before : Restorer) (bytes : List ℕ) → Fits before bytes → before.number ≤ length (files_meant (content_meant (outline_at before.outline bytes)) before.records.items).files
sound-records before bytes fits = subst (λ m. before.number ≤ length m.files) (meaning-is bytes before.outline before.records.items fits.outline fits.records) fits.sound

pub next-meant : {S : Type 0} (g : Ghosts S) (old : S) (before : Restorer) (bytes : List ℕ) → before.number < length before.records.items → Means g old (asked_at before before.number) (Ok bytes) → IsMeantWhereTold (g.files old) before bytes
next-meant g old before bytes inside is known fits =
    let held : List ℕ = content (g.files old) before.pkg in
    let whole = meaning-is held before.outline before.records.items fits.outline fits.records in
    let meant = meant-next (content_meant (outline_at before.outline held)) before.records.items before.number no_record bytes inside (sound-records before held fits) (is known fits.len) in
    subst (λ m. IsMeant m before.number (next_name before) bytes) (sym whole)
    (subst (λ n. IsMeant (files_meant (content_meant (outline_at before.outline held)) before.records.items) before.number n bytes) (sym (next-named before)) meant)

next-fault : {S : Type 0} (g : Ghosts S) (old : S) (before : Restorer) (why : FileWhy) → before.number < length before.records.items → Means g old (asked_at before before.number) (Err why)
    → IsEndWhereTold (g.files old) before (Some (faults.File (next_name before) why))
next-fault g old before why inside is known fits =
    let held : List ℕ = content (g.files old) before.pkg in
    let whole = meaning-is held before.outline before.records.items fits.outline fits.records in
    let end = meant-fault (content_meant (outline_at before.outline held)) before.records.items before.number no_record why inside (sound-records before held fits) (is known fits.len) in
    subst (λ m. IsEnd m before.number (Some (faults.File (next_name before) why))) (sym whole)
    (subst (λ n. IsEnd (files_meant (content_meant (outline_at before.outline held)) before.records.items) before.number (Some (faults.File n why))) (sym (next-named before)) end)

next-none : (told : Told) (before : Restorer) → length before.records.items ≤ before.number → IsEndWhereTold told before None
next-none told before through known fits =
    let whole = meaning-is (content told before.pkg) before.outline before.records.items fits.outline fits.records in
    subst (λ m. IsEnd m before.number None) (sym whole) (meant-whole (content_meant (outline_at before.outline (content told before.pkg))) before.records.items before.number through (sound-records before (content told before.pkg) fits))

-- ---- what a file that was given leaves

fits-next : (before restorer : Restorer) (bytes : List ℕ) → KeepsPackage before restorer → Fits before bytes → restorer.number ≤ length (meaning_of bytes).files → Fits restorer bytes
fits-next before restorer bytes keeps fits sound = record {
  len = keeps.len ∙ fits.len;
  outline = fits.outline ∙ ap Ok (sym keeps.outline);
  records = subst (λ (p : Places). AreSideRecords (outline_at p bytes) restorer.records.items) (sym keeps.outline) (subst (λ r. AreSideRecords (outline_at before.outline bytes) r) (sym keeps.records) fits.records);
  sound = sound;
}

pub is-given : {S : Type 0} (g : Ghosts S) (old new : S) (before restorer : Restorer) (sum : FileSum) → before.ended ≡ false → before.number < length before.records.items → sum.number ≡ before.number → restorer.number ≡ before.number + 1 → restorer.ended ≡ false
    → KeepsPackage before restorer → IsContentGiven g old new (asked_at before before.number) sum.length → GivesNext g old new before restorer (Some sum)
is-given g old new before restorer sum running inside numbered one_more goes_on keeps given =
    let meant = next-meant g old before given.bytes inside given.is in
    record {
      next = record { running = running; next = numbered; within = inside };
      one_more = one_more;
      running = goes_on;
      bytes = given.bytes;
      long = given.long;
      free = subst (λ n. IsFreeIn (g.files old) before.target n) (sym (next-named before)) given.free;
      files = given.files ∙ ap (λ n. with_given (g.files old) before.target n given.bytes) (sym (next-named before));
      unsealed = given.unsealed;
      meant = meant;
      fits = λ known fits. fits-next before restorer (content (g.files old) before.pkg) keeps fits (omega (arith, one_more, (meant known fits).within));
    }

pub is-through : (told : Told) (unsealed_before : Unsealed) (before : Restorer) → (before.ended ≡ true) ⊎ (length before.records.items ≤ before.number) → IsThrough told told unsealed_before unsealed_before before before
is-through told unsealed_before before why = record {
  why = why;
  number = refl;
  ended = refl;
  files = refl;
  unsealed = refl;
  whole = λ running. by_why running why;
}
  where
    by_why : before.ended ≡ false → (before.ended ≡ true) ⊎ (length before.records.items ≤ before.number) → IsEndWhereTold told before None
    by_why running (inl ended) = absurd (cc)
    by_why running (inr through) = next-none told before through

left-next : {S : Type 0} (g : Ghosts S) (old new : S) (before : Restorer) → before.number < length before.records.items → LeavesContent g old new (asked_at before before.number)
    → LeavesNext (g.files old) (g.files new) (g.unsealed old) (g.unsealed new) before
left-next g old new before inside (inl nothing) = inl nothing
left-next g old new before inside (inr part) = inr (record {
  dir = part.dir;
  target = part.aimed;
  bytes = part.bytes;
  left = subst (λ n. WroteInPart g old new (full_name part.dir n) part.bytes) (sym (next-named before)) part.left;
  meant = next-meant g old before part.bytes inside part.is;
})

pub is-not_given : {S : Type 0} (g : Ghosts S) (old new : S) (before : Restorer) (number : ℕ) (why : Stop) → before.ended ≡ false → before.number < length before.records.items → number ≡ before.number
    → NotGiven g old new (asked_at before before.number) why → IsNotGiven g old new before (numbered number why)
is-not_given g old new before number (stop.File why) running inside is stopped = record {
  next = record { running = running; next = is; within = inside };
  files = stopped.0.files;
  unsealed = stopped.0.unsealed;
  ends = next-fault g old before why inside stopped.1;
}
is-not_given g old new before number stop.InTheWay running inside is stopped = record {
  next = record { running = running; next = is; within = inside };
  there = subst (λ n. HasFileIn (g.files old) before.target n) (sym (next-named before)) stopped.there;
  files = stopped.left.files;
  unsealed = stopped.left.unsealed;
  bytes = stopped.bytes;
  meant = next-meant g old before stopped.bytes inside stopped.is;
}
is-not_given g old new before number (stop.Changed was now) running inside is stopped = record {
  fewer = stopped.0;
  untold = λ known fits. stopped.2 known fits.len;
  files = stopped.1.files;
  unsealed = stopped.1.unsealed;
}
is-not_given g old new before number stop.Failed running inside is stopped = (stopped.0, left-next g old new before inside stopped.1)
is-not_given g old new before number stop.NoMemory running inside is stopped = left-next g old new before inside stopped

-- ---- the package stays

-- the package is there, with the bytes that it had
pub record Stays (told after : Told) (pkg : List ℕ) : Type 0 where
  pub bytes : content after pkg ≡ content told pkg
  pub there : HasFile after pkg

stays-same : (told after : Told) (pkg : List ℕ) → HasFile told pkg → after ≡ told → Stays told after pkg
stays-same told after pkg there same = record { bytes = ap (λ t. content t pkg) same; there = subst (λ t. HasFile t pkg) (sym same) there }

stays-beside : (told after : Told) (pkg name bytes : List ℕ) → HasFile told pkg → IsFree told name → after ≡ with_file told name bytes → Stays told after pkg
stays-beside told after pkg name bytes there free is = record {
  bytes = ap (λ t. content t pkg) is ∙ content-apart told name bytes pkg (IsApart-there told name pkg there free);
  there = subst (λ t. HasFile t pkg) (sym is) (HasFile-with_file told name bytes pkg there);
}

stays-given : (told after : Told) (pkg name bytes : List ℕ) (target : Option (List ℕ)) → HasFile told pkg → IsFreeIn told target name → after ≡ with_given told target name bytes → Stays told after pkg
stays-given told after pkg name bytes None there free is = stays-same told after pkg there is
stays-given told after pkg name bytes (Some dir) there free is = stays-beside told after pkg (full_name dir name) bytes there free is

pub stays : {S : Type 0} (g : Ghosts S) (old new : S) (asked : Asked) (len : ℕ) → Has g old asked.pkg → IsContentGiven g old new asked len → Stays (g.files old) (g.files new) asked.pkg
stays g old new asked len there given = stays-given (g.files old) (g.files new) asked.pkg asked.name given.bytes asked.target there given.free given.files

stays-left : {S : Type 0} (g : Ghosts S) (old new : S) (asked : Asked) → Has g old asked.pkg → LeavesContent g old new asked → Stays (g.files old) (g.files new) asked.pkg
stays-left g old new asked there (inl nothing) = stays-same (g.files old) (g.files new) asked.pkg there nothing.files
stays-left g old new asked there (inr part) = stays-beside (g.files old) (g.files new) asked.pkg _ _ there part.left.free part.left.files

pub stays-stopped : {S : Type 0} (g : Ghosts S) (old new : S) (asked : Asked) (why : Stop) → Has g old asked.pkg → NotGiven g old new asked why → Stays (g.files old) (g.files new) asked.pkg
stays-stopped g old new asked (stop.File why) there stopped = stays-same (g.files old) (g.files new) asked.pkg there stopped.0.files
stays-stopped g old new asked stop.InTheWay there stopped = stays-same (g.files old) (g.files new) asked.pkg there stopped.left.files
stays-stopped g old new asked (stop.Changed was now) there stopped = stays-same (g.files old) (g.files new) asked.pkg there stopped.1.files
stays-stopped g old new asked stop.Failed there stopped = stays-left g old new asked there stopped.1
stays-stopped g old new asked stop.NoMemory there stopped = stays-left g old new asked there stopped

-- ---- the giving of a record's file

pub at-any : {A : Type 0} (xs : List A) (k : ℕ) (d e : A) → k < length xs → get_or xs k d ≡ get_or xs k e
at-any [] k d e inside = absurd (omega arith)
at-any (x ∷ xs) zero d e inside = refl
at-any (x ∷ xs) (suc k) d e inside = at-any xs k d e (omega arith)

-- the file of a record, by the place of its content
pub asked-there : (pkg : List ℕ) (said : FileRecord) (place : Option Content) (target : Option (List ℕ)) (restorer : Restorer) (number : ℕ) → pkg ≡ restorer.pkg → said ≡ record_at restorer number → place ≡ content_place restorer.outline.files (record_at restorer number) → target ≡ restorer.target
    → asked_there pkg restorer.len said place target ≡ asked_at restorer number
asked-there pkg said place target restorer number named is there aimed = λ i. record { pkg = named i; len = restorer.len; name = (is i).name; target = aimed i; meant = λ bytes. same bytes i }
  where
    same : (bytes : List ℕ) → content_found said bytes place ≡ content_meant (outline_at restorer.outline bytes) (record_at restorer number)
    same bytes = (λ i. content_found (is i) bytes (there i)) ∙ found-is restorer.outline bytes (record_at restorer number)
