-- The laws of restore, put together from those of the target, the opening and the files.
use Rattle.std.proofs.Common.{◌≡◌, inl, ℕ, zero, suc, ◌≤◌, List, [], ◌∷◌, length, get_or, Option, Some, None, Result, Ok, Err, IfErr, refl, sym, ap, ◌∙◌, subst, arith, true, false}
use Rattle.std.specs.List.{IsFirstBest}
use Rattle.std.specs.Ordering.{nat_cmp, is_lt}
use Rattle.std.specs.declared.cmp.Ordering.TheVariants.{Less}
use Rattle.std.specs.Cmp.Lexicographic.{slice_cmp}
use Rattle.std.proofs.lemmas.List.{length-map}
use Rattle.cook_bits.specs.Names.{File}
use Rattle.shelf_core.specs.Causes.{Rose}
use Rattle.shelf_core.specs.Listing.{plain_entry, plain_entries}
use Rattle.shelf_core.specs.Reads.{CountsStay}
use Rattle.shelf_core.specs.Told.{Told, IsTold, under, with_files}
use Rattle.shelf_core.specs.Report.{Text, with_text, WrittenPartly}
use Rattle.shelf_core.specs.declared.shelf.Entry.{Entry}
use Rattle.shelf_core.specs.declared.shelf.Shelf.{Ghosts}
use Rattle.shelf_core.proofs.UnderLaws.{listed-above_first}
use Rattle.reversal.specs.SideData.{names_of}
use Rattle.cook_restore.specs.Meaning.{Meaning, nothing_for}
use Rattle.cook_restore.specs.Restoring.{IsNotOpened, KeepsPackage, IsNotGiven, name_at, next_name}
use Rattle.cook_restore.specs.declared.error.PackageWhy.{PackageWhy}
use Rattle.cook_restore.specs.declared.error.RestoreError.{RestoreError}
use Rattle.cook_restore.specs.declared.error.RestoreError.TheVariants as unopened
use Rattle.cook_restore.specs.declared.error.FileError.{FileError}
use Rattle.cook_restore.specs.declared.error.FileError.TheVariants as ungiven
use Rattle.cook_restore.specs.declared.error.PackageWhy.TheVariants as broken
use Rattle.cook_restore.specs.declared.restorer.Restorer.{Restorer}
use Rattle.cook_top.specs.Laws.{IsShown, ShowsFor, IsDoneOr, IsWritten, Reports, report_of, text_of}
use Rattle.cook_top.specs.Orders.{Order}
use Rattle.cook_top.specs.Orders.Order.{Restore}
use Rattle.cook_top.specs.RestoreLaw.{RestoreLaw, IsRestored, IsFirstUnder, meant, total_length}
use Rattle.cook_top.specs.Restoring.{is_below, IsFirstName, IsStatusOf, IsSumOf, IsUndone, StopsRestoring}
use Rattle.cook_top.specs.Statuses.{status_of_restore_error}
use Rattle.cook_top.specs.Texts.{line_of, restore_line}
use Rattle.cook_top.specs.declared.restore.RestoreSum.{RestoreSum}
use Rattle.cook_top.specs.declared.status.Status.{Status}
use Rattle.cook_top.specs.declared.status.Status.TheVariants.{Done, Usage, Refused, PackageRefused, InTheWay, ShelfFault, NoMemory, ReportFault, Changed, Missing}
use Rattle.cook_top.proofs.GivingLaws.{IsUnderWay, told_now, fits_now, restored-ends, not_in_the_way, untold-same, unfinished, nothing_more, with_files-untold}

-- ---- the target

no_file_listed : (files : List File) → plain_entries files ≡ [] → files ≡ []
no_file_listed [] none = refl
no_file_listed (file ∷ files) none = absurd (cc)

pub empty_target : (told : Told) (dir : List ℕ) (entries : List Entry) → (IsTold told → entries ≡ plain_entries (under told dir)) → entries ≡ [] → under told dir ≡ []
unfolding IsTold under
empty_target None dir entries listed none = refl
empty_target (Some files) dir entries listed none = no_file_listed _ (sym (listed tt) ∙ none)

below : (a b : List ℕ) → slice_cmp nat_cmp a b ≡ Less → is_lt (slice_cmp nat_cmp a b) ≡ false → ⊥
below a b less not = absurd (clash (ap is_lt (sym less) ∙ not))
  where
    clash : is_lt Less ≡ false → ⊥
    clash e = cc

first_at : (told : Told) (dir name : List ℕ) (place : ℕ) (files : List File) (d : Entry) → under told dir ≡ files → IsFirstBest is_below (plain_entries (under told dir)) (length (plain_entries (under told dir))) place
    → name ≡ (get_or (plain_entries (under told dir)) place d).name → IsFirstUnder told dir name
first_at told dir name place [] d is first named = absurd (omega (arith, length-map (under told dir) plain_entry, ap length is, first.0))
first_at told dir name zero (file ∷ rest) d is first named = record { file = file; rest = rest; is = is; named = named ∙ ap (λ (files : List File). (get_or (plain_entries files) 0 d).name) is }
first_at told dir name (suc place) (file ∷ rest) d is first named = absurd (below (get_or (plain_entries (under told dir)) 0 d).name (get_or (plain_entries (under told dir)) (suc place) d).name (listed-above_first told dir (suc place) d (omega arith) first.0) (first.1 0 d (omega (arith, first.0))))

no_entry : Entry
no_entry = record { name = []; plain = true }

pub occupied_target : (told : Told) (dir name : List ℕ) (entries : List Entry) → (IsTold told → entries ≡ plain_entries (under told dir)) → IsFirstName entries name → IsTold told → IsFirstUnder told dir name
occupied_target told dir name entries listed first known =
    let there : IsFirstName (plain_entries (under told dir)) name = subst (λ (es : List Entry). IsFirstName es name) (listed known) first in
    first_at told dir name there.place (under told dir) no_entry refl there.first (there.named no_entry)

-- ---- the package was not opened

nothing_given : (told : Told) (dir : List ℕ) (meaning : Meaning) (why : PackageWhy) → (IsTold told → meaning ≡ nothing_for why) → told ≡ with_files told dir meaning.files
unfolding IsTold with_files
nothing_given None dir meaning why is = sym (with_files-untold dir meaning.files)
nothing_given (Some files) dir meaning why is = ap (λ (m : Meaning). with_files (Some files) dir m.files) (sym (is tt))

pub law_unopened : (told after : Told) (pkg dir : List ℕ) (faults faults_now : ℕ) (error : RestoreError) → under told dir ≡ [] → IsNotOpened told pkg faults faults_now error → after ≡ told → RestoreLaw told after pkg dir (status_of_restore_error error)
law_unopened told after pkg dir faults faults_now (unopened.Package why) empty is same = record {
  empty = empty;
  there = is.there;
  ends = λ known. ap (λ (m : Meaning). m.end) (is.meant known);
  files = same ∙ nothing_given told dir (meant told pkg) why is.meant;
}
law_unopened told after pkg dir faults faults_now (unopened.Missing name) empty is same = record { empty = empty; free = is.1; named = is.0; files = same }
law_unopened told after pkg dir faults faults_now (unopened.Changed name was now) empty is same = is.1
law_unopened told after pkg dir faults faults_now unopened.Failed empty is same = inl same
law_unopened told after pkg dir faults faults_now unopened.NoMemory empty is same = inl same

-- ---- a file was not given

name_kept : (before restorer : Restorer) (number : ℕ) → KeepsPackage before restorer → number ≡ before.number → name_at restorer number ≡ next_name before
name_kept before restorer number kept next = λ i. get_or (names_of (kept.records i)) (next i) []

pub law_ungiven : {S : Type 0} (g : Ghosts S) (first now after : S) (pkg dir : List ℕ) (before restorer : Restorer) (sum : RestoreSum) (error : FileError) (status : Status) → IsUnderWay (g.files first) (g.files now) pkg dir before sum
    → IsNotGiven g now after before error → KeepsPackage before restorer → IsStatusOf restorer pkg error status → StopsRestoring g first after pkg dir status
law_ungiven g first now after pkg dir before restorer sum (ungiven.File number why) (PackageRefused fault) way is kept said =
    subst (λ (f : PackageWhy). IsRestored (g.files first) (g.files after) pkg dir (Some f)) (sym (said ∙ ap (λ (name : List ℕ). broken.File name why) (name_kept before restorer number kept is.next.next)))
    (restored-ends (g.files first) (g.files now) (g.files after) pkg dir before sum (Some (broken.File (next_name before) why)) way is.files is.ends)
law_ungiven g first now after pkg dir before restorer sum (ungiven.InTheWay number) (InTheWay name) way is kept said = record {
  first = λ known. absurd (not_in_the_way (g.files first) (g.files now) (g.files after) (g.unsealed now) (g.unsealed after) pkg dir before sum number way is known);
  files = untold-same (g.files first) (g.files now) (g.files after) pkg dir before sum way is.files (not_in_the_way (g.files first) (g.files now) (g.files after) (g.unsealed now) (g.unsealed after) pkg dir before sum number way is);
}
law_ungiven g first now after pkg dir before restorer sum (ungiven.Changed was has) (Changed name had left) way is kept said =
    λ known. is.untold (told_now (g.files first) (g.files now) pkg dir before sum way known) (fits_now (g.files first) (g.files now) pkg dir before sum way known)
law_ungiven g first now after pkg dir before restorer sum (ungiven.Changed was has) NoMemory way is kept said = nothing_more (g.files first) (g.files now) (g.files after) pkg dir before sum way is.files
law_ungiven g first now after pkg dir before restorer sum ungiven.Failed ShelfFault way is kept said = unfinished (g.files first) (g.files now) (g.files after) (g.unsealed now) (g.unsealed after) pkg dir before sum way is.1
law_ungiven g first now after pkg dir before restorer sum ungiven.NoMemory NoMemory way is kept said = unfinished (g.files first) (g.files now) (g.files after) (g.unsealed now) (g.unsealed after) pkg dir before sum way is
law_ungiven g first now after pkg dir before restorer sum error status way is kept said = absurd said

pub shown_ungiven : {S : Type 0} (g : Ghosts S) (first now after : S) (workers : ℕ) (pkg dir : List ℕ) (sink sink_now : ℕ) (before restorer : Restorer) (sum : RestoreSum) (error : FileError) (status : Status)
    → IsUnderWay (g.files first) (g.files now) pkg dir before sum → CountsStay g first now → IsNotGiven g now after before error → IsStatusOf restorer pkg error status → ShowsFor g (Some (Restore workers pkg dir)) first after sink sink_now status
shown_ungiven g first now after workers pkg dir sink sink_now before restorer sum (ungiven.File number why) (PackageRefused fault) way fell is said = tt
shown_ungiven g first now after workers pkg dir sink sink_now before restorer sum (ungiven.InTheWay number) (InTheWay name) way fell is said = tt
shown_ungiven g first now after workers pkg dir sink sink_now before restorer sum (ungiven.Changed was has) (Changed name had left) way fell is said =
    ((λ known. is.untold (told_now (g.files first) (g.files now) pkg dir before sum way known) (fits_now (g.files first) (g.files now) pkg dir before sum way known)), omega (arith, said.1, said.2, is.fewer))
shown_ungiven g first now after workers pkg dir sink sink_now before restorer sum (ungiven.Changed was has) NoMemory way fell is said = tt
shown_ungiven g first now after workers pkg dir sink sink_now before restorer sum ungiven.Failed ShelfFault way fell is said = let rose = is.0 in omega (arith, rose, fell.faults)
shown_ungiven g first now after workers pkg dir sink sink_now before restorer sum ungiven.NoMemory NoMemory way fell is said = tt
shown_ungiven g first now after workers pkg dir sink sink_now before restorer sum error status way fell is said = absurd said

-- ---- the target's faults before the others

shown_status : (order : Option Order) (told : Told) (faults faults_then faults_now sink sink_now : ℕ) (status : Status) → faults ≤ faults_then → IsShown order told faults_then faults_now sink sink_now status → IsShown order told faults faults_now sink sink_now status
shown_status order told faults faults_then faults_now sink sink_now ShelfFault fell is = omega arith
shown_status order told faults faults_then faults_now sink sink_now status fell is = is

pub shown_later : (order : Option Order) (told now : Told) (faults faults_then faults_now sink sink_now : ℕ) (result : Result RestoreSum Status) → now ≡ told → faults ≤ faults_then
    → IfErr result (IsShown order now faults_then faults_now sink sink_now) → IfErr result (IsShown order told faults faults_now sink sink_now)
shown_later order told now faults faults_then faults_now sink sink_now (Ok sum) same fell is = tt
shown_later order told now faults faults_then faults_now sink sink_now (Err status) same fell is =
    subst (λ (t : Told). IsShown order t faults faults_now sink sink_now status) same (shown_status order now faults faults_then faults_now sink sink_now status fell is)

-- ---- the report

pub reports-refused : (order : Option Order) (told : Told) (before after : Text) (sink sink_now : ℕ) (status : Status) → IsUndone status → WrittenPartly before (line_of status) after
    → ((Rose sink sink_now → ⊥) → after ≡ with_text before (line_of status)) → Reports before after sink sink_now status (text_of order told status)
reports-refused order told before after sink sink_now Done undone front whole = absurd undone
reports-refused order told before after sink sink_now ReportFault undone front whole = absurd undone
reports-refused order told before after sink sink_now Usage undone front whole = record { front = front; whole = whole; done = λ e. absurd (cc) }
reports-refused order told before after sink sink_now ShelfFault undone front whole = record { front = front; whole = whole; done = λ e. absurd (cc) }
reports-refused order told before after sink sink_now NoMemory undone front whole = record { front = front; whole = whole; done = λ e. absurd (cc) }
reports-refused order told before after sink sink_now (Refused name why) undone front whole = record { front = front; whole = whole; done = λ e. absurd (cc) }
reports-refused order told before after sink sink_now (PackageRefused why) undone front whole = record { front = front; whole = whole; done = λ e. absurd (cc) }
reports-refused order told before after sink sink_now (InTheWay name) undone front whole = record { front = front; whole = whole; done = λ e. absurd (cc) }
reports-refused order told before after sink sink_now (Missing name) undone front whole = record { front = front; whole = whole; done = λ e. absurd (cc) }
reports-refused order told before after sink sink_now (Changed name was now) undone front whole = record { front = front; whole = whole; done = λ e. absurd (cc) }

restore_line-is : (files : List File) (sum : RestoreSum) → IsSumOf files sum → restore_line sum.files sum.bytes ≡ restore_line (length files) (total_length files)
restore_line-is files sum is = λ i. restore_line (is.files i) (is.bytes i)

pub reports-restored : (workers : ℕ) (told : Told) (pkg dir : List ℕ) (fault : Type 0) (before after : Text) (sink sink_now : ℕ) (status : Status) (sum : RestoreSum) → IsDoneOr fault status → (IsTold told → IsSumOf (meant told pkg).files sum)
    → IsWritten before after sink sink_now status (restore_line sum.files sum.bytes) → Reports before after sink sink_now status (text_of (Some (Restore workers pkg dir)) told status)
unfolding report_of IsTold
reports-restored workers None pkg dir fault before after sink sink_now Done sum is summed written = tt
reports-restored workers None pkg dir fault before after sink sink_now ReportFault sum is summed written = tt
reports-restored workers (Some files) pkg dir fault before after sink sink_now Done sum is summed written = subst (IsWritten before after sink sink_now Done) (restore_line-is (meant (Some files) pkg).files sum (summed tt)) written
reports-restored workers (Some files) pkg dir fault before after sink sink_now ReportFault sum is summed written = subst (IsWritten before after sink sink_now ReportFault) (restore_line-is (meant (Some files) pkg).files sum (summed tt)) written
reports-restored workers told pkg dir fault before after sink sink_now status sum is summed written = absurd is
