-- Laws of files that are given one after another into an empty target: how far the work has come, and where it ends.
use Rattle.std.proofs.Common.{◌≡◌, inl, inr, ℕ, ◌+◌, ◌<◌, ◌≤◌, false, List, [], ◌∷◌, length, take, get_or, Option, Some, None, refl, sym, ap, ◌∙◌, subst, arith}
use Rattle.std.proofs.Math.Seq.{take-length}
use Rattle.std.proofs.lemmas.List.Sums.{sum_by_more}
use Rattle.cook_bits.specs.Names.{File, full_name}
use Rattle.shelf_core.specs.Told.{Told, IsTold, HasFile, Unsealed, content, no_file, under, with_file, with_files}
use Rattle.shelf_core.proofs.RestoredLaws.{with_files-one_more, with_files-none, with_files-all, IsTold-with_files_stays, not_there-with_files}
use Rattle.cook_restore.specs.Meaning.{meaning_of}
use Rattle.cook_restore.specs.Restoring.{Fits, IsOpened, KeepsPackage, IsMeant, IsMeantWhereTold, IsEnd, IsEndWhereTold, IsGiven, IsThrough, IsInTheWay, IsGivenPartly, LeavesNext, HasFileIn, with_given, next_name}
use Rattle.cook_restore.specs.declared.error.PackageWhy.{PackageWhy}
use Rattle.cook_restore.specs.declared.restorer.Restorer.{Restorer}
use Rattle.cook_restore.specs.declared.restorer.FileSum.{FileSum}
use Rattle.cook_top.specs.RestoreLaw.{IsRestored, IsCut, IsUnfinished, meant, total_length}
use Rattle.cook_top.specs.Restoring.{IsSumOf}
use Rattle.cook_top.specs.declared.restore.RestoreSum.{RestoreSum}
use Rattle.cook_restore.proofs.MeaningLaws.{files_in_order}

-- How far the work has come: the target has the files before the restorer's next, they are counted and their bytes added up,
-- and what the package holds is as before.
pub record IsUnderWay (told now : Told) (pkg dir : List ℕ) (restorer : Restorer) (sum : RestoreSum) : Type 0 where
  pub named : restorer.pkg ≡ pkg
  pub aimed : restorer.target ≡ Some dir
  pub running : restorer.ended ≡ false
  pub empty : under told dir ≡ []
  pub origin : HasFile told pkg
  pub there : HasFile now pkg
  pub stays : IsTold told → content now pkg ≡ content told pkg
  pub fits : IsTold told → Fits restorer (content told pkg)
  pub files : now ≡ with_files told dir (take restorer.number (meant told pkg).files)
  pub count : sum.files ≡ restorer.number
  pub bytes : IsTold told → sum.bytes ≡ total_length (take restorer.number (meant told pkg).files)

-- ---- where nothing is told

with_file-untold : (name bytes : List ℕ) → with_file None name bytes ≡ None
unfolding with_file
with_file-untold name bytes = refl

pub with_files-untold : (dir : List ℕ) (files : List File) → with_files None dir files ≡ None
unfolding with_files with_file
with_files-untold dir [] = refl
with_files-untold dir (file ∷ files) = with_files-untold dir files

-- ---- files one after another

files_next : (told now after : Told) (dir name bytes : List ℕ) (files : List File) (k : ℕ) → now ≡ with_files told dir (take k files) → after ≡ with_file now (full_name dir name) bytes
    → (IsTold told → (k < length files) × (get_or files k no_file ≡ (name, bytes))) → after ≡ with_files told dir (take (k + 1) files)
unfolding IsTold
files_next None now after dir name bytes files k so_far is next =
    is ∙ ap (λ t. with_file t (full_name dir name) bytes) (so_far ∙ with_files-untold dir (take k files)) ∙ with_file-untold (full_name dir name) bytes ∙ sym (with_files-untold dir (take (k + 1) files))
files_next (Some held) now after dir name bytes files k so_far is next =
    is ∙ ap (λ t. with_file t (full_name dir name) bytes) so_far ∙ ap (λ (file : File). with_file (with_files (Some held) dir (take k files)) (full_name dir file.0) file.1) (sym (next tt).1)
    ∙ sym (with_files-one_more (Some held) dir files k (next tt).0)

files_all : (told now after : Told) (dir : List ℕ) (files : List File) (k : ℕ) → now ≡ with_files told dir (take k files) → after ≡ now → (IsTold told → length files ≡ k) → after ≡ with_files told dir files
unfolding IsTold
files_all None now after dir files k so_far is whole = is ∙ so_far ∙ with_files-untold dir (take k files) ∙ sym (with_files-untold dir files)
files_all (Some held) now after dir files k so_far is whole = is ∙ so_far ∙ ap (λ n. with_files (Some held) dir (take n files)) (sym (whole tt)) ∙ with_files-all (Some held) dir files

length_next : (files : List File) (k total len : ℕ) (name bytes : List ℕ) → k < length files → get_or files k no_file ≡ (name, bytes) → total ≡ total_length (take k files) → len ≡ length bytes
    → total + len ≡ total_length (take (k + 1) files)
unfolding total_length
length_next files k total len name bytes inside next is long =
    let more = sum_by_more (λ (file : File). length file.1) files k no_file inside in
    let here : length (get_or files k no_file).1 ≡ length bytes = ap (λ (file : File). length file.1) next in
    omega (arith, more, here, is, long)

-- ---- what is known of the package

pub told_now : (told now : Told) (pkg dir : List ℕ) (restorer : Restorer) (sum : RestoreSum) → IsUnderWay told now pkg dir restorer sum → IsTold told → IsTold now
told_now told now pkg dir restorer sum way known = subst IsTold (sym way.files) (IsTold-with_files_stays told dir (take restorer.number (meant told pkg).files) known)

content_now : (told now : Told) (pkg dir : List ℕ) (restorer : Restorer) (sum : RestoreSum) → IsUnderWay told now pkg dir restorer sum → IsTold told → content now restorer.pkg ≡ content told pkg
content_now told now pkg dir restorer sum way known = ap (content now) way.named ∙ way.stays known

pub fits_now : (told now : Told) (pkg dir : List ℕ) (restorer : Restorer) (sum : RestoreSum) → IsUnderWay told now pkg dir restorer sum → IsTold told → Fits restorer (content now restorer.pkg)
fits_now told now pkg dir restorer sum way known = subst (Fits restorer) (sym (content_now told now pkg dir restorer sum way known)) (way.fits known)

meant_next : (told now : Told) (pkg dir : List ℕ) (restorer : Restorer) (sum : RestoreSum) (bytes : List ℕ) → IsUnderWay told now pkg dir restorer sum → IsMeantWhereTold now restorer bytes
    → IsTold told → IsMeant (meant told pkg) restorer.number (next_name restorer) bytes
meant_next told now pkg dir restorer sum bytes way meant_now known =
    subst (λ (c : List ℕ). IsMeant (meaning_of c) restorer.number (next_name restorer) bytes) (content_now told now pkg dir restorer sum way known)
    (meant_now (told_now told now pkg dir restorer sum way known) (fits_now told now pkg dir restorer sum way known))

end_next : (told now : Told) (pkg dir : List ℕ) (restorer : Restorer) (sum : RestoreSum) (last : Option PackageWhy) → IsUnderWay told now pkg dir restorer sum → IsEndWhereTold now restorer last
    → IsTold told → IsEnd (meant told pkg) restorer.number last
end_next told now pkg dir restorer sum last way end_now known =
    subst (λ (c : List ℕ). IsEnd (meaning_of c) restorer.number last) (content_now told now pkg dir restorer sum way known)
    (end_now (told_now told now pkg dir restorer sum way known) (fits_now told now pkg dir restorer sum way known))

-- ---- the start, a step and the end

pub under_way-opened : (told now : Told) (pkg dir : List ℕ) (restorer : Restorer) (sum : RestoreSum) → now ≡ told → under told dir ≡ [] → IsOpened told pkg (Some dir) restorer → sum.files ≡ 0 → sum.bytes ≡ 0 → IsUnderWay told now pkg dir restorer sum
unfolding total_length
under_way-opened told now pkg dir restorer sum same empty opened no_file_yet no_byte = record {
  named = opened.named;
  aimed = opened.aimed;
  running = opened.running;
  empty = empty;
  origin = opened.there;
  there = subst (λ (t : Told). HasFile t pkg) (sym same) opened.there;
  stays = λ known. ap (λ t. content t pkg) same;
  fits = opened.fits;
  files = same ∙ sym (with_files-none told dir (meant told pkg).files) ∙ ap (λ n. with_files told dir (take n (meant told pkg).files)) (sym opened.first);
  count = no_file_yet ∙ sym opened.first;
  bytes = λ known. no_byte ∙ ap (λ n. total_length (take n (meant told pkg).files)) (sym opened.first);
}

pub under_way-next : (told now after : Told) (unsealed_before unsealed_after : Unsealed) (pkg dir : List ℕ) (before restorer : Restorer) (given : FileSum) (sum next : RestoreSum)
    → IsUnderWay told now pkg dir before sum → IsGiven now after unsealed_before unsealed_after before restorer given → KeepsPackage before restorer
    → (IsTold now → content after before.pkg ≡ content now before.pkg) → HasFile after before.pkg → next.files ≡ sum.files + 1 → next.bytes ≡ sum.bytes + given.length
    → IsUnderWay told after pkg dir restorer next
under_way-next told now after unsealed_before unsealed_after pkg dir before restorer given sum next way is kept stays there one_file its_bytes = record {
  named = kept.pkg ∙ way.named;
  aimed = kept.target ∙ way.aimed;
  running = is.running;
  empty = way.empty;
  origin = way.origin;
  there = subst (HasFile after) way.named there;
  stays = λ known. ap (content after) (sym way.named) ∙ stays (told_now told now pkg dir before sum way known) ∙ content_now told now pkg dir before sum way known;
  fits = λ known. subst (Fits restorer) (content_now told now pkg dir before sum way known) (is.fits (told_now told now pkg dir before sum way known) (fits_now told now pkg dir before sum way known));
  files = files_next told now after dir (next_name before) is.bytes (meant told pkg).files before.number way.files given_here
      (λ known. let m : IsMeant (meant told pkg) before.number (next_name before) is.bytes = meant_next told now pkg dir before sum is.bytes way is.meant known in (m.within, m.is))
      ∙ ap (λ n. with_files told dir (take n (meant told pkg).files)) (sym is.one_more);
  count = one_file ∙ ap (λ n. n + 1) way.count ∙ sym is.one_more;
  bytes = λ known.
      let m : IsMeant (meant told pkg) before.number (next_name before) is.bytes = meant_next told now pkg dir before sum is.bytes way is.meant known in
      its_bytes ∙ length_next (meant told pkg).files before.number sum.bytes given.length (next_name before) is.bytes m.within m.is (way.bytes known) (is.long (told_now told now pkg dir before sum way known))
      ∙ ap (λ n. total_length (take n (meant told pkg).files)) (sym is.one_more);
}
  where
    given_here : after ≡ with_file now (full_name dir (next_name before)) is.bytes
    given_here = is.files ∙ ap (λ (t : Option (List ℕ)). with_given now t (next_name before) is.bytes) way.aimed

pub restored-ends : (told now after : Told) (pkg dir : List ℕ) (restorer : Restorer) (sum : RestoreSum) (last : Option PackageWhy) → IsUnderWay told now pkg dir restorer sum → after ≡ now → IsEndWhereTold now restorer last
    → IsRestored told after pkg dir last
restored-ends told now after pkg dir restorer sum last way same end = record {
  empty = way.empty;
  there = way.origin;
  ends = λ known. (end_next told now pkg dir restorer sum last way end known).end;
  files = files_all told now after dir (meant told pkg).files restorer.number way.files same (λ known. (end_next told now pkg dir restorer sum last way end known).files);
}

pub restored-through : (told now after : Told) (unsealed_before unsealed_after : Unsealed) (pkg dir : List ℕ) (before restorer : Restorer) (sum : RestoreSum) → IsUnderWay told now pkg dir before sum
    → IsThrough now after unsealed_before unsealed_after before restorer → IsRestored told after pkg dir None
restored-through told now after unsealed_before unsealed_after pkg dir before restorer sum way through = restored-ends told now after pkg dir before sum None way through.files (through.whole way.running)

pub sum-through : (told now after : Told) (unsealed_before unsealed_after : Unsealed) (pkg dir : List ℕ) (before restorer : Restorer) (sum : RestoreSum) → IsUnderWay told now pkg dir before sum
    → IsThrough now after unsealed_before unsealed_after before restorer → IsTold told → IsSumOf (meant told pkg).files sum
sum-through told now after unsealed_before unsealed_after pkg dir before restorer sum way through known = record {
  files = way.count ∙ sym all;
  bytes = way.bytes known ∙ ap (λ n. total_length (take n (meant told pkg).files)) (sym all) ∙ ap total_length (take-length (meant told pkg).files);
}
  where
    all : length (meant told pkg).files ≡ before.number
    all = (end_next told now pkg dir before sum None way (through.whole way.running) known).files

-- ---- a stop

-- where the shelf tells, the target's own files are in nobody's way
pub not_in_the_way : (told now after : Told) (unsealed_before unsealed_after : Unsealed) (pkg dir : List ℕ) (before : Restorer) (sum : RestoreSum) (number : ℕ) → IsUnderWay told now pkg dir before sum
    → IsInTheWay now after unsealed_before unsealed_after before number → IsTold told → ⊥
not_in_the_way told now after unsealed_before unsealed_after pkg dir before sum number way is known =
    not_there-with_files told dir (meant told pkg).files before.number way.empty (files_in_order (content told pkg)).relative (files_in_order (content told pkg)).ascending m.within there known
  where
    m : IsMeant (meant told pkg) before.number (next_name before) is.bytes
    m = meant_next told now pkg dir before sum is.bytes way is.meant known

    there_now : HasFile now (full_name dir (next_name before))
    there_now = subst (λ (t : Option (List ℕ)). HasFileIn now t (next_name before)) way.aimed is.there

    there : HasFile (with_files told dir (take before.number (meant told pkg).files)) (full_name dir (get_or (meant told pkg).files before.number no_file).0)
    there = subst (λ (t : Told). HasFile t (full_name dir (get_or (meant told pkg).files before.number no_file).0)) way.files
        (subst (λ (name : List ℕ). HasFile now (full_name dir name)) (ap (λ (file : File). file.0) (sym m.is)) there_now)

-- what was not told is as before
pub untold-same : (told now after : Told) (pkg dir : List ℕ) (restorer : Restorer) (sum : RestoreSum) → IsUnderWay told now pkg dir restorer sum → after ≡ now → (IsTold told → ⊥) → after ≡ told
unfolding IsTold
untold-same None now after pkg dir restorer sum way same untold = same ∙ way.files ∙ with_files-untold dir _
untold-same (Some held) now after pkg dir restorer sum way same untold = absurd (untold tt)

pub nothing_more : (told now after : Told) (pkg dir : List ℕ) (before : Restorer) (sum : RestoreSum) → IsUnderWay told now pkg dir before sum → after ≡ now → IsUnfinished told after pkg dir
unfolding IsTold
nothing_more None now after pkg dir before sum way same = inl (same ∙ way.files ∙ with_files-untold dir _)
nothing_more (Some held) now after pkg dir before sum way same = inr (record {
  empty = way.empty;
  there = way.origin;
  count = before.number;
  within = (way.fits tt).sound;
  files = inl (same ∙ way.files);
})

cut : (told now after : Told) (pkg dir name bytes : List ℕ) (files : List File) (k front : ℕ) → now ≡ with_files told dir (take k files) → after ≡ with_file now (full_name dir name) (take front bytes) → front ≤ length bytes → k < length files → get_or files k no_file ≡ (name, bytes)
    → IsCut told after dir files k
cut told now after pkg dir name bytes files k front so_far is short inside next = record {
  more = inside;
  front = front;
  short = subst (λ (file : File). front ≤ length file.1) (sym next) short;
  files = is ∙ ap (λ t. with_file t (full_name dir name) (take front bytes)) so_far
      ∙ ap (λ (file : File). with_file (with_files told dir (take k files)) (full_name dir file.0) (take front file.1)) (sym next);
}

cut_short : (told now after : Told) (unsealed_before unsealed_after : Unsealed) (pkg dir : List ℕ) (before : Restorer) (sum : RestoreSum) → IsUnderWay told now pkg dir before sum → IsGivenPartly now after unsealed_before unsealed_after before → IsUnfinished told after pkg dir
unfolding IsTold
cut_short None now after unsealed_before unsealed_after pkg dir before sum way partly =
    inl (partly.left.files ∙ ap (λ t. with_file t (full_name partly.dir (next_name before)) (take partly.left.count partly.bytes)) (way.files ∙ with_files-untold dir _) ∙ with_file-untold _ _)
cut_short (Some held) now after unsealed_before unsealed_after pkg dir before sum way partly =
    let m : IsMeant (meant (Some held) pkg) before.number (next_name before) partly.bytes = meant_next (Some held) now pkg dir before sum partly.bytes way partly.meant tt in
    let same : partly.dir ≡ dir = same_some (sym partly.target ∙ way.aimed) in
    inr (record {
      empty = way.empty;
      there = way.origin;
      count = before.number;
      within = (way.fits tt).sound;
      files = inr (cut (Some held) now after pkg dir (next_name before) partly.bytes (meant (Some held) pkg).files before.number partly.left.count way.files
          (partly.left.files ∙ ap (λ (d : List ℕ). with_file now (full_name d (next_name before)) (take partly.left.count partly.bytes)) same) partly.left.within m.within m.is);
    })
  where
    same_some : {a b : List ℕ} → Some a ≡ Some b → a ≡ b
    same_some e = cc

pub unfinished : (told now after : Told) (unsealed_before unsealed_after : Unsealed) (pkg dir : List ℕ) (before : Restorer) (sum : RestoreSum) → IsUnderWay told now pkg dir before sum → LeavesNext now after unsealed_before unsealed_after before → IsUnfinished told after pkg dir
unfinished told now after unsealed_before unsealed_after pkg dir before sum way (inl nothing) = nothing_more told now after pkg dir before sum way nothing.files
unfinished told now after unsealed_before unsealed_after pkg dir before sum way (inr partly) = cut_short told now after unsealed_before unsealed_after pkg dir before sum way partly
