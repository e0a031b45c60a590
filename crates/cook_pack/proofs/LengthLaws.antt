-- Laws of the lengths of attachments: the steps and bounds of the sums, and that the attachments of a plan are so long.
use Rattle.std.proofs.Common.{◌≡◌, ℕ, suc, ◌+◌, ◌<◌, ◌≤◌, ◌^◌, false, cond, List, [], ◌∷◌, ◌++◌, length, take, map, get_or, sum, refl, sym, ap, ◌∙◌, subst, arith, length-append, add-zero}
use Rattle.std.specs.List.{sum_by}
use Rattle.std.proofs.Math.Seq.{take-length}
use Rattle.std.proofs.lemmas.List.{take_more, length-map, length-take-le, get_or-map}
use Rattle.std.proofs.lemmas.List.Sums.{sum_by_more, sum_by-take-le, get_or-le-sum_by}
use Rattle.cook_bits.specs.Names.{full_name}
use Rattle.shelf_core.specs.Told.{Told, IsTold, content}
use Rattle.reversal.specs.SideData.{side_data_len}
use Rattle.cook_pack.specs.declared.planned_file.PlannedFile.{PlannedFile}
use Rattle.cook_pack.specs.declared.planned_file.PlannedKind.{PlannedKind}
use Rattle.cook_pack.specs.declared.planned_file.PlannedKind.TheVariants.{Other}
use Rattle.cook_pack.specs.Attaching.{AreAttachable, file_of, planned_files}
use Rattle.cook_pack.specs.Lengths.{attached_len, is_attached, others_len, others_planned}
use Rattle.cook_pack.specs.Package.{attached_from, attachment}
use Rattle.cook_pack.specs.Planned.{Planned, IsSound, names_planned, lengths_planned}
use Rattle.matroska_write.specs.AttachedLaws.{length-attached_file}
use Rattle.cook_pack.proofs.PlannedLaws.{short_name}

-- ---- the files at their places

name_of : PlannedFile → List ℕ
name_of file = file.name

length_of : PlannedFile → ℕ
length_of file = file.length

-- at this stage each file is attached as it is
pub others_planned-all : (files : List PlannedFile) → others_planned files ≡ files
others_planned-all [] = refl
others_planned-all (file ∷ files) = kept file file.kind files refl (others_planned-all files)
  where
    kept : (file : PlannedFile) (kind : PlannedKind) (files : List PlannedFile) → file.kind ≡ kind → others_planned files ≡ files → others_planned (file ∷ files) ≡ file ∷ files
    kept file Other files is rest = ap (λ kind. cond (is_attached kind) (file ∷ others_planned files) (others_planned files)) is ∙ ap (λ others. file ∷ others) rest

-- an item of planned files at a place
pub record IsItem (files : List PlannedFile) (k : ℕ) (file : PlannedFile) : Type 0 where
  pub inside : k < length files
  pub is : file ≡ get_or files k file

pub is_item : (files read : List PlannedFile) (k : ℕ) (file : PlannedFile) → read ≡ files → k < length read → file ≡ get_or read k file → IsItem files k file
is_item files read k file same inside is = subst (λ l. IsItem l k file) same (record { inside = inside; is = is })

pub short_at : (plan : Planned) (k : ℕ) (file : PlannedFile) → IsSound plan → k < length plan.files → file ≡ get_or plan.files k file → length file.name ≤ 1024
unfolding name_of
short_at plan k file sound inside is =
    let named = get_or-map name_of plan.files k file [] inside ∙ ap name_of (sym is) in
    subst (λ n. length n ≤ 1024) named (short_name (get_or (names_planned plan.files) k []) (sound.named.relative k [] (omega (arith, length-map plan.files name_of))))

pub length_at : (files : List PlannedFile) (k : ℕ) (file : PlannedFile) → k < length files → file ≡ get_or files k file → get_or (lengths_planned files) k 0 ≡ file.length
unfolding length_of
length_at files k file inside is = get_or-map length_of files k file 0 inside ∙ ap length_of (sym is)

pub small_at : (plan : Planned) (k : ℕ) (file : PlannedFile) → IsSound plan → k < length plan.files → file ≡ get_or plan.files k file → file.length ≤ 2 ^ 50
unfolding length_of
small_at plan k file sound inside is =
    omega (arith, sound.small, length_at plan.files k file inside is, get_or-le-sum_by (λ (n : ℕ). n) (lengths_planned plan.files) k 0 (omega (arith, length-map plan.files length_of)))

pub sum_more : (files : List PlannedFile) (k : ℕ) (file : PlannedFile) → k < length files → file ≡ get_or files k file → sum (take (k + 1) (lengths_planned files)) ≡ sum (take k (lengths_planned files)) + file.length
unfolding length_of
sum_more files k file inside is = sum_by_more (λ (n : ℕ). n) (lengths_planned files) k 0 (omega (arith, length-map files length_of)) ∙ ap (λ n. sum (take k (lengths_planned files)) + n) (length_at files k file inside is)

pub sum_small : (plan : Planned) (k : ℕ) → IsSound plan → sum (take k (lengths_planned plan.files)) ≤ 2 ^ 50
sum_small plan k sound = omega (arith, sound.small, sum_by-take-le (λ (n : ℕ). n) (lengths_planned plan.files) k)

-- ---- the code's sums

pub names_more : (files : List PlannedFile) (k : ℕ) (file : PlannedFile) → k < length files → file ≡ get_or files k file
    → sum_by (λ name. 27 + length name) (take (k + 1) (names_planned files)) ≡ sum_by (λ name. 27 + length name) (take k (names_planned files)) + (27 + length file.name)
unfolding name_of
names_more files k file inside is =
    sum_by_more (λ (name : List ℕ). 27 + length name) (names_planned files) k [] (omega (arith, length-map files name_of))
    ∙ ap (λ n. sum_by (λ (name : List ℕ). 27 + length name) (take k (names_planned files)) + (27 + length n)) (get_or-map name_of files k file [] inside ∙ ap name_of (sym is))

pub side_data_len-all : (files : List PlannedFile) (k : ℕ) → k ≡ length files → 12 + sum_by (λ name. 27 + length name) (take k (names_planned files)) ≡ side_data_len (names_planned files)
unfolding side_data_len name_of
side_data_len-all files k all =
    ap (λ n. 12 + sum_by (λ (name : List ℕ). 27 + length name) (take n (names_planned files))) (all ∙ sym (length-map files name_of))
    ∙ ap (λ l. 12 + sum_by (λ (name : List ℕ). 27 + length name) l) (take-length (names_planned files))

shifted : (uid n : ℕ) → (uid + 1) + n ≡ uid + suc n
shifted uid n = omega arith

alone : (a b : ℕ) → a ≡ b → a + 0 ≡ 0 + b
alone a b same = omega (arith, same)

added : (a b c : ℕ) → a + (b + c) ≡ (a + b) + c
added a b c = omega arith

-- a file more at the end
others_len-push : (uid : ℕ) (files : List PlannedFile) (file : PlannedFile) → others_len uid (files ++ file ∷ []) ≡ others_len uid files + attached_len file.name false (uid + length files) file.length
unfolding others_len
others_len-push uid [] file = alone _ _ (ap (λ n. attached_len file.name false n file.length) (sym (add-zero uid)))
others_len-push uid (first ∷ files) file =
    ap (λ n. attached_len first.name false uid first.length + n) (others_len-push (uid + 1) files file ∙ ap (λ n. others_len (uid + 1) files + attached_len file.name false n file.length) (shifted uid (length files)))
    ∙ added (attached_len first.name false uid first.length) (others_len (uid + 1) files) (attached_len file.name false (uid + suc (length files)) file.length)

pub others_len-more : (files : List PlannedFile) (k : ℕ) (file : PlannedFile) → k < length files → file ≡ get_or files k file
    → others_len 1 (take (k + 1) files) ≡ others_len 1 (take k files) + attached_len file.name false (k + 1) file.length
others_len-more files k file inside is =
    ap (others_len 1) (take_more files k file inside ∙ ap (λ f. take k files ++ f ∷ []) (sym is))
    ∙ others_len-push 1 (take k files) file ∙ ap (λ n. others_len 1 (take k files) + attached_len file.name false n file.length) numbered
  where
    numbered : 1 + length (take k files) ≡ k + 1
    numbered = omega (arith, length-take-le k files (omega arith))

pub others_len-none : others_len 1 [] ≡ 0
unfolding others_len
others_len-none = refl

pub others_len-all : (files : List PlannedFile) (k : ℕ) → k ≡ length files → others_len 1 (take k files) ≡ others_len 1 (others_planned files)
others_len-all files k all = ap (λ n. others_len 1 (take n files)) all ∙ ap (others_len 1) (take-length files ∙ sym (others_planned-all files))

-- ---- the attachments of a plan

-- planned files are as long as the plan says
Measured : Told → List ℕ → PlannedFile → Type 0
Measured told root file = file.length ≡ length (content told (full_name root file.name))

one_is : (told : Told) (root : List ℕ) (uid : ℕ) (file : PlannedFile) → Measured told root file → attached_len file.name false uid file.length ≡ length (attachment uid (file_of told root file))
unfolding Measured
one_is told root uid file measured =
    ap (attached_len file.name false uid) measured ∙ sym (length-attached_file file.name false uid (content told (full_name root file.name)))

others_len-attached : (told : Told) (root : List ℕ) (uid : ℕ) (files : List PlannedFile) → ((k : ℕ) (d : PlannedFile) → k < length files → Measured told root (get_or files k d))
    → others_len uid files ≡ length (attached_from uid (map (file_of told root) files))
unfolding others_len attached_from
others_len-attached told root uid [] measured = refl
others_len-attached told root uid (file ∷ files) measured =
    (λ i. one_is told root uid file (measured 0 file (omega arith)) i + others_len-attached told root (uid + 1) files (λ k d h. measured (suc k) d (omega arith)) i)
    ∙ sym (length-append (attachment uid (file_of told root file)) (attached_from (uid + 1) (map (file_of told root) files)))

-- the attachments of the planned files are as long as the plan says
pub others_len-is : (told : Told) (plan : Planned) (to : List ℕ) → AreAttachable told plan to → IsTold told → others_len 1 plan.files ≡ length (attached_from 1 (planned_files told plan))
unfolding planned_files Measured
others_len-is told plan to ready known = others_len-attached told plan.root 1 plan.files (λ k d h. (ready.each k d h).measured known)
