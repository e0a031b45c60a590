-- The report of a package that was packed.
use Rattle.std.proofs.Common.{◌≡◌, ℕ, List, length, Some, None, subst}
use Rattle.shelf_core.specs.Told.{Told, IsTold, under}
use Rattle.shelf_core.specs.Report.{Text}
use Rattle.cook_pack.specs.Package.{package_of}
use Rattle.cook_top.specs.Laws.{IsDoneOr, IsWritten, Reports, report_of, text_of}
use Rattle.cook_pack.specs.Sum.{IsSumOf}
use Rattle.cook_pack.specs.declared.packing.PackSum.{PackSum}
use Rattle.cook_top.specs.Orders.Order.{Pack}
use Rattle.cook_top.specs.Texts.{pack_line}
use Rattle.cook_top.specs.declared.status.Status.{Status}
use Rattle.cook_top.specs.declared.status.Status.TheVariants.{Done, ReportFault}

line-is : (told : Told) (rate : ℕ) (dir : List ℕ) (sum : PackSum) → IsSumOf (under told dir) rate sum → pack_line sum.files sum.tracks sum.blocks sum.bytes ≡ pack_line (length (under told dir)) 0 0 (length (package_of (under told dir) rate))
line-is told rate dir sum is = λ i. pack_line (is.files i) (is.tracks i) (is.blocks i) (is.bytes i)

-- the report of a package that was packed is the text of its order
pub reports-packed : (told : Told) (workers rate : ℕ) (dir pkg : List ℕ) (fault : Type 0) (before after : Text) (sink sink_now : ℕ) (status : Status) (sum : PackSum) → IsDoneOr fault status → (IsTold told → IsSumOf (under told dir) rate sum)
    → IsWritten before after sink sink_now status (pack_line sum.files sum.tracks sum.blocks sum.bytes) → Reports before after sink sink_now status (text_of (Some (Pack workers rate dir pkg)) told status)
unfolding report_of IsTold
reports-packed None workers rate dir pkg fault before after sink sink_now Done sum is summed written = tt
reports-packed None workers rate dir pkg fault before after sink sink_now ReportFault sum is summed written = tt
reports-packed (Some files) workers rate dir pkg fault before after sink sink_now Done sum is summed written = subst (IsWritten before after sink sink_now Done) (line-is (Some files) rate dir sum (summed tt)) written
reports-packed (Some files) workers rate dir pkg fault before after sink sink_now ReportFault sum is summed written = subst (IsWritten before after sink sink_now ReportFault) (line-is (Some files) rate dir sum (summed tt)) written
reports-packed told workers rate dir pkg fault before after sink sink_now status sum is summed written = absurd is
