use Rattle.std.proofs.Common.{sym, ap, ◌∙◌, ◌<◌, ◌≤◌, length, arith}
use Rattle.cook_bits.specs.declared.names.Seen.TheVariants.{Nothing}
use Rattle.cook_bits.specs.Segments.{are_plain}
use Rattle.std.proofs.lemmas.Bool.Decides.{nat_tests}
use Rattle.cook_bits.proofs.Plain.{is_long, is_short}
use Rattle.cook_bits.proofs.names.is_relative_name.Goals as goal

pub returns-then-bytes-le-MOST_NAME_BYTES : goal.returns-then-bytes-le-MOST_NAME_BYTES
returns-then-bytes-le-MOST_NAME_BYTES c =
    let short : length c.args.name.now ≤ 1024 = grind (arith, c.as_bytes-bytes.ensures.value) in
    c.are_plain_segments.ensures ∙ ap (are_plain Nothing) c.as_bytes-bytes.ensures.value ∙ sym (is_short c.args.name.now short)

pub returns-else-bytes-le-MOST_NAME_BYTES : goal.returns-else-bytes-le-MOST_NAME_BYTES
returns-else-bytes-le-MOST_NAME_BYTES c =
    let long : 1024 < length c.args.name.now = grind (arith, c.as_bytes-bytes.ensures.value) in
    let over : 1024 < length c.as_bytes-bytes.result.now = omega arith in
    rw (is_long c.args.name.now long) (grind (arith, nat_tests))
