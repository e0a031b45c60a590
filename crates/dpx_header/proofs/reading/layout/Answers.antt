use Rattle.std.proofs.Common.{◌≡◌, None, arith, sym}
use Rattle.std.proofs.lemmas.Grind.{common_steps}
use Rattle.dpx_header.specs.Layout.{first_broken, file_rules}
use Rattle.dpx_header.proofs.Kept.{layout_of-kept, well_formed}
use Rattle.dpx_header.proofs.reading.layout.Goals as goal

pub returns-clause-exact : goal.returns-clause-exact
returns-clause-exact c =
    let file : first_broken (file_rules c.args.head.now c.args.file_len) ≡ None = grind (arith, common_steps) in
    let whole = layout_of-kept c.args.head.now c.args.file_len c.header_of-header.result c.header_of-header.ensures file (c.in_ok-keeps_image_rules.ensures.kept) (c.in_ok-keeps_sample_rules.ensures.kept) in
    cc

pub returns-clause-formed : goal.returns-clause-formed
returns-clause-formed c = well_formed c.args.head.now c.args.file_len _ (sym (returns-clause-exact c))
