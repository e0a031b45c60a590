use Rattle.std.proofs.Common.{rules, arith}
use Rattle.cook_bits.specs.Bits.{AreBytes}
use Rattle.shelf_core.proofs.StoreLaws.{belongs-free, store_laws}
use Rattle.shelf_core.proofs.files.append_to.Goals as goal

-- the file is there
pub returns-in-Err-clause-ok : goal.returns-in-Err-clause-ok
returns-in-Err-clause-ok c = belongs-free _ _ _ _ c.as_slice.ensures.value c.requires.ascending c.in-Err.ensures.free c.requires.there

-- what is added is bytes
pub returns-in-Ok-clause-bytes : goal.returns-in-Ok-clause-bytes
returns-in-Ok-clause-bytes c =
    let more : AreBytes c.args.bytes.now = λ i. omega (arith, c.type_inv.bytes i) in
    search (rules, store_laws, more)
