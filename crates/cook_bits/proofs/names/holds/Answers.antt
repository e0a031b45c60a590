use Rattle.std.proofs.Common.{rules, ◌∙◌}
use Rattle.std.specs.Ordering.{nat_cmp}
use Rattle.std.specs.Cmp.Lexicographic.{slice_cmp}
use Rattle.std.proofs.lemmas.Fn.{always_returns_same}
use Rattle.cook_bits.proofs.Folders.{is_found}
use Rattle.cook_bits.proofs.names.holds.Goals as goal

-- the closure compares the name of what is held with the folder
pub returns : goal.returns
returns g c =
    let search_is = c.binary_search_by.ensures in
    let by_name = search_is.position (λ held. slice_cmp nat_cmp (g.N.Named.name_of held) c.args.folder.now) (always_returns_same _ _ _ (λ a r f called. search rules)) in
    c.is_ok.ensures.value ∙ is_found g.N.Named.name_of c.args.folder.now c.args.sorted.now c.binary_search_by.result c.requires search_is.bound by_name
