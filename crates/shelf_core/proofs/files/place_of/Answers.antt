use Rattle.std.proofs.Common.{rules}
use Rattle.std.proofs.lemmas.Fn.{always_returns_same}
use Rattle.shelf_core.specs.Store.{byte_order}
use Rattle.shelf_core.proofs.Places.{searched}
use Rattle.shelf_core.proofs.files.place_of.Goals as goal

-- the closure compares a file's name with the one that is sought
pub returns : goal.returns
returns c =
    let facts = c.binary_search_by.ensures in
    let by_name = facts.position (λ file. byte_order file.0 c.args.name.now) (always_returns_same _ _ _ (λ a r f called. search rules)) in
    searched _ _ _ c.requires facts.bound by_name
