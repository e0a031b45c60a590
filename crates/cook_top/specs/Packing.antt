-- An order to pack: what shows why it was given up.
use Rattle.std.specs.Prelude.{ℕ, List, Some}
use Rattle.shelf_core.specs.declared.shelf.Shelf.{Ghosts}
use Rattle.cook_pack.specs.declared.error.PackError.{PackError}
use Rattle.cook_top.specs.Laws.{ShowsFor}
use Rattle.cook_top.specs.Orders.Order.{Pack}
use Rattle.cook_top.specs.Statuses.{status_of_pack_error}

-- what shows an error of pack, whatever a sink counts
abbrev pub ShowsPackError : {S : Type 0} → Ghosts S → ℕ → ℕ → List ℕ → List ℕ → S → S → PackError → Type 0
ShowsPackError g workers rate dir pkg old new error =
    (sink sink_now : ℕ) → ShowsFor g (Some (Pack workers rate dir pkg)) old new sink sink_now (status_of_pack_error error)
