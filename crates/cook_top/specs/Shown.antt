-- What the types of this crate show: an order without its references, and the bytes of a piece of a report.
use Rattle.std.specs.Prelude.{ℕ, ◌≤◌, List}
use Rattle.std.specs.Fmt.{decimal}
use Rattle.cook_top.specs.Orders.{Order}
use Rattle.cook_top.specs.Orders.Order.{Pack, Restore}
use Rattle.cook_top.specs.declared.words.Order.{Order as OrderRead}
use Rattle.cook_top.specs.declared.words.Order.TheVariants.{Pack as PackRead, Restore as RestoreRead}
use Rattle.cook_top.specs.declared.report.Piece.{Piece}
use Rattle.cook_top.specs.declared.report.Piece.TheVariants.{Text, Number}

abbrev pub order_shown : OrderRead → Order
order_shown (PackRead workers rate dir pkg) = Pack workers rate dir.now pkg.now
order_shown (RestoreRead workers pkg dir) = Restore workers pkg.now dir.now

-- 1 to 64 workers, and 1 to 240 frames a second
abbrev pub IsInBounds : OrderRead → Type 0
IsInBounds (PackRead workers rate dir pkg) = (1 ≤ workers) × (workers ≤ 64) × (1 ≤ rate) × (rate ≤ 240)
IsInBounds (RestoreRead workers pkg dir) = (1 ≤ workers) × (workers ≤ 64)

abbrev pub piece_bytes : Piece → List ℕ
piece_bytes (Text text) = text.now
piece_bytes (Number number) = decimal number
