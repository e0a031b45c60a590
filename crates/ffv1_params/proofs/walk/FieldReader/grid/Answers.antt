use Rattle.std.proofs.Common.{◌≡◌, ℕ, sym, subst}
use Rattle.ffv1_params.specs.Reading.{symbol, give}
use Rattle.ffv1_params.specs.Walk.{ReaderAt, Leads}
use Rattle.ffv1_params.proofs.ValueLaws.{grid_given}
use Rattle.ffv1_params.proofs.walk.FieldReader.grid.Goals as goal

as_given : (a b : ReaderAt) (m n : ℕ) → m ≡ n → Leads a b symbol (give n) → Leads a b symbol (give m)
as_given a b m n same here = let P : ℕ → Type 0 = λ k. Leads a b symbol (give k) in subst P (sym same) here

pub returns-clause-answers : goal.returns-clause-answers
returns-clause-answers c = grid_given c.args.self.now c.symbol.new.self c.symbol-2.new.self c.from-columns.result c.from-rows.result (as_given _ _ _ _ c.from-columns.ensures c.in_ok-symbol.ensures.answers) (as_given _ _ _ _ c.from-rows.ensures c.in_ok-symbol-2.ensures.answers) c.if-columns-rows-gt1024.false
