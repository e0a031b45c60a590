use Rattle.std.proofs.Common.{◌≡◌, ◌≤◌, List, ℕ, refl, sym, subst, ◌∙◌, arith}
use Rattle.ffv1_params.specs.Parameters.{film_tables}
use Rattle.ffv1_params.specs.QuantTables.{context_count}
use Rattle.ffv1_params.proofs.SetLaws.{film_contexts}
use Rattle.ffv1_params.proofs.parameters.film_set.Goals as goal

pub of_runs-requires-clause-few : goal.of_runs-requires-clause-few
of_runs-requires-clause-few c =
    let are : c.as_slice.result.now ≡ film_tables = c.as_slice.ensures.value ∙ rw (c.in_ok-push_runs-5.ensures, c.in_ok-push_runs-4.ensures, c.in_ok-push_runs-3.ensures, c.in_ok-push_runs-2.ensures, c.in_ok-push_runs.ensures, c.new-tables.ensures.items) refl in
    let P : List (List ℕ) → Type 0 = λ tables. context_count tables ≤ 32768 in
    subst P (sym are) (omega (arith, film_contexts))
