use Rattle.std.proofs.Common.{◌≡◌, ◌∙◌, ap, None, rules}
use Rattle.std.specs.BTreeMap as tree
use Rattle.std.specs.Cmp.Lexicographic.{slice_cmp}
use Rattle.std.specs.Ordering.{nat_cmp}
use Rattle.cook_restore.proofs.ContentLaws.{names-others, names-behind, names-beyond}
use Rattle.cook_restore.proofs.contents.by_names.Goals as goal
use Rattle.cook_restore.proofs.contents.by_names.Goals.{then-side-files+in_ok-add_names, else-side-files}

pub returns : goal.returns
returns c = λ name.
    let nothing : tree.get_by (λ k. slice_cmp nat_cmp name k.now) c.new-by_name.result ≡ None = search rules in
    names-others c.args.files.now name c.side_number.result c.unwrap_or-side.result (tree.get_by (λ k. slice_cmp nat_cmp name k.now) c.if-side-files.by_name) _ c.side_number.ensures c.unwrap_or-side.ensures
    (elim c.if-side-files.branch [
      | then-side-files+in_ok-add_names w ↦ names-behind c.args.files.now name c.unwrap_or-side.result _ _ _ (ap (tree.get_by (λ k. slice_cmp nat_cmp name k.now)) w.by_name-is) (w.in_ok-add_names.ensures name) nothing
      | else-side-files w ↦ names-beyond c.args.files.now name c.unwrap_or-side.result _ w.if-side-files.false (ap (tree.get_by (λ k. slice_cmp nat_cmp name k.now)) w.by_name-is ∙ nothing)
    ])
    (c.in_ok-add_names-2.ensures name)
