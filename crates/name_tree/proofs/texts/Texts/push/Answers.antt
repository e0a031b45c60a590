use Rattle.std.proofs.Common.{refl, length, ◌∙◌, ap, ◌++◌, List, ◌∷◌, [], arith}
use Rattle.name_tree.specs.declared.texts.Span.{Span}
use Rattle.name_tree.proofs.Spans.{push_is}
use Rattle.name_tree.proofs.texts.Texts.push.Goals as goal

pub returns-clause-ok : goal.returns-clause-ok
returns-clause-ok c =
    let span : Span = record { start = c.len-start.result; len = length c.args.text.now } in
    push_is c.self.inside.bytes.items c.args.text.now _ c.self.inside.spans.items _ span _ c.self.invariant (omega arith) refl c.in_ok-extend_from_slice.ensures.items (c.in_ok-push.ensures.items ∙ ap (λ (l : List Span). l ++ span ∷ []) c.in_ok-reserve.ensures.items) c.self.view_is
