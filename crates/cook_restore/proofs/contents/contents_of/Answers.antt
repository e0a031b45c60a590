use Rattle.std.proofs.Common.{◌∙◌, rules}
use Rattle.cook_restore.proofs.ContentLaws.{places-none, places-more}
use Rattle.cook_restore.proofs.contents.contents_of.Goals as goal

pub loop-said-init : goal.loop-said-init
loop-said-init c = places-none _ _ c.in_ok-contents.ensures.items

pub loop-said-preserved : goal.loop-said-preserved
loop-said-preserved c =
    places-more c.args.files.now c.args.records.now c.loop-said.said-index c.said-item.result c.as_bytes.result.now c.loop-said.contents.items _ c.copied-content.result (search rules) c.said-item.is (c.as_bytes.ensures.value ∙ c.as_str.ensures) c.loop-said.invariant
    (c.copied-content.ensures ∙ c.get.ensures.value ∙ c.in_ok-by_name.ensures c.as_bytes.result.now) c.in_ok-push.ensures.items
