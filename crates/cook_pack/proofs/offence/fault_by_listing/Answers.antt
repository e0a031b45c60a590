use Rattle.std.proofs.Common.{refl, sym, ◌∙◌, arith, true, false}
use Rattle.std.proofs.lemmas.Bool.Decides.{nat_tests}
use Rattle.cook_pack.proofs.OffenceLaws.{by_entry}
use Rattle.cook_pack.proofs.offence.fault_by_listing.Goals as goal

pub returns-then-not-entry : goal.returns-then-not-entry
returns-then-not-entry c = by_entry c.args.entries.now c.args.index c.index-entries-index.result c.as_str-name.result.now false _ _ _ _ c.requires.inside c.index-entries-index.is c.as_str-name.ensures c.if-not-entry.true refl refl refl refl

pub returns-then-not-is_relative_name : goal.returns-then-not-is_relative_name
returns-then-not-is_relative_name c = by_entry c.args.entries.now c.args.index c.index-entries-index.result c.as_str-name.result.now true false _ _ _ c.requires.inside c.index-entries-index.is c.as_str-name.ensures c.if-not-entry.false (sym c.is_relative_name.ensures ∙ c.if-not-is_relative_name.true) refl refl refl

pub returns-then-is_twice : goal.returns-then-is_twice
returns-then-is_twice c = by_entry c.args.entries.now c.args.index c.index-entries-index.result c.as_str-name.result.now true true true _ _ c.requires.inside c.index-entries-index.is c.as_str-name.ensures c.if-not-entry.false (sym c.is_relative_name.ensures ∙ c.if-not-is_relative_name.false) (sym c.is_twice.ensures ∙ c.if-is_twice.true) refl refl

pub returns-then-holds_folder_of : goal.returns-then-holds_folder_of
returns-then-holds_folder_of c = by_entry c.args.entries.now c.args.index c.index-entries-index.result c.as_str-name.result.now true true false true _ c.requires.inside c.index-entries-index.is c.as_str-name.ensures c.if-not-entry.false (sym c.is_relative_name.ensures ∙ c.if-not-is_relative_name.false) (sym c.is_twice.ensures ∙ c.if-is_twice.false) (sym c.holds_folder_of.ensures ∙ c.if-holds_folder_of.true) refl

pub returns-then-index-ge-MOST_FILES : goal.returns-then-index-ge-MOST_FILES
returns-then-index-ge-MOST_FILES c = by_entry c.args.entries.now c.args.index c.index-entries-index.result c.as_str-name.result.now true true false false true c.requires.inside c.index-entries-index.is c.as_str-name.ensures c.if-not-entry.false (sym c.is_relative_name.ensures ∙ c.if-not-is_relative_name.false) (sym c.is_twice.ensures ∙ c.if-is_twice.false) (sym c.holds_folder_of.ensures ∙ c.if-holds_folder_of.false) (grind (arith, nat_tests))

pub returns-else-index-ge-MOST_FILES : goal.returns-else-index-ge-MOST_FILES
returns-else-index-ge-MOST_FILES c = by_entry c.args.entries.now c.args.index c.index-entries-index.result c.as_str-name.result.now true true false false false c.requires.inside c.index-entries-index.is c.as_str-name.ensures c.if-not-entry.false (sym c.is_relative_name.ensures ∙ c.if-not-is_relative_name.false) (sym c.is_twice.ensures ∙ c.if-is_twice.false) (sym c.holds_folder_of.ensures ∙ c.if-holds_folder_of.false) (grind (arith, nat_tests))
