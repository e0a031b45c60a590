use Rattle.std.proofs.Common.{◌≡◌, ℕ, List, true, false, sym, ap, ◌∙◌}
use Rattle.name_tree.specs.Held.{refusal_of}
use Rattle.reversal.specs.SideData.{names_of}
use Rattle.reversal.specs.SideReading.{is_above_last, is_good_name}
use Rattle.reversal.proofs.NamesTaken.{good_when, bad_when, refused}
use Rattle.reversal.proofs.names.is_good_name.Goals as goal

pub returns-in-Ok-clause-good : goal.returns-in-Ok-clause-good
returns-in-Ok-clause-good c =
    let above : is_above_last (names_of c.args.held.now) c.args.name.now ≡ true = sym c.is_above_last.ensures ∙ c.if-not-is_above_last.false in
    sym (good_when c.names_are_taken.ensures.behind c.args.held.now c.args.name.now c.requires.sorted above
    (ap (λ (names : List (List ℕ)). refusal_of names c.args.name.now) (sym c.requires.names) ∙ c.in-Ok.ensures.answer))

pub returns-in_default : goal.returns-in_default
returns-in_default c =
    let above : is_above_last (names_of c.args.held.now) c.args.name.now ≡ true = sym c.is_above_last.ensures ∙ c.if-not-is_above_last.false in
    let why = refused c.args.tree.now.names c.args.name.now c.in-Err.why c.in-Err.ensures.answer c.in_default.not-NoMemory in
    let bad : is_good_name (names_of c.args.held.now) c.args.name.now ≡ false = bad_when c.names_are_taken.ensures.behind c.args.held.now c.args.name.now c.requires.sorted above c.in-Err.why
    (ap (λ (names : List (List ℕ)). refusal_of names c.args.name.now) (sym c.requires.names) ∙ why) in
    record { good = sym bad; taken = λ e. absurd (cc) }
