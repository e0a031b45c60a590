use Rattle.std.proofs.Common.{◌≡◌, ◌+◌, ◌/◌, ◌++◌, length, arith, refl, ap, ◌∙◌, length-append}
use Rattle.std.proofs.lemmas.List.Elements.{All-append}
use Rattle.slice_pool.proofs.Halves.{shares-front, shares-back, taken-front, taken-back, done-both, all-front, all-back}
use Rattle.slice_pool.proofs.pool.+halves.Goals as goal

pub run_shares-both_halves-requires-clause-shares : goal.run_shares-both_halves-requires-clause-shares
run_shares-both_halves-requires-clause-shares g t c κs within =
    shares-front _ _ c.args.share c.args.shares (c.args.shares / 2) c.args.first (length c.args.answers.now) c.cut_at-next.result _ c.requires.shares (omega arith) (omega arith) c.cut_at-next.ensures.exact (omega arith)

pub run_shares-both_halves-requires-clause-taken : goal.run_shares-both_halves-requires-clause-taken
run_shares-both_halves-requires-clause-taken g t c κs within =
    taken-front (g.T.TileTask.Takes c.args.work.now.task.now) _ c.args.first (length c.args.answers.now) c.cut_at-next.result _ c.args.part.now _ c.split_at_mut-left.result.1.now
    c.requires.sound.ascending c.requires.taken c.cut_at-next.ensures.cut (omega arith) c.split_at_mut-left.ensures.value (c.split_at_mut-left.ensures.front_len ∙ c.place_behind-cut.ensures)

pub run_shares-both_halves-requires-clause-fit : goal.run_shares-both_halves-requires-clause-fit
run_shares-both_halves-requires-clause-fit g t c κs within =
    all-front (g.T.TileTask.Fits c.args.work.now.task.now) _ _ _ c.requires.fit c.split_at_mut-left_scratch.ensures.value

pub run_shares-both_halves-requires-clause-next_shares : goal.run_shares-both_halves-requires-clause-next_shares
run_shares-both_halves-requires-clause-next_shares g t c κs within =
    let sum : length c.args.answers.now ≡ length c.split_at_mut-left_answers.result.0.now + length c.split_at_mut-left_answers.result.1.now =
    ap length c.split_at_mut-left_answers.ensures.value ∙ length-append c.split_at_mut-left_answers.result.0.now c.split_at_mut-left_answers.result.1.now in
    shares-back _ _ c.args.share c.args.shares (c.args.shares / 2) c.args.first (length c.args.answers.now) c.cut_at-next.result _ c.requires.shares (omega arith) c.cut_at-next.ensures.exact (omega arith)

pub run_shares-both_halves-requires-clause-next_taken : goal.run_shares-both_halves-requires-clause-next_taken
run_shares-both_halves-requires-clause-next_taken g t c κs within =
    let sum : length c.args.answers.now ≡ length c.split_at_mut-left_answers.result.0.now + length c.split_at_mut-left_answers.result.1.now =
    ap length c.split_at_mut-left_answers.ensures.value ∙ length-append c.split_at_mut-left_answers.result.0.now c.split_at_mut-left_answers.result.1.now in
    taken-back (g.T.TileTask.Takes c.args.work.now.task.now) _ c.args.first (length c.args.answers.now) c.cut_at-next.result _ c.args.part.now c.split_at_mut-left.result.0.now _
    c.requires.sound.ascending c.requires.taken c.cut_at-next.ensures.cut (omega arith) c.split_at_mut-left.ensures.value (c.split_at_mut-left.ensures.front_len ∙ c.place_behind-cut.ensures)

pub run_shares-both_halves-requires-clause-next_fit : goal.run_shares-both_halves-requires-clause-next_fit
run_shares-both_halves-requires-clause-next_fit g t c κs within =
    all-back (g.T.TileTask.Fits c.args.work.now.task.now) _ _ _ c.requires.fit c.split_at_mut-left_scratch.ensures.value

pub run_shares-returns-clause-done : goal.run_shares-returns-clause-done
run_shares-returns-clause-done g t c =
    let sum : length c.args.answers.now ≡ length c.split_at_mut-left_answers.result.0.now + length c.split_at_mut-left_answers.result.1.now =
    ap length c.split_at_mut-left_answers.ensures.value ∙ length-append c.split_at_mut-left_answers.result.0.now c.split_at_mut-left_answers.result.1.now in
    let front : length c.both_halves.new.answers ≡ length c.split_at_mut-left_answers.result.0.now = c.both_halves.auto.answers in
    let back : length c.both_halves.new.next_answers ≡ length c.split_at_mut-left_answers.result.1.now = c.both_halves.auto.next_answers in
    let both : length (c.both_halves.new.answers ++ c.both_halves.new.next_answers) ≡ length c.both_halves.new.answers + length c.both_halves.new.next_answers =
    length-append c.both_halves.new.answers c.both_halves.new.next_answers in
    done-both (g.T.TileTask.Does c.args.work.now.task.now) c.args.work.now.bounds.now c.args.first (length c.args.answers.now) c.cut_at-next.result
    c.args.part.now _ c.split_at_mut-left.result.0.now c.split_at_mut-left.result.1.now c.both_halves.new.part c.both_halves.new.next_part _ c.both_halves.new.answers c.both_halves.new.next_answers
    c.requires.sound.ascending c.requires.taken.is.inside c.cut_at-next.ensures.cut (c.split_at_mut-left.ensures.front_len ∙ c.place_behind-cut.ensures) (omega arith) (omega arith)
    c.split_at_mut-left.ensures.value refl refl c.both_halves.ensures.done c.both_halves.ensures.next_done

pub run_shares-returns-clause-fit : goal.run_shares-returns-clause-fit
run_shares-returns-clause-fit g t c =
    All-append (g.T.TileTask.Fits c.args.work.now.task.now) c.both_halves.new.scratch c.both_halves.new.next_scratch c.both_halves.ensures.fit c.both_halves.ensures.next_fit
