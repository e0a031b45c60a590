use Rattle.std.proofs.Common.{◌≡◌, ◌≤◌, List, ℕ, length, refl, sym, ap, subst, ◌∙◌}
use Rattle.range_coder.specs.Interval.{ending, coded}
use Rattle.ffv1_params.specs.Record.{record_of, with_parity, film_fields, record_decisions}
use Rattle.ffv1_params.specs.Track.{WriterAt, after_fields}
use Rattle.ffv1_params.proofs.RecordLaws.{start, put_is_coded, length-film}
use Rattle.ffv1_params.proofs.writing.write.Goals as goal

pub returns-clause-spelled : goal.returns-clause-spelled
unfolding record_of with_parity
returns-clause-spelled c =
    let film = film_fields c.args.params.now.bits c.args.params.now.rows in
    let at : c.flags.new.self ≡ after_fields start film = rw (c.in_ok-flags.ensures, c.in_ok-set.ensures, c.in_ok-grid.ensures, c.in_ok-colours.ensures, c.in_ok-version.ensures, c.new-fields.ensures, c.bits.ensures.bits, c.rows.ensures.rows) refl in
    let coded_is : c.in_ok-bytes.bytes ≡ coded (record_decisions film) = c.in_ok-bytes.ensures ∙ (ap (λ (track : WriterAt). ending track.interval) at ∙ put_is_coded c.lists_are_joined.ensures.narrowed film) in
    c.in_ok-append.ensures.ok ∙ rw (c.to_be_bytes.ensures, c.crc32_high-parity.ensures, c.as_slice.ensures, coded_is) refl

pub returns-clause-few : goal.returns-clause-few
returns-clause-few c =
    let P : List ℕ → Type 0 = λ bytes. length bytes ≤ 1000 in
    subst P (sym (returns-clause-spelled c)) (length-film c.args.params.now.bits c.args.params.now.rows)
