use Rattle.std.proofs.Common.{◌≡◌, sym, subst, ◌∙◌, refl}
use Rattle.ffv1_params.specs.Reading.{before_parity, start_place}
use Rattle.ffv1_params.specs.Walk.{ReaderAt, IsAt}
use Rattle.ffv1_params.proofs.ReadLaws.{too_short, bad_parity, bad_start, read_on, gives}
use Rattle.ffv1_params.proofs.reading.read.Goals as goal
use Rattle.ffv1_params.proofs.reading.read.Goals.{then-bytes-lt-PARITY-via-then-bytes-lt-PARITY, then-bytes-lt-PARITY-via-else-bytes-lt-PARITY+then-crc32_high-ne0}

pub returns-then-bytes-lt-PARITY : goal.returns-then-bytes-lt-PARITY
returns-then-bytes-lt-PARITY c = elim c.then-bytes-lt-PARITY.branch [ then-bytes-lt-PARITY-via-then-bytes-lt-PARITY w ↦ too_short c.args.bytes.now w.if-bytes-lt-PARITY.true | then-bytes-lt-PARITY-via-else-bytes-lt-PARITY+then-crc32_high-ne0 w ↦ bad_parity c.args.bytes.now (λ none. w.if-crc32_high-ne0.true (w.crc32_high.ensures ∙ none)) ]

pub returns-in-Some : goal.returns-in-Some
returns-in-Some c =
    let none : _ ≡ 0 = sym c.crc32_high.ensures ∙ c.if-crc32_high-ne0.false in
    let at = c.new-in-Some.ensures.begins (before_parity c.args.bytes.now) c.in-Some.ensures.begins in
    let P : ReaderAt → Type 0 = λ walk. IsAt walk (before_parity c.args.bytes.now) start_place in
    gives c.new-in-Some.result c.params_of.new.fields (before_parity c.args.bytes.now) c.params_of.result _ (subst P (sym c.new-in-Some.ensures.walk) at) (read_on c.args.bytes.now c.if-bytes-lt-PARITY.false none (λ is. absurd (cc (c.in-Some.ensures.refused.1 is)))) c.params_of.ensures

pub returns-in-None : goal.returns-in-None
returns-in-None c =
    let none : _ ≡ 0 = sym c.crc32_high.ensures ∙ c.if-crc32_high-ne0.false in
    bad_start c.args.bytes.now c.if-bytes-lt-PARITY.false none (c.in-None.ensures.refused.0 refl)
