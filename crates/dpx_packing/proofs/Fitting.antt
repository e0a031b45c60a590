-- Samples and pads that fit a frame fit each unit of each line.
use Rattle.std.proofs.Common.{◌≡◌, ℕ, ◌+◌, ◌*◌, ◌<◌, ◌≤◌, List, take, drop, sym, subst, arith}
use Rattle.std.proofs.lemmas.List.{take-take}
use Rattle.std.proofs.lemmas.List.Elements.{All-take, All-drop}
use Rattle.dpx_packing.specs.Blocks.{Form, repeated, with_spare, EachFits}
use Rattle.dpx_packing.specs.Units.{AreBelow, FitUnit}

-- the units' pads of a line, within the line's pads
pub units-pads : (in_line of_line y : ℕ) (pads : List ℕ) → in_line ≤ of_line
    → take in_line (take of_line (drop (y * of_line) pads)) ≡ take in_line (drop (y * of_line) pads)
units-pads in_line of_line y pads low = take-take in_line of_line (drop (y * of_line) pads) low

below-part : (limit at count : ℕ) (xs : List ℕ) → AreBelow limit xs → AreBelow limit (take count (drop at xs))
below-part limit at count xs below =
    All-take (λ x. x < limit) count (drop at xs) (All-drop (λ x. x < limit) at xs below)

pub each-line-fits : (Fits : List ℕ → List ℕ → Type 0) (form : Form) (units spare sample_limit pad_limit height in_line of_line : ℕ) (samples pads : List ℕ)
    → ((s p : List ℕ) → FitUnit sample_limit pad_limit s p → Fits s p) → units * form.pads ≡ in_line
    → units * form.pads + spare ≡ of_line → AreBelow sample_limit samples
    → ((y : ℕ) → y < height → AreBelow pad_limit (take in_line (drop (y * of_line) pads)))
    → EachFits (λ s p. EachFits Fits form units s (take (units * form.pads) p)) (with_spare (repeated form units) spare) height samples pads
each-line-fits Fits form units spare sample_limit pad_limit height in_line of_line samples pads fits in_is of_is samples_fit pads_fit y y_low x x_low =
    let held : ℕ = units * form.pads in
    let line : ℕ = units * form.pads + spare in
    let low : held ≤ line = omega arith in
    let in_frame : AreBelow pad_limit (take held (drop (y * line) pads)) =
    subst (λ n. AreBelow pad_limit (take n (drop (y * line) pads))) (sym in_is)
    (subst (λ n. AreBelow pad_limit (take in_line (drop (y * n) pads))) (sym of_is) (pads_fit y y_low))
    in
    let in_line_pads : AreBelow pad_limit (take held (take line (drop (y * line) pads))) =
    subst (AreBelow pad_limit) (sym (units-pads held line y pads low)) in_frame
    in
    fits _ _ (
      below-part sample_limit (x * form.samples) form.samples (take (units * form.samples) (drop (y * (units * form.samples)) samples))
          (below-part sample_limit (y * (units * form.samples)) (units * form.samples) samples samples_fit),
      below-part pad_limit (x * form.pads) form.pads (take held (take line (drop (y * line) pads))) in_line_pads,
    )
