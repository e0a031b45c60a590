-- Numbers of a line that a machine can hold.
use Rattle.std.specs.Prelude.{◌^◌, ◌<◌}
use Rattle.dpx_packing.specs.Blocks.{Form}

pub record Fit64 (form : Form) : Type 0 where
  pub bytes : form.bytes < 2 ^ 64
  pub samples : form.samples < 2 ^ 64
  pub pads : form.pads < 2 ^ 64
