-- The lengths of lines, which stay.
use Rattle.std.proofs.Common.{◌≡◌, ℕ, ◌+◌, ◌*◌, ◌≤◌, List, length, replicate, ap, ◌∙◌, subst}
use Rattle.std.proofs.lemmas.List.{length-replicate}
use Rattle.ffv1_slice.specs.declared.lines.Lines.{Lines}
use Rattle.ffv1_slice.specs.declared.lines.Planes.{Planes}
use Rattle.ffv1_slice.specs.Blank.{IsBlank, IsCleared}
use Rattle.ffv1_slice.specs.Planes.{AreBlank}
use Rattle.ffv1_slice.specs.Room.{AreLong, PlanesAreLong, HasRoom, KeepsLength, KeepsRoom}

-- lines went down, and the last of them was written
pub went_down : (old new : Lines) (line : List ℕ) → length line ≡ length old.above2.items → new.above2.items ≡ old.above.items → new.above.items ≡ old.line.items → new.line.items ≡ line → KeepsLength old new
went_down old new line len n2 n1 n0 = record {
  keeps = λ k long. record { above2 = ap length n2 ∙ long.above; above = ap length n1 ∙ long.line; line = ap length n0 ∙ len ∙ long.above2 };
}

pub lines_stay : (lines : Lines) → KeepsLength lines lines
lines_stay lines = record { keeps = λ k long. long }

pub planes_stay : (planes : Planes) → KeepsRoom planes planes
planes_stay planes = record { keeps = λ k long. long }

pub planes_keep : (old new : Planes) → KeepsLength old.luma new.luma → KeepsLength old.blue new.blue → KeepsLength old.red new.red → KeepsRoom old new
planes_keep old new l b r = record { keeps = λ k long. record { luma = l.keeps k long.luma; blue = b.keeps k long.blue; red = r.keeps k long.red } }

pub rooms_joined : (a b c : Planes) → KeepsRoom a b → KeepsRoom b c → KeepsRoom a c
rooms_joined a b c k l = record { keeps = λ n long. l.keeps n (k.keeps n long) }

-- lines that were cleared are blank, and as long as before
lines_blank : (len : ℕ) (old new : Lines) → AreLong len old → IsCleared old new → IsBlank len new
lines_blank len old new long c = record {
  above2 = c.above2 ∙ ap (λ (n : ℕ). replicate n 0) long.above2;
  above = c.above ∙ ap (λ (n : ℕ). replicate n 0) long.above;
  line = c.line ∙ ap (λ (n : ℕ). replicate n 0) long.line;
}

blank_long : (len : ℕ) (lines : Lines) → IsBlank len lines → AreLong len lines
blank_long len lines b = record {
  above2 = ap length b.above2 ∙ length-replicate len 0;
  above = ap length b.above ∙ length-replicate len 0;
  line = ap length b.line ∙ length-replicate len 0;
}

pub planes_blank : (len width : ℕ) (old new : Planes) → width + 3 ≤ len → PlanesAreLong len old → IsCleared old.luma new.luma → IsCleared old.blue new.blue → IsCleared old.red new.red → AreBlank width new
planes_blank len width old new room long l b r = record {
  len = len;
  long = room;
  luma = lines_blank len old.luma new.luma long.luma l;
  blue = lines_blank len old.blue new.blue long.blue b;
  red = lines_blank len old.red new.red long.red r;
}

pub cleared_long : (len : ℕ) (old new : Planes) → PlanesAreLong len old → IsCleared old.luma new.luma → IsCleared old.blue new.blue → IsCleared old.red new.red → PlanesAreLong len new
cleared_long len old new long l b r = record {
  luma = blank_long len new.luma (lines_blank len old.luma new.luma long.luma l);
  blue = blank_long len new.blue (lines_blank len old.blue new.blue long.blue b);
  red = blank_long len new.red (lines_blank len old.red new.red long.red r);
}

-- a scratch that was made
pub room_made : (contexts width slots len : ℕ) (states : List ℕ) (planes : Planes) → length states ≡ slots → slots ≡ 33 + 64 * contexts → len ≡ width + 3 → IsBlank len planes.luma → IsBlank len planes.blue → IsBlank len planes.red → HasRoom contexts width states planes
room_made contexts width slots len states planes n s w l b r =
    let long : PlanesAreLong len planes = record { luma = blank_long len planes.luma l; blue = blank_long len planes.blue b; red = blank_long len planes.red r } in
    record { slots = n ∙ s; lines = subst (λ (k : ℕ). PlanesAreLong k planes) w long }

-- a scratch with which a slice was read
pub room_kept : (contexts width : ℕ) (states states' : List ℕ) (old cleared new : Planes) → HasRoom contexts width states old → length states' ≡ length states → IsCleared old.luma cleared.luma → IsCleared old.blue cleared.blue → IsCleared old.red cleared.red → KeepsRoom cleared new → HasRoom contexts width states' new
room_kept contexts width states states' old cleared new h n l b r k = record {
  slots = n ∙ h.slots;
  lines = k.keeps (width + 3) (cleared_long (width + 3) old cleared h.lines l b r);
}

pub ruleset rooms = (lines_stay, planes_stay, planes_keep, rooms_joined)
