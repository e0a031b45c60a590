-- Samples determine the tile, and bytes the head and the tile.
use Rattle.std.proofs.Common.{◌≡◌, ℕ, zero, suc, ◌+◌, ◌-◌, ◌*◌, ◌/◌, ◌%◌, ◌^◌, ◌<◌, ◌≤◌, List, ◌++◌, Bool, true, false, length, get_or, refl, sym, ap, ◌∙◌, subst, arith, inl, inr}
use Rattle.std.proofs.lemmas.List.{ext_get_or, length-replicate}
use Rattle.std.proofs.lemmas.Nat.{div_below}
use Rattle.std.proofs.Math.Nat.{mod-lt}
use Rattle.std.specs.Prelude.{slice_index}
use Rattle.cook_bits.specs.Bits.{AreBytes}
use Rattle.range_coder.specs.Choices.{Choice, UseSlots}
use Rattle.range_coder.specs.Facts.{SetsOfStates}
use Rattle.range_coder.specs.Laws.{SymbolsPart, SymbolSlots, PartedAreNotBothRead}
use Rattle.range_coder.specs.DefaultTable.{default_one_states}
use Rattle.range_coder.specs.Table.{IsClosed, IsLive, AreLive}
use Rattle.ffv1_params.specs.QuantTables.{most_contexts}
use Rattle.ffv1_params.specs.Parameters.{Parameters, AreSound}
use Rattle.ffv1_slice.specs.declared.head.SliceHead.{SliceHead}
use Rattle.ffv1_slice.specs.Colour.{Pixel, pixel_in, plane_sample, samples_of, from_green}
use Rattle.ffv1_slice.specs.Pixels.{IsPixel}
use Rattle.ffv1_slice.specs.Slice.{header_choices, key_choices, front_choices, slots_of, fresh_slots, slice_states, index_of, IsTile, TellHead, AreRows, Codes}
use Rattle.ffv1_slice.proofs.Depths.{depth_half}
use Rattle.ffv1_slice.proofs.OneSlice.{SameRow, rows_apart, header_apart}
use Rattle.ffv1_slice.proofs.Parting.{SameOrPart, split_apart, part_behind}
use Rattle.ffv1_slice.proofs.SlotsOfSlices.{plane_slots, rows_slots, front_slots}

-- a pixel by its samples
same_pixel : (half : ℕ) (green : Bool) (p q : Pixel) → half ≡ 2 * (half / 2) → IsPixel half p → IsPixel half q → ((plane : ℕ) → plane < 3 → plane_sample half green p plane ≡ plane_sample half green q plane) → (p.red ≡ q.red) × (p.green ≡ q.green) × (p.blue ≡ q.blue)
unfolding plane_sample
same_pixel half true p q even ip iq same =
    let r : p.red < half = ip.red in
    let g : p.green < half = ip.green in
    let b : p.blue < half = ip.blue in
    let r' : q.red < half = iq.red in
    let g' : q.green < half = iq.green in
    let b' : q.blue < half = iq.blue in
    let y : p.green + (p.blue + half - p.green + (p.red + half - p.green)) / 4 - half / 2 ≡ q.green + (q.blue + half - q.green + (q.red + half - q.green)) / 4 - half / 2 = same 0 (omega arith) in
    let cb : p.blue + half - p.green ≡ q.blue + half - q.green = same 1 (omega arith) in
    let cr : p.red + half - p.green ≡ q.red + half - q.green = same 2 (omega arith) in
    let base : p.green ≡ q.green = omega arith in
    let red : p.red ≡ q.red = omega arith in
    let blue : p.blue ≡ q.blue = omega arith in
    (red, base, blue)
same_pixel half false p q even ip iq same =
    let r : p.red < half = ip.red in
    let g : p.green < half = ip.green in
    let b : p.blue < half = ip.blue in
    let r' : q.red < half = iq.red in
    let g' : q.green < half = iq.green in
    let b' : q.blue < half = iq.blue in
    let y : p.blue + (p.green + half - p.blue + (p.red + half - p.blue)) / 4 - half / 2 ≡ q.blue + (q.green + half - q.blue + (q.red + half - q.blue)) / 4 - half / 2 = same 0 (omega arith) in
    let cb : p.green + half - p.blue ≡ q.green + half - q.blue = same 1 (omega arith) in
    let cr : p.red + half - p.blue ≡ q.red + half - q.blue = same 2 (omega arith) in
    let base : p.blue ≡ q.blue = omega arith in
    let red : p.red ≡ q.red = omega arith in
    let green : p.green ≡ q.green = omega arith in
    (red, green, base)

-- tiles of the same samples
pixel_of : (bits width height : ℕ) (tile : List ℕ) (j : ℕ) → IsTile bits width height tile → j < width * height → IsPixel (2 ^ bits) (pixel_in tile j)
pixel_of bits width height tile j t below =
    let long : length tile ≡ 3 * (width * height) = t.long in
    record {
      red = t.within (3 * j) 0 (omega arith);
      green = t.within (3 * j + 1) 0 (omega arith);
      blue = t.within (3 * j + 2) 0 (omega arith);
    }

abbrev SamePixel : List ℕ → List ℕ → ℕ → Type 0
SamePixel a b j = (get_or a (3 * j) 0 ≡ get_or b (3 * j) 0) × (get_or a (3 * j + 1) 0 ≡ get_or b (3 * j + 1) 0) × (get_or a (3 * j + 2) 0 ≡ get_or b (3 * j + 2) 0)

pixels_same : (bits width height : ℕ) (a b : List ℕ) (j : ℕ) → 2 ^ bits ≡ 2 * (2 ^ bits / 2) → 1 ≤ width → IsTile bits width height a → IsTile bits width height b → ((y : ℕ) → y < height → SameRow width (samples_of bits width a) (samples_of bits width b) y) → j < width * height → SamePixel a b j
pixels_same bits width height a b j even some ta tb same below =
    let row : j / width < height = div_below j width height (omega arith) (omega arith) in
    let place : j % width < width = mod-lt j {m = width} (omega arith) in
    let split : j / width * width + j % width ≡ j = omega arith in
    let planes : (plane : ℕ) → plane < 3 → plane_sample (2 ^ bits) (from_green bits) (pixel_in a (j / width * width + j % width)) plane ≡ plane_sample (2 ^ bits) (from_green bits) (pixel_in b (j / width * width + j % width)) plane = λ plane b'. same (j / width) row plane b' (j % width) place in
    let planes' : (plane : ℕ) → plane < 3 → plane_sample (2 ^ bits) (from_green bits) (pixel_in a j) plane ≡ plane_sample (2 ^ bits) (from_green bits) (pixel_in b j) plane = subst (λ (n : ℕ). (plane : ℕ) → plane < 3 → plane_sample (2 ^ bits) (from_green bits) (pixel_in a n) plane ≡ plane_sample (2 ^ bits) (from_green bits) (pixel_in b n) plane) split planes in
    same_pixel (2 ^ bits) (from_green bits) (pixel_in a j) (pixel_in b j) even (pixel_of bits width height a j ta below) (pixel_of bits width height b j tb below) planes'

third : (a b : List ℕ) (i j c : ℕ) → i ≡ 3 * j + c → c < 3 → SamePixel a b j → get_or a i 0 ≡ get_or b i 0
third a b i j zero is small p = let e : i ≡ 3 * j = omega arith in subst (λ (n : ℕ). get_or a n 0 ≡ get_or b n 0) (sym e) p.0
third a b i j (suc zero) is small p = let e : i ≡ 3 * j + 1 = omega arith in subst (λ (n : ℕ). get_or a n 0 ≡ get_or b n 0) (sym e) p.1
third a b i j (suc (suc zero)) is small p = let e : i ≡ 3 * j + 2 = omega arith in subst (λ (n : ℕ). get_or a n 0 ≡ get_or b n 0) (sym e) p.2
third a b i j (suc (suc (suc c))) is small p = absurd (omega arith)

tile_same : (bits width height : ℕ) (a b : List ℕ) → 2 ^ bits ≡ 2 * (2 ^ bits / 2) → 1 ≤ width → IsTile bits width height a → IsTile bits width height b → ((y : ℕ) → y < height → SameRow width (samples_of bits width a) (samples_of bits width b) y) → a ≡ b
tile_same bits width height a b even some ta tb same =
    let la : length a ≡ 3 * (width * height) = ta.long in
    ext_get_or 0 a b (ta.long ∙ sym tb.long) (λ i below.
    let j : ℕ = i / 3 in
    let inside : i / 3 < width * height = omega arith in
    let p : SamePixel a b (i / 3) = pixels_same bits width height a b (i / 3) even some ta tb same inside in
    third a b i (i / 3) (i % 3) (omega arith) (mod-lt i {m = 3} (omega arith)) p)

-- the slots of a whole slice
slots_some : (contexts : ℕ) → 33 ≤ slots_of contexts
slots_some contexts = omega arith

length_fresh : (slots : ℕ) → length (fresh_slots slots) ≡ slots
unfolding fresh_slots
length_fresh slots = length-replicate slots 128

index_within : (params : Parameters) (ns : List ℕ) (h : SliceHead) (plane : ℕ) → TellHead params ns h → index_of h plane < length params.sets
index_within params ns h zero t =
    let count : length ns ≡ 9 = t.count in
    let e : slice_index h.indices 0 ≡ slice_index ns 4 = ap (λ (l : List ℕ). slice_index l 0) t.indices in
    let b : slice_index ns 4 < length params.sets = t.taken.luma_index (omega arith) in
    omega arith
index_within params ns h (suc plane) t =
    let count : length ns ≡ 9 = t.count in
    let e : slice_index h.indices 1 ≡ slice_index ns 5 = ap (λ (l : List ℕ). slice_index l 1) t.indices in
    let b : slice_index ns 5 < length params.sets = t.taken.difference_index (omega arith) in
    omega arith

pub slice_slots : SymbolSlots → SetsOfStates → (params : Parameters) (head : SliceHead) (first : Bool) (width height : ℕ) (ns : List ℕ) (s : ℕ → ℕ → ℕ → ℕ) (cs : List Choice) → AreSound params → TellHead params ns head → AreRows params head width s height cs → UseSlots (length (slice_states params)) (front_choices first ns ++ cs)
slice_slots symbols sets params head first width height ns s cs sound tell rows =
    let slots : ℕ = slots_of (most_contexts params.sets) in
    let front : UseSlots (slots_of (most_contexts params.sets)) (front_choices first ns) = front_slots sets symbols (slots_of (most_contexts params.sets)) first ns (slots_some (most_contexts params.sets)) in
    let behind : UseSlots (slots_of (most_contexts params.sets)) cs = rows_slots sets symbols params head width height s cs (slots_of (most_contexts params.sets)) (λ plane. plane_slots params head plane sound (index_within params ns head plane tell)) rows in
    let both : UseSlots (slots_of (most_contexts params.sets)) (front_choices first ns ++ cs) = sets.both (slots_of (most_contexts params.sets)) (front_choices first ns) cs front behind in
    subst (λ (n : ℕ). UseSlots n (front_choices first ns ++ cs)) (sym (length_fresh (slots_of (most_contexts params.sets)))) both

-- heads by their numbers
head_same : (h k : SliceHead) → h.x ≡ k.x → h.y ≡ k.y → h.columns ≡ k.columns → h.rows ≡ k.rows → h.indices ≡ k.indices → h ≡ k
head_same h k a b c d e =
    let f0 : ℕ → SliceHead = λ n. record { x = n; y = h.y; columns = h.columns; rows = h.rows; indices = h.indices } in
    let f1 : ℕ → SliceHead = λ n. record { x = k.x; y = n; columns = h.columns; rows = h.rows; indices = h.indices } in
    let f2 : ℕ → SliceHead = λ n. record { x = k.x; y = k.y; columns = n; rows = h.rows; indices = h.indices } in
    let f3 : ℕ → SliceHead = λ n. record { x = k.x; y = k.y; columns = k.columns; rows = n; indices = h.indices } in
    let f4 : List ℕ → SliceHead = λ n. record { x = k.x; y = k.y; columns = k.columns; rows = k.rows; indices = n } in
    ap f0 a ∙ ap f1 b ∙ ap f2 c ∙ ap f3 d ∙ ap f4 e

pub one_head : (params : Parameters) (ns ms : List ℕ) (h k : SliceHead) → TellHead params ns h → TellHead params ms k → ns ≡ ms → h ≡ k
one_head params ns ms h k t u same =
    let v : TellHead params ns k = subst (λ (l : List ℕ). TellHead params l k) (sym same) u in
    head_same h k (t.x ∙ sym v.x) (t.y ∙ sym v.y) (t.columns ∙ sym v.columns) (t.rows ∙ sym v.rows) (t.indices ∙ sym v.indices)

-- what stands before the rows
pub fronts_apart : SymbolsPart → (params : Parameters) (first : Bool) (ns ms : List ℕ) (h k : SliceHead) → TellHead params ns h → TellHead params ms k → SameOrPart (ns ≡ ms) (front_choices first ns) (front_choices first ms)
fronts_apart law params first ns ms h k t u =
    elim (header_apart law ns ms t.taken.codable u.taken.codable (t.count ∙ sym u.count)) as (λ _. SameOrPart (ns ≡ ms) (front_choices first ns) (front_choices first ms)) [
      | inl same ↦ inl (same.0, ap (λ (cs : List Choice). key_choices first true ++ cs) same.1)
      | inr part ↦ inr (part_behind (key_choices first true) (header_choices ns) (header_choices ms) part)
    ]

pub one_slice : SymbolsPart → SymbolSlots → SetsOfStates → PartedAreNotBothRead → (params : Parameters) (first : Bool) (width height : ℕ) (bytes : List ℕ) (head head' : SliceHead) (tile tile' : List ℕ) → IsClosed params.table → AreLive params.table (slice_states params) → AreSound params → AreBytes bytes → 1 ≤ width → Codes params first width height bytes head tile → Codes params first width height bytes head' tile' → (head ≡ head') × (tile ≡ tile')
one_slice law symbols sets parted params first width height bytes head head' tile tile' closed live sound are some c d =
    let half = depth_half params.bits sound.depth in
    let rows : SameOrPart ((c.numbers ≡ d.numbers) × ((y : ℕ) → y < height → SameRow width (samples_of params.bits width tile) (samples_of params.bits width tile') y)) (front_choices first c.numbers ++ c.choices) (front_choices first d.numbers ++ d.choices) =
    split_apart (c.numbers ≡ d.numbers) ((y : ℕ) → y < height → SameRow width (samples_of params.bits width tile) (samples_of params.bits width tile') y)
    (front_choices first c.numbers) c.choices (front_choices first d.numbers) d.choices (front_choices first c.numbers ++ c.choices) (front_choices first d.numbers ++ d.choices) refl refl
    (fronts_apart law params first c.numbers d.numbers head head' c.tell d.tell)
    (λ same. rows_apart law params head width height (samples_of params.bits width tile) (samples_of params.bits width tile') c.choices d.choices some c.rows
    (subst (λ (h : SliceHead). AreRows params h width (samples_of params.bits width tile') height d.choices) (sym (one_head params c.numbers d.numbers head head' c.tell d.tell same)) d.rows)) in
    elim rows as (λ _. (head ≡ head') × (tile ≡ tile')) [
      | inl same ↦ (one_head params c.numbers d.numbers head head' c.tell d.tell same.0.0, tile_same params.bits width height tile tile' half.even some c.is_tile d.is_tile same.0.1)
      | inr part ↦ absurd (parted params.table (slice_states params) bytes (front_choices first c.numbers ++ c.choices) (front_choices first d.numbers ++ d.choices) closed live
          (slice_slots symbols sets params head first width height c.numbers (samples_of params.bits width tile) c.choices sound c.tell c.rows)
          (slice_slots symbols sets params head' first width height d.numbers (samples_of params.bits width tile') d.choices sound d.tell d.rows)
          are part c.reads d.reads)
    ]

-- the table of the parameters, and the states at the start
pub fresh_closed : (params : Parameters) (table : List ℕ) → AreSound params → table ≡ default_one_states → IsClosed table → IsClosed params.table
fresh_closed params table sound is closed = subst IsClosed (is ∙ sym sound.table) closed

pub fresh_live : SetsOfStates → (params : Parameters) (table : List ℕ) → AreSound params → table ≡ default_one_states → IsLive table 128 → AreLive params.table (slice_states params)
unfolding fresh_slots
fresh_live sets params table sound is live =
    sets.fresh params.table (slots_of (most_contexts params.sets)) (subst (λ (t : List ℕ). IsLive t 128) (is ∙ sym sound.table) live)
