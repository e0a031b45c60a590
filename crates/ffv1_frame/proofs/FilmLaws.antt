-- The frame that is written of a picture means it.
use Rattle.std.proofs.Common.{◌≡◌, ℕ, zero, suc, ◌+◌, ◌-◌, ◌*◌, ◌/◌, ◌%◌, ◌^◌, ◌<◌, ◌≤◌, ◌⊎◌, inl, inr, Bool, true, cond, ◌==◌, List, [], length, map, get_or, All, Ok, refl, sym, ◌∙◌, ap, ap₂, subst, arith}
use Rattle.std.specs.List.{count_by, range_with_len}
use Rattle.std.proofs.Math.Nat.{mul-le-mul_left}
use Rattle.std.proofs.lemmas.Bool.{cases_lt}
use Rattle.std.proofs.lemmas.Bool.Decides.{nat_tests}
use Rattle.std.proofs.lemmas.List.{get_or_past}
use Rattle.std.proofs.lemmas.List.Elements.{All-nil, All-cons, All-get_or, All-from_get_or}
use Rattle.std.proofs.lemmas.List.FromFn.{length-map-range_with_len, get_or-map-range_with_len}
use Rattle.std.proofs.lemmas.List.Sums.{sum_by-cons}
use Rattle.std.proofs.lemmas.Nat.{div_below, pow_pos}
use Rattle.cook_bits.specs.Laws.{ParityLeavesZero}
use Rattle.dpx_packing.specs.declared.tile.Tile.{Tile}
use Rattle.dpx_packing.specs.Tiles.{has_place, CoverOnce, IsInside as IsTileInside, tile_samples, tile_size, place_of}
use Rattle.dpx_packing.specs.TileLaws.{TilesHoldTheirPixels, HoldsItsPixels}
use Rattle.ffv1_params.specs.Laws.{FilmIsSound, FilmRows}
use Rattle.ffv1_params.specs.Parameters.{Parameters, AreFilm, IsPicture, film_params, film_lines, film_rows}
use Rattle.ffv1_slice.specs.declared.head.SliceHead.{SliceHead}
use Rattle.ffv1_slice.specs.Laws.{IsInside, CodedIsCode, CodedIsHead, CodedIsSome, CodedIsFew}
use Rattle.ffv1_slice.specs.Slice.{IsTile, CodesHead}
use Rattle.ffv1_frame.specs.Footers.{frame_of_slices, slices_of}
use Rattle.ffv1_frame.specs.Grid.{edge, IsGrid, cells_of, tile_of}
use Rattle.ffv1_frame.specs.Laws.{IsSlice}
use Rattle.ffv1_frame.specs.Parts.{no_head, slice_at}
use Rattle.ffv1_frame.specs.Picture.{head_at, CodesTile, IsPictureOf}
use Rattle.ffv1_frame.specs.Written.{film_head, film_grid, film_tile, film_slice, film_slices, film_frame, AreFilmOf, IsPictureIn}
use Rattle.ffv1_frame.proofs.CellCover.{pixels-inside}
use Rattle.ffv1_frame.proofs.EdgeLaws.{edge-first, edge-last}
use Rattle.ffv1_frame.proofs.FooterLaws.{cut-again}

-- ---- the parameters

pub film-columns : (params : Parameters) → AreFilm params → params.columns ≡ 1
unfolding film_params
film-columns params film = ap (λ (p : Parameters). p.columns) film.are

film-ec : (params : Parameters) → AreFilm params → params.ec ≡ true
unfolding film_params
film-ec params film = ap (λ (p : Parameters). p.ec) film.are

film-sets : (params : Parameters) → AreFilm params → length params.sets ≡ 1
unfolding film_params
film-sets params film = ap (λ (p : Parameters). length p.sets) film.are

film-inside : (params : Parameters) (row : ℕ) → AreFilm params → row < params.rows → IsInside params (film_head row)
film-inside params row film low =
    let columns : params.columns ≡ 1 = film-columns params film in
    let sets : length params.sets ≡ 1 = film-sets params film in
    record { columns_some = omega arith; rows_some = omega arith; across = omega arith; down = omega arith; luma_index = omega arith; difference_index = omega arith; count = refl }

pub film-is_grid : FilmRows → (params : Parameters) (width height : ℕ) → AreFilmOf params width height → IsPicture width height → IsGrid (film_grid params width height)
film-is_grid law params width height are size =
    let rows : params.rows ≡ film_rows width height = are.rows in
    let some : 1 ≤ film_rows width height = law.some width height size in
    let few : film_rows width height ≤ 1024 = law.few width height size in
    let within : film_rows width height ≤ height = law.within width height size in
    let wide : 1 ≤ width = size.width_some in
    record { picture = size; columns_some = omega arith; rows_some = omega arith; cells = omega arith; columns_most = wide; rows_most = omega arith }

-- ---- its tiles

pub film-wide : (params : Parameters) (width height row : ℕ) → (film_tile params width height row).width ≡ width
film-wide params width height row =
    let last : edge 1 width 1 ≡ width = edge-last 1 width (omega arith) in
    let first : edge 1 width 0 ≡ 0 = edge-first 1 width (omega arith) in
    omega arith

film-high : FilmRows → (params : Parameters) (width height row : ℕ) → AreFilmOf params width height → IsPicture width height → (film_tile params width height row).height ≤ film_lines width
unfolding edge
film-high law params width height row are size =
    let P : ℕ → Type 0 = λ n. (row + 1) * height / n - row * height / n ≤ film_lines width in
    subst P (sym are.rows) (law.tile width height row size)

film-small : FilmRows → (params : Parameters) (width height row : ℕ) → AreFilmOf params width height → IsPicture width height
    → 105 * ((film_tile params width height row).width * (film_tile params width height row).height) ≤ 16000000
film-small law params width height row are size =
    let high : (film_tile params width height row).height ≤ film_lines width = film-high law params width height row are size in
    let product : width * (film_tile params width height row).height ≤ width * film_lines width = mul-le-mul_left width high in
    let bytes : 105 * (width * film_lines width) ≤ 16000000 = law.bytes width height size in
    let wide : (film_tile params width height row).width * (film_tile params width height row).height ≡ width * (film_tile params width height row).height =
    ap (λ n. n * (film_tile params width height row).height) (film-wide params width height row) in
    omega (arith, product, bytes, wide)

pub film-tile_inside : FilmRows → (params : Parameters) (width height row : ℕ) → AreFilmOf params width height → IsPicture width height → row < params.rows
    → IsTileInside width height (film_tile params width height row)
film-tile_inside law params width height row are size low =
    pixels-inside (film_grid params width height) (cells_of (film_head row)) (film-is_grid law params width height are size) (record { across_high = omega arith; down_high = omega arith })

some-wide : (i wide high : ℕ) → i < high * (3 * wide) → 0 < wide
some-wide i zero high low = absurd (omega arith)
some-wide i (suc wide) high low = omega arith

place-of : (i wide high : ℕ) → i < high * (3 * wide) → (i / 3 % wide < wide) × (i / 3 / wide < high) × (i % 3 < 3) × (place_of wide (i / 3 % wide) (i / 3 / wide) (i % 3) ≡ i)
place-of i wide high low =
    let some : 0 < wide = some-wide i wide high low in
    let q : i / 3 < high * wide = div_below i 3 (high * wide) (omega arith) (omega arith) in
    let y : i / 3 / wide < high = div_below (i / 3) wide high some (omega arith) in
    let x : i / 3 % wide < wide = omega arith in
    let line : wide * (i / 3 / wide) + i / 3 % wide ≡ i / 3 = omega arith in
    let colour : 3 * (i / 3) + i % 3 ≡ i = omega arith in
    (x, y, omega arith, omega (arith, line, colour))

below : (bits : ℕ) (samples : List ℕ) (i : ℕ) → All (λ s. s < 2 ^ bits) samples → get_or samples i 0 < 2 ^ bits
below bits samples i within =
    elim (cases_lt i (length samples)) [
      | inl low ↦ All-get_or (λ s. s < 2 ^ bits) samples i 0 low within
      | inr past ↦ let P : ℕ → Type 0 = λ n. n < 2 ^ bits in subst P (sym (get_or_past samples i 0 past)) (pow_pos bits)
    ]

pub film-samples : TilesHoldTheirPixels → (bits width height : ℕ) (samples : List ℕ) (tile : Tile) → IsPictureIn bits width height samples → IsTileInside width height tile
    → IsTile bits tile.width tile.height (tile_samples width samples tile)
film-samples law bits width height samples tile is inside =
    let holds : HoldsItsPixels width samples tile = law width height samples tile inside is.long in
    let size : length (tile_samples width samples tile) ≡ tile_size tile = holds.size in
    record {
      long = omega (arith, size);
      within = All-from_get_or (λ s. s < 2 ^ bits) (tile_samples width samples tile) 0 (λ i low.
          let at = place-of i tile.width tile.height (omega (arith, size, low)) in
          let same : get_or (tile_samples width samples tile) i 0 ≡ get_or samples (place_of width (tile.x + i / 3 % tile.width) (tile.y + i / 3 / tile.width) (i % 3)) 0 =
          ap (λ k. get_or (tile_samples width samples tile) k 0) (sym at.3) ∙ holds.each (i / 3 % tile.width) (i / 3 / tile.width) (i % 3) at.0 at.1 at.2 in
          let P : ℕ → Type 0 = λ n. n < 2 ^ bits in
          subst P (sym same) (below bits samples (place_of width (tile.x + i / 3 % tile.width) (tile.y + i / 3 / tile.width) (i % 3)) is.within));
    }

-- ---- its cells

not-at : (x y row : ℕ) → (y < row) ⊎ (row < y) → cond {A = ℕ} (has_place x y (cells_of (film_head row))) 1 0 ≡ 0
not-at x y row (inl low) = grind (arith, nat_tests)
not-at x y row (inr high) = grind (arith, nat_tests)

is-at : (x y row : ℕ) → x < 1 → y ≡ row → cond {A = ℕ} (has_place x y (cells_of (film_head row))) 1 0 ≡ 1
is-at x y row first at = grind (arith, nat_tests)

count-behind : (x y from count : ℕ) → from + count ≤ y → count_by (λ t. has_place x y t) (map cells_of (map film_head (range_with_len from count))) ≡ 0
count-behind x y from zero past = refl
count-behind x y from (suc count) past =
    sum_by-cons (λ t. cond {A = ℕ} (has_place x y t) 1 0) (cells_of (film_head from)) (map cells_of (map film_head (range_with_len (from + 1) count)))
    ∙ ap₂ (λ (a b : ℕ). a + b) (not-at x y from (inr (omega arith))) (count-behind x y (from + 1) count (omega arith))

count-before : (x y from count : ℕ) → y < from → count_by (λ t. has_place x y t) (map cells_of (map film_head (range_with_len from count))) ≡ 0
count-before x y from zero low = refl
count-before x y from (suc count) low =
    sum_by-cons (λ t. cond {A = ℕ} (has_place x y t) 1 0) (cells_of (film_head from)) (map cells_of (map film_head (range_with_len (from + 1) count)))
    ∙ ap₂ (λ (a b : ℕ). a + b) (not-at x y from (inl low)) (count-before x y (from + 1) count (omega arith))

count-one : (x y from count : ℕ) → x < 1 → from ≤ y → y < from + count → count_by (λ t. has_place x y t) (map cells_of (map film_head (range_with_len from count))) ≡ 1
count-one x y from zero first low high = absurd (omega arith)
count-one x y from (suc count) first low high =
    sum_by-cons (λ t. cond {A = ℕ} (has_place x y t) 1 0) (cells_of (film_head from)) (map cells_of (map film_head (range_with_len (from + 1) count)))
    ∙ elim (cases_lt from y) [
      | inl above ↦ ap₂ (λ (a b : ℕ). a + b) (not-at x y from (inr above)) (count-one x y (from + 1) count first (omega arith) (omega arith))
      | inr at ↦ ap₂ (λ (a b : ℕ). a + b) (is-at x y from first (omega arith)) (count-before x y (from + 1) count (omega arith))
    ]

cells-inside : (rows from count : ℕ) → from + count ≤ rows → All (λ t. IsTileInside 1 rows t) (map cells_of (map film_head (range_with_len from count)))
cells-inside rows from zero fits = All-nil (λ t. IsTileInside 1 rows t)
cells-inside rows from (suc count) fits =
    All-cons (λ t. IsTileInside 1 rows t) (cells_of (film_head from)) (map cells_of (map film_head (range_with_len (from + 1) count)))
    (record { across_high = omega arith; down_high = omega arith })
    (cells-inside rows (from + 1) count (omega arith))

pub film-cover : (count : ℕ) → CoverOnce 1 count (map cells_of (map film_head (range_with_len 0 count)))
film-cover count = record { inside = cells-inside count 0 count (omega arith); once = λ x y x_low y_low. count-one x y 0 count x_low (omega arith) (omega arith) }

-- ---- the frame

-- what the laws of the crates below say
pub record SliceLaws : Type 0 where
  pub code : CodedIsCode
  pub head : CodedIsHead
  pub some : CodedIsSome
  pub few : CodedIsFew
  pub rows : FilmRows
  pub sound : FilmIsSound
  pub pixels : TilesHoldTheirPixels
  pub parity : ParityLeavesZero

-- a slice of the frame, as what is known of it
pub record IsFilmSlice (params : Parameters) (width height : ℕ) (samples : List ℕ) (row : ℕ) : Type 0 where
  pub slice : IsSlice (film_slice params width height samples row)
  pub head : CodesHead params (row == 0) (film_slice params width height samples row) (film_head row)
  pub codes : CodesTile params (film_grid params width height) row (film_slice params width height samples row) (film_head row) (tile_samples width samples (film_tile params width height row))

below_footer : (n : ℕ) → n ≤ 16001000 → n < 2 ^ 24
below_footer n few = omega arith

pub film-slice : SliceLaws → (params : Parameters) (width height : ℕ) (samples : List ℕ) (row : ℕ) → AreFilmOf params width height → IsPictureIn params.bits width height samples → row < params.rows
    → IsFilmSlice params width height samples row
unfolding film_slice
film-slice laws params width height samples row are is low =
    let inside : IsInside params (film_head row) = film-inside params row are.film low in
    let tile_in : IsTileInside width height (film_tile params width height row) = film-tile_inside laws.rows params width height row are is.size low in
    let tile : IsTile params.bits (film_tile params width height row).width (film_tile params width height row).height (tile_samples width samples (film_tile params width height row)) =
    film-samples laws.pixels params.bits width height samples (film_tile params width height row) is tile_in in
    let wide : 1 ≤ (film_tile params width height row).width = let e : (film_tile params width height row).width ≡ width = film-wide params width height row in let some : 1 ≤ width = is.size.width_some in omega (arith, e, some) in
    let few = laws.few params (film_head row) (film_tile params width height row).width (film_tile params width height row).height (row == 0) (tile_samples width samples (film_tile params width height row)) (laws.sound params are.film) inside
    (film-small laws.rows params width height row are is.size) in
    record {
      slice = record {
        some = laws.some params (film_head row) (film_tile params width height row).width (film_tile params width height row).height (row == 0) (tile_samples width samples (film_tile params width height row)) (laws.sound params are.film) inside wide tile;
        small = below_footer _ few;
      };
      head = laws.head params (film_head row) (film_tile params width height row).width (film_tile params width height row).height (row == 0) (tile_samples width samples (film_tile params width height row)) (laws.sound params are.film) inside wide tile;
      codes = laws.code params (film_head row) (film_tile params width height row).width (film_tile params width height row).height (row == 0) (tile_samples width samples (film_tile params width height row)) (laws.sound params are.film) inside wide tile;
    }

pub film-slices : SliceLaws → (params : Parameters) (width height : ℕ) (samples : List ℕ) → AreFilmOf params width height → IsPictureIn params.bits width height samples
    → All IsSlice (film_slices params width height samples)
film-slices laws params width height samples are is =
    All-from_get_or IsSlice (film_slices params width height samples) [] (λ k listed.
    let size : length (film_slices params width height samples) ≡ params.rows = length-map-range_with_len (film_slice params width height samples) 0 params.rows in
    let low : k < params.rows = omega (arith, size, listed) in
    subst IsSlice (sym (get_or-map-range_with_len (film_slice params width height samples) 0 params.rows k k [] low (omega arith))) (film-slice laws params width height samples k are is low).slice)

-- the written frame is cut into the writer's slices
pub film-cut : SliceLaws → (params : Parameters) (width height : ℕ) (samples : List ℕ) → AreFilmOf params width height → IsPictureIn params.bits width height samples
    → slices_of params.ec (film_frame params width height samples) ≡ Ok (film_slices params width height samples)
unfolding film_frame
film-cut laws params width height samples are is =
    let size : length (film_slices params width height samples) ≡ params.rows = length-map-range_with_len (film_slice params width height samples) 0 params.rows in
    let grid : IsGrid (film_grid params width height) = film-is_grid laws.rows params width height are is.size in
    let rows : 1 ≤ params.rows = grid.rows_some in
    let few : 1 * params.rows ≤ 1024 = grid.cells in
    ap (λ (ec : Bool). slices_of ec (frame_of_slices (film_slices params width height samples))) (film-ec params are.film)
    ∙ cut-again laws.parity (film_slices params width height samples) (film-slices laws params width height samples are is) (omega (arith, size, rows)) (omega (arith, size, few))

-- the frame of a picture means the picture
pub film-means : SliceLaws → (params : Parameters) (width height : ℕ) (samples : List ℕ) → AreFilmOf params width height → IsPictureIn params.bits width height samples
    → IsPictureOf params (film_grid params width height) (film_frame params width height samples) samples
film-means laws params width height samples are is =
    let size : length (film_slices params width height samples) ≡ params.rows = length-map-range_with_len (film_slice params width height samples) 0 params.rows in
    let heads : length (map film_head (range_with_len 0 params.rows)) ≡ params.rows = length-map-range_with_len film_head 0 params.rows in
    let slice : (k : ℕ) → k < params.rows → slice_at (film_slices params width height samples) k ≡ film_slice params width height samples k = λ k low.
    get_or-map-range_with_len (film_slice params width height samples) 0 params.rows k k [] low (omega arith) in
    let head : (k : ℕ) → k < params.rows → head_at (map film_head (range_with_len 0 params.rows)) k ≡ film_head k = λ k low.
    get_or-map-range_with_len film_head 0 params.rows k k no_head low (omega arith) in
    record {
      slices = film_slices params width height samples;
      heads = map film_head (range_with_len 0 params.rows);
      cut = record {
        slices_are = film-cut laws params width height samples are is;
        heads_are = record {
          count = heads ∙ sym size;
          each = λ k listed.
              let low : k < params.rows = omega (arith, size, listed) in
              let P : List ℕ → Type 0 = λ b. CodesHead params (k == 0) b (head_at (map film_head (range_with_len 0 params.rows)) k) in
              let Q : SliceHead → Type 0 = λ h. CodesHead params (k == 0) (film_slice params width height samples k) h in
              subst P (sym (slice k low)) (subst Q (sym (head k low)) (film-slice laws params width height samples k are is low).head);
        };
        cover = film-cover params.rows;
      };
      long = is.long;
      each = λ k listed.
          let low : k < params.rows = omega (arith, size, listed) in
          let P : List ℕ → Type 0 = λ b. CodesTile params (film_grid params width height) k b (head_at (map film_head (range_with_len 0 params.rows)) k) (tile_samples width samples (tile_of (film_grid params width height) (head_at (map film_head (range_with_len 0 params.rows)) k))) in
          let Q : SliceHead → Type 0 = λ h. CodesTile params (film_grid params width height) k (film_slice params width height samples k) h (tile_samples width samples (tile_of (film_grid params width height) h)) in
          subst P (sym (slice k low)) (subst Q (sym (head k low)) (film-slice laws params width height samples k are is low).codes);
    }
