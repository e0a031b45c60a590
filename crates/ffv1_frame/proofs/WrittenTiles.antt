-- The tiles of the writer's grid, and of the frame that is written.
use Rattle.std.proofs.Common.{◌≡◌, ℕ, zero, suc, ◌+◌, ◌<◌, ◌≤◌, Bool, true, ◌&&◌, ◌==◌, List, [], ◌∷◌, length, map, Ok, refl, sym, ◌∙◌, ap, ap₂, subst, arith, eq-eqb}
use Rattle.std.specs.List.{range_with_len}
use Rattle.std.proofs.lemmas.List.{ext_get_or}
use Rattle.std.proofs.lemmas.List.FromFn.{length-map-range_with_len, get_or-map-range_with_len}
use Rattle.cook_bits.specs.Bits.{AreBytes}
use Rattle.dpx_packing.specs.declared.tile.Tile.{Tile}
use Rattle.dpx_packing.specs.Tiles.{CoverOnce, has_lines, are_lines}
use Rattle.range_coder.specs.Laws.{CodedAreBytes}
use Rattle.ffv1_params.specs.Laws.{FilmRows}
use Rattle.ffv1_params.specs.Parameters.{Parameters, AreFilm, IsPicture}
use Rattle.ffv1_slice.specs.declared.head.SliceHead.{SliceHead}
use Rattle.ffv1_slice.specs.Laws.{HeadIsOne}
use Rattle.ffv1_slice.specs.Slice.{CodesHead}
use Rattle.ffv1_frame.specs.declared.cells.Grid.{Grid}
use Rattle.ffv1_frame.specs.declared.part.Part.{Part}
use Rattle.ffv1_frame.specs.Footers.{slices_of}
use Rattle.ffv1_frame.specs.Grid.{edge, IsGrid, IsGridOf, cells_of, pixels_of, tile_of}
use Rattle.ffv1_frame.specs.Parts.{coded_in, head_of, no_head, slice_at, tiles_of, IsCut}
use Rattle.ffv1_frame.specs.Picture.{head_at}
use Rattle.ffv1_frame.specs.Written.{film_head, film_grid, film_tile, film_tiles, film_slice, film_slices, film_frame, AreFilmOf, IsPictureIn}
use Rattle.ffv1_frame.proofs.CellCover.{cells-cover}
use Rattle.ffv1_frame.proofs.EdgeLaws.{edge-first, edge-last, edges-ascend}
use Rattle.ffv1_frame.proofs.FilmLaws.{SliceLaws, film-columns, film-is_grid, film-wide, film-cover, film-slice, film-cut}

-- the grid of the writer's parameters is the writer's
pub film-grid : (params : Parameters) (grid : Grid) → AreFilm params → IsGridOf params grid → grid ≡ film_grid params grid.width grid.height
film-grid params grid film of =
    let g : ℕ → ℕ → Grid = λ c r. record { columns = c; rows = r; width = grid.width; height = grid.height } in
    ap₂ g (of.columns ∙ film-columns params film) of.rows

-- ---- whole lines, in order

both : (a b : Bool) → a ≡ true → b ≡ true → (a && b) ≡ true
both a b p q = rw (p, q) refl

lines-from : (params : Parameters) (width height from count : ℕ) → 1 ≤ params.rows → from + count ≡ params.rows
    → are_lines width height (edge params.rows height from) (map (film_tile params width height) (range_with_len from count)) ≡ true
unfolding are_lines
lines-from params width height from zero some all =
    let end : edge params.rows height from ≡ edge params.rows height params.rows = ap (edge params.rows height) (omega arith) in
    eq-eqb (edge params.rows height from) height (end ∙ edge-last params.rows height some)
lines-from params width height from (suc count) some all =
    let left : (film_tile params width height from).x ≡ 0 = edge-first 1 width (omega arith) in
    let wide : (film_tile params width height from).width ≡ width = film-wide params width height from in
    let up : edge params.rows height from ≤ edge params.rows height (from + 1) = edges-ascend params.rows height from (from + 1) some (omega arith) in
    let next : edge params.rows height (from + 1) ≡ edge params.rows height from + (film_tile params width height from).height = omega (arith, up) in
    let P : ℕ → Type 0 = λ n. are_lines width height n (map (film_tile params width height) (range_with_len (from + 1) count)) ≡ true in
    both (has_lines width (edge params.rows height from) (film_tile params width height from))
    (are_lines width height (edge params.rows height from + (film_tile params width height from).height) (map (film_tile params width height) (range_with_len (from + 1) count)))
    (both ((film_tile params width height from).x == 0 && (film_tile params width height from).width == width) ((film_tile params width height from).y == edge params.rows height from)
    (both ((film_tile params width height from).x == 0) ((film_tile params width height from).width == width)
    (eq-eqb (film_tile params width height from).x 0 left) (eq-eqb (film_tile params width height from).width width wide))
    (eq-eqb (film_tile params width height from).y (edge params.rows height from) refl))
    (subst P next (lines-from params width height (from + 1) count some (omega arith)))

pub film-lines : FilmRows → (params : Parameters) (width height : ℕ) → AreFilmOf params width height → IsPicture width height → are_lines width height 0 (film_tiles params width height) ≡ true
film-lines law params width height are size =
    let is : IsGrid (film_grid params width height) = film-is_grid law params width height are size in
    let P : ℕ → Type 0 = λ n. are_lines width height n (film_tiles params width height) ≡ true in
    subst P (edge-first params.rows height is.rows_some) (lines-from params width height 0 params.rows is.rows_some (omega arith))

tiles-are : (params : Parameters) (width height from count : ℕ)
    → map (pixels_of (film_grid params width height)) (map cells_of (map film_head (range_with_len from count))) ≡ map (film_tile params width height) (range_with_len from count)
tiles-are params width height from zero = refl
tiles-are params width height from (suc count) = ap (λ (ts : List Tile). film_tile params width height from ∷ ts) (tiles-are params width height (from + 1) count)

pub film-tiles_cover : FilmRows → (params : Parameters) (width height : ℕ) → AreFilmOf params width height → IsPicture width height → CoverOnce width height (film_tiles params width height)
film-tiles_cover law params width height are size =
    subst (CoverOnce width height) (tiles-are params width height 0 params.rows)
    (cells-cover (film_grid params width height) (map cells_of (map film_head (range_with_len 0 params.rows))) (film-is_grid law params width height are size) (film-cover params.rows))

-- ---- the parts of the written frame

slice-bytes : CodedAreBytes → (params : Parameters) (width height : ℕ) (samples : List ℕ) (row : ℕ) → AreBytes (film_slice params width height samples row)
unfolding film_slice
slice-bytes law params width height samples row = law _

parts-tiles : (grid : Grid) (parts : List Part) → map (tile_of grid) (map head_of parts) ≡ tiles_of grid parts
parts-tiles grid [] = refl
parts-tiles grid (part ∷ parts) = ap (λ (ts : List Tile). tile_of grid part.head ∷ ts) (parts-tiles grid parts)

heads-tiles : (params : Parameters) (width height from count : ℕ) → map (tile_of (film_grid params width height)) (map film_head (range_with_len from count)) ≡ map (film_tile params width height) (range_with_len from count)
heads-tiles params width height from zero = refl
heads-tiles params width height from (suc count) = ap (λ (ts : List Tile). film_tile params width height from ∷ ts) (heads-tiles params width height (from + 1) count)

same-slices : (ec : Bool) (bytes : List ℕ) (slices others : List (List ℕ)) → slices_of ec bytes ≡ Ok slices → slices_of ec bytes ≡ Ok others → slices ≡ others
same-slices ec bytes slices others is is' = cc

pub film-parts : HeadIsOne → CodedAreBytes → SliceLaws → (params : Parameters) (width height : ℕ) (samples : List ℕ) (parts : List Part) → AreFilmOf params width height → IsPictureIn params.bits width height samples
    → IsCut params (film_grid params width height) (film_frame params width height samples) parts → tiles_of (film_grid params width height) parts ≡ film_tiles params width height
film-parts one coded laws params width height samples parts are is cut =
    let frame : List ℕ = film_frame params width height samples in
    let size : length (film_slices params width height samples) ≡ params.rows = length-map-range_with_len (film_slice params width height samples) 0 params.rows in
    let slices : map (coded_in frame) parts ≡ film_slices params width height samples =
    same-slices params.ec frame (map (coded_in frame) parts) (film_slices params width height samples) cut.into.slices_are (film-cut laws params width height samples are is) in
    let long : length (map (coded_in frame) parts) ≡ length (film_slices params width height samples) = ap (λ (ss : List (List ℕ)). length ss) slices in
    let count : length (map head_of parts) ≡ length (map (coded_in frame) parts) = cut.into.heads_are.count in
    let heads_long : length (map film_head (range_with_len 0 params.rows)) ≡ params.rows = length-map-range_with_len film_head 0 params.rows in
    let heads : map head_of parts ≡ map film_head (range_with_len 0 params.rows) =
    ext_get_or no_head (map head_of parts) (map film_head (range_with_len 0 params.rows)) (omega (arith, size, long, count, heads_long)) (λ k low.
    let listed : k < params.rows = omega (arith, size, long, count, low) in
    let P : List (List ℕ) → Type 0 = λ ss. CodesHead params (k == 0) (slice_at ss k) (head_at (map head_of parts) k) in
    let Q : List ℕ → Type 0 = λ s. CodesHead params (k == 0) s (head_at (map head_of parts) k) in
    let at : slice_at (film_slices params width height samples) k ≡ film_slice params width height samples k = get_or-map-range_with_len (film_slice params width height samples) 0 params.rows k k [] listed (omega arith) in
    one params (k == 0) (film_slice params width height samples k) (head_at (map head_of parts) k) (film_head k) (laws.sound params are.film) (slice-bytes coded params width height samples k)
    (subst Q at (subst P slices (cut.into.heads_are.each k (omega (arith, count, low)))))
    (film-slice laws params width height samples k are is listed).head
    ∙ sym (get_or-map-range_with_len film_head 0 params.rows k k no_head listed (omega arith))) in
    sym (parts-tiles (film_grid params width height) parts)
    ∙ ap (λ (hs : List SliceHead). map (tile_of (film_grid params width height)) hs) heads
    ∙ heads-tiles params width height 0 params.rows
