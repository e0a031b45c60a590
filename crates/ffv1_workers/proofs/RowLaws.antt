-- A picture coded row by row.
use Rattle.std.proofs.Common.{◌≡◌, ℕ, zero, suc, ◌+◌, ◌-◌, ◌^◌, ◌<◌, ◌≤◌, true, List, [], ◌∷◌, ◌++◌, length, map, take, drop, get_or, Result, Ok, Err, All, refl, sym, ◌∙◌, ap, ap₂, subst, arith}
use Rattle.std.specs.Prelude.{IfOk}
use Rattle.std.proofs.Math.Seq.{take-add}
use Rattle.std.proofs.lemmas.List.{append-nil, drop-drop, ext_get_or, get_or-drop, get_or-map, length-map, map-append, take_all, take_more}
use Rattle.std.proofs.lemmas.Grind.{flat_map-append}
use Rattle.std.proofs.lemmas.List.FromFn.{length-map-range_with_len, get_or-map-range_with_len}
use Rattle.cook_bits.specs.declared.memory.NoMemory.{NoMemory}
use Rattle.dpx_packing.specs.declared.tile.Tile.{Tile}
use Rattle.dpx_packing.specs.TileLaws.{TilesFill, TilesHoldTheirPixels, WholeLinesStand}
use Rattle.dpx_packing.specs.Tiles.{CoverOnce, are_lines, tile_samples}
use Rattle.ffv1_params.specs.Parameters.{Parameters, AreSound}
use Rattle.ffv1_slice.specs.Slice.{IsTile}
use Rattle.ffv1_frame.specs.declared.cells.Grid.{Grid}
use Rattle.ffv1_frame.specs.Footers.{footed, frame_of_slices}
use Rattle.ffv1_frame.specs.Grid.{IsGridOf, tile_of}
use Rattle.ffv1_frame.specs.Laws.{IsSlice, FilmTilesStand}
use Rattle.ffv1_frame.specs.Parts.{slice_at}
use Rattle.ffv1_frame.specs.Written.{film_head, film_grid, film_slice, film_slices, film_frame, AreFilmOf, IsPictureIn}
use Rattle.slice_pool.specs.Tiles.{bound, AreBounds, AreTaken, AreDone}
use Rattle.slice_pool.specs.Tiles as pool
use Rattle.ffv1_workers.specs.Encoding.{TakesRow, coded_row, AreCoded, AreSlices, AddsSlice, IsFrameOf, IsShortSlice, answer_of}
use Rattle.ffv1_workers.specs.Frames.{AreStarts, row_tiles, samples_at}
use Rattle.ffv1_workers.proofs.BufferLaws.{are-bounds, tile-is, samples-of}
use Rattle.ffv1_workers.proofs.StartLaws.{rows-long, row-tile-at}

-- ---- the tiles of the rows

-- a picture that is written, in the writer's grid, and what the laws of the crates below say
pub record IsWritten (params : Parameters) (grid : Grid) (samples : List ℕ) : Type 0 where
  pub tiles : FilmTilesStand
  pub hold : TilesHoldTheirPixels
  pub stand : WholeLinesStand
  pub sound : AreSound params
  pub film : AreFilmOf params grid.width grid.height
  pub of : IsGridOf params grid
  pub picture : IsPictureIn params.bits grid.width grid.height samples

film-grid : (params : Parameters) (grid : Grid) (samples : List ℕ) → IsWritten params grid samples → film_grid params grid.width grid.height ≡ grid
film-grid params grid samples is = sym (is.tiles.grid params grid is.film.film is.of)

row-lines : (params : Parameters) (grid : Grid) (samples : List ℕ) → IsWritten params grid samples → are_lines grid.width grid.height 0 (row_tiles grid) ≡ true
row-lines params grid samples is =
    let P : Grid → Type 0 = λ g. are_lines grid.width grid.height 0 (row_tiles g) ≡ true in
    subst P (film-grid params grid samples is) (is.tiles.lines params grid.width grid.height is.film is.picture.size)

row-cover : (params : Parameters) (grid : Grid) (samples : List ℕ) → IsWritten params grid samples → CoverOnce grid.width grid.height (row_tiles grid)
row-cover params grid samples is =
    let P : Grid → Type 0 = λ g. CoverOnce grid.width grid.height (row_tiles g) in
    subst P (film-grid params grid samples is) (is.tiles.cover params grid.width grid.height is.film is.picture.size)

rows-are : (params : Parameters) (grid : Grid) (samples : List ℕ) → IsWritten params grid samples → params.rows ≡ grid.rows
rows-are params grid samples is = sym is.of.rows

row-is_tile : (params : Parameters) (grid : Grid) (samples : List ℕ) (row : ℕ) → IsWritten params grid samples → row < grid.rows
    → IsTile params.bits (tile_of grid (film_head row)).width (tile_of grid (film_head row)).height (tile_samples grid.width samples (tile_of grid (film_head row)))
row-is_tile params grid samples row is low =
    let P : Grid → Type 0 = λ g. IsTile params.bits (tile_of g (film_head row)).width (tile_of g (film_head row)).height (tile_samples grid.width samples (tile_of g (film_head row))) in
    let rows : params.rows ≡ grid.rows = rows-are params grid samples is in
    subst P (film-grid params grid samples is) (is.tiles.samples params grid.width grid.height samples row is.film is.picture (omega arith))

-- the part of the buffer between two bounds is the tile of a row
row-samples : (params : Parameters) (grid : Grid) (samples bounds : List ℕ) (row : ℕ) → IsWritten params grid samples → AreStarts (row_tiles grid) bounds → row < grid.rows
    → pool.tile_of bounds row samples ≡ tile_samples grid.width samples (tile_of grid (film_head row))
row-samples params grid samples bounds row is starts low =
    let long : length (row_tiles grid) ≡ grid.rows = rows-long grid in
    tile-is (row_tiles grid) bounds samples row starts (omega (arith, long, low))
    ∙ ap (λ b. samples_at (row_tiles grid) row b) (sym (is.stand grid.width grid.height (row_tiles grid) samples (row-lines params grid samples is) is.picture.long))
    ∙ samples-of is.hold grid.width grid.height (row_tiles grid) samples row (row-cover params grid samples is) is.picture.long (omega (arith, long, low))
    ∙ ap (λ (t : Tile). tile_samples grid.width samples t) (row-tile-at grid row low)

pub rows-bounds : TilesFill → (params : Parameters) (grid : Grid) (samples bounds : List ℕ) (len count : ℕ) → IsWritten params grid samples → AreStarts (row_tiles grid) bounds → len ≡ length samples → count ≡ grid.rows
    → AreBounds bounds len count
rows-bounds fill params grid samples bounds len count is starts len_is count_is =
    are-bounds fill grid.width grid.height (row_tiles grid) bounds len count (row-cover params grid samples is) starts (len_is ∙ is.picture.long) (count_is ∙ sym (rows-long grid))

pub rows-taken : (params : Parameters) (grid : Grid) (samples bounds : List ℕ) (count : ℕ) → IsWritten params grid samples → grid.columns ≡ 1 → AreStarts (row_tiles grid) bounds → count ≡ grid.rows
    → AreTaken (λ number tile. TakesRow params grid number tile) bounds count samples
rows-taken params grid samples bounds count is one starts count_is k low =
    let listed : k < grid.rows = omega arith in
    let P : List ℕ → Type 0 = λ tile. IsTile params.bits (tile_of grid (film_head k)).width (tile_of grid (film_head k)).height tile in
    record {
      sound = is.sound;
      is_grid = is.of;
      column = one;
      listed = listed;
      is_tile = subst P (sym (row-samples params grid samples bounds k is starts listed)) (row-is_tile params grid samples k is listed);
    }

-- ---- what the workers leave

abbrev pub Coded : Parameters → Grid → List ℕ → List ℕ → List ℕ → List (Result (List ℕ) NoMemory) → Type 0
Coded params grid bounds old new answers = AreDone (λ number before after answer. (after ≡ before) × IfOk answer (λ bytes. bytes ≡ coded_row params grid number before)) bounds old new answers

front-next : (bounds samples : List ℕ) (k : ℕ) → bound bounds k ≤ bound bounds (k + 1) → take (bound bounds (k + 1)) samples ≡ take (bound bounds k) samples ++ pool.tile_of bounds k samples
front-next bounds samples k up =
    let far : bound bounds (k + 1) ≡ bound bounds k + (bound bounds (k + 1) - bound bounds k) = omega arith in
    ap (λ n. take n samples) far ∙ take-add (bound bounds k) (bound bounds (k + 1) - bound bounds k) samples

fronts-same : (bounds old new : List ℕ) (count k : ℕ) → AreBounds bounds (length old) count → k ≤ count → ((i : ℕ) → i < count → pool.tile_of bounds i new ≡ pool.tile_of bounds i old) → take (bound bounds k) new ≡ take (bound bounds k) old
fronts-same bounds old new count zero are high each =
    let none : bound bounds 0 ≡ 0 = are.first in
    ap (λ n. take n new) none ∙ sym (ap (λ n. take n old) none)
fronts-same bounds old new count (suc k) are high each =
    let next : suc k ≡ k + 1 = omega arith in
    let size : length bounds ≡ count + 1 = are.size in
    let up : bound bounds k ≤ bound bounds (k + 1) = are.ascending k (k + 1) (omega arith) (omega (arith, size, high)) in
    ap (λ j. take (bound bounds j) new) next
    ∙ front-next bounds new k up
    ∙ ap₂ (λ (a b : List ℕ). a ++ b) (fronts-same bounds old new count k are (omega arith) each) (each k (omega arith))
    ∙ sym (front-next bounds old k up)
    ∙ sym (ap (λ j. take (bound bounds j) old) next)

-- the buffer is as it was
pub rows-same : (params : Parameters) (grid : Grid) (bounds old new : List ℕ) (answers : List (Result (List ℕ) NoMemory)) → AreBounds bounds (length old) (length answers) → length new ≡ length old
    → Coded params grid bounds old new answers → new ≡ old
rows-same params grid bounds old new answers are same done =
    let last : bound bounds (length answers) ≡ length old = are.last in
    sym (take_all (bound bounds (length answers)) new (omega (arith, last, same)))
    ∙ fronts-same bounds old new (length answers) (length answers) are (omega arith) (λ i low. let d : Result (List ℕ) NoMemory = Ok [] in (done i d low).0)
    ∙ take_all (bound bounds (length answers)) old (omega (arith, last))

pub if-ok_same : (answer : Result (List ℕ) NoMemory) (a b : List ℕ) → a ≡ b → IfOk answer (λ bytes. bytes ≡ a) → IfOk answer (λ bytes. bytes ≡ b)
if-ok_same (Ok bytes) a b same is = is ∙ same
if-ok_same (Err why) a b same is = is

row-coded : (params : Parameters) (grid : Grid) (samples bounds : List ℕ) (row : ℕ) → IsWritten params grid samples → AreStarts (row_tiles grid) bounds → row < grid.rows
    → coded_row params grid row (pool.tile_of bounds row samples) ≡ film_slice params grid.width grid.height samples row
unfolding film_slice
row-coded params grid samples bounds row is starts low =
    ap (λ tile. coded_row params grid row tile) (row-samples params grid samples bounds row is starts low)
    ∙ ap (λ (g : Grid). coded_row params g row (tile_samples grid.width samples (tile_of g (film_head row)))) (sym (film-grid params grid samples is))

-- the answers are the writer's slices
pub rows-coded : (params : Parameters) (grid : Grid) (bounds old new : List ℕ) (answers : List (Result (List ℕ) NoMemory)) → IsWritten params grid old → AreStarts (row_tiles grid) bounds → length answers ≡ grid.rows
    → Coded params grid bounds old new answers → AreCoded (film_slices params grid.width grid.height old) answers
rows-coded params grid bounds old new answers is starts count done =
    let rows : params.rows ≡ grid.rows = rows-are params grid old is in
    let size : length (film_slices params grid.width grid.height old) ≡ params.rows = length-map-range_with_len (film_slice params grid.width grid.height old) 0 params.rows in
    record {
      count = omega (arith, count, rows, size);
      each = λ k d low.
          let listed : k < params.rows = omega (arith, size, low) in
          let at : slice_at (film_slices params grid.width grid.height old) k ≡ film_slice params grid.width grid.height old k = get_or-map-range_with_len (film_slice params grid.width grid.height old) 0 params.rows k k [] listed (omega arith) in
          if-ok_same (get_or answers k d) (coded_row params grid k (pool.tile_of bounds k old)) (slice_at (film_slices params grid.width grid.height old) k)
          (row-coded params grid old bounds k is starts (omega (arith, rows, listed)) ∙ sym at)
          (done k d (omega (arith, count, rows, listed))).1;
    }

-- ---- the slices

-- an answer more that is a slice
slices-more : (answers : List (Result (List ℕ) NoMemory)) (answer : Result (List ℕ) NoMemory) (found new : List (List ℕ)) (slice : List ℕ) → answer ≡ Ok slice → new ≡ found ++ slice ∷ [] → AreSlices answers found
    → AreSlices (answers ++ answer ∷ []) new
slices-more answers answer found new slice is added so_far =
    ap₂ (λ (rs : List (Result (List ℕ) NoMemory)) (r : Result (List ℕ) NoMemory). rs ++ r ∷ []) so_far is
    ∙ sym (map-append (λ (s : List ℕ). Ok s) found (slice ∷ []))
    ∙ ap (λ (ss : List (List ℕ)). map (λ (s : List ℕ). Ok s) ss) (sym added)

-- ---- their frame

-- an answer is the one that was given, as long as it wasn't taken
pub answer-stands : (answers given : List (Result (List ℕ) NoMemory)) (i : ℕ) → drop i answers ≡ drop i given → answer_of answers i ≡ answer_of given i
answer-stands answers given i rest =
    let d : Result (List ℕ) NoMemory = Ok [] in
    let here : i + 0 ≡ i = omega arith in
    ap (λ n. get_or answers n d) (sym here)
    ∙ sym (get_or-drop i answers 0 d)
    ∙ ap (λ (rs : List (Result (List ℕ) NoMemory)). get_or rs 0 d) rest
    ∙ get_or-drop i given 0 d
    ∙ ap (λ n. get_or given n d) here

rest-on : (answers given : List (Result (List ℕ) NoMemory)) (i : ℕ) → drop i answers ≡ drop i given → drop (i + 1) answers ≡ drop (i + 1) given
rest-on answers given i rest =
    sym (drop-drop 1 i answers) ∙ ap (λ (rs : List (Result (List ℕ) NoMemory)). drop 1 rs) rest ∙ drop-drop 1 i given

pub rest-next : (answers new given : List (Result (List ℕ) NoMemory)) (i : ℕ) → drop (i + 1) new ≡ drop (i + 1) answers → drop i answers ≡ drop i given → drop (i + 1) new ≡ drop (i + 1) given
rest-next answers new given i same rest = same ∙ rest-on answers given i rest

pub short-stands : (answers given : List (Result (List ℕ) NoMemory)) (i : ℕ) → All IsShortSlice given → i < length given → drop i answers ≡ drop i given → IsShortSlice (answer_of answers i)
short-stands answers given i short listed rest =
    let d : Result (List ℕ) NoMemory = Ok [] in
    subst IsShortSlice (sym (answer-stands answers given i rest)) (short i d listed)

pub frame-none : (given : List (Result (List ℕ) NoMemory)) (frame : List ℕ) → frame ≡ [] → IsFrameOf (take 0 given) frame
unfolding frame_of_slices
frame-none given frame none = record { slices = []; are = refl; is = none }

pub frame-more : (answers given : List (Result (List ℕ) NoMemory)) (i : ℕ) (frame new : List ℕ) → i < length given → drop i answers ≡ drop i given → AddsSlice (answer_of answers i) frame new
    → IsFrameOf (take i given) frame → IsFrameOf (take (i + 1) given) new
unfolding frame_of_slices
frame-more answers given i frame new listed rest adds so_far =
    let d : Result (List ℕ) NoMemory = Ok [] in
    let more : take (i + 1) given ≡ take i given ++ answer_of given i ∷ [] = take_more given i d listed in
    let was : answer_of given i ≡ Ok adds.slice = sym (answer-stands answers given i rest) ∙ adds.was in
    let P : List (Result (List ℕ) NoMemory) → Type 0 = λ rs. AreSlices rs (so_far.slices ++ adds.slice ∷ []) in
    record {
      slices = so_far.slices ++ adds.slice ∷ [];
      are = subst P (sym more) (slices-more (take i given) (answer_of given i) so_far.slices (so_far.slices ++ adds.slice ∷ []) adds.slice was refl so_far.are);
      is =
          adds.added
          ∙ ap (λ f. f ++ footed adds.slice) so_far.is
          ∙ ap (λ f. frame_of_slices so_far.slices ++ f) (sym (append-nil (footed adds.slice)))
          ∙ sym (flat_map-append footed so_far.slices (adds.slice ∷ []));
    }

pub frame-all : (given : List (Result (List ℕ) NoMemory)) (i : ℕ) (frame bytes : List ℕ) → length given ≤ i → bytes ≡ frame → IsFrameOf (take i given) frame → IsFrameOf given bytes
frame-all given i frame bytes all same is = record { slices = is.slices; are = sym (take_all i given all) ∙ is.are; is = same ∙ is.is }

-- ---- it is the writer's

slice-is : (slices : List (List ℕ)) (answers : List (Result (List ℕ) NoMemory)) (found : List (List ℕ)) (k : ℕ) → AreCoded slices answers → AreSlices answers found → k < length found → get_or found k [] ≡ slice_at slices k
slice-is slices answers found k coded are low =
    let long : length answers ≡ length found = ap (λ (rs : List (Result (List ℕ) NoMemory)). length rs) are ∙ length-map found (λ (s : List ℕ). Ok s) in
    let count : length answers ≡ length slices = coded.count in
    let d : Result (List ℕ) NoMemory = Ok [] in
    let P : Result (List ℕ) NoMemory → Type 0 = λ a. IfOk a (λ bytes. bytes ≡ slice_at slices k) in
    let at : get_or answers k d ≡ Ok (get_or found k []) = ap (λ (rs : List (Result (List ℕ) NoMemory)). get_or rs k d) are ∙ get_or-map (λ (s : List ℕ). Ok s) found k [] d low in
    subst P at (coded.each k d (omega (arith, long, count, low)))

-- slices with no refusal among the answers are all slices
slices-all : (slices : List (List ℕ)) (answers : List (Result (List ℕ) NoMemory)) (found : List (List ℕ)) → AreCoded slices answers → AreSlices answers found → found ≡ slices
slices-all slices answers found coded are =
    let long : length answers ≡ length found = ap (λ (rs : List (Result (List ℕ) NoMemory)). length rs) are ∙ length-map found (λ (s : List ℕ). Ok s) in
    let count : length answers ≡ length slices = coded.count in
    ext_get_or [] found slices (omega (arith, long, count)) (λ k low. slice-is slices answers found k coded are low)

short-answer : FilmTilesStand → (params : Parameters) (width height : ℕ) (samples : List ℕ) (answer : Result (List ℕ) NoMemory) (k : ℕ) → AreFilmOf params width height → IsPictureIn params.bits width height samples
    → k < length (film_slices params width height samples) → IfOk answer (λ bytes. bytes ≡ slice_at (film_slices params width height samples) k) → IsShortSlice answer
short-answer law params width height samples (Ok bytes) k film picture low is =
    let slice : IsSlice (slice_at (film_slices params width height samples) k) = law.slices params width height samples film picture k [] low in
    let small : length (slice_at (film_slices params width height samples) k) < 2 ^ 24 = slice.small in
    let P : List ℕ → Type 0 = λ s. length s < 2 ^ 24 in
    subst P (sym is) small
short-answer law params width height samples (Err why) k film picture low is = is

-- each slice of the writer has few enough bytes for its footer
pub answers-short : FilmTilesStand → (params : Parameters) (width height : ℕ) (samples : List ℕ) (answers : List (Result (List ℕ) NoMemory)) → AreFilmOf params width height → IsPictureIn params.bits width height samples
    → AreCoded (film_slices params width height samples) answers → All IsShortSlice answers
answers-short law params width height samples answers film picture coded k d low =
    let count : length answers ≡ length (film_slices params width height samples) = coded.count in
    let listed : k < length (film_slices params width height samples) = omega (arith, count, low) in
    short-answer law params width height samples (get_or answers k d) k film picture listed (coded.each k d listed)

pub frame-is : (params : Parameters) (width height : ℕ) (samples : List ℕ) (answers : List (Result (List ℕ) NoMemory)) (frame : List ℕ) → AreCoded (film_slices params width height samples) answers → IsFrameOf answers frame
    → frame ≡ film_frame params width height samples
unfolding film_frame
frame-is params width height samples answers frame coded is =
    is.is ∙ ap frame_of_slices (slices-all (film_slices params width height samples) answers is.slices coded is.are)

pub if-ok_frame : (params : Parameters) (width height : ℕ) (samples : List ℕ) (answers : List (Result (List ℕ) NoMemory)) (result : Result (List ℕ) NoMemory) → AreCoded (film_slices params width height samples) answers
    → IfOk result (IsFrameOf answers) → IfOk result (λ frame. frame ≡ film_frame params width height samples)
if-ok_frame params width height samples answers (Ok frame) coded is = frame-is params width height samples answers frame coded is
if-ok_frame params width height samples answers (Err why) coded is = is
