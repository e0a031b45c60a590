-- The samples of a frame in a buffer, tile after tile in order of its slices.
use Rattle.std.proofs.Common.{◌≡◌, ℕ, ◌+◌, ◌-◌, ◌<◌, ◌≤◌, inl, inr, Bool, ◌==◌, List, [], length, map, take, drop, get_or, Result, Ok, Err, All, sym, ◌∙◌, ap, subst, arith}
use Rattle.std.specs.Prelude.{OnOk, IfErr, slice_range}
use Rattle.std.proofs.lemmas.Bool.{cases_lt}
use Rattle.std.proofs.lemmas.List.{get_or-map, get_or-take, get_or-drop, get_or_past, length-map, length-take, length-take-le, length-drop}
use Rattle.std.proofs.lemmas.List.Elements.{All-get_or, All-from_get_or}
use Rattle.cook_bits.specs.Bits.{AreBytes}
use Rattle.dpx_packing.specs.declared.tile.Tile.{Tile}
use Rattle.dpx_packing.specs.TileLaws.{TilesHoldTheirPixels}
use Rattle.dpx_packing.specs.Tiles.{CoverOnce, tile_at, tile_size, tile_samples}
use Rattle.ffv1_params.specs.Parameters.{Parameters, AreSound}
use Rattle.ffv1_slice.specs.declared.error.SliceWhy.{SliceWhy}
use Rattle.ffv1_slice.specs.declared.head.SliceHead.{SliceHead}
use Rattle.ffv1_slice.specs.Faults.{SliceFault}
use Rattle.ffv1_slice.specs.Laws.{CodesTellHead, HeadIsOne}
use Rattle.ffv1_slice.specs.Slice.{AreCells, TellHead, Codes, CodesHead}
use Rattle.ffv1_frame.specs.declared.cells.Grid.{Grid}
use Rattle.ffv1_frame.specs.declared.part.Part.{Part}
use Rattle.ffv1_frame.specs.declared.picture.PictureWhy.{PictureWhy}
use Rattle.ffv1_frame.specs.declared.picture.PictureWhy.TheVariants.{Frame, Slice}
use Rattle.ffv1_frame.specs.Grid.{IsGridOf, IsHeadIn, tile_of}
use Rattle.ffv1_frame.specs.Parts.{coded_in, IsWithin, head_of, no_head, slice_at, tiles_of, IsCut}
use Rattle.ffv1_frame.specs.Picture.{head_at, CodesTile, HasTile, SliceFails, PictureFault}
use Rattle.slice_pool.specs.Tiles.{bound, AreBounds, AreTaken, AreDone}
use Rattle.slice_pool.specs.Tiles as pool
use Rattle.ffv1_workers.specs.Decoding.{part_at, TakesTile, DecodesTile}
use Rattle.ffv1_workers.specs.Frames.{AreStarts, samples_at, HasTiles, TellsPicture, answer_at, IsHead, AreHeadsBelow, IsFirstErr, IsFirstFault}
use Rattle.ffv1_workers.proofs.BufferLaws.{bound-next, tile-is, samples-of}
use Rattle.ffv1_workers.proofs.StartLaws.{long, tile-at}

abbrev no_part : Part
no_part = record { at = 0; len = 0; head = no_head }

-- ---- heads

range-bytes : (bytes : List ℕ) (from to : ℕ) → AreBytes bytes → AreBytes (slice_range bytes from to)
range-bytes bytes from to are i =
    elim (cases_lt i (to - from)) [
      | inl low ↦
          let e : get_or (take (to - from) (drop from bytes)) i 0 ≡ get_or bytes (from + i) 0 = get_or-take (to - from) (drop from bytes) i 0 low ∙ get_or-drop from bytes i 0 in
          let b : get_or bytes (from + i) 0 < 256 = are (from + i) in
          omega (arith, e, b)
      | inr past ↦
          let few : length (take (to - from) (drop from bytes)) ≤ i = let e = length-take (to - from) (drop from bytes) in omega (arith, e, past) in
          let e : get_or (take (to - from) (drop from bytes)) i 0 ≡ 0 = get_or_past (take (to - from) (drop from bytes)) i 0 few in
          omega (arith, e)
    ]

slice-is : (bytes : List ℕ) (parts : List Part) (k : ℕ) → k < length parts → slice_at (map (coded_in bytes) parts) k ≡ coded_in bytes (part_at parts k)
slice-is bytes parts k listed = get_or-map (coded_in bytes) parts k no_part [] listed

head-is : (parts : List Part) (k : ℕ) → k < length parts → head_at (map head_of parts) k ≡ (part_at parts k).head
head-is parts k listed = get_or-map head_of parts k no_part no_head listed

part-head : (params : Parameters) (grid : Grid) (bytes : List ℕ) (parts : List Part) (k : ℕ) → IsCut params grid bytes parts → k < length parts
    → CodesHead params (k == 0) (coded_in bytes (part_at parts k)) (part_at parts k).head
part-head params grid bytes parts k cut listed =
    let size : length (map (coded_in bytes) parts) ≡ length parts = length-map parts (coded_in bytes) in
    let P : List ℕ → Type 0 = λ s. CodesHead params (k == 0) s (head_at (map head_of parts) k) in
    let Q : SliceHead → Type 0 = λ h. CodesHead params (k == 0) (coded_in bytes (part_at parts k)) h in
    subst Q (head-is parts k listed) (subst P (slice-is bytes parts k listed) (cut.into.heads_are.each k (omega (arith, size, listed))))

head-in : (params : Parameters) (grid : Grid) (first : Bool) (bytes : List ℕ) (head : SliceHead) → IsGridOf params grid → CodesHead params first bytes head → IsHeadIn grid head
head-in params grid first bytes head of codes =
    let tell : TellHead params codes.numbers head = codes.tell in
    let count : length codes.numbers ≡ 9 = tell.count in
    let cells : AreCells params (get_or codes.numbers 0 0) (get_or codes.numbers 1 0) (get_or codes.numbers 2 0) (get_or codes.numbers 3 0) = tell.taken.cells (omega arith) in
    let x : head.x ≡ get_or codes.numbers 0 0 = tell.x in
    let y : head.y ≡ get_or codes.numbers 1 0 = tell.y in
    let columns : head.columns ≡ get_or codes.numbers 2 0 + 1 = tell.columns in
    let rows : head.rows ≡ get_or codes.numbers 3 0 + 1 = tell.rows in
    let across : get_or codes.numbers 0 0 + (get_or codes.numbers 2 0 + 1) ≤ params.columns = cells.across in
    let down : get_or codes.numbers 1 0 + (get_or codes.numbers 3 0 + 1) ≤ params.rows = cells.down in
    let wide : grid.columns ≡ params.columns = of.columns in
    let high : grid.rows ≡ params.rows = of.rows in
    record { columns_some = omega arith; rows_some = omega arith; across = omega arith; down = omega arith }

part-in : (params : Parameters) (grid : Grid) (bytes : List ℕ) (parts : List Part) (k : ℕ) → IsGridOf params grid → IsCut params grid bytes parts → k < length parts → IsHeadIn grid (part_at parts k).head
part-in params grid bytes parts k of cut listed = head-in params grid (k == 0) (coded_in bytes (part_at parts k)) (part_at parts k).head of (part-head params grid bytes parts k cut listed)

-- the cells of the parts of a cut frame are in the grid
pub parts-in : (params : Parameters) (grid : Grid) (bytes : List ℕ) (parts : List Part) → IsGridOf params grid → IsCut params grid bytes parts → All (λ (p : Part). IsHeadIn grid p.head) parts
parts-in params grid bytes parts of cut = All-from_get_or (λ (p : Part). IsHeadIn grid p.head) parts no_part (λ k listed. part-in params grid bytes parts k of cut listed)

-- the head that a tile's bytes code is the one that they were cut with
one-head : CodesTellHead → HeadIsOne → (params : Parameters) (first : Bool) (width height : ℕ) (coded : List ℕ) (cut head : SliceHead) (tile : List ℕ) → AreSound params → AreBytes coded
    → CodesHead params first coded cut → Codes params first width height coded head tile → Codes params first width height coded cut tile
one-head tell one params first width height coded cut head tile sound are is codes =
    let same : head ≡ cut = one params first coded head cut sound are (tell params first width height coded head tile sound are codes) is in
    let P : SliceHead → Type 0 = λ h. Codes params first width height coded h tile in
    subst P same codes

-- ---- tiles to be decoded

-- each tile is one that a decoder takes
pub are-taken : (params : Parameters) (grid : Grid) (bytes : List ℕ) (parts : List Part) (bounds buffer : List ℕ) (count : ℕ) → IsGridOf params grid → IsCut params grid bytes parts → AreStarts (tiles_of grid parts) bounds
    → AreBounds bounds (length buffer) count → count ≡ length parts → AreTaken (λ number tile. TakesTile bytes params grid parts number tile) bounds count buffer
are-taken params grid bytes parts bounds buffer count of cut starts are count_is k low =
    let many : length (tiles_of grid parts) ≡ length parts = long grid parts in
    let listed : k < length parts = omega arith in
    let size : length bounds ≡ count + 1 = are.size in
    let last : bound bounds count ≡ length buffer = are.last in
    let up : bound bounds (k + 1) ≤ bound bounds count = are.ascending (k + 1) count (omega arith) (omega arith) in
    let next : bound bounds (k + 1) ≡ bound bounds k + tile_size (tile_at (tiles_of grid parts) k) = bound-next (tiles_of grid parts) bounds k starts (omega arith) in
    let same : tile_size (tile_at (tiles_of grid parts) k) ≡ tile_size (tile_of grid (part_at parts k).head) = ap (λ (t : Tile). tile_size t) (tile-at grid parts k no_part listed) in
    let rest : length (drop (bound bounds k) buffer) ≡ length buffer - bound bounds k = length-drop (bound bounds k) buffer in
    let taken : length (take (bound bounds (k + 1) - bound bounds k) (drop (bound bounds k) buffer)) ≡ bound bounds (k + 1) - bound bounds k =
    length-take-le (bound bounds (k + 1) - bound bounds k) (drop (bound bounds k) buffer) (omega (arith, rest, up, last)) in
    record {
      is_grid = of.is;
      listed = listed;
      within = All-get_or (IsWithin bytes) parts k no_part listed cut.within;
      inside = part-in params grid bytes parts k of cut listed;
      size = omega (arith, taken, next, same);
    }

-- ---- tiles decoded

-- what all that follows stands on
record IsWork (params : Parameters) (grid : Grid) (bytes : List ℕ) (parts : List Part) : Type 0 where
  tell : CodesTellHead
  one : HeadIsOne
  sound : AreSound params
  are : AreBytes bytes
  of : IsGridOf params grid
  cut : IsCut params grid bytes parts

coded-of : (params : Parameters) (grid : Grid) (bytes : List ℕ) (parts : List Part) (k : ℕ) (tile : List ℕ) (answer : Result SliceHead SliceWhy) → IsWork params grid bytes parts → k < length parts
    → DecodesTile bytes params grid parts k tile answer → IsHead answer → CodesTile params grid k (coded_in bytes (part_at parts k)) (part_at parts k).head tile
coded-of params grid bytes parts k tile (Ok head) work listed does is =
    one-head work.tell work.one params (k == 0) (tile_of grid (part_at parts k).head).width (tile_of grid (part_at parts k).head).height (coded_in bytes (part_at parts k)) (part_at parts k).head head tile work.sound
    (range-bytes bytes (part_at parts k).at ((part_at parts k).at + (part_at parts k).len) work.are)
    (part-head params grid bytes parts k work.cut listed)
    does
coded-of params grid bytes parts k tile (Err why) work listed does is = absurd is

abbrev Done : List ℕ → Parameters → Grid → List Part → List ℕ → List ℕ → List ℕ → List (Result SliceHead SliceWhy) → Type 0
Done bytes params grid parts bounds old new answers = AreDone (λ number before tile answer. DecodesTile bytes params grid parts number tile answer) bounds old new answers

has-tiles : (params : Parameters) (grid : Grid) (bytes : List ℕ) (parts : List Part) (bounds old new : List ℕ) (answers : List (Result SliceHead SliceWhy)) → IsWork params grid bytes parts → AreStarts (tiles_of grid parts) bounds
    → length answers ≡ length parts → Done bytes params grid parts bounds old new answers → AreHeadsBelow answers (length answers) → HasTiles params grid bytes parts new
has-tiles params grid bytes parts bounds old new answers work starts size done heads =
    record {
      each = λ k listed.
          let many : length (tiles_of grid parts) ≡ length parts = long grid parts in
          let answered : k < length answers = omega (arith, size, listed) in
          let P : List ℕ → Type 0 = λ tile. CodesTile params grid k (coded_in bytes (part_at parts k)) (part_at parts k).head tile in
          subst P (tile-is (tiles_of grid parts) bounds new k starts (omega (arith, many, listed)))
          (coded-of params grid bytes parts k (pool.tile_of bounds k new) (answer_at answers k) work listed (done k (Ok no_head) answered) (heads.each k answered));
    }

has-tile : (params : Parameters) (grid : Grid) (bytes : List ℕ) (parts : List Part) (bounds old new : List ℕ) (answers : List (Result SliceHead SliceWhy)) (k : ℕ) → IsWork params grid bytes parts
    → length answers ≡ length parts → Done bytes params grid parts bounds old new answers → k < length parts → IsHead (answer_at answers k) → HasTile params grid k (slice_at (map (coded_in bytes) parts) k) (head_at (map head_of parts) k)
has-tile params grid bytes parts bounds old new answers k work size done listed is =
    let P : List ℕ → Type 0 = λ s. HasTile params grid k s (head_at (map head_of parts) k) in
    let Q : SliceHead → Type 0 = λ h. HasTile params grid k (coded_in bytes (part_at parts k)) h in
    subst P (sym (slice-is bytes parts k listed)) (subst Q (sym (head-is parts k listed)) (record {
      tile = pool.tile_of bounds k new;
      codes = coded-of params grid bytes parts k (pool.tile_of bounds k new) (answer_at answers k) work listed (done k (Ok no_head) (omega (arith, size, listed))) is;
    }))

fails : (params : Parameters) (grid : Grid) (bytes : List ℕ) (parts : List Part) (bounds old new : List ℕ) (answers : List (Result SliceHead SliceWhy)) (number : ℕ) (why : SliceWhy) → IsWork params grid bytes parts
    → length answers ≡ length parts → Done bytes params grid parts bounds old new answers → IsFirstErr answers number why → SliceFails params grid bytes number why
fails params grid bytes parts bounds old new answers number why work size done first =
    let answered : number < length answers = first.listed in
    let listed : number < length parts = omega (arith, size, answered) in
    let D : Result SliceHead SliceWhy → Type 0 = λ a. DecodesTile bytes params grid parts number (pool.tile_of bounds number new) a in
    let fault = subst D first.fault (done number (Ok no_head) answered) in
    let P : List ℕ → Type 0 = λ s. SliceFault params (number == 0) (tile_of grid (head_at (map head_of parts) number)).width (tile_of grid (head_at (map head_of parts) number)).height s why in
    let Q : SliceHead → Type 0 = λ h. SliceFault params (number == 0) (tile_of grid h).width (tile_of grid h).height (coded_in bytes (part_at parts number)) why in
    record {
      slices = map (coded_in bytes) parts;
      heads = map head_of parts;
      cut = work.cut.into;
      listed = let e : length (map (coded_in bytes) parts) ≡ length parts = length-map parts (coded_in bytes) in omega (arith, e, listed);
      before = λ k low. has-tile params grid bytes parts bounds old new answers k work size done (omega (arith, low, listed)) (first.before.each k low);
      fault = subst P (sym (slice-is bytes parts number listed)) (subst Q (sym (head-is parts number listed)) fault);
    }

pub all-decoded : CodesTellHead → HeadIsOne → (params : Parameters) (grid : Grid) (bytes : List ℕ) (parts : List Part) (bounds old new : List ℕ) (answers : List (Result SliceHead SliceWhy)) (result : Result (Unit {0}) PictureWhy) → AreSound params → AreBytes bytes → IsGridOf params grid
    → IsCut params grid bytes parts → AreStarts (tiles_of grid parts) bounds → length answers ≡ length parts → Done bytes params grid parts bounds old new answers
    → OnOk result (AreHeadsBelow answers (length answers)) → OnOk result (HasTiles params grid bytes parts new)
all-decoded tell one params grid bytes parts bounds old new answers (Ok u) sound are of cut starts size done heads =
    has-tiles params grid bytes parts bounds old new answers (record { tell = tell; one = one; sound = sound; are = are; of = of; cut = cut }) starts size done heads
all-decoded tell one params grid bytes parts bounds old new answers (Err why) sound are of cut starts size done heads = heads

pub one-fails : CodesTellHead → HeadIsOne → (params : Parameters) (grid : Grid) (bytes : List ℕ) (parts : List Part) (bounds old new : List ℕ) (answers : List (Result SliceHead SliceWhy)) (result : Result (Unit {0}) PictureWhy) → AreSound params → AreBytes bytes → IsGridOf params grid
    → IsCut params grid bytes parts → length answers ≡ length parts → Done bytes params grid parts bounds old new answers
    → IfErr result (IsFirstFault answers) → IfErr result (PictureFault params grid bytes)
one-fails tell one params grid bytes parts bounds old new answers (Ok u) sound are of cut size done first = first
one-fails tell one params grid bytes parts bounds old new answers (Err (Frame why)) sound are of cut size done first = absurd first
one-fails tell one params grid bytes parts bounds old new answers (Err (Slice number why)) sound are of cut size done first =
    fails params grid bytes parts bounds old new answers number why (record { tell = tell; one = one; sound = sound; are = are; of = of; cut = cut }) size done first

-- ---- the picture

tells : TilesHoldTheirPixels → (params : Parameters) (grid : Grid) (bytes : List ℕ) (parts : List Part) (buffer : List ℕ) → IsCut params grid bytes parts → CoverOnce grid.width grid.height (tiles_of grid parts)
    → HasTiles params grid bytes parts buffer → TellsPicture params grid bytes parts buffer
tells hold params grid bytes parts buffer cut cover has picture size stands =
    record {
      slices = map (coded_in bytes) parts;
      heads = map head_of parts;
      cut = cut.into;
      long = size;
      each = λ k low.
          let count : length (map (coded_in bytes) parts) ≡ length parts = length-map parts (coded_in bytes) in
          let many : length (tiles_of grid parts) ≡ length parts = long grid parts in
          let listed : k < length parts = omega (arith, count, low) in
          let same : samples_at (tiles_of grid parts) k buffer ≡ tile_samples grid.width picture (tile_of grid (part_at parts k).head) =
          ap (λ b. samples_at (tiles_of grid parts) k b) (sym stands)
          ∙ samples-of hold grid.width grid.height (tiles_of grid parts) picture k cover size (omega (arith, many, listed))
          ∙ ap (λ (t : Tile). tile_samples grid.width picture t) (tile-at grid parts k no_part listed) in
          let T : List ℕ → Type 0 = λ tile. CodesTile params grid k (coded_in bytes (part_at parts k)) (part_at parts k).head tile in
          let P : List ℕ → Type 0 = λ s. CodesTile params grid k s (head_at (map head_of parts) k) (tile_samples grid.width picture (tile_of grid (head_at (map head_of parts) k))) in
          let Q : SliceHead → Type 0 = λ h. CodesTile params grid k (coded_in bytes (part_at parts k)) h (tile_samples grid.width picture (tile_of grid h)) in
          subst P (sym (slice-is bytes parts k listed)) (subst Q (sym (head-is parts k listed)) (subst T same (has.each k listed)));
    }

pub ok-tells : TilesHoldTheirPixels → (params : Parameters) (grid : Grid) (bytes : List ℕ) (parts : List Part) (buffer : List ℕ) (result : Result (Unit {0}) PictureWhy) → IsCut params grid bytes parts → CoverOnce grid.width grid.height (tiles_of grid parts)
    → OnOk result (HasTiles params grid bytes parts buffer) → OnOk result (TellsPicture params grid bytes parts buffer)
ok-tells hold params grid bytes parts buffer (Ok u) cut cover has = tells hold params grid bytes parts buffer cut cover has
ok-tells hold params grid bytes parts buffer (Err why) cut cover has = has

-- what holds in any case holds at Ok
pub on-ok : {A E : Type 0} (P : Type 0) (result : Result A E) → P → OnOk result P
on-ok P (Ok u) holds = holds
on-ok P (Err why) holds = tt

pub ok-heads : (params : Parameters) (grid : Grid) (bytes : List ℕ) (parts : List Part) (result : Result (Unit {0}) PictureWhy) → IsGridOf params grid → IsCut params grid bytes parts
    → OnOk result (All (λ (p : Part). IsHeadIn grid p.head) parts)
ok-heads params grid bytes parts result of cut = on-ok (All (λ (p : Part). IsHeadIn grid p.head) parts) result (parts-in params grid bytes parts of cut)
