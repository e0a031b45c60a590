-- A frame means one picture at most.
use Rattle.std.proofs.Common.{◌≡◌, ℕ, zero, suc, ◌+◌, ◌*◌, ◌<◌, ◌≤◌, inl, inr, Bool, ◌==◌, List, [], ◌∷◌, ◌++◌, length, map, take, drop, get_or, Option, Some, None, Result, Ok, Err, All, refl, sym, ◌∙◌, ap, ap₂, subst, arith}
use Rattle.std.proofs.lemmas.Bool.{cases_lt}
use Rattle.std.proofs.lemmas.List.{get_or-map, get_or-take, get_or-drop, get_or_past, length-map, length-take, ext_get_or}
use Rattle.std.proofs.lemmas.List.Concat.{flat_map-cons}
use Rattle.std.proofs.lemmas.List.Elements.{All-nil, All-cons, All-append, All-get_or}
use Rattle.cook_bits.specs.Bits.{AreBytes}
use Rattle.dpx_packing.specs.declared.tile.Tile.{Tile}
use Rattle.dpx_packing.specs.Tiles.{CoverOnce, tile_at, tile_samples, tile_after_tile}
use Rattle.dpx_packing.specs.TileLaws.{TilesTellThePicture}
use Rattle.ffv1_params.specs.Parameters.{Parameters, AreSound}
use Rattle.ffv1_slice.specs.declared.head.SliceHead.{SliceHead}
use Rattle.ffv1_slice.specs.Laws.{CodedIsOne, HeadIsOne}
use Rattle.ffv1_slice.specs.Slice.{CodesHead}
use Rattle.ffv1_frame.specs.declared.cells.Grid.{Grid}
use Rattle.ffv1_frame.specs.declared.error.FrameWhy.{FrameWhy}
use Rattle.ffv1_frame.specs.Footers.{slice_place, last_size, last_coded, last_fault, followed, cut_last, cut_back, slices_of}
use Rattle.ffv1_frame.specs.Grid.{IsGridOf, cells_of, pixels_of, tile_of}
use Rattle.ffv1_frame.specs.Parts.{no_head, slice_at, CutsInto, HasPixels}
use Rattle.ffv1_frame.specs.Picture.{head_at, CodesTile, IsPictureOf}
use Rattle.ffv1_frame.proofs.CellCover.{cells-cover}
use Rattle.ffv1_frame.proofs.HeadLaws.{head-in}
use Rattle.ffv1_frame.proofs.SettleLaws.{head-pixels}

-- ---- slices of bytes are bytes

take-bytes : (n : ℕ) (bytes : List ℕ) → AreBytes bytes → AreBytes (take n bytes)
take-bytes n bytes are i =
    elim (cases_lt i n) [
      | inl low ↦
          let e : get_or (take n bytes) i 0 ≡ get_or bytes i 0 = get_or-take n bytes i 0 low in
          let b : get_or bytes i 0 < 256 = are i in
          omega (arith, e, b)
      | inr past ↦
          let few : length (take n bytes) ≤ i = let e = length-take n bytes in omega (arith, e, past) in
          let e : get_or (take n bytes) i 0 ≡ 0 = get_or_past (take n bytes) i 0 few in
          omega (arith, e)
    ]

drop-bytes : (n : ℕ) (bytes : List ℕ) → AreBytes bytes → AreBytes (drop n bytes)
drop-bytes n bytes are i =
    let e : get_or (drop n bytes) i 0 ≡ get_or bytes (n + i) 0 = get_or-drop n bytes i 0 in
    let b : get_or bytes (n + i) 0 < 256 = are (n + i) in
    omega (arith, e, b)

last-bytes : (ec : Bool) (bytes : List ℕ) → AreBytes bytes → AreBytes (last_coded ec bytes)
unfolding last_coded
last-bytes ec bytes are = take-bytes (last_size ec bytes) (drop (slice_place ec bytes) bytes) (drop-bytes (slice_place ec bytes) bytes are)

found-is : (fault : Option FrameWhy) (found : Result (List (List ℕ)) FrameWhy) (slices : List (List ℕ)) → cut_last fault found ≡ Ok slices → found ≡ Ok slices
found-is (Some why) found slices is = absurd (cc)
found-is None found slices is = is

followed-bytes : (found : Result (List (List ℕ)) FrameWhy) (last : List ℕ) (slices : List (List ℕ)) → followed found (last ∷ []) ≡ Ok slices
    → ((front : List (List ℕ)) → found ≡ Ok front → All AreBytes front) → AreBytes last → All AreBytes slices
followed-bytes (Ok front) last slices is before here =
    let same : front ++ last ∷ [] ≡ slices = cc in
    subst (All AreBytes) same (All-append AreBytes front (last ∷ []) (before front refl) (All-cons AreBytes last [] here (All-nil AreBytes)))
followed-bytes (Err why) last slices is before here = absurd (cc)

abbrev nothing : Result (List (List ℕ)) FrameWhy
nothing = Ok []

none-are : (slices : List (List ℕ)) → nothing ≡ Ok slices → All AreBytes slices
none-are slices is =
    let same : [] ≡ slices = cc in
    subst (All AreBytes) same (All-nil AreBytes)

cut-bytes : (ec : Bool) (room : ℕ) (bytes : List ℕ) (slices : List (List ℕ)) → AreBytes bytes → cut_back ec room bytes ≡ Ok slices → All AreBytes slices
unfolding cut_back
cut-bytes ec zero [] slices are is = none-are slices is
cut-bytes ec (suc room) [] slices are is = none-are slices is
cut-bytes ec zero (byte ∷ bytes) slices are is = none-are slices (found-is (last_fault ec zero (byte ∷ bytes)) (Ok []) slices is)
cut-bytes ec (suc room) (byte ∷ bytes) slices are is =
    followed-bytes (cut_back ec room (take (slice_place ec (byte ∷ bytes)) (byte ∷ bytes))) (last_coded ec (byte ∷ bytes)) slices
    (found-is (last_fault ec (suc room) (byte ∷ bytes)) (followed (cut_back ec room (take (slice_place ec (byte ∷ bytes)) (byte ∷ bytes))) (last_coded ec (byte ∷ bytes) ∷ [])) slices is)
    (λ front front_is. cut-bytes ec room (take (slice_place ec (byte ∷ bytes)) (byte ∷ bytes)) front (take-bytes (slice_place ec (byte ∷ bytes)) (byte ∷ bytes) are) front_is)
    (last-bytes ec (byte ∷ bytes) are)

pub slices-bytes : (ec : Bool) (bytes : List ℕ) (slices : List (List ℕ)) → AreBytes bytes → slices_of ec bytes ≡ Ok slices → All AreBytes slices
unfolding slices_of
slices-bytes ec [] slices are is = absurd (cc)
slices-bytes ec (byte ∷ bytes) slices are is = cut-bytes ec 1024 (byte ∷ bytes) slices are is

-- ---- one tile, of one head

pub record OneLaws : Type 0 where
  pub head : HeadIsOne
  pub codes : CodedIsOne
  pub tell : TilesTellThePicture

one-tile : CodedIsOne → (params : Parameters) (grid : Grid) (k : ℕ) (slice : List ℕ) (here there : SliceHead) (picture other : List ℕ) → AreSound params → AreBytes slice → IsGridOf params grid
    → CodesHead params (k == 0) slice here → there ≡ here
    → CodesTile params grid k slice here (tile_samples grid.width picture (tile_of grid here)) → CodesTile params grid k slice there (tile_samples grid.width other (tile_of grid there))
    → tile_samples grid.width picture (tile_of grid here) ≡ tile_samples grid.width other (tile_of grid here)
one-tile one params grid k slice here there picture other sound are of begins same codes codes' =
    let pixels : HasPixels (tile_of grid here) = head-pixels grid here of.is (head-in params grid (k == 0) slice here of begins) in
    let P : SliceHead → Type 0 = λ h. CodesTile params grid k slice h (tile_samples grid.width other (tile_of grid h)) in
    (one params (k == 0) (tile_of grid here).width (tile_of grid here).height slice here here (tile_samples grid.width picture (tile_of grid here)) (tile_samples grid.width other (tile_of grid here)) sound are pixels.wide codes (subst P same codes')).1

pub after-same : (across : ℕ) (tiles : List Tile) (xs ys : List ℕ) → ((k : ℕ) → k < length tiles → tile_samples across xs (tile_at tiles k) ≡ tile_samples across ys (tile_at tiles k))
    → tile_after_tile across tiles xs ≡ tile_after_tile across tiles ys
unfolding tile_after_tile
after-same across [] xs ys each = refl
after-same across (tile ∷ tiles) xs ys each =
    let first : tile_samples across xs tile ≡ tile_samples across ys tile = each 0 (omega arith) in
    flat_map-cons (tile_samples across xs) tile tiles
    ∙ ap₂ (λ (a b : List ℕ). a ++ b) first (after-same across tiles xs ys (λ k low. each (suc k) (omega arith)))
    ∙ sym (flat_map-cons (tile_samples across ys) tile tiles)

pub pixels-of_heads : (grid : Grid) (heads : List SliceHead) → map (pixels_of grid) (map cells_of heads) ≡ map (tile_of grid) heads
pixels-of_heads grid [] = refl
pixels-of_heads grid (head ∷ heads) = ap (λ (ts : List Tile). tile_of grid head ∷ ts) (pixels-of_heads grid heads)

-- the same slices with their heads
same-heads : HeadIsOne → (params : Parameters) (grid : Grid) (bytes : List ℕ) (slices : List (List ℕ)) (heads others : List SliceHead) → AreSound params → AreBytes bytes
    → CutsInto params grid bytes slices heads → CutsInto params grid bytes slices others → others ≡ heads
same-heads one params grid bytes slices heads others sound are cut cut' =
    let bytes_are : All AreBytes slices = slices-bytes params.ec bytes slices are cut.slices_are in
    let count : length heads ≡ length slices = cut.heads_are.count in
    let count' : length others ≡ length slices = cut'.heads_are.count in
    ext_get_or no_head others heads (count' ∙ sym count) (λ k low.
    let listed : k < length slices = omega (arith, count', low) in
    one params (k == 0) (slice_at slices k) (head_at others k) (head_at heads k) sound (All-get_or AreBytes slices k [] listed bytes_are) (cut'.heads_are.each k listed) (cut.heads_are.each k listed))

one-picture : OneLaws → (params : Parameters) (grid : Grid) (bytes picture other : List ℕ) (slices : List (List ℕ)) (heads : List SliceHead) → AreSound params → AreBytes bytes → IsGridOf params grid
    → CutsInto params grid bytes slices heads → length picture ≡ 3 * grid.width * grid.height → length other ≡ 3 * grid.width * grid.height
    → ((k : ℕ) → k < length slices → CodesTile params grid k (slice_at slices k) (head_at heads k) (tile_samples grid.width picture (tile_of grid (head_at heads k))))
    → ((k : ℕ) → k < length slices → CodesTile params grid k (slice_at slices k) (head_at heads k) (tile_samples grid.width other (tile_of grid (head_at heads k))))
    → picture ≡ other
one-picture laws params grid bytes picture other slices heads sound are of cut long long' each each' =
    let bytes_are : All AreBytes slices = slices-bytes params.ec bytes slices are cut.slices_are in
    let count : length heads ≡ length slices = cut.heads_are.count in
    let many : length (map (tile_of grid) heads) ≡ length heads = length-map heads (tile_of grid) in
    let cover : CoverOnce grid.width grid.height (map (tile_of grid) heads) =
    subst (CoverOnce grid.width grid.height) (pixels-of_heads grid heads) (cells-cover grid (map cells_of heads) of.is cut.cover) in
    laws.tell grid.width grid.height (map (tile_of grid) heads) picture other cover long long'
    (after-same grid.width (map (tile_of grid) heads) picture other (λ k low.
    let listed : k < length slices = omega (arith, many, count, low) in
    let at : tile_at (map (tile_of grid) heads) k ≡ tile_of grid (head_at heads k) = get_or-map (tile_of grid) heads k no_head (record { x = 0; y = 0; width = 0; height = 0 }) (omega (arith, many, low)) in
    let P : Tile → Type 0 = λ t. tile_samples grid.width picture t ≡ tile_samples grid.width other t in
    subst P (sym at) (one-tile laws.codes params grid k (slice_at slices k) (head_at heads k) (head_at heads k) picture other sound (All-get_or AreBytes slices k [] listed bytes_are) of (cut.heads_are.each k listed) refl (each k listed) (each' k listed))))

-- a cut with slices that are equal
cut-with : (params : Parameters) (grid : Grid) (bytes : List ℕ) (slices others : List (List ℕ)) (heads : List SliceHead) → slices ≡ others → CutsInto params grid bytes slices heads → CutsInto params grid bytes others heads
cut-with params grid bytes slices others heads same cut =
    let P : List (List ℕ) → Type 0 = λ s. CutsInto params grid bytes s heads in
    subst P same cut

same-slices : (ec : Bool) (bytes : List ℕ) (slices others : List (List ℕ)) → slices_of ec bytes ≡ Ok slices → slices_of ec bytes ≡ Ok others → slices ≡ others
same-slices ec bytes slices others is is' = cc

-- the slices and heads that a frame is cut into are one
pub one-cut : HeadIsOne → (params : Parameters) (grid : Grid) (bytes : List ℕ) (slices others : List (List ℕ)) (heads other_heads : List SliceHead) → AreSound params → AreBytes bytes
    → CutsInto params grid bytes slices heads → CutsInto params grid bytes others other_heads → other_heads ≡ heads
one-cut one params grid bytes slices others heads other_heads sound are cut cut' =
    same-heads one params grid bytes slices heads other_heads sound are cut (cut-with params grid bytes others slices other_heads (same-slices params.ec bytes others slices cut'.slices_are cut.slices_are) cut')

pub pictures-one : OneLaws → (params : Parameters) (grid : Grid) (bytes picture other : List ℕ) → AreSound params → AreBytes bytes → IsGridOf params grid
    → IsPictureOf params grid bytes picture → IsPictureOf params grid bytes other → picture ≡ other
pictures-one laws params grid bytes picture other sound are of is is' =
    let slices_same : is'.slices ≡ is.slices = same-slices params.ec bytes is'.slices is.slices is'.cut.slices_are is.cut.slices_are in
    let heads_same : is'.heads ≡ is.heads = one-cut laws.head params grid bytes is.slices is'.slices is.heads is'.heads sound are is.cut is'.cut in
    one-picture laws params grid bytes picture other is.slices is.heads sound are of is.cut is.long is'.long is.each
    (λ k low.
    let P : List (List ℕ) → Type 0 = λ ss. CodesTile params grid k (slice_at ss k) (head_at is.heads k) (tile_samples grid.width other (tile_of grid (head_at is.heads k))) in
    let Q : List SliceHead → Type 0 = λ hs. CodesTile params grid k (slice_at is'.slices k) (head_at hs k) (tile_samples grid.width other (tile_of grid (head_at hs k))) in
    let L : List (List ℕ) → Type 0 = λ ss. k < length ss in
    subst P slices_same (subst Q heads_same (is'.each k (subst L (sym slices_same) low))))
