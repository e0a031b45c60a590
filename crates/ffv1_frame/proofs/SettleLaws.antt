-- A frame that was cut into parts: its slices, its tiles, and its faults.
use Rattle.std.proofs.Common.{◌≡◌, ℕ, ◌+◌, ◌<◌, ◌≤◌, Bool, List, [], ◌∷◌, ◌++◌, length, map, reverse, take, drop, Result, Ok, Err, All, refl, sym, ◌∙◌, ap, subst, arith}
use Rattle.std.specs.Prelude.{OnOk, IfErr}
use Rattle.std.specs.List.{refill}
use Rattle.std.proofs.lemmas.List.{drop_all, append-nil, take_all}
use Rattle.std.proofs.lemmas.List.Elements.{All-map, All-weaker}
use Rattle.dpx_packing.specs.declared.tile.Tile.{Tile}
use Rattle.dpx_packing.specs.Tiles.{CoverOnce}
use Rattle.ffv1_params.specs.Parameters.{Parameters}
use Rattle.ffv1_slice.specs.declared.head.SliceHead.{SliceHead}
use Rattle.ffv1_frame.specs.declared.cells.Grid.{Grid}
use Rattle.ffv1_frame.specs.declared.error.FrameWhy.{FrameWhy}
use Rattle.ffv1_frame.specs.declared.error.FrameWhy.TheVariants.{FrameShort, SliceSize, SliceCrc, Head, SliceGrid}
use Rattle.ffv1_frame.specs.declared.part.Part.{Part}
use Rattle.ffv1_frame.specs.Footers.{cut_back, slices_of}
use Rattle.ffv1_frame.specs.Grid.{edge, IsGrid, IsGridOf, IsHeadIn, cells_of, pixels_of, tile_of}
use Rattle.ffv1_frame.specs.Heads.{HeadsRead, Settles, SettlesUncovered, SettlesNot}
use Rattle.ffv1_frame.specs.Parts.{coded_in, head_of, cells_of_part, tiles_of, HasPixels, AreHeads, IsCut, FrameFault}
use Rattle.ffv1_frame.proofs.CellCover.{cells-cover}
use Rattle.ffv1_frame.proofs.CutLaws.{IsFooterFault, cut_back-footer, slices-are}
use Rattle.ffv1_frame.proofs.EdgeLaws.{edges-apart}
use Rattle.ffv1_frame.proofs.HeadLaws.{heads-in}

cells-same : (parts : List Part) → map cells_of_part parts ≡ map cells_of (map head_of parts)
cells-same [] = refl
cells-same (part ∷ parts) = ap (λ (ts : List Tile). cells_of_part part ∷ ts) (cells-same parts)

tiles-same : (grid : Grid) (parts : List Part) → map (pixels_of grid) (map cells_of (map head_of parts)) ≡ tiles_of grid parts
tiles-same grid [] = refl
tiles-same grid (part ∷ parts) = ap (λ (ts : List Tile). tile_of grid part.head ∷ ts) (tiles-same grid parts)

-- ---- parts in order

pub settled-in : (params : Parameters) (grid : Grid) (bytes : List ℕ) (turned new : List Part) → IsGridOf params grid → HeadsRead params bytes turned new → All (λ (p : Part). IsHeadIn grid p.head) new
settled-in params grid bytes turned new of read = heads-in params grid bytes turned new of read

pub settled : (params : Parameters) (grid : Grid) (bytes : List ℕ) (old turned new : List Part) → turned ≡ reverse old → HeadsRead params bytes turned new
    → CoverOnce grid.columns grid.rows (map cells_of_part new) → Settles params grid bytes (reverse old) new
settled params grid bytes old turned new is read cover =
    let P : List Part → Type 0 = λ ps. Settles params grid bytes ps new in
    let Q : List Tile → Type 0 = λ ts. CoverOnce grid.columns grid.rows ts in
    subst P is (record { read = read; cover = subst Q (cells-same new) cover })

pub settled-not : (params : Parameters) (grid : Grid) (bytes : List ℕ) (old turned new : List Part) → turned ≡ reverse old → HeadsRead params bytes turned new
    → (CoverOnce grid.columns grid.rows (map cells_of_part new) → ⊥) → SettlesUncovered params grid (map (coded_in bytes) (reverse old))
settled-not params grid bytes old turned new is read other =
    let P : List (List ℕ) → Type 0 = λ ss. AreHeads params ss (map head_of new) in
    let Q : List Tile → Type 0 = λ ts. CoverOnce grid.columns grid.rows ts in
    record {
      heads = map head_of new;
      heads_are = subst P (read.same ∙ ap (λ (ps : List Part). map (coded_in bytes) ps) is) read.heads;
      uncovered = λ cover. other (subst Q (sym (cells-same new)) cover);
    }

-- ---- the whole frame

refilled : (n : ℕ) (old new : List Part) → n ≡ length old → length new ≡ length old → refill n old new ≡ new
refilled n old new size same =
    let rest : drop (length new) old ≡ [] = drop_all (length new) old (omega arith) in
    ap (λ (ps : List Part). take n (new ++ ps)) rest
    ∙ ap (λ (ps : List Part). take n ps) (append-nil new)
    ∙ take_all n new (omega arith)

cut-is : (params : Parameters) (grid : Grid) (bytes : List ℕ) (ec : Bool) (items given new : List Part) → ec ≡ params.ec → given ≡ items → 0 < length bytes
    → cut_back ec 1024 bytes ≡ Ok (map (coded_in bytes) (reverse items)) → Settles params grid bytes (reverse given) new → IsCut params grid bytes new
cut-is params grid bytes ec items given new ec_is given_is some found settles =
    record {
      within = settles.read.within;
      into = record {
        slices_are =
            ap (λ (e : Bool). slices_of e bytes) (sym ec_is)
            ∙ slices-are ec bytes some
            ∙ found
            ∙ (let f : List (List ℕ) → Result (List (List ℕ)) FrameWhy = λ ss. Ok ss in
            ap f (ap (λ (ps : List Part). map (coded_in bytes) (reverse ps)) (sym given_is) ∙ sym settles.read.same));
        heads_are = settles.read.heads;
        cover = settles.cover;
      };
    }

pub whole-ok : (params : Parameters) (grid : Grid) (bytes : List ℕ) (ec : Bool) (items given new : List Part) (result : Result (Unit {0}) FrameWhy) → ec ≡ params.ec → given ≡ items → 0 < length bytes
    → cut_back ec 1024 bytes ≡ Ok (map (coded_in bytes) (reverse items)) → length new ≡ length given → OnOk result (Settles params grid bytes (reverse given) new)
    → OnOk result (IsCut params grid bytes (refill (length items) items new))
whole-ok params grid bytes ec items given new (Ok u) ec_is given_is some found size settles =
    let long : length given ≡ length items = ap (λ (ps : List Part). length ps) given_is in
    let P : List Part → Type 0 = λ ps. IsCut params grid bytes ps in
    subst P (sym (refilled (length items) items new refl (omega arith))) (cut-is params grid bytes ec items given new ec_is given_is some found settles)
whole-ok params grid bytes ec items given new (Err why) ec_is given_is some found size settles = settles

fault-of : (params : Parameters) (grid : Grid) (bytes : List ℕ) (slices : List (List ℕ)) (why : FrameWhy) → slices_of params.ec bytes ≡ Ok slices → SettlesNot params grid slices why → FrameFault params grid bytes why
fault-of params grid bytes slices FrameShort is not = absurd not
fault-of params grid bytes slices SliceSize is not = absurd not
fault-of params grid bytes slices SliceCrc is not = absurd not
fault-of params grid bytes slices (Head slice) is not = record { slices = slices; slices_are = is; refused = not }
fault-of params grid bytes slices SliceGrid is not = record { slices = slices; heads = not.heads; slices_are = is; heads_are = not.heads_are; uncovered = not.uncovered }

pub whole-err : (params : Parameters) (grid : Grid) (bytes : List ℕ) (ec : Bool) (items given : List Part) (result : Result (Unit {0}) FrameWhy) → ec ≡ params.ec → given ≡ items → 0 < length bytes
    → cut_back ec 1024 bytes ≡ Ok (map (coded_in bytes) (reverse items)) → IfErr result (SettlesNot params grid (map (coded_in bytes) (reverse given)))
    → IfErr result (FrameFault params grid bytes)
whole-err params grid bytes ec items given (Ok u) ec_is given_is some found not = not
whole-err params grid bytes ec items given (Err why) ec_is given_is some found not =
    fault-of params grid bytes (map (coded_in bytes) (reverse given)) why
    (ap (λ (e : Bool). slices_of e bytes) (sym ec_is)
    ∙ slices-are ec bytes some
    ∙ found
    ∙ (let f : List (List ℕ) → Result (List (List ℕ)) FrameWhy = λ ss. Ok ss in ap f (ap (λ (ps : List Part). map (coded_in bytes) (reverse ps)) (sym given_is))))
    not

footer-fails : (params : Parameters) (grid : Grid) (bytes : List ℕ) (why : FrameWhy) → IsFooterFault why → slices_of params.ec bytes ≡ Err why → FrameFault params grid bytes why
footer-fails params grid bytes FrameShort is fails = fails
footer-fails params grid bytes SliceSize is fails = fails
footer-fails params grid bytes SliceCrc is fails = fails
footer-fails params grid bytes (Head slice) is fails = absurd is
footer-fails params grid bytes SliceGrid is fails = absurd is

pub split-fails : (params : Parameters) (grid : Grid) (bytes : List ℕ) (ec : Bool) (why : FrameWhy) → ec ≡ params.ec → 0 < length bytes → cut_back ec 1024 bytes ≡ Err why → FrameFault params grid bytes why
split-fails params grid bytes ec why ec_is some fails =
    footer-fails params grid bytes why (cut_back-footer ec 1024 bytes why fails)
    (ap (λ (e : Bool). slices_of e bytes) (sym ec_is) ∙ slices-are ec bytes some ∙ fails)

-- ---- tiles

is-cut_tiles : (params : Parameters) (grid : Grid) (bytes : List ℕ) (parts : List Part) → IsGridOf params grid → IsCut params grid bytes parts → CoverOnce grid.width grid.height (tiles_of grid parts)
is-cut_tiles params grid bytes parts of cut =
    let Q : List Tile → Type 0 = λ ts. CoverOnce grid.width grid.height ts in
    subst Q (tiles-same grid parts) (cells-cover grid (map cells_of (map head_of parts)) of.is cut.into.cover)

pub head-pixels : (grid : Grid) (head : SliceHead) → IsGrid grid → IsHeadIn grid head → HasPixels (tile_of grid head)
head-pixels grid head is inside =
    let across : edge grid.columns grid.width head.x < edge grid.columns grid.width (head.x + head.columns) =
    edges-apart grid.columns grid.width head.x (head.x + head.columns) is.columns_some is.columns_most (let some : 1 ≤ head.columns = inside.columns_some in omega arith) in
    let down : edge grid.rows grid.height head.y < edge grid.rows grid.height (head.y + head.rows) =
    edges-apart grid.rows grid.height head.y (head.y + head.rows) is.rows_some is.rows_most (let some : 1 ≤ head.rows = inside.rows_some in omega arith) in
    record { wide = omega arith; high = omega arith }

is-cut_pixels : (params : Parameters) (grid : Grid) (bytes : List ℕ) (parts : List Part) → IsGridOf params grid → IsCut params grid bytes parts → All HasPixels (tiles_of grid parts)
is-cut_pixels params grid bytes parts of cut =
    All-map HasPixels (λ (p : Part). tile_of grid p.head) parts
    (All-weaker (λ (p : Part). IsHeadIn grid p.head) (λ (p : Part). HasPixels (tile_of grid p.head)) (λ p h. head-pixels grid p.head of.is h) parts
    (heads-in params grid bytes parts parts of (record { same = refl; within = cut.within; heads = cut.into.heads_are })))

pub ok-tiles : (params : Parameters) (grid : Grid) (bytes : List ℕ) (parts : List Part) (result : Result (Unit {0}) FrameWhy) → IsGridOf params grid → OnOk result (IsCut params grid bytes parts)
    → OnOk result (CoverOnce grid.width grid.height (tiles_of grid parts))
ok-tiles params grid bytes parts (Ok u) of cut = is-cut_tiles params grid bytes parts of cut
ok-tiles params grid bytes parts (Err why) of cut = cut

pub ok-pixels : (params : Parameters) (grid : Grid) (bytes : List ℕ) (parts : List Part) (result : Result (Unit {0}) FrameWhy) → IsGridOf params grid → OnOk result (IsCut params grid bytes parts)
    → OnOk result (All HasPixels (tiles_of grid parts))
ok-pixels params grid bytes parts (Ok u) of cut = is-cut_pixels params grid bytes parts of cut
ok-pixels params grid bytes parts (Err why) of cut = cut
