-- What was read was written so.
use Rattle.std.proofs.Common.{◌≡◌, ℕ, zero, suc, ◌+◌, ◌^◌, ◌<◌, ◌≤◌, Bool, true, false, cond, ◌&&◌, nat_lt, nat_eq, ◌==◌, List, [], ◌∷◌, ◌++◌, length, take, drop, All, Option, Some, None, Result, Ok, Err, IsUtf8, refl, sym, ap, subst, ◌∙◌, append_assoc, inl, inr, arith}
use Rattle.std.specs.List.{flat_map, AllByRecursion}
use Rattle.std.specs.Int.{bytes_high_first}
use Rattle.std.specs.Str.{is_utf8}
use Rattle.std.specs.Cmp.Lexicographic.{pointwise, bytes_decides}
use Rattle.std.proofs.lemmas.Bool.{and_parts, cases_lt, leb-true, ltb-false, eqb-true}
use Rattle.std.proofs.lemmas.Nat.{be_bytes_2, be_bytes_4, be_bytes_8}
use Rattle.std.proofs.lemmas.Str.{IsUtf8-from_is_utf8}
use Rattle.std.proofs.lemmas.List.{take-append-drop, length-take, get_or-drop, get_or-take, get_or_past, append-nil, nil_from_length}
use Rattle.std.proofs.lemmas.List.Concat.{flat_map-cons}
use Rattle.std.proofs.lemmas.List.Elements.{All-from_recursion}
use Rattle.byteorder.specs.Endian.{big_number}
use Rattle.byteorder.specs.Numbers.{big_from-lt}
use Rattle.cook_bits.specs.Bits.{AreBytes}
use Rattle.dpx_packing.specs.PadForms.{IsPadForm, pad_form_len}
use Rattle.dpx_packing.specs.FormEnds.{form_cut}
use Rattle.reversal.specs.declared.record.Kind.TheVariants.{Other, Frame, Wave}
use Rattle.reversal.specs.declared.parts.Tag.{Tag}
use Rattle.reversal.specs.declared.parts.Tag.TheVariants as tags
use Rattle.reversal.specs.declared.parts.Parts.{Parts}
use Rattle.reversal.specs.declared.record.FileRecord.{FileRecord}
use Rattle.reversal.specs.SideData.{mark, block_bytes, common_bytes, kind_number, parts_bytes, record_bytes, side_data_of, HasParts, HasShape, IsTrack, FitsTypes, IsSideDataOf, AreNames, names_of}
use Rattle.reversal.specs.SideReading.{◌>>=◌, piece_at, number_at, tag_at, text_at, name_at, track_at, block_at, form_until, form_at, frame_at, wave_at, parts_at, record_with, record_at, records_at, mark_at, side_at, with_names, placed, first_bad_name, side_read, GivesSide}
use Rattle.reversal.specs.declared.error.SideError.{SideError}
use Rattle.std.specs.Global.{Vec}
use Rattle.std.specs.Prelude.{IfOk, nat_le}
use Rattle.reversal.proofs.NamesFound.{are_named}

AreBytes-drop : (n : ℕ) (bytes : List ℕ) → AreBytes bytes → AreBytes (drop n bytes)
AreBytes-drop n bytes h i = rw get_or-drop (h (n + i))

AreBytes-take : (n : ℕ) (bytes : List ℕ) → AreBytes bytes → AreBytes (take n bytes)
AreBytes-take n bytes h i =
    elim (cases_lt i n) [
      | inl lt ↦ rw (get_or-take n bytes i 0 lt) (h i)
      | inr le ↦ rw (get_or_past (take n bytes) i 0 (omega (arith, length-take n bytes))) (omega arith)
    ]

-- the value of a step that did not fail
bind_ok : {A B : Type 0} (r : Result A ℕ) (f : A → Result B ℕ) (y : B) → (r >>= f) ≡ Ok y → (x : A) × (r ≡ Ok x) × (f x ≡ Ok y)
bind_ok (Ok x) f y e = (x, refl, e)
bind_ok (Err left) f y e = absurd cc

-- a test that did not fail
guard_ok : {A : Type 0} (b : Bool) (left : ℕ) (x y : A) → cond b (Err left) (Ok x) ≡ Ok y → (b ≡ false) × (x ≡ y)
guard_ok true left x y e = absurd cc
guard_ok false left x y e = (refl, cc)

guard_yes : {A : Type 0} (b : Bool) (left : ℕ) (x y : A) → cond b (Ok x) (Err left) ≡ Ok y → (b ≡ true) × (x ≡ y)
guard_yes true left x y e = (refl, cc)
guard_yes false left x y e = absurd cc

abbrev done : {A : Type 0} → A → Result A ℕ
done x = Ok x

ok_is : {A : Type 0} (x y : A) → done x ≡ done y → x ≡ y
ok_is x y e = cc

-- what a reader took from the front
record Takes (bytes text rest : List ℕ) : Type 0 where
  parts : bytes ≡ text ++ rest
  rest_fits : AreBytes rest

Takes-then : (a x b y c : List ℕ) → Takes a x b → Takes b y c → Takes a (x ++ y) c
Takes-then a x b y c p q = record { parts = p.parts ∙ ap (λ (t : List ℕ). x ++ t) q.parts ∙ sym (append_assoc x y c); rest_fits = q.rest_fits }

-- ---- pieces and numbers

record Piece (len : ℕ) (bytes : List ℕ) (x : List ℕ × List ℕ) : Type 0 where
  takes : Takes bytes x.0 x.1
  fits : AreBytes x.0
  long : length x.0 ≡ len

piece_takes : (left len : ℕ) (bytes : List ℕ) (x : List ℕ × List ℕ) → AreBytes bytes → piece_at left len bytes ≡ Ok x → Piece len bytes x
piece_takes left len bytes x fits e =
    let g = guard_ok (nat_lt (length bytes) len) left (take len bytes, drop len bytes) x e in
    let enough : len ≤ length bytes = ltb-false _ _ g.0 in
    let whole : Piece len bytes (take len bytes, drop len bytes) = record {
      takes = record { parts = sym (take-append-drop len bytes); rest_fits = AreBytes-drop len bytes fits };
      fits = AreBytes-take len bytes fits;
      long = omega (arith, length-take len bytes);
    } in
    subst (Piece len bytes) g.1 whole

-- so many bytes are those of the number that they make
record IsWide (len : ℕ) : Type 0 where
  back : (bytes : List ℕ) → length bytes ≡ len → AreBytes bytes → bytes_high_first len (big_number len bytes) ≡ bytes

wide2 : IsWide 2
wide2 = record { back = λ bytes len fits. be_bytes_2 bytes (big_number 2 bytes) len fits (omega arith) }

wide4 : IsWide 4
wide4 = record { back = λ bytes len fits. be_bytes_4 bytes (big_number 4 bytes) len fits (omega arith) }

wide8 : IsWide 8
wide8 = record { back = λ bytes len fits. be_bytes_8 bytes (big_number 8 bytes) len fits (omega arith) }

number_takes : (len : ℕ) → IsWide len → (bytes : List ℕ) (x : ℕ × List ℕ) → AreBytes bytes → number_at len bytes ≡ Ok x → Takes bytes (bytes_high_first len x.0) x.1 × (x.0 < 256 ^ len)
number_takes len wide bytes x fits e =
    let b = bind_ok (piece_at (length bytes) len bytes) (λ piece. Ok (big_number len piece.0, piece.1)) x e in
    let p = piece_takes (length bytes) len bytes b.0 fits b.1 in
    let spelled : Takes bytes (bytes_high_first len (big_number len b.0.0)) b.0.1 = subst (λ (t : List ℕ). Takes bytes t b.0.1) (sym (wide.back b.0.0 p.long p.fits)) p.takes in
    let made : ℕ × List ℕ = (big_number len b.0.0, b.0.1) in
    subst (λ (y : ℕ × List ℕ). Takes bytes (bytes_high_first len y.0) y.1 × (y.0 < 256 ^ len)) (ok_is made x b.2) (spelled, big_from-lt 0 len b.0.0 p.fits)

-- ---- records

-- the number of a kind
tag_number : Tag → ℕ
tag_number tags.Other = 0
tag_number tags.Frame = 1
tag_number tags.Wave = 2

tag_takes : (bytes : List ℕ) (x : Tag × List ℕ) → AreBytes bytes → tag_at bytes ≡ Ok x → Takes bytes (tag_number x.0 ∷ []) x.1
unfolding tag_number
tag_takes [] x fits e = absurd cc
tag_takes (zero ∷ rest) x fits e =
    let made : Tag × List ℕ = (tags.Other, rest) in
    subst (λ (y : Tag × List ℕ). Takes (0 ∷ rest) (tag_number y.0 ∷ []) y.1) (ok_is made x e) (record { parts = refl; rest_fits = λ i. fits (suc i) })
tag_takes (suc zero ∷ rest) x fits e =
    let made : Tag × List ℕ = (tags.Frame, rest) in
    subst (λ (y : Tag × List ℕ). Takes (1 ∷ rest) (tag_number y.0 ∷ []) y.1) (ok_is made x e) (record { parts = refl; rest_fits = λ i. fits (suc i) })
tag_takes (suc (suc zero) ∷ rest) x fits e =
    let made : Tag × List ℕ = (tags.Wave, rest) in
    subst (λ (y : Tag × List ℕ). Takes (2 ∷ rest) (tag_number y.0 ∷ []) y.1) (ok_is made x e) (record { parts = refl; rest_fits = λ i. fits (suc i) })
tag_takes (suc (suc (suc number)) ∷ rest) x fits e = absurd cc

name_takes : (bytes : List ℕ) (x : List ℕ × List ℕ) → AreBytes bytes → name_at bytes ≡ Ok x → Takes bytes (bytes_high_first 2 (length x.0) ++ x.0) x.1 × (length x.0 < 2 ^ 16) × IsUtf8 x.0
unfolding name_at
name_takes bytes x fits e =
    let a = bind_ok (number_at 2 bytes) (λ len. piece_at (length bytes) len.0 len.1 >>= λ piece. text_at (length bytes) piece.0 >>= λ name. Ok (name, piece.1)) x e in
    let b = bind_ok (piece_at (length bytes) a.0.0 a.0.1) (λ piece. text_at (length bytes) piece.0 >>= λ name. Ok (name, piece.1)) x a.2 in
    let c = bind_ok (text_at (length bytes) b.0.0) (λ name. Ok (name, b.0.1)) x b.2 in
    let g = guard_yes (is_utf8 b.0.0) (length bytes) b.0.0 c.0 c.1 in
    let size = number_takes 2 wide2 bytes a.0 fits a.1 in
    let p = piece_takes (length bytes) a.0.0 a.0.1 b.0 size.0.rest_fits b.1 in
    let both = Takes-then bytes (bytes_high_first 2 a.0.0) a.0.1 b.0.0 b.0.1 size.0 p.takes in
    let sized : Takes bytes (bytes_high_first 2 (length b.0.0) ++ b.0.0) b.0.1 = subst (λ (k : ℕ). Takes bytes (bytes_high_first 2 k ++ b.0.0) b.0.1) (sym p.long) both in
    let made : List ℕ × List ℕ = (b.0.0, b.0.1) in
    let same : made ≡ x = ap (λ (t : List ℕ). (t, b.0.1)) g.1 ∙ ok_is (c.0, b.0.1) x c.2 in
    subst (λ (y : List ℕ × List ℕ). Takes bytes (bytes_high_first 2 (length y.0) ++ y.0) y.1 × (length y.0 < 2 ^ 16) × IsUtf8 y.0) same (sized, omega (arith, p.long, size.1), IsUtf8-from_is_utf8 b.0.0 g.0)

-- ---- fields of frames and waves

track_takes : (bytes : List ℕ) (x : ℕ × List ℕ) → AreBytes bytes → track_at bytes ≡ Ok x → Takes bytes (x.0 ∷ []) x.1 × IsTrack x.0
track_takes [] x fits e = absurd cc
track_takes (track ∷ rest) x fits e =
    let made : ℕ × List ℕ = (track, rest) in
    let g = guard_yes (nat_le 1 track && nat_le track 126) (suc (length rest)) made x e in
    let both = and_parts (nat_le 1 track) (nat_le track 126) g.0 in
    let listed : IsTrack track = record { low = leb-true 1 track both.0; high = leb-true track 126 both.1 } in
    subst (λ (y : ℕ × List ℕ). Takes (track ∷ rest) (y.0 ∷ []) y.1 × IsTrack y.0) g.1 (record { parts = refl; rest_fits = λ i. fits (suc i) }, listed)

record Block (bytes : List ℕ) (x : List ℕ × List ℕ) : Type 0 where
  takes : Takes bytes (block_bytes x.0) x.1
  in_eight : length x.0 < 2 ^ 64

block_takes : (bytes : List ℕ) (x : List ℕ × List ℕ) → AreBytes bytes → block_at bytes ≡ Ok x → Block bytes x
unfolding block_at
block_takes bytes x fits e =
    let a = bind_ok (number_at 8 bytes) (λ len. piece_at (length bytes) len.0 len.1) x e in
    let size = number_takes 8 wide8 bytes a.0 fits a.1 in
    let p = piece_takes (length bytes) a.0.0 a.0.1 x size.0.rest_fits a.2 in
    let both = Takes-then bytes (bytes_high_first 8 a.0.0) a.0.1 x.0 x.1 size.0 p.takes in
    record { takes = subst (λ (k : ℕ). Takes bytes (bytes_high_first 8 k ++ x.0) x.1) (sym p.long) both; in_eight = omega (arith, p.long, size.1) }

record Form (bytes : List ℕ) (x : List ℕ × List ℕ) : Type 0 where
  takes : Takes bytes x.0 x.1
  whole : IsPadForm x.0

form_takes-by : (bytes : List ℕ) (found : Option ℕ) (x : List ℕ × List ℕ) → AreBytes bytes → pad_form_len bytes ≡ found → form_until bytes found ≡ Ok x → Form bytes x
form_takes-by bytes None x fits is e = absurd cc
form_takes-by bytes (Some len) x fits is e =
    let made : List ℕ × List ℕ = (take len bytes, drop len bytes) in
    let whole : Form bytes made = record { takes = record { parts = sym (take-append-drop len bytes); rest_fits = AreBytes-drop len bytes fits }; whole = (form_cut bytes len is).1 } in
    subst (Form bytes) (ok_is made x e) whole

form_takes : (bytes : List ℕ) (x : List ℕ × List ℕ) → AreBytes bytes → form_at bytes ≡ Ok x → Form bytes x
unfolding form_at
form_takes bytes x fits e = form_takes-by bytes (pad_form_len bytes) x fits refl e

-- ---- what a record has by its kind

record PartsRead (tag : Tag) (bytes : List ℕ) (x : Parts × List ℕ) : Type 0 where
  takes : Takes bytes (parts_bytes x.0.kind x.0.head x.0.pads x.0.tail) x.1
  shape : HasParts x.0.kind x.0.head x.0.pads x.0.tail
  number : kind_number x.0.kind ≡ tag_number tag
  head_in_eight : length x.0.head < 2 ^ 64
  tail_in_eight : length x.0.tail < 2 ^ 64

none_takes : (bytes : List ℕ) (x : Parts × List ℕ) → AreBytes bytes → parts_at tags.Other bytes ≡ Ok x → PartsRead tags.Other bytes x
unfolding tag_number
none_takes bytes x fits e =
    let made : Parts × List ℕ = (record { kind = Other; head = []; pads = []; tail = [] }, bytes) in
    let whole : PartsRead tags.Other bytes made = record {
      takes = record { parts = refl; rest_fits = fits };
      shape = record { no_head = refl; no_pads = refl; no_tail = refl };
      number = refl;
      head_in_eight = omega arith;
      tail_in_eight = omega arith;
    } in
    subst (PartsRead tags.Other bytes) (ok_is made x e) whole

frame_takes : (bytes : List ℕ) (x : Parts × List ℕ) → AreBytes bytes → frame_at bytes ≡ Ok x → PartsRead tags.Frame bytes x
unfolding frame_at tag_number
frame_takes bytes x fits e =
    let a = bind_ok (track_at bytes) (λ track. number_at 4 track.1 >>= λ index. block_at index.1 >>= λ head. form_at head.1 >>= λ pads. block_at pads.1 >>= λ tail. Ok (record { kind = Frame track.0 index.0; head = head.0; pads = pads.0; tail = tail.0 }, tail.1)) x e in
    let b = bind_ok (number_at 4 a.0.1) (λ index. block_at index.1 >>= λ head. form_at head.1 >>= λ pads. block_at pads.1 >>= λ tail. Ok (record { kind = Frame a.0.0 index.0; head = head.0; pads = pads.0; tail = tail.0 }, tail.1)) x a.2 in
    let c = bind_ok (block_at b.0.1) (λ head. form_at head.1 >>= λ pads. block_at pads.1 >>= λ tail. Ok (record { kind = Frame a.0.0 b.0.0; head = head.0; pads = pads.0; tail = tail.0 }, tail.1)) x b.2 in
    let d = bind_ok (form_at c.0.1) (λ pads. block_at pads.1 >>= λ tail. Ok (record { kind = Frame a.0.0 b.0.0; head = c.0.0; pads = pads.0; tail = tail.0 }, tail.1)) x c.2 in
    let f = bind_ok (block_at d.0.1) (λ tail. Ok (record { kind = Frame a.0.0 b.0.0; head = c.0.0; pads = d.0.0; tail = tail.0 }, tail.1)) x d.2 in
    let track = track_takes bytes a.0 fits a.1 in
    let index = number_takes 4 wide4 a.0.1 b.0 track.0.rest_fits b.1 in
    let head = block_takes b.0.1 c.0 index.0.rest_fits c.1 in
    let pads = form_takes c.0.1 d.0 head.takes.rest_fits d.1 in
    let tail = block_takes d.0.1 f.0 pads.takes.rest_fits f.1 in
    let e1 = Takes-then bytes (a.0.0 ∷ []) a.0.1 (bytes_high_first 4 b.0.0) b.0.1 track.0 index.0 in
    let e2 = Takes-then bytes (a.0.0 ∷ bytes_high_first 4 b.0.0) b.0.1 (block_bytes c.0.0) c.0.1 e1 head.takes in
    let e3 = Takes-then bytes (a.0.0 ∷ (bytes_high_first 4 b.0.0 ++ block_bytes c.0.0)) c.0.1 d.0.0 d.0.1 e2 pads.takes in
    let e4 = Takes-then bytes (a.0.0 ∷ (bytes_high_first 4 b.0.0 ++ block_bytes c.0.0 ++ d.0.0)) d.0.1 (block_bytes f.0.0) f.0.1 e3 tail.takes in
    let made : Parts × List ℕ = (record { kind = Frame a.0.0 b.0.0; head = c.0.0; pads = d.0.0; tail = f.0.0 }, f.0.1) in
    let whole : PartsRead tags.Frame bytes made = record {
      takes = e4;
      shape = record { listed = track.1; in_four = omega (arith, index.1); form = pads.whole };
      number = refl;
      head_in_eight = head.in_eight;
      tail_in_eight = tail.in_eight;
    } in
    subst (PartsRead tags.Frame bytes) (ok_is made x f.2) whole

wave_takes : (bytes : List ℕ) (x : Parts × List ℕ) → AreBytes bytes → wave_at bytes ≡ Ok x → PartsRead tags.Wave bytes x
unfolding wave_at tag_number
wave_takes bytes x fits e =
    let a = bind_ok (track_at bytes) (λ track. block_at track.1 >>= λ head. block_at head.1 >>= λ tail. Ok (record { kind = Wave track.0; head = head.0; pads = []; tail = tail.0 }, tail.1)) x e in
    let b = bind_ok (block_at a.0.1) (λ head. block_at head.1 >>= λ tail. Ok (record { kind = Wave a.0.0; head = head.0; pads = []; tail = tail.0 }, tail.1)) x a.2 in
    let c = bind_ok (block_at b.0.1) (λ tail. Ok (record { kind = Wave a.0.0; head = b.0.0; pads = []; tail = tail.0 }, tail.1)) x b.2 in
    let track = track_takes bytes a.0 fits a.1 in
    let head = block_takes a.0.1 b.0 track.0.rest_fits b.1 in
    let tail = block_takes b.0.1 c.0 head.takes.rest_fits c.1 in
    let e1 = Takes-then bytes (a.0.0 ∷ []) a.0.1 (block_bytes b.0.0) b.0.1 track.0 head.takes in
    let e2 = Takes-then bytes (a.0.0 ∷ block_bytes b.0.0) b.0.1 (block_bytes c.0.0) c.0.1 e1 tail.takes in
    let made : Parts × List ℕ = (record { kind = Wave a.0.0; head = b.0.0; pads = []; tail = c.0.0 }, c.0.1) in
    let whole : PartsRead tags.Wave bytes made = record {
      takes = e2;
      shape = record { listed = track.1; no_pads = refl };
      number = refl;
      head_in_eight = head.in_eight;
      tail_in_eight = tail.in_eight;
    } in
    subst (PartsRead tags.Wave bytes) (ok_is made x c.2) whole

parts_take : (tag : Tag) (bytes : List ℕ) (x : Parts × List ℕ) → AreBytes bytes → parts_at tag bytes ≡ Ok x → PartsRead tag bytes x
parts_take tags.Other bytes x fits e = none_takes bytes x fits e
parts_take tags.Frame bytes x fits e = frame_takes bytes x fits e
parts_take tags.Wave bytes x fits e = wave_takes bytes x fits e

-- ---- whole records

record_takes : (bytes : List ℕ) (x : FileRecord × List ℕ) → AreBytes bytes → record_at bytes ≡ Ok x → Takes bytes (record_bytes x.0) x.1 × HasShape x.0 × FitsTypes x.0
unfolding record_at
record_takes bytes x fits e =
    let a = bind_ok (tag_at bytes) (λ tag. name_at tag.1 >>= λ name. number_at 8 name.1 >>= λ len. piece_at (length len.1) 16 len.1 >>= λ sum. parts_at tag.0 sum.1 >>= λ parts. Ok (record_with name.0 len.0 sum.0 parts.0, parts.1)) x e in
    let b = bind_ok (name_at a.0.1) (λ name. number_at 8 name.1 >>= λ len. piece_at (length len.1) 16 len.1 >>= λ sum. parts_at a.0.0 sum.1 >>= λ parts. Ok (record_with name.0 len.0 sum.0 parts.0, parts.1)) x a.2 in
    let c = bind_ok (number_at 8 b.0.1) (λ len. piece_at (length len.1) 16 len.1 >>= λ sum. parts_at a.0.0 sum.1 >>= λ parts. Ok (record_with b.0.0 len.0 sum.0 parts.0, parts.1)) x b.2 in
    let d = bind_ok (piece_at (length c.0.1) 16 c.0.1) (λ sum. parts_at a.0.0 sum.1 >>= λ parts. Ok (record_with b.0.0 c.0.0 sum.0 parts.0, parts.1)) x c.2 in
    let f = bind_ok (parts_at a.0.0 d.0.1) (λ parts. Ok (record_with b.0.0 c.0.0 d.0.0 parts.0, parts.1)) x d.2 in
    let tag = tag_takes bytes a.0 fits a.1 in
    let name = name_takes a.0.1 b.0 tag.rest_fits b.1 in
    let len = number_takes 8 wide8 b.0.1 c.0 name.0.rest_fits c.1 in
    let sum = piece_takes (length c.0.1) 16 c.0.1 d.0 len.0.rest_fits d.1 in
    let parts = parts_take a.0.0 d.0.1 f.0 sum.takes.rest_fits f.1 in
    let kind : Takes bytes (kind_number f.0.0.kind ∷ []) a.0.1 = subst (λ (k : ℕ). Takes bytes (k ∷ []) a.0.1) (sym parts.number) tag in
    let e1 = Takes-then bytes (kind_number f.0.0.kind ∷ []) a.0.1 (bytes_high_first 2 (length b.0.0) ++ b.0.0) b.0.1 kind name.0 in
    let e2 = Takes-then bytes (kind_number f.0.0.kind ∷ (bytes_high_first 2 (length b.0.0) ++ b.0.0)) b.0.1 (bytes_high_first 8 c.0.0) c.0.1 e1 len.0 in
    let e3 = Takes-then bytes (kind_number f.0.0.kind ∷ (bytes_high_first 2 (length b.0.0) ++ b.0.0 ++ bytes_high_first 8 c.0.0)) c.0.1 d.0.0 d.0.1 e2 sum.takes in
    let said : FileRecord = record_with b.0.0 c.0.0 d.0.0 f.0.0 in
    let e4 = Takes-then bytes (common_bytes said) d.0.1 (parts_bytes f.0.0.kind f.0.0.head f.0.0.pads f.0.0.tail) f.0.1 e3 parts.takes in
    let made : FileRecord × List ℕ = (said, f.0.1) in
    let shape : HasShape said = record { parts = parts.shape; in_two = name.1 } in
    let types : FitsTypes said = record { text = name.2; in_eight = len.1; sixteen = sum.long; head_in_eight = parts.head_in_eight; tail_in_eight = parts.tail_in_eight } in
    subst (λ (y : FileRecord × List ℕ). Takes bytes (record_bytes y.0) y.1 × HasShape y.0 × FitsTypes y.0) (ok_is made x f.2) (e4, shape, types)

record Read (bytes : List ℕ) (count : ℕ) (x : List FileRecord × List ℕ) : Type 0 where
  takes : Takes bytes (flat_map record_bytes x.0) x.1
  counted : length x.0 ≡ count
  shaped : AllByRecursion HasShape x.0
  typed : AllByRecursion FitsTypes x.0

records_take : (count : ℕ) (bytes : List ℕ) (x : List FileRecord × List ℕ) → AreBytes bytes → records_at count bytes ≡ Ok x → Read bytes count x
unfolding records_at
records_take zero bytes x fits e =
    let made : List FileRecord × List ℕ = ([], bytes) in
    let none : Read bytes 0 made = record { takes = record { parts = refl; rest_fits = fits }; counted = refl; shaped = tt; typed = tt } in
    subst (Read bytes 0) (ok_is made x e) none
records_take (suc count) bytes x fits e =
    let a = bind_ok (record_at bytes) (λ first. records_at count first.1 >>= λ others. Ok (first.0 ∷ others.0, others.1)) x e in
    let b = bind_ok (records_at count a.0.1) (λ others. Ok (a.0.0 ∷ others.0, others.1)) x a.2 in
    let first = record_takes bytes a.0 fits a.1 in
    let others = records_take count a.0.1 b.0 first.0.rest_fits b.1 in
    let both = Takes-then bytes (record_bytes a.0.0) a.0.1 (flat_map record_bytes b.0.0) b.0.1 first.0 others.takes in
    let made : List FileRecord × List ℕ = (a.0.0 ∷ b.0.0, b.0.1) in
    let all : Read bytes (suc count) made = record { takes = rw flat_map-cons both; counted = ap suc others.counted; shaped = (first.1, others.shaped); typed = (first.2, others.typed) } in
    subst (Read bytes (suc count)) (ok_is made x b.2) all

-- ---- the whole

mark_takes : (bytes rest : List ℕ) → AreBytes bytes → mark_at bytes ≡ Ok rest → Takes bytes mark rest
mark_takes bytes rest fits e =
    let a = bind_ok (piece_at (length bytes) 8 bytes) (λ piece. cond (pointwise nat_eq piece.0 mark) (Ok piece.1) (Err (length bytes))) rest e in
    let p = piece_takes (length bytes) 8 bytes a.0 fits a.1 in
    let g = guard_yes (pointwise nat_eq a.0.0 mark) (length bytes) a.0.1 rest a.2 in
    let same : a.0.0 ≡ mark = (bytes_decides a.0.0 mark).0 g.0 in
    subst (λ (r : List ℕ). Takes bytes mark r) g.1 (subst (λ (t : List ℕ). Takes bytes t a.0.1) same p.takes)

record IsSpelled (bytes : List ℕ) (records : List FileRecord) : Type 0 where
  is : bytes ≡ side_data_of records
  few : length records < 2 ^ 32
  shaped : All HasShape records
  typed : All FitsTypes records

side_takes : (bytes : List ℕ) (records : List FileRecord) → AreBytes bytes → side_at bytes ≡ Ok records → IsSpelled bytes records
unfolding side_at side_data_of
side_takes bytes records fits e =
    let a = bind_ok (mark_at bytes) (λ rest. number_at 4 rest >>= λ count. records_at count.0 count.1 >>= λ read. cond (length read.1 == 0) (Ok read.0) (Err (length read.1))) records e in
    let b = bind_ok (number_at 4 a.0) (λ count. records_at count.0 count.1 >>= λ read. cond (length read.1 == 0) (Ok read.0) (Err (length read.1))) records a.2 in
    let c = bind_ok (records_at b.0.0 b.0.1) (λ read. cond (length read.1 == 0) (Ok read.0) (Err (length read.1))) records b.2 in
    let g = guard_yes (length c.0.1 == 0) (length c.0.1) c.0.0 records c.2 in
    let front = mark_takes bytes a.0 fits a.1 in
    let count = number_takes 4 wide4 a.0 b.0 front.rest_fits b.1 in
    let all = records_take b.0.0 b.0.1 c.0 count.0.rest_fits c.1 in
    let nothing : c.0.1 ≡ [] = nil_from_length c.0.1 (eqb-true _ _ g.0) in
    let e1 = Takes-then bytes mark a.0 (bytes_high_first 4 b.0.0) b.0.1 front count.0 in
    let e2 = Takes-then bytes (mark ++ bytes_high_first 4 b.0.0) b.0.1 (flat_map record_bytes c.0.0) c.0.1 e1 all.takes in
    let whole : bytes ≡ (mark ++ bytes_high_first 4 (length c.0.0)) ++ flat_map record_bytes c.0.0 = e2.parts ∙ ap (λ (r : List ℕ). ((mark ++ bytes_high_first 4 b.0.0) ++ flat_map record_bytes c.0.0) ++ r) nothing ∙ append-nil ((mark ++ bytes_high_first 4 b.0.0) ++ flat_map record_bytes c.0.0) ∙ ap (λ (k : ℕ). (mark ++ bytes_high_first 4 k) ++ flat_map record_bytes c.0.0) (sym all.counted) in
    let found : IsSpelled bytes c.0.0 = record { is = whole; few = omega (arith, all.counted, count.1); shaped = All-from_recursion HasShape c.0.0 all.shaped; typed = All-from_recursion FitsTypes c.0.0 all.typed } in
    subst (IsSpelled bytes) g.1 found

unnamed : (records items : List FileRecord) (bad : Option (List ℕ)) → with_names records bad ≡ Ok items → (bad ≡ None) × (records ≡ items)
unnamed records items None e = (refl, cc)
unnamed records items (Some name) e = absurd cc

unplaced : (len : ℕ) (read : Result (List FileRecord) ℕ) (items : List FileRecord) → placed len read ≡ Ok items → (read ≡ Ok items) × (first_bad_name (names_of items) ≡ None)
unplaced len (Ok records) items e =
    let u = unnamed records items (first_bad_name (names_of records)) e in
    (ap done u.1, subst (λ (rs : List FileRecord). first_bad_name (names_of rs) ≡ None) u.1 u.0)
unplaced len (Err left) items e = absurd cc

pub is_found : (bytes : List ℕ) (r : Result (Vec FileRecord) SideError) → AreBytes bytes → GivesSide r (side_read bytes) → IfOk r (λ v. IsSideDataOf v.items bytes)
unfolding side_read
is_found bytes (Ok v) fits given =
    let u = unplaced (length bytes) (side_at bytes) v.items given in
    let s = side_takes bytes v.items fits u.0 in
    record { are = record { few = s.few; shaped = s.shaped; named = are_named v.items u.1 }; typed = s.typed; is = s.is }
is_found bytes (Err e) fits given = tt

pub names_in_order : (bytes : List ℕ) (records : List FileRecord) → side_read bytes ≡ Ok records → AreNames (names_of records)
unfolding side_read
names_in_order bytes records e = are_named records (unplaced (length bytes) (side_at bytes) records e).1
