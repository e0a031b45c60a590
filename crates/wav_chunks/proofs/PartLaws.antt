-- A wave that has a layout is its head, its blocks and its tail.
use Rattle.std.proofs.Common.{◌≡◌, ℕ, zero, suc, ◌+◌, ◌-◌, ◌*◌, ◌/◌, ◌^◌, ◌≤◌, nat_le, nat_lt, Bool, true, false, not, ◌==◌, ◌&&◌, cond, List, [], ◌∷◌, ◌++◌, length, drop, Option, Some, None, IfSome, Result, Ok, Err, refl, sym, ◌∙◌, ap, subst, arith, length-drop}
use Rattle.std.proofs.lemmas.Bool.{leb-true, leb-false, and_parts}
use Rattle.std.proofs.lemmas.List.{length-take-le, take-append-drop}
use Rattle.std.proofs.Math.Seq.{take-add}
use Rattle.cook_bits.specs.Bits.{AreBytes}
use Rattle.shelf_reader.specs.Readings.{Reading, gives, fails, looks, answers, thence, thence_of}
use Rattle.shelf_reader.specs.Walk.{Grammar, Visit, walked_within, walked}
use Rattle.wav_chunks.specs.declared.layout.WavLayout.{WavLayout}
use Rattle.wav_chunks.specs.declared.why.WavWhy.{WavWhy}
use Rattle.wav_chunks.specs.declared.why.WavWhy.TheVariants as why
use Rattle.wav_chunks.specs.declared.parts.ChunkKind.{ChunkKind}
use Rattle.wav_chunks.specs.declared.parts.ChunkKind.TheVariants as kind
use Rattle.wav_chunks.specs.declared.parts.Chunk.{Chunk}
use Rattle.wav_chunks.specs.declared.parts.Fields.{Fields}
use Rattle.wav_chunks.specs.declared.parts.Format.{Format}
use Rattle.wav_chunks.specs.declared.parts.Sound.{Sound}
use Rattle.wav_chunks.specs.declared.parts.WaveSeen.{WaveSeen}
use Rattle.wav_chunks.specs.Samples.{is_depth}
use Rattle.wav_chunks.specs.Formed.{IsFormat, IsSound, IsSeen, IsLayoutIn, sound_len}
use Rattle.wav_chunks.specs.WaveParts.{chunk_of, chunk_in, chunk_at, riff, rules, first_broken, format_by, fields_in, format_read, format_in, nothing_seen, with_format, with_sound, visit_format, visit_data, visit_kind, visit_chunk, blocks_in, layout_from, layout_of, is_riff, wave_walked, wave_chunks, wave_in, wave_of}
use Rattle.wav_chunks.specs.Laws.{head_of, sound_in, tail_of, WavesAreTheirParts}
use Rattle.wav_chunks.proofs.LayoutLaws.{layout-in}
use Rattle.wav_chunks.proofs.ChannelLaws.{blocks-bytes}
use Rattle.wav_chunks.proofs.Rows.{bytes-take, bytes-drop}

-- a value that a result gives twice
one_value : {A F : Type 0} (a b : A) (r : Result A F) → r ≡ Ok a → r ≡ Ok b → a ≡ b
one_value a b r h k = cc

-- ---- what a walk keeps

-- a fact of what is known that each item of the walk keeps
keeps : {State Item F : Type 0} (grammar : Grammar Item F) (visit : Visit State Item F) (end : ℕ) (P : State → Type 0) (bytes : List ℕ)
    → ((state : State) (place : ℕ) (item : Item) (next : State) → P state → grammar.item_at end place bytes ≡ Ok item → visit state item bytes ≡ Ok next → P next)
    → (most : ℕ) (state : State) (place : ℕ) (final : State) → P state → walked_within grammar most visit end state place bytes ≡ Ok final → P final
unfolding walked_within thence thence_of gives
keeps {State} {Item} {F} grammar visit end P bytes each zero state place final holds h = subst P (one_value {F = F} state final (Ok state) refl h) holds
keeps {State} {Item} {F} grammar visit end P bytes each (suc most) state place final holds h =
    by_test (λ next item kept is. keeps grammar visit end P bytes each most next (grammar.behind item) final kept is) (nat_lt place end) h
  where
    rest : Item → State → Reading State F
    rest item next = walked_within grammar most visit end next (grammar.behind item)

    after_visit : ((next : State) (item : Item) → P next → rest item next bytes ≡ Ok final → P final) → (item : Item) → grammar.item_at end place bytes ≡ Ok item
        → (r : Result State F) → visit state item bytes ≡ r → thence_of r (rest item) bytes ≡ Ok final → P final
    after_visit onward item read (Ok next) e is = onward next item (each state place item next holds read e) is
    after_visit onward item read (Err fault) e is = let no : ⊥ = cc in absurd no

    after_item : ((next : State) (item : Item) → P next → rest item next bytes ≡ Ok final → P final) → (r : Result Item F) → grammar.item_at end place bytes ≡ r
        → thence_of r (λ item. thence (visit state item) (rest item)) bytes ≡ Ok final → P final
    after_item onward (Ok item) e is = after_visit onward item e (visit state item bytes) refl is
    after_item onward (Err fault) e is = let no : ⊥ = cc in absurd no

    by_test : ((next : State) (item : Item) → P next → rest item next bytes ≡ Ok final → P final) → (t : Bool)
        → cond t (thence (grammar.item_at end place) (λ item. thence (visit state item) (rest item))) (gives state) bytes ≡ Ok final → P final
    by_test onward true is = after_item onward (grammar.item_at end place bytes) refl is
    by_test onward false is = subst P (one_value {F = F} state final (Ok state) refl is) holds

-- ---- the format

-- the first of rules that are kept, and the others
first-kept : (test : Bool) (broken : WavWhy) (others : List (Bool × WavWhy)) → first_broken ((test, broken) ∷ others) ≡ None → (test ≡ true) × (first_broken others ≡ None)
first-kept true broken others h = (refl, h)
first-kept false broken others h = let no : ⊥ = cc in absurd no

-- the rules behind each of the first ones
abbrev after_depth : Fields → List (Bool × WavWhy)
after_depth fields = (fields.align == fields.channels * fields.bits / 8, why.Align) ∷ []

abbrev after_rate : Fields → List (Bool × WavWhy)
after_rate fields = (is_depth fields.bits, why.Bits) ∷ after_depth fields

abbrev after_channels : Fields → List (Bool × WavWhy)
after_channels fields = (nat_le 1 fields.rate && nat_le fields.rate 1048575, why.Rate) ∷ after_rate fields

abbrev after_tag : Fields → List (Bool × WavWhy)
after_tag fields = (nat_le 1 fields.channels && nat_le fields.channels 8, why.Channels) ∷ after_channels fields

abbrev after_length : Fields → List (Bool × WavWhy)
after_length fields = (fields.is_pcm, why.Tag) ∷ after_tag fields

format-formed : (fields : Fields) → first_broken (rules fields) ≡ None → IsFormat (record { channels = fields.channels; bits = fields.bits; rate = fields.rate })
format-formed fields h =
    let whole = first-kept (not fields.is_short) why.FormatShort (after_length fields) h in
    let tag = first-kept fields.is_pcm why.Tag (after_tag fields) whole.1 in
    let channels = first-kept (nat_le 1 fields.channels && nat_le fields.channels 8) why.Channels (after_channels fields) tag.1 in
    let rate = first-kept (nat_le 1 fields.rate && nat_le fields.rate 1048575) why.Rate (after_rate fields) channels.1 in
    let depth = first-kept (is_depth fields.bits) why.Bits (after_depth fields) rate.1 in
    record {
      some = leb-true 1 fields.channels (and_parts (nat_le 1 fields.channels) (nat_le fields.channels 8) channels.0).0;
      few = leb-true fields.channels 8 (and_parts (nat_le 1 fields.channels) (nat_le fields.channels 8) channels.0).1;
      depth = depth.0;
      rate_low = leb-true 1 fields.rate (and_parts (nat_le 1 fields.rate) (nat_le fields.rate 1048575) rate.0).0;
      rate_high = leb-true fields.rate 1048575 (and_parts (nat_le 1 fields.rate) (nat_le fields.rate 1048575) rate.0).1;
    }

by-formed : (o : Option WavWhy) (fields : Fields) (bytes : List ℕ) (format : Format) → first_broken (rules fields) ≡ o → format_by o fields bytes ≡ Ok format → IsFormat format
unfolding format_by gives fails
by-formed None fields bytes format kept h = subst IsFormat (one_value {F = WavWhy} _ format _ refl h) (format-formed fields kept)
by-formed (Some broken) fields bytes format kept h = let no : ⊥ = cc in absurd no

in-formed : (len : ℕ) (chunk : Chunk) (bytes : List ℕ) (format : Format) → format_in len chunk bytes ≡ Ok format → IsFormat format
unfolding format_in format_read looks fails
in-formed len chunk bytes format h = by_test (nat_le 16 chunk.size && nat_le (chunk.start + chunk.size) len) h
  where
    by_test : (t : Bool) → cond t (format_read chunk) (fails why.FormatShort) bytes ≡ Ok format → IsFormat format
    by_test true is = by-formed (first_broken (rules (fields_in chunk bytes))) (fields_in chunk bytes) bytes format refl is
    by_test false is = let no : ⊥ = cc in absurd no

-- ---- the walk over chunks

-- the content of a chunk starts inside the file
chunk-start : (end place : ℕ) (bytes : List ℕ) (chunk : Chunk) → chunk_at end place bytes ≡ Ok chunk → chunk.start ≤ end
unfolding chunk_at answers fails chunk_in chunk_of
chunk-start end place bytes chunk h = by_test (nat_le (place + 8) end) refl h
  where
    by_test : (t : Bool) → nat_le (place + 8) end ≡ t → cond t (answers {F = WavWhy} (chunk_in end place)) (fails why.NoData) bytes ≡ Ok chunk → chunk.start ≤ end
    by_test true e is =
        let room : place + 8 ≤ end = leb-true _ _ e in
        let start : (chunk_in end place bytes).start ≡ chunk.start = ap (λ (c : Chunk). c.start) (one_value {F = WavWhy} _ chunk _ refl is) in
        omega (arith, room, start)
    by_test false e is = let no : ⊥ = cc in absurd no

format-seen : (len : ℕ) (o : Option Format) (seen next : WaveSeen) (chunk : Chunk) (bytes : List ℕ) → IsSeen len seen → visit_format len o seen chunk bytes ≡ Ok next → IsSeen len next
unfolding visit_format thence thence_of gives
format-seen len (Some format) seen next chunk bytes is h = subst (IsSeen len) (one_value {F = WavWhy} seen next (Ok seen) refl h) is
format-seen len None seen next chunk bytes is h = by_format (format_in len chunk bytes) refl h
  where
    by_format : (r : Result Format WavWhy) → format_in len chunk bytes ≡ r → thence_of r (λ format. gives (with_format seen format)) bytes ≡ Ok next → IsSeen len next
    by_format (Ok format) e gave =
        subst (IsSeen len) (one_value {F = WavWhy} (with_format seen format) next (Ok (with_format seen format)) refl gave)
        (record { format = in-formed len chunk bytes format e; sound = is.sound })
    by_format (Err fault) e gave = let no : ⊥ = cc in absurd no

data-seen : (len : ℕ) (o : Option Format) (seen next : WaveSeen) (chunk : Chunk) (bytes : List ℕ) → IsSeen len seen → chunk.start ≤ len → IfSome o IsFormat → visit_data o seen chunk bytes ≡ Ok next → IsSeen len next
unfolding visit_data gives fails
data-seen len (Some format) seen next chunk bytes is start formed h =
    subst (IsSeen len) (one_value {F = WavWhy} (with_sound seen format chunk) next (Ok (with_sound seen format chunk)) refl h)
    (record { format = is.format; sound = record { format = formed; start = start } })
data-seen len None seen next chunk bytes is start formed h = let no : ⊥ = cc in absurd no

kind-seen : (len : ℕ) (which : ChunkKind) (seen next : WaveSeen) (chunk : Chunk) (bytes : List ℕ) → IsSeen len seen → chunk.start ≤ len → visit_kind len which seen chunk bytes ≡ Ok next → IsSeen len next
unfolding visit_kind gives
kind-seen len kind.Format seen next chunk bytes is start h = format-seen len seen.format seen next chunk bytes is h
kind-seen len kind.Data seen next chunk bytes is start h = data-seen len seen.format seen next chunk bytes is start is.format h
kind-seen len kind.Other seen next chunk bytes is start h = subst (IsSeen len) (one_value {F = WavWhy} seen next (Ok seen) refl h) is

walk-seen : (len : ℕ) (bytes : List ℕ) (final : WaveSeen) → wave_walked len bytes ≡ Ok final → IsSeen len final
unfolding wave_walked walked
walk-seen len bytes final h =
    keeps riff (visit_chunk len) len (IsSeen len) bytes
    (λ state place chunk next is read visited. kind-seen len chunk.kind state next chunk bytes is (chunk-start len place bytes chunk read) visited)
    (len - 12) nothing_seen 12 final (record { format = tt; sound = tt }) h

-- ---- the layout

layout-formed : (len : ℕ) (o : Option Sound) (bytes : List ℕ) (layout : WavLayout) → IfSome o (IsSound len) → layout_of len o bytes ≡ Ok layout → IsLayoutIn len layout
unfolding layout_of gives fails
layout-formed len None bytes layout is h = let no : ⊥ = cc in absurd no
layout-formed len (Some sound) bytes layout is h = by_test (nat_le (2 ^ 36) (blocks_in len sound)) refl h
  where
    by_test : (t : Bool) → nat_le (2 ^ 36) (blocks_in len sound) ≡ t → cond t (fails why.TooLong) (gives (layout_from len sound)) bytes ≡ Ok layout → IsLayoutIn len layout
    by_test true e gave = let no : ⊥ = cc in absurd no
    by_test false e gave = layout-in len sound layout is (sym (one_value {F = WavWhy} (layout_from len sound) layout (Ok (layout_from len sound)) refl gave)) (leb-false _ _ e)

chunks-formed : (len : ℕ) (bytes : List ℕ) (layout : WavLayout) → wave_chunks len bytes ≡ Ok layout → IsLayoutIn len layout
unfolding wave_chunks thence thence_of
chunks-formed len bytes layout h = by_walk (wave_walked len bytes) refl h
  where
    by_walk : (r : Result WaveSeen WavWhy) → wave_walked len bytes ≡ r → thence_of r (λ seen. layout_of len seen.sound) bytes ≡ Ok layout → IsLayoutIn len layout
    by_walk (Ok seen) e gave = layout-formed len seen.sound bytes layout (walk-seen len bytes seen e).sound gave
    by_walk (Err fault) e gave = let no : ⊥ = cc in absurd no

pub wave-formed : (file : List ℕ) (layout : WavLayout) → wave_of file ≡ Ok layout → IsLayoutIn (length file) layout
unfolding wave_of wave_in looks fails
wave-formed file layout h = by_length (nat_le 12 (length file)) h
  where
    by_magic : (t : Bool) → cond t (wave_chunks (length file)) (fails why.Magic) file ≡ Ok layout → IsLayoutIn (length file) layout
    by_magic true is = chunks-formed (length file) file layout is
    by_magic false is = let no : ⊥ = cc in absurd no

    by_length : (t : Bool) → cond t (looks is_riff (λ riff. cond riff (wave_chunks (length file)) (fails why.Magic))) (fails why.Short) file ≡ Ok layout → IsLayoutIn (length file) layout
    by_length true is = by_magic (is_riff file) is
    by_length false is = let no : ⊥ = cc in absurd no

-- ---- the parts

pub waves-are-their-parts : WavesAreTheirParts
waves-are-their-parts layout file h are = record {
  layout_in = inside;
  long = many;
  whole =
      ap (λ xs. head_of layout file ++ xs ++ tail_of layout file) (blocks-bytes layout.bits layout.channels layout.blocks (sound_in layout file) inside.formed.depth many sounds)
      ∙ ap (λ front. front ++ tail_of layout file) (sym (take-add layout.head_len (sound_len layout) file))
      ∙ take-append-drop (layout.head_len + sound_len layout) file;
}
  where
    inside : IsLayoutIn (length file) layout
    inside = wave-formed file layout h

    many : length (sound_in layout file) ≡ sound_len layout
    many =
        let rest : length (drop layout.head_len file) ≡ length file - layout.head_len = length-drop layout.head_len file in
        let within = inside.within in
        length-take-le (sound_len layout) (drop layout.head_len file) (omega (arith, rest, within))

    sounds : AreBytes (sound_in layout file)
    sounds = bytes-take (sound_len layout) (drop layout.head_len file) (bytes-drop layout.head_len file are)
