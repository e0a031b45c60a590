-- Slices with their footers, one after another, and how the footers tell them apart from the frame's end
-- (RFC 9043, sections 4.5 and 4.9, "Slice" and "Slice Footer").
use Rattle.std.specs.Prelude.{ℕ, zero, suc, ◌+◌, ◌-◌, ◌*◌, ◌==◌, ◌||◌, ◌&&◌, Bool, not, nat_lt, if◌then◌else◌, List, [], ◌∷◌, ◌++◌, length, slice_index, take, drop, Option, Some, None, Result, Ok, Err}
use Rattle.std.specs.Int.{bytes_high_first}
use Rattle.std.specs.List.{flat_map}
use Rattle.cook_bits.specs.Crc.{crc32_high_of}
use Rattle.ffv1_frame.specs.declared.error.FrameWhy.{FrameWhy}
use Rattle.ffv1_frame.specs.declared.error.FrameWhy.TheVariants.{FrameShort, SliceSize, SliceCrc}

-- ---- written

-- a slice with slice_size and error_status
unfoldable pub sized : List ℕ → List ℕ
sized slice = slice ++ (bytes_high_first 3 (length slice) ++ 0 ∷ [])

-- and with slice_crc_parity
unfoldable pub footed : List ℕ → List ℕ
footed slice = sized slice ++ bytes_high_first 4 (crc32_high_of (sized slice))

unfoldable pub frame_of_slices : List (List ℕ) → List ℕ
frame_of_slices slices = flat_map footed slices

-- ---- read

-- the bytes of a footer, with or without error_status and parity
abbrev pub footer_len : Bool → ℕ
footer_len ec = if ec then 8 else 3

-- slice_size
abbrev pub size_told : List ℕ → ℕ
size_told footer = 65536 * slice_index footer 0 + 256 * slice_index footer 1 + slice_index footer 2

-- where the last footer begins, how many coded bytes it tells, and where their slice begins
abbrev pub footer_place : Bool → List ℕ → ℕ
footer_place ec bytes = length bytes - footer_len ec

unfoldable pub last_size : Bool → List ℕ → ℕ
last_size ec bytes = size_told (drop (footer_place ec bytes) bytes)

unfoldable pub slice_place : Bool → List ℕ → ℕ
slice_place ec bytes = footer_place ec bytes - last_size ec bytes

-- the coded bytes of the last slice
unfoldable pub last_coded : Bool → List ℕ → List ℕ
last_coded ec bytes = take (last_size ec bytes) (drop (slice_place ec bytes) bytes)

-- why the last slice can't be cut off, where so many slices may still be
unfoldable pub last_fault : Bool → ℕ → List ℕ → Option FrameWhy
last_fault ec room bytes =
    if nat_lt (length bytes) (footer_len ec) then Some FrameShort
    else if (last_size ec bytes == 0 || nat_lt (footer_place ec bytes) (last_size ec bytes)) || room == 0 then Some SliceSize
    else if ec && not (crc32_high_of (drop (slice_place ec bytes) bytes) == 0) then Some SliceCrc
    else None

-- slices found before others
abbrev pub followed : Result (List (List ℕ)) FrameWhy → List (List ℕ) → Result (List (List ℕ)) FrameWhy
followed (Ok slices) behind = Ok (slices ++ behind)
followed (Err why) behind = Err why

-- a fault, or else what was found
abbrev pub cut_last : Option FrameWhy → Result (List (List ℕ)) FrameWhy → Result (List (List ℕ)) FrameWhy
cut_last (Some why) found = Err why
cut_last None found = found

-- the coded bytes of all slices, at most so many, or the first fault from the end
unfoldable pub cut_back : Bool → ℕ → List ℕ → Result (List (List ℕ)) FrameWhy
cut_back ec room [] = Ok []
cut_back ec zero (byte ∷ bytes) = cut_last (last_fault ec zero (byte ∷ bytes)) (Ok [])
cut_back ec (suc room) (byte ∷ bytes) =
    cut_last (last_fault ec (suc room) (byte ∷ bytes))
    (followed (cut_back ec room (take (slice_place ec (byte ∷ bytes)) (byte ∷ bytes))) (last_coded ec (byte ∷ bytes) ∷ []))

-- the coded bytes of the slices of a frame, or the first fault of their footers; a frame has 1,024 slices at most
unfoldable pub slices_of : Bool → List ℕ → Result (List (List ℕ)) FrameWhy
slices_of ec [] = Err FrameShort
slices_of ec (byte ∷ bytes) = cut_back ec 1024 (byte ∷ bytes)
