-- What the words of a command line order. Words and names are lists of the bytes of their UTF-8.
use Rattle.std.specs.Prelude.{ℕ, ◌-◌, Bool, ◌&&◌, not, List, [], ◌∷◌, length, Option, Some, None, slice_index, nat_eq, nat_le, ◌==◌, codes, if◌then◌else◌}
use Rattle.std.specs.List.{list_any}
use Rattle.shelf_reader.specs.Seen.{is_same_text}

-- to put the files under the root `dir` into the package `pkg` at a rate of frames a second, or to give the files of a
-- package back under a root, by so many workers
pub data Order : Type 0 where
  Pack : (workers rate : ℕ) (dir pkg : List ℕ) → Order
  Restore : (workers : ℕ) (pkg dir : List ℕ) → Order

-- the workers that code or decode frames, where no option says otherwise
abbrev pub usual_workers : ℕ
usual_workers = 4

-- frames a second, where no option says otherwise
abbrev pub usual_rate : ℕ
usual_rate = 24

-- the first byte is a dash (byte 45)
abbrev pub begins_with_dash : List ℕ → Bool
begins_with_dash text = slice_index text 0 == 45

-- the last byte is a slash (byte 47)
abbrev pub ends_with_slash : List ℕ → Bool
ends_with_slash text = slice_index text (length text - 1) == 47

-- a name on the command line: 1 to 4,096 bytes, none of them zero, with no dash at the start
abbrev pub is_name : List ℕ → Bool
is_name word = nat_le 1 (length word) && (nat_le (length word) 4096 && (not (list_any (nat_eq 0) word) && not (begins_with_dash word)))

-- a byte more at the front, but a slash only where something stands behind it
abbrev pub with_front : ℕ → List ℕ → List ℕ
with_front byte [] = if byte == 47 then [] else byte ∷ []
with_front byte (next ∷ rest) = byte ∷ next ∷ rest

-- a text without the slashes at its end
unfoldable pub without_end_slashes : List ℕ → List ℕ
without_end_slashes [] = []
without_end_slashes (byte ∷ rest) = with_front byte (without_end_slashes rest)

-- a name that is no folder's
abbrev pub is_file_name : List ℕ → Bool
is_file_name word = is_name word && not (ends_with_slash word)

-- a root and a package
unfoldable pub pack_order_of : List ℕ → List ℕ → Option Order
pack_order_of dir pkg = if is_name dir && is_file_name pkg then Some (Pack usual_workers usual_rate (without_end_slashes dir) pkg) else None

-- a package and a root
unfoldable pub restore_order_of : List ℕ → List ℕ → Option Order
restore_order_of pkg dir = if is_file_name pkg && is_name dir then Some (Restore usual_workers pkg (without_end_slashes dir)) else None

-- the order that a command and two words behind it are, if they are one
unfoldable pub command_order_of : List ℕ → List ℕ → List ℕ → Option Order
command_order_of command first second =
    if is_same_text command (codes "pack") then pack_order_of first second
    else (if is_same_text command (codes "restore") then restore_order_of first second
    else None)

-- the order that the words are, if they are one
unfoldable pub order_of : List (List ℕ) → Option Order
order_of (command ∷ first ∷ second ∷ []) = command_order_of command first second
order_of words = None
