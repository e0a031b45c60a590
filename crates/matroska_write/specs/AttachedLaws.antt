-- Lengths of the pieces of an attached file, and how they join.
use Rattle.std.proofs.Common.{◌≡◌, ℕ, ◌+◌, Bool, List, ◌++◌, length, ap, ◌∙◌, arith, append_assoc, length-append}
use Rattle.ebml_core.specs.Element.{element, uint_element, head_of}
use Rattle.ebml_core.specs.Heads.{length-element}
use Rattle.matroska_names.specs.declared.ids.TheConstants.{ATTACHED_FILE, FILE_DATA, FILE_MEDIA_TYPE, FILE_NAME, FILE_UID}
use Rattle.matroska_write.specs.Attached.{media_type, attached_fields, attached_head, attached_file}

pub length-attached_fields : (name : List ℕ) (side : Bool) (uid : ℕ) → length (attached_fields name side uid)
    ≡ length (head_of FILE_NAME (length name)) + length name + (length (head_of FILE_MEDIA_TYPE (length (media_type side))) + length (media_type side)) + length (uint_element FILE_UID uid)
unfolding attached_fields
length-attached_fields name side uid = simp (length-append, length-element) (omega arith)

pub length-attached_head : (name : List ℕ) (side : Bool) (uid len : ℕ) → length (attached_head name side uid len)
    ≡ length (head_of ATTACHED_FILE (length (attached_fields name side uid) + (length (head_of FILE_DATA len) + len))) + (length (attached_fields name side uid) + length (head_of FILE_DATA len))
unfolding attached_head
length-attached_head name side uid len = simp length-append (omega arith)

-- an attached file is its head and its content
pub attached_file-is : (name : List ℕ) (side : Bool) (uid : ℕ) (content : List ℕ) → attached_file name side uid content ≡ attached_head name side uid (length content) ++ content
unfolding attached_file attached_head element
attached_file-is name side uid content = simp (length-append, append_assoc)

pub length-attached_file : (name : List ℕ) (side : Bool) (uid : ℕ) (content : List ℕ) → length (attached_file name side uid content) ≡ length (attached_head name side uid (length content)) + length content
length-attached_file name side uid content = ap length (attached_file-is name side uid content) ∙ length-append (attached_head name side uid (length content)) content

pub ruleset attached_laws = (length-element, length-attached_fields, length-attached_head)
