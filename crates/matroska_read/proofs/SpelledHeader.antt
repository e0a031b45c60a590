-- The EBML header, read of what it says.
use Rattle.std.proofs.Common.{◌≡◌, ℕ, ◌+◌, ◌<◌, ◌≤◌, ◌==◌, Bool, true, List, ◌++◌, length, Option, Some, None, IfSome, Ok, refl, sym, ap, subst, ◌∙◌, arith, length-append}
use Rattle.ebml_core.specs.Element.{element}
use Rattle.ebml_core.specs.Heads.{length-element}
use Rattle.shelf_reader.specs.Readings.{gives, looks, thence_of, thence}
use Rattle.shelf_reader.specs.Seen.{is_same_text, is_text_between}
use Rattle.matroska_names.specs.declared.ids.TheConstants.{EBML as ebml_header}
use Rattle.matroska_names.specs.declared.texts.TheConstants.{MATROSKA}
use Rattle.matroska_read.specs.declared.parts.Bounds.{Bounds}
use Rattle.matroska_read.specs.declared.parts.HeaderSeen.{HeaderSeen}
use Rattle.matroska_read.specs.Outline.{no_doc_type, is_understood, bounds_of, is_number_understood, number_visited, visit_header, header_of}
use Rattle.matroska_read.specs.Spelled.{CanSpell, Says, TellsHeader, tells_doc_type, tells_number}
use Rattle.matroska_read.proofs.SpelledWalk.{Stands, IsSpelled, spelled, content_of-spelled, element_in-spelled, header_of-read}
use Rattle.matroska_read.proofs.SpelledSays.{Visited, Shows, children}

-- what was seen is what was said
abbrev pub Same : {State : Type 0} → List ℕ → State → State → Type 0
Same bytes seen said = seen ≡ said

number_visited-understood : (bytes : List ℕ) (end place id : ℕ) (content rest : List ℕ) (seen : HeaderSeen) (bounds : Option Bounds) → IsSpelled bytes end place id content rest → IfSome bounds (λ bounds. is_understood bounds content ≡ true)
    → number_visited bounds seen (spelled place id (length content)) bytes ≡ Ok seen
unfolding number_visited is_number_understood looks gives
number_visited-understood bytes end place id content rest seen None is understood = refl
number_visited-understood bytes end place id content rest seen (Some bounds) is understood = rw (content_of-spelled bytes end place id content rest is, understood) refl

doc_type-visited : (bytes : List ℕ) (end place id : ℕ) (content rest : List ℕ) → IsSpelled bytes end place id content rest → is_same_text content MATROSKA.now ≡ true → is_text_between MATROSKA.now (spelled place id (length content)).start (spelled place id (length content)).end bytes ≡ true
unfolding is_text_between
doc_type-visited bytes end place id content rest is same = ap (λ (l : List ℕ). is_same_text l MATROSKA.now) (content_of-spelled bytes end place id content rest is) ∙ same

header-shows : Shows Same visit_header TellsHeader
unfolding visit_header looks gives
header-shows bytes end place id _ rest seen _ _ is shown (tells_doc_type said content same) =
    record { state = record { doc_type = true }; shown = refl; is = rw (doc_type-visited bytes end place id content rest is same) refl }
header-shows bytes end place _ _ rest seen _ _ is shown (tells_number said id content other understood) =
    record { state = seen; shown = shown; is = rw other (number_visited-understood bytes end place id content rest seen (bounds_of id) is understood) }

-- the header that a file begins with
pub header-read : (bytes content rest : List ℕ) → bytes ≡ element ebml_header content ++ rest → CanSpell ebml_header content → Says TellsHeader no_doc_type content (record { doc_type = true })
    → header_of (length bytes) bytes ≡ Ok (length (element ebml_header content))
header-read bytes content rest begins can says =
    let whole : length bytes ≡ length (element ebml_header content) + length rest = ap length begins ∙ length-append (element ebml_header content) rest in
    let is : IsSpelled bytes (length bytes) 0 ebml_header content rest = record { known = can.known; small = can.small; stands = record { here = begins }; within = omega arith } in
    let known = children Same visit_header TellsHeader header-shows bytes (length bytes) 0 ebml_header content rest no_doc_type no_doc_type (record { doc_type = true }) is says refl in
    let first = spelled 0 ebml_header (length content) in
    let ends : first.end ≡ length (element ebml_header content) = omega (arith, length-element ebml_header content) in
    header_of-read bytes first (element_in-spelled bytes (length bytes) 0 ebml_header content rest is) refl (known.walk ∙ ap Ok known.shown) ∙ ap Ok ends
