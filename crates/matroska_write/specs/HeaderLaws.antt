-- The parts of a header are short, and the Segment's identifier is spelled by its four bytes.
use Rattle.std.proofs.Common.{◌≡◌, ℕ, ◌-◌, ◌^◌, ◌<◌, List, ◌++◌, length, refl, ap, ◌∙◌, append_assoc, lit<}
use Rattle.std.specs.Int.{w32, to_be_bytes}
use Rattle.ebml_core.specs.Element.{element, uint_element, head_of, uint_bytes, size_bytes, shortest_size, byte_count, least_from}
use Rattle.matroska_names.specs.declared.ids.TheConstants.{SEGMENT}
use Rattle.matroska_write.specs.Header.{ebml_content, info_content, unknown_size}

pub segment-is : to_be_bytes w32 SEGMENT ≡ uint_bytes SEGMENT
unfolding uint_bytes byte_count least_from
segment-is = refl

pub segment_head-is : (old between new four : List ℕ) → four ≡ to_be_bytes w32 SEGMENT → between ≡ old ++ four → new ≡ between ++ unknown_size → new ≡ old ++ (uint_bytes SEGMENT ++ unknown_size)
segment_head-is old between new four is first second =
    second ∙ ap (λ (l : List ℕ). l ++ unknown_size) (first ∙ ap (λ (l : List ℕ). old ++ l) (is ∙ segment-is)) ∙ append_assoc old (uint_bytes SEGMENT) unknown_size

pub short_ebml : length ebml_content < 2 ^ 56 - 1
unfolding ebml_content element uint_element head_of uint_bytes size_bytes shortest_size byte_count least_from
short_ebml = lit< tt

pub short_info : length info_content < 2 ^ 56 - 1
unfolding info_content element uint_element head_of uint_bytes size_bytes shortest_size byte_count least_from
short_info = lit< tt

pub ruleset header_laws = (short_ebml, short_info)
