-- A Cluster is written as the head of its block and then the block, over both of which the CRC-32 goes.
use Rattle.std.proofs.Common.{◌≡◌, ℕ, ◌+◌, ◌≤◌, List, [], ◌++◌, length, refl, sym, ap, ◌∙◌, arith, append_assoc, length-append}
use Rattle.std.specs.Int.{w32, bit_not, to_le_bytes}
use Rattle.cook_bits.specs.Crc.{ebml_register_after, crc32_ebml_of}
use Rattle.cook_bits.specs.Laws.{RegisterGoesOn}
use Rattle.ebml_core.specs.Element.{element, uint_element, head_of, uint_bytes, size_bytes, shortest_size, byte_count, least_from}
use Rattle.ebml_core.specs.Heads.{length-head_of-le, length-uint_element-le}
use Rattle.matroska_names.specs.declared.ids.TheConstants.{CLUSTER, CRC_32, SIMPLE_BLOCK, TIMESTAMP}
use Rattle.matroska_write.specs.Cluster.{block_head, timed_head, timed_block, crc_element, cluster_of}

-- ---- what stands before the coded block

pub before-is : (none one two three : List ℕ) (track time len : ℕ) → none ≡ [] → one ≡ none ++ uint_element TIMESTAMP time → two ≡ one ++ head_of SIMPLE_BLOCK (4 + len) → three ≡ two ++ block_head track
    → three ≡ timed_head track time len
unfolding timed_head
before-is none one two three track time len empty first second third =
    third
    ∙ ap (λ (l : List ℕ). l ++ block_head track) (second ∙ ap (λ (l : List ℕ). l ++ head_of SIMPLE_BLOCK (4 + len)) (first ∙ ap (λ (l : List ℕ). l ++ uint_element TIMESTAMP time) empty))
    ∙ append_assoc (uint_element TIMESTAMP time) (head_of SIMPLE_BLOCK (4 + len)) (block_head track)

pub length-timed_head-le : (track time len : ℕ) → length (timed_head track time len) ≤ 36
unfolding timed_head
length-timed_head-le track time len =
    let four : length (block_head track) ≡ 4 = refl in
    omega (
      arith,
      four,
      length-append (uint_element TIMESTAMP time) (head_of SIMPLE_BLOCK (4 + len) ++ block_head track),
      length-append (head_of SIMPLE_BLOCK (4 + len)) (block_head track),
      length-uint_element-le TIMESTAMP time (omega arith),
      length-head_of-le SIMPLE_BLOCK (4 + len) (omega arith),
    )

pub before-short : (none one two three : List ℕ) (track time len : ℕ) → none ≡ [] → one ≡ none ++ uint_element TIMESTAMP time → two ≡ one ++ head_of SIMPLE_BLOCK (4 + len) → three ≡ two ++ block_head track → length three ≤ 36
before-short none one two three track time len empty first second third =
    omega (arith, ap length (before-is none one two three track time len empty first second third), length-timed_head-le track time len)

-- with the coded block it is what the CRC-32 goes over
timed_block-is : (track time : ℕ) (body : List ℕ) → timed_head track time (length body) ++ body ≡ timed_block track time body
unfolding timed_head timed_block element
timed_block-is track time body =
    let timestamp = uint_element TIMESTAMP time in
    let block = head_of SIMPLE_BLOCK (4 + length body) in
    let four : length (block_head track) ≡ 4 = refl in
    let count : 4 + length body ≡ length (block_head track ++ body) = omega (arith, four, length-append (block_head track) body) in
    append_assoc timestamp (block ++ block_head track) body
    ∙ ap (λ (l : List ℕ). timestamp ++ l) (append_assoc block (block_head track) body)
    ∙ ap (λ (n : ℕ). timestamp ++ (head_of SIMPLE_BLOCK n ++ (block_head track ++ body))) count

-- ---- the sum

pub crc_of_both : RegisterGoesOn → (before body : List ℕ) → bit_not w32 (ebml_register_after (ebml_register_after 0xFFFF_FFFF before) body) ≡ crc32_ebml_of (before ++ body)
unfolding crc32_ebml_of
crc_of_both goes_on before body = ap (bit_not w32) (sym (goes_on 0xFFFF_FFFF before body))

length-crc_element : (others : List ℕ) → length (crc_element others) ≡ 6
unfolding crc_element element head_of uint_bytes size_bytes shortest_size byte_count least_from
length-crc_element others = refl

crc_element-is : (others whole crc : List ℕ) → others ≡ whole → crc ≡ to_le_bytes w32 (crc32_ebml_of others) → element CRC_32 crc ≡ crc_element whole
unfolding crc_element
crc_element-is others whole crc same is = ap (element CRC_32) (is ∙ ap (λ (l : List ℕ). to_le_bytes w32 (crc32_ebml_of l)) same)

-- ---- the Cluster

-- the parts of an element of two parts
element_of_two : (size : ℕ) (first second : List ℕ) → size ≡ length (first ++ second) → head_of CLUSTER size ++ (first ++ second) ≡ element CLUSTER (first ++ second)
unfolding element
element_of_two size first second long = ap (λ (n : ℕ). head_of CLUSTER n ++ (first ++ second)) long

of_parts : (whole before body crc : List ℕ) (size : ℕ) → before ++ body ≡ whole → crc ≡ to_le_bytes w32 (crc32_ebml_of (before ++ body)) → size ≡ 6 + (length before + length body)
    → head_of CLUSTER size ++ (element CRC_32 crc ++ (before ++ body)) ≡ element CLUSTER (crc_element whole ++ whole)
of_parts whole before body crc size same is long =
    let sum = crc_element-is (before ++ body) whole crc same is in
    let count : size ≡ length (crc_element whole ++ whole) = omega (arith, long, length-append before body, ap length same, length-append (crc_element whole) whole, length-crc_element whole) in
    (λ i. head_of CLUSTER size ++ (sum i ++ same i)) ∙ element_of_two size (crc_element whole) whole count

pub cluster-is : (none one two three four before body crc : List ℕ) (track time size : ℕ) → before ≡ timed_head track time (length body) → crc ≡ to_le_bytes w32 (crc32_ebml_of (before ++ body)) → size ≡ 6 + (length before + length body)
    → none ≡ [] → one ≡ none ++ head_of CLUSTER size → two ≡ one ++ element CRC_32 crc → three ≡ two ++ before → four ≡ three ++ body → four ≡ cluster_of track time body
unfolding cluster_of
cluster-is none one two three four before body crc track time size begins sum long empty first second third fourth =
    let head = head_of CLUSTER size in
    let check = element CRC_32 crc in
    let whole = ap (λ (l : List ℕ). l ++ body) begins ∙ timed_block-is track time body in
    fourth
    ∙ ap (λ (l : List ℕ). l ++ body) (third ∙ ap (λ (l : List ℕ). l ++ before) (second ∙ ap (λ (l : List ℕ). l ++ check) (first ∙ ap (λ (l : List ℕ). l ++ head) empty)))
    ∙ append_assoc (head ++ check) before body
    ∙ append_assoc head check (before ++ body)
    ∙ of_parts (timed_block track time body) before body crc size whole sum long
