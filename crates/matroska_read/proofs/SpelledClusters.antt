-- A Cluster, read of what it says.
use Rattle.std.proofs.Common.{◌≡◌, ℕ, ◌+◌, ◌-◌, ◌^◌, ◌<◌, ◌≤◌, ◌/◌, ◌%◌, ◌==◌, ◌&&◌, nat_le, not, Bool, true, false, List, [], ◌∷◌, ◌++◌, length, get_or, take, drop, Option, Some, None, Ok, refl, sym, ap, subst, ◌∙◌, arith, append_assoc, length-append}
use Rattle.std.proofs.Math.Seq.{drop-append_seam}
use Rattle.std.proofs.lemmas.Bool.{le-leb}
use Rattle.std.proofs.lemmas.Bool.Decides.{nat_tests}
use Rattle.std.proofs.lemmas.List.{get_or_at, drop-drop}
use Rattle.byteorder.specs.Endian.{little_number}
use Rattle.cook_bits.specs.Crc.{crc32_ebml_of}
use Rattle.ebml_core.specs.Element.{head_of, shortest_size, size_bytes, element}
use Rattle.ebml_core.specs.Heads.{length-element, length-size_bytes}
use Rattle.ebml_core.specs.Laws.{WrittenSizeIsRead}
use Rattle.ebml_core.specs.Reading.{size_at}
use Rattle.shelf_reader.specs.Readings.{gives, looks, thence_of, thence}
use Rattle.shelf_reader.specs.Seen.{between}
use Rattle.shelf_reader.specs.Walk.{walked}
use Rattle.matroska_names.specs.declared.ids.TheConstants.{SIMPLE_BLOCK as simple_block, CRC_32 as crc_32}
use Rattle.matroska_read.specs.declared.parts.BlockHead.{BlockHead}
use Rattle.matroska_read.specs.declared.parts.Element.{Element}
use Rattle.matroska_read.specs.declared.parts.Span.{Span}
use Rattle.matroska_read.specs.declared.parts.ClusterSeen.{ClusterSeen}
use Rattle.matroska_read.specs.declared.tracks.BlockAt.{BlockAt}
use Rattle.matroska_read.specs.declared.tracks.Track.{Track}
use Rattle.matroska_read.specs.Clusters.{lacing_of, head_behind, block_head, block_head_in, block_of, block_read, no_cluster, visit_cluster, disagrees, with_damage, block_tested, cluster_of, cluster_read}
use Rattle.matroska_read.specs.Places.{Block, block_at}
use Rattle.matroska_read.specs.Spelled.{Says, Bare, TellsCluster, tells_block, tells_no_block, SaysBlock, says_checked, says_unchecked}
use Rattle.matroska_read.specs.Tracks.{has_number}
use Rattle.matroska_read.specs.Walk.{content_of, span_of, ebml, walked_children}
use Rattle.matroska_read.proofs.SpelledWalk.{Stands, IsSpelled, spelled, stands-first, stands-second, content-stands, content_of-spelled, between-piece, walked-spelled}
use Rattle.matroska_read.proofs.SpelledSays.{Visited, Shows, children, comes-whole}

-- ---- a block

-- the head of a block
abbrev head_bytes : ℕ → List ℕ → ℕ → List ℕ
head_bytes track time flags = size_bytes track ++ (time ++ flags ∷ [])

block_bytes-is : (track : ℕ) (time : List ℕ) (flags : ℕ) (body : List ℕ) → size_bytes track ++ (time ++ flags ∷ body) ≡ head_bytes track time flags ++ body
block_bytes-is track time flags body =
    sym (append_assoc (size_bytes track) (time ++ flags ∷ []) body ∙ ap (λ (l : List ℕ). size_bytes track ++ l) (append_assoc time (flags ∷ []) body))

length-head_bytes : (track : ℕ) (time : List ℕ) (flags : ℕ) → length time ≡ 2 → length (head_bytes track time flags) ≡ shortest_size track + 3
length-head_bytes track time flags two =
    omega (arith, two, length-append (size_bytes track) (time ++ flags ∷ []), length-append time (flags ∷ []), length-size_bytes track)

flags-at : (track : ℕ) (time : List ℕ) (flags : ℕ) (body : List ℕ) → length time ≡ 2 → get_or (size_bytes track ++ (time ++ flags ∷ body)) (shortest_size track + 2) 0 ≡ flags
flags-at track time flags body two =
    let place : shortest_size track + 2 ≡ length (size_bytes track ++ time) = omega (arith, two, length-append (size_bytes track) time, length-size_bytes track) in
    ap (λ (l : List ℕ). get_or l (shortest_size track + 2) 0) (sym (append_assoc (size_bytes track) time (flags ∷ body)))
    ∙ get_or_at (size_bytes track ++ time) flags body 0 (shortest_size track + 2) (sym place)

block_head-spelled : WrittenSizeIsRead → (track : ℕ) (time : List ℕ) (flags : ℕ) (body : List ℕ) → track < 2 ^ 56 - 1 → length time ≡ 2 → flags / 2 % 4 ≡ 0
    → block_head (size_bytes track ++ (time ++ flags ∷ body)) ≡ Some (record { track = track; len = shortest_size track + 3 })
unfolding block_head head_behind
block_head-spelled read track time flags body small two plain =
    let long : length (size_bytes track ++ (time ++ flags ∷ body)) ≡ shortest_size track + 3 + length body =
    omega (arith, ap length (block_bytes-is track time flags body), length-append (head_bytes track time flags) body, length-head_bytes track time flags two) in
    let room : nat_le (shortest_size track + 3) (length (size_bytes track ++ (time ++ flags ∷ body))) ≡ true = le-leb _ _ (omega arith) in
    rw (read track (time ++ flags ∷ body) small, room, flags-at track time flags body two, plain) refl

-- ---- what was seen of a Cluster

-- a block that isn't damaged
abbrev whole_block : Bare → Block
whole_block bare = record { track = bare.track; damaged = false; body = bare.body }

abbrev block_seen : List ℕ → Option BlockAt → Option Block
block_seen bytes None = None
block_seen bytes (Some block) = Some (block_at bytes block)

abbrev block_said : Option Bare → Option Block
block_said None = None
block_said (Some bare) = Some (whole_block bare)

record ShowsCluster (listed : List Track) (checksum : Option Span) (bytes : List ℕ) (seen : ClusterSeen) (said : Option Bare) : Type 0 where
  tracks : seen.tracks ≡ listed
  whole : seen.faulty ≡ false
  checksum_is : seen.checksum ≡ checksum
  block : block_seen bytes seen.block ≡ block_said said

none_is : (bytes : List ℕ) (block : Option BlockAt) → block_seen bytes block ≡ None → block ≡ None
none_is bytes None h = refl
none_is bytes (Some block) h = absurd (cc)

-- the body behind the head
body-stands : (bytes : List ℕ) (end place : ℕ) (track : ℕ) (time : List ℕ) (flags : ℕ) (body rest : List ℕ) → length time ≡ 2 → IsSpelled bytes end place simple_block (size_bytes track ++ (time ++ flags ∷ body)) rest
    → Stands bytes (place + length (head_of simple_block (length (size_bytes track ++ (time ++ flags ∷ body)))) + (shortest_size track + 3)) body rest
body-stands bytes end place track time flags body rest two is =
    let content = size_bytes track ++ (time ++ flags ∷ body) in
    let start = place + length (head_of simple_block (length content)) in
    let stands = content-stands bytes end place simple_block content rest is in
    let parts : Stands bytes start (head_bytes track time flags ++ body) rest = record { here = stands.here ∙ ap (λ (l : List ℕ). l ++ rest) (block_bytes-is track time flags body) } in
    subst (λ (n : ℕ). Stands bytes (start + n) body rest) (length-head_bytes track time flags two) (stands-second bytes start (head_bytes track time flags) body rest parts)

cluster-shows : WrittenSizeIsRead → (listed : List Track) (checksum : Option Span) → Shows (ShowsCluster listed checksum) visit_cluster (TellsCluster listed)
unfolding visit_cluster block_read block_head_in block_of looks thence thence_of gives
cluster-shows read listed checksum bytes end place id _ rest seen _ _ is shown (tells_block track time flags body small has two plain) =
    let content = size_bytes track ++ (time ++ flags ∷ body) in
    let child = spelled place simple_block (length content) in
    let long : length content ≡ shortest_size track + 3 + length body =
    omega (arith, ap length (block_bytes-is track time flags body), length-append (head_bytes track time flags) body, length-head_bytes track time flags two) in
    let at = child.start + (shortest_size track + 3) in
    let count : child.end - at ≡ length body = omega arith in
    let head : block_head (content_of child bytes) ≡ Some (record { track = track; len = shortest_size track + 3 }) =
    ap block_head (content_of-spelled bytes end place simple_block content rest is) ∙ block_head-spelled read track time flags body small two plain in
    let known : has_number track seen.tracks ≡ true = ap (has_number track) shown.tracks ∙ has in
    let block : BlockAt = record { track = track; at = at; len = child.end - at; damaged = false } in
    let held : between at child.end bytes ≡ body = ap (λ (n : ℕ). take n (drop at bytes)) count ∙ between-piece bytes at body rest (body-stands bytes end place track time flags body rest two is) in
    record {
      state = record { tracks = seen.tracks; begun = true; checksum = seen.checksum; block = Some block; faulty = seen.faulty };
      shown = record { tracks = shown.tracks; whole = shown.whole; checksum_is = shown.checksum_is; block = (λ i. Some (record { track = track; damaged = false; body = held i })) };
      is = rw (head, known, none_is bytes seen.block shown.block) refl;
    }
cluster-shows read listed checksum bytes end place _ _ rest seen _ _ is shown (tells_no_block said id content other) = record {
  state = record { tracks = seen.tracks; begun = true; checksum = seen.checksum; block = seen.block; faulty = seen.faulty };
  shown = record { tracks = shown.tracks; whole = shown.whole; checksum_is = shown.checksum_is; block = shown.block };
  is = rw (other.block, other.group, other.checksum) refl;
}

-- ---- a Cluster

-- what is read of a Cluster shows its block
pub record IsCluster (bytes : List ℕ) (tracks : List Track) (element : Element) (block : Block) : Type 0 where
  pub at : BlockAt
  pub read : cluster_read tracks element bytes ≡ Ok (tracks, at)
  pub shown : block_at bytes at ≡ block

some_is : {A : Type 0} (a b : A) → Some a ≡ Some b → a ≡ b
some_is a b h = cc

-- a block without a checksum is as it stands
record IsTested (bytes : List ℕ) (element : Element) (listed : List Track) (seen : ClusterSeen) (held : Option BlockAt) (block : Block) : Type 0 where
  at : BlockAt
  read : cluster_of element seen held bytes ≡ Ok (listed, at)
  shown : block_at bytes at ≡ block

unchecked : (bytes : List ℕ) (element : Element) (listed : List Track) (seen : ClusterSeen) (held : Option BlockAt) (bare : Bare) → seen.tracks ≡ listed → seen.faulty ≡ false → seen.checksum ≡ None → block_seen bytes held ≡ Some (whole_block bare)
    → IsTested bytes element listed seen held (whole_block bare)
unfolding cluster_of block_tested thence thence_of gives
unchecked bytes element listed seen None bare tracks whole none shown = absurd (cc)
unchecked bytes element listed seen (Some block) bare tracks whole none shown =
    record { at = block; read = rw (whole, none) (ap (λ (l : List Track). Ok (l, block)) tracks); shown = some_is _ _ shown }

checked : (bytes : List ℕ) (element : Element) (listed : List Track) (seen : ClusterSeen) (held : Option BlockAt) (bare : Bare) (span : Span) (damaged : Bool) → seen.tracks ≡ listed → seen.faulty ≡ false → seen.checksum ≡ Some span → disagrees span element.end bytes ≡ damaged
    → block_seen bytes held ≡ Some (whole_block bare) → IsTested bytes element listed seen held (record { track = bare.track; damaged = damaged; body = bare.body })
unfolding cluster_of block_tested looks thence thence_of gives
checked bytes element listed seen None bare span damaged tracks whole sum test shown = absurd (cc)
checked bytes element listed seen (Some block) bare span damaged tracks whole sum test shown =
    let block_is : block_at bytes block ≡ whole_block bare = some_is _ _ shown in
    record {
      at = with_damage block damaged;
      read = rw (whole, sum, test) (ap (λ (l : List Track). Ok (l, with_damage block damaged)) tracks);
      shown = ap (λ (b : Block). record { track = b.track; damaged = damaged; body = b.body }) block_is;
    }

shows-none : (bytes : List ℕ) (listed : List Track) → ShowsCluster listed None bytes (no_cluster listed) None
shows-none bytes listed = record { tracks = refl; whole = refl; checksum_is = refl; block = refl }

-- the first child is a checksum
checksum-visited : (listed : List Track) (bytes : List ℕ) (place : ℕ) (checksum : List ℕ) → length checksum ≡ 4
    → visit_cluster (no_cluster listed) (spelled place crc_32 (length checksum)) bytes ≡ Ok (record { tracks = listed; begun = true; checksum = Some (span_of (spelled place crc_32 (length checksum))); block = None; faulty = false })
unfolding visit_cluster gives
checksum-visited listed bytes place checksum four =
    let start = place + length (head_of crc_32 (length checksum)) in
    let count : (start + length checksum - start == 4) ≡ true = grind (arith, nat_tests) in
    rw count refl

disagree : (bytes : List ℕ) (span : Span) (end : ℕ) (others checksum : List ℕ) → between span.end end bytes ≡ others → between span.start span.end bytes ≡ checksum → disagrees span end bytes ≡ not (crc32_ebml_of others == little_number 4 checksum)
unfolding disagrees
disagree bytes span end others checksum first second = λ i. not (crc32_ebml_of (first i) == little_number 4 (second i))

pub cluster_read-says : WrittenSizeIsRead → (bytes : List ℕ) (end place id : ℕ) (listed : List Track) (content : List ℕ) (block : Block) (rest : List ℕ) → IsSpelled bytes end place id content rest → SaysBlock listed content block
    → IsCluster bytes listed (spelled place id (length content)) block
unfolding cluster_read thence thence_of
cluster_read-says written bytes end place id listed _ _ rest is (says_unchecked content bare says) =
    let known = children (ShowsCluster listed None) visit_cluster (TellsCluster listed) (cluster-shows written listed None) bytes end place id content rest (no_cluster listed) None (Some bare) is says (shows-none bytes listed) in
    let seen = known.state in
    let tested = unchecked bytes (spelled place id (length content)) listed seen seen.block bare known.shown.tracks known.shown.whole known.shown.checksum_is known.shown.block in
    record { at = tested.at; read = rw known.walk tested.read; shown = tested.shown }
cluster_read-says written bytes end place id listed _ _ rest is (says_checked checksum others bare four says) =
    let content = element crc_32 checksum ++ others in
    let parent = spelled place id (length content) in
    let long : length content ≡ length (element crc_32 checksum) + length others = length-append (element crc_32 checksum) others in
    let stands = content-stands bytes end place id content rest is in
    let first : IsSpelled bytes parent.end parent.start crc_32 checksum (others ++ rest) =
    record { known = refl; small = omega (arith, four); stands = stands-first bytes parent.start (element crc_32 checksum) others rest stands; within = omega arith } in
    let child = spelled parent.start crc_32 (length checksum) in
    let span = span_of child in
    let begun : ClusterSeen = record { tracks = listed; begun = true; checksum = Some span; block = None; faulty = false } in
    let next = parent.start + length (element crc_32 checksum) in
    let second : Stands bytes next others rest = stands-second bytes parent.start (element crc_32 checksum) others rest stands in
    let whole = comes-whole (ShowsCluster listed (Some span)) visit_cluster (TellsCluster listed) (cluster-shows written listed (Some span)) bytes parent.end next others rest begun None (Some bare) says second (omega arith) (record { tracks = refl; whole = refl; checksum_is = refl; block = refl }) in
    let seen = whole.0 in
    let walk : walked_children visit_cluster parent (no_cluster listed) bytes ≡ Ok seen =
    walked-spelled visit_cluster bytes parent.end parent.start crc_32 checksum (others ++ rest) (no_cluster listed) begun first (checksum-visited listed bytes parent.start checksum four) ∙ whole.2 in
    let behind : child.end ≡ next = omega (arith, length-element crc_32 checksum) in
    let count : parent.end - next ≡ length others = omega arith in
    let rest_is : between child.end parent.end bytes ≡ others =
    ap (λ (n : ℕ). between n parent.end bytes) behind ∙ ap (λ (n : ℕ). take n (drop next bytes)) count ∙ between-piece bytes next others rest second in
    let sum_is : between span.start span.end bytes ≡ checksum = content_of-spelled bytes parent.end parent.start crc_32 checksum (others ++ rest) first in
    let test = disagree bytes span parent.end others checksum rest_is sum_is in
    let tested = checked bytes parent listed seen seen.block bare span (not (crc32_ebml_of others == little_number 4 checksum)) whole.1.tracks whole.1.whole whole.1.checksum_is test whole.1.block in
    record { at = tested.at; read = rw walk tested.read; shown = tested.shown }
