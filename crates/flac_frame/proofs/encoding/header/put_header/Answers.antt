use Rattle.std.proofs.Common.{◌≡◌, ◌++◌, ap, ◌∙◌}
use Rattle.cook_bits.specs.Bits.{low_bits}
use Rattle.flac_frame.specs.Writing.{size_code_of, bits_code_of, coded_bits, size_bits, header_bits}
use Rattle.flac_frame.proofs.WritingLaws.{joined, nine}
use Rattle.flac_frame.proofs.encoding.header.put_header.Goals as goal

pub returns : goal.returns
unfolding header_bits
returns c =
    let old = c.args.writer.now in
    let b1 = low_bits 15 0x7FFC in
    let b2 = low_bits 1 0 in
    let b3 = low_bits 4 (size_code_of c.args.size) in
    let b4 = low_bits 4 0 in
    let b5 = low_bits 4 c.args.code in
    let b6 = low_bits 3 (bits_code_of c.args.bits) in
    let b7 = low_bits 1 0 in
    let b8 = coded_bits c.args.number in
    let b9 = size_bits c.args.size in
    let e1 : c.put.new.self ≡ old ++ b1 = c.in_ok-put.ensures.ok in
    let e2 = joined old b1 b2 c.put.new.self c.put-2.new.self e1 c.in_ok-put-2.ensures.ok in
    let e3 = joined old (b1 ++ b2) b3 c.put-2.new.self c.put-3.new.self e2 (c.in_ok-put-3.ensures.ok ∙ ap (λ n. c.put-2.new.self ++ low_bits 4 n) c.size_code.ensures.code) in
    let e4 = joined old (b1 ++ b2 ++ b3) b4 c.put-3.new.self c.put-4.new.self e3 c.in_ok-put-4.ensures.ok in
    let e5 = joined old (b1 ++ b2 ++ b3 ++ b4) b5 c.put-4.new.self c.put-5.new.self e4 c.in_ok-put-5.ensures.ok in
    let e6 = joined old (b1 ++ b2 ++ b3 ++ b4 ++ b5) b6 c.put-5.new.self c.put-6.new.self e5 (c.in_ok-put-6.ensures.ok ∙ ap (λ n. c.put-5.new.self ++ low_bits 3 n) c.bits_code.ensures.code) in
    let e7 = joined old (b1 ++ b2 ++ b3 ++ b4 ++ b5 ++ b6) b7 c.put-6.new.self c.put-7.new.self e6 c.in_ok-put-7.ensures.ok in
    let e8 = joined old (b1 ++ b2 ++ b3 ++ b4 ++ b5 ++ b6 ++ b7) b8 c.put-7.new.self c.put_coded.new.writer e7 c.in_ok-put_coded.ensures in
    let e9 = joined old (b1 ++ b2 ++ b3 ++ b4 ++ b5 ++ b6 ++ b7 ++ b8) b9 c.put_coded.new.writer c.put_size.new.writer e8 c.in_ok-put_size.ensures in
    e9 ∙ ap (λ bits. old ++ bits) (nine b1 b2 b3 b4 b5 b6 b7 b8 b9)
