use Rattle.std.proofs.Common.{◌≡◌, w32, to_z, of_z, refl, arith}
use Rattle.std.proofs.lemmas.Int.{to_z-of_z}
use Rattle.range_coder.proofs.Exponents.{magnitude_fits}
use Rattle.range_coder.proofs.Symbols.{no_ones_got, one_got, usual_got, all_ones_got}
use Rattle.range_coder.proofs.getting.get_usual.Goals as goal

pub returns-then-not-get_more-clause-ok : goal.returns-then-not-get_more-clause-ok
returns-then-not-get_more-clause-ok c =
    let h0 = no_ones_got _ _ _ c.requires.live in
    usual_got _ _ _ _ _ _ _ _ _ 0 _ _ h0 (omega arith) c.if-not-get_more.true c.get_more.ensures.gets c.get_rest.ensures.low c.get_rest.ensures.high c.get_rest.ensures.fits c.get_rest.ensures.gets

pub returns-then-not-get_more-2-clause-ok : goal.returns-then-not-get_more-2-clause-ok
returns-then-not-get_more-2-clause-ok c =
    let h0 = no_ones_got _ _ _ c.requires.live in
    let h1 = one_got _ _ _ _ _ _ _ _ _ _ h0 refl c.if-not-get_more.false c.get_more.ensures.gets c.get_more.ensures.live in
    usual_got _ _ _ _ _ _ _ _ _ 1 _ _ h1 (omega arith) c.if-not-get_more-2.true c.get_more-2.ensures.gets c.get_rest-then-not-get_more-2.ensures.low c.get_rest-then-not-get_more-2.ensures.high c.get_rest-then-not-get_more-2.ensures.fits c.get_rest-then-not-get_more-2.ensures.gets

pub returns-then-not-get_more-3-clause-ok : goal.returns-then-not-get_more-3-clause-ok
returns-then-not-get_more-3-clause-ok c =
    let h0 = no_ones_got _ _ _ c.requires.live in
    let h1 = one_got _ _ _ _ _ _ _ _ _ _ h0 refl c.if-not-get_more.false c.get_more.ensures.gets c.get_more.ensures.live in
    let h2 = one_got _ _ _ _ _ _ _ _ _ _ h1 refl c.if-not-get_more-2.false c.get_more-2.ensures.gets c.get_more-2.ensures.live in
    usual_got _ _ _ _ _ _ _ _ _ 2 _ _ h2 (omega arith) c.if-not-get_more-3.true c.get_more-3.ensures.gets c.get_rest-then-not-get_more-3.ensures.low c.get_rest-then-not-get_more-3.ensures.high c.get_rest-then-not-get_more-3.ensures.fits c.get_rest-then-not-get_more-3.ensures.gets

pub returns-then-not-get_more-4-clause-ok : goal.returns-then-not-get_more-4-clause-ok
returns-then-not-get_more-4-clause-ok c =
    let h0 = no_ones_got _ _ _ c.requires.live in
    let h1 = one_got _ _ _ _ _ _ _ _ _ _ h0 refl c.if-not-get_more.false c.get_more.ensures.gets c.get_more.ensures.live in
    let h2 = one_got _ _ _ _ _ _ _ _ _ _ h1 refl c.if-not-get_more-2.false c.get_more-2.ensures.gets c.get_more-2.ensures.live in
    let h3 = one_got _ _ _ _ _ _ _ _ _ _ h2 refl c.if-not-get_more-3.false c.get_more-3.ensures.gets c.get_more-3.ensures.live in
    usual_got _ _ _ _ _ _ _ _ _ 3 _ _ h3 (omega arith) c.if-not-get_more-4.true c.get_more-4.ensures.gets c.get_rest-then-not-get_more-4.ensures.low c.get_rest-then-not-get_more-4.ensures.high c.get_rest-then-not-get_more-4.ensures.fits c.get_rest-then-not-get_more-4.ensures.gets

pub returns-then-not-get_more-5-clause-ok : goal.returns-then-not-get_more-5-clause-ok
returns-then-not-get_more-5-clause-ok c =
    let h0 = no_ones_got _ _ _ c.requires.live in
    let h1 = one_got _ _ _ _ _ _ _ _ _ _ h0 refl c.if-not-get_more.false c.get_more.ensures.gets c.get_more.ensures.live in
    let h2 = one_got _ _ _ _ _ _ _ _ _ _ h1 refl c.if-not-get_more-2.false c.get_more-2.ensures.gets c.get_more-2.ensures.live in
    let h3 = one_got _ _ _ _ _ _ _ _ _ _ h2 refl c.if-not-get_more-3.false c.get_more-3.ensures.gets c.get_more-3.ensures.live in
    let h4 = one_got _ _ _ _ _ _ _ _ _ _ h3 refl c.if-not-get_more-4.false c.get_more-4.ensures.gets c.get_more-4.ensures.live in
    usual_got _ _ _ _ _ _ _ _ _ 4 _ _ h4 (omega arith) c.if-not-get_more-5.true c.get_more-5.ensures.gets c.get_rest-then-not-get_more-5.ensures.low c.get_rest-then-not-get_more-5.ensures.high c.get_rest-then-not-get_more-5.ensures.fits c.get_rest-then-not-get_more-5.ensures.gets

pub returns-then-not-get_more-6-clause-ok : goal.returns-then-not-get_more-6-clause-ok
returns-then-not-get_more-6-clause-ok c =
    let h0 = no_ones_got _ _ _ c.requires.live in
    let h1 = one_got _ _ _ _ _ _ _ _ _ _ h0 refl c.if-not-get_more.false c.get_more.ensures.gets c.get_more.ensures.live in
    let h2 = one_got _ _ _ _ _ _ _ _ _ _ h1 refl c.if-not-get_more-2.false c.get_more-2.ensures.gets c.get_more-2.ensures.live in
    let h3 = one_got _ _ _ _ _ _ _ _ _ _ h2 refl c.if-not-get_more-3.false c.get_more-3.ensures.gets c.get_more-3.ensures.live in
    let h4 = one_got _ _ _ _ _ _ _ _ _ _ h3 refl c.if-not-get_more-4.false c.get_more-4.ensures.gets c.get_more-4.ensures.live in
    let h5 = one_got _ _ _ _ _ _ _ _ _ _ h4 refl c.if-not-get_more-5.false c.get_more-5.ensures.gets c.get_more-5.ensures.live in
    usual_got _ _ _ _ _ _ _ _ _ 5 _ _ h5 (omega arith) c.if-not-get_more-6.true c.get_more-6.ensures.gets c.get_rest-then-not-get_more-6.ensures.low c.get_rest-then-not-get_more-6.ensures.high c.get_rest-then-not-get_more-6.ensures.fits c.get_rest-then-not-get_more-6.ensures.gets

pub returns-then-not-get_more-7-clause-ok : goal.returns-then-not-get_more-7-clause-ok
returns-then-not-get_more-7-clause-ok c =
    let h0 = no_ones_got _ _ _ c.requires.live in
    let h1 = one_got _ _ _ _ _ _ _ _ _ _ h0 refl c.if-not-get_more.false c.get_more.ensures.gets c.get_more.ensures.live in
    let h2 = one_got _ _ _ _ _ _ _ _ _ _ h1 refl c.if-not-get_more-2.false c.get_more-2.ensures.gets c.get_more-2.ensures.live in
    let h3 = one_got _ _ _ _ _ _ _ _ _ _ h2 refl c.if-not-get_more-3.false c.get_more-3.ensures.gets c.get_more-3.ensures.live in
    let h4 = one_got _ _ _ _ _ _ _ _ _ _ h3 refl c.if-not-get_more-4.false c.get_more-4.ensures.gets c.get_more-4.ensures.live in
    let h5 = one_got _ _ _ _ _ _ _ _ _ _ h4 refl c.if-not-get_more-5.false c.get_more-5.ensures.gets c.get_more-5.ensures.live in
    let h6 = one_got _ _ _ _ _ _ _ _ _ _ h5 refl c.if-not-get_more-6.false c.get_more-6.ensures.gets c.get_more-6.ensures.live in
    usual_got _ _ _ _ _ _ _ _ _ 6 _ _ h6 (omega arith) c.if-not-get_more-7.true c.get_more-7.ensures.gets c.get_rest-then-not-get_more-7.ensures.low c.get_rest-then-not-get_more-7.ensures.high c.get_rest-then-not-get_more-7.ensures.fits c.get_rest-then-not-get_more-7.ensures.gets

pub returns-then-not-get_more-8-clause-ok : goal.returns-then-not-get_more-8-clause-ok
returns-then-not-get_more-8-clause-ok c =
    let h0 = no_ones_got _ _ _ c.requires.live in
    let h1 = one_got _ _ _ _ _ _ _ _ _ _ h0 refl c.if-not-get_more.false c.get_more.ensures.gets c.get_more.ensures.live in
    let h2 = one_got _ _ _ _ _ _ _ _ _ _ h1 refl c.if-not-get_more-2.false c.get_more-2.ensures.gets c.get_more-2.ensures.live in
    let h3 = one_got _ _ _ _ _ _ _ _ _ _ h2 refl c.if-not-get_more-3.false c.get_more-3.ensures.gets c.get_more-3.ensures.live in
    let h4 = one_got _ _ _ _ _ _ _ _ _ _ h3 refl c.if-not-get_more-4.false c.get_more-4.ensures.gets c.get_more-4.ensures.live in
    let h5 = one_got _ _ _ _ _ _ _ _ _ _ h4 refl c.if-not-get_more-5.false c.get_more-5.ensures.gets c.get_more-5.ensures.live in
    let h6 = one_got _ _ _ _ _ _ _ _ _ _ h5 refl c.if-not-get_more-6.false c.get_more-6.ensures.gets c.get_more-6.ensures.live in
    let h7 = one_got _ _ _ _ _ _ _ _ _ _ h6 refl c.if-not-get_more-7.false c.get_more-7.ensures.gets c.get_more-7.ensures.live in
    usual_got _ _ _ _ _ _ _ _ _ 7 _ _ h7 (omega arith) c.if-not-get_more-8.true c.get_more-8.ensures.gets c.get_rest-then-not-get_more-8.ensures.low c.get_rest-then-not-get_more-8.ensures.high c.get_rest-then-not-get_more-8.ensures.fits c.get_rest-then-not-get_more-8.ensures.gets

pub returns-then-not-get_more-9-clause-ok : goal.returns-then-not-get_more-9-clause-ok
returns-then-not-get_more-9-clause-ok c =
    let h0 = no_ones_got _ _ _ c.requires.live in
    let h1 = one_got _ _ _ _ _ _ _ _ _ _ h0 refl c.if-not-get_more.false c.get_more.ensures.gets c.get_more.ensures.live in
    let h2 = one_got _ _ _ _ _ _ _ _ _ _ h1 refl c.if-not-get_more-2.false c.get_more-2.ensures.gets c.get_more-2.ensures.live in
    let h3 = one_got _ _ _ _ _ _ _ _ _ _ h2 refl c.if-not-get_more-3.false c.get_more-3.ensures.gets c.get_more-3.ensures.live in
    let h4 = one_got _ _ _ _ _ _ _ _ _ _ h3 refl c.if-not-get_more-4.false c.get_more-4.ensures.gets c.get_more-4.ensures.live in
    let h5 = one_got _ _ _ _ _ _ _ _ _ _ h4 refl c.if-not-get_more-5.false c.get_more-5.ensures.gets c.get_more-5.ensures.live in
    let h6 = one_got _ _ _ _ _ _ _ _ _ _ h5 refl c.if-not-get_more-6.false c.get_more-6.ensures.gets c.get_more-6.ensures.live in
    let h7 = one_got _ _ _ _ _ _ _ _ _ _ h6 refl c.if-not-get_more-7.false c.get_more-7.ensures.gets c.get_more-7.ensures.live in
    let h8 = one_got _ _ _ _ _ _ _ _ _ _ h7 refl c.if-not-get_more-8.false c.get_more-8.ensures.gets c.get_more-8.ensures.live in
    usual_got _ _ _ _ _ _ _ _ _ 8 _ _ h8 (omega arith) c.if-not-get_more-9.true c.get_more-9.ensures.gets c.get_rest-then-not-get_more-9.ensures.low c.get_rest-then-not-get_more-9.ensures.high c.get_rest-then-not-get_more-9.ensures.fits c.get_rest-then-not-get_more-9.ensures.gets

pub returns-then-not-get_more-10-clause-ok : goal.returns-then-not-get_more-10-clause-ok
returns-then-not-get_more-10-clause-ok c =
    let h0 = no_ones_got _ _ _ c.requires.live in
    let h1 = one_got _ _ _ _ _ _ _ _ _ _ h0 refl c.if-not-get_more.false c.get_more.ensures.gets c.get_more.ensures.live in
    let h2 = one_got _ _ _ _ _ _ _ _ _ _ h1 refl c.if-not-get_more-2.false c.get_more-2.ensures.gets c.get_more-2.ensures.live in
    let h3 = one_got _ _ _ _ _ _ _ _ _ _ h2 refl c.if-not-get_more-3.false c.get_more-3.ensures.gets c.get_more-3.ensures.live in
    let h4 = one_got _ _ _ _ _ _ _ _ _ _ h3 refl c.if-not-get_more-4.false c.get_more-4.ensures.gets c.get_more-4.ensures.live in
    let h5 = one_got _ _ _ _ _ _ _ _ _ _ h4 refl c.if-not-get_more-5.false c.get_more-5.ensures.gets c.get_more-5.ensures.live in
    let h6 = one_got _ _ _ _ _ _ _ _ _ _ h5 refl c.if-not-get_more-6.false c.get_more-6.ensures.gets c.get_more-6.ensures.live in
    let h7 = one_got _ _ _ _ _ _ _ _ _ _ h6 refl c.if-not-get_more-7.false c.get_more-7.ensures.gets c.get_more-7.ensures.live in
    let h8 = one_got _ _ _ _ _ _ _ _ _ _ h7 refl c.if-not-get_more-8.false c.get_more-8.ensures.gets c.get_more-8.ensures.live in
    let h9 = one_got _ _ _ _ _ _ _ _ _ _ h8 refl c.if-not-get_more-9.false c.get_more-9.ensures.gets c.get_more-9.ensures.live in
    usual_got _ _ _ _ _ _ _ _ _ 9 _ _ h9 (omega arith) c.if-not-get_more-10.true c.get_more-10.ensures.gets c.get_rest-then-not-get_more-10.ensures.low c.get_rest-then-not-get_more-10.ensures.high c.get_rest-then-not-get_more-10.ensures.fits c.get_rest-then-not-get_more-10.ensures.gets

pub returns-then-not-get_more-11-clause-ok : goal.returns-then-not-get_more-11-clause-ok
returns-then-not-get_more-11-clause-ok c =
    let h0 = no_ones_got _ _ _ c.requires.live in
    let h1 = one_got _ _ _ _ _ _ _ _ _ _ h0 refl c.if-not-get_more.false c.get_more.ensures.gets c.get_more.ensures.live in
    let h2 = one_got _ _ _ _ _ _ _ _ _ _ h1 refl c.if-not-get_more-2.false c.get_more-2.ensures.gets c.get_more-2.ensures.live in
    let h3 = one_got _ _ _ _ _ _ _ _ _ _ h2 refl c.if-not-get_more-3.false c.get_more-3.ensures.gets c.get_more-3.ensures.live in
    let h4 = one_got _ _ _ _ _ _ _ _ _ _ h3 refl c.if-not-get_more-4.false c.get_more-4.ensures.gets c.get_more-4.ensures.live in
    let h5 = one_got _ _ _ _ _ _ _ _ _ _ h4 refl c.if-not-get_more-5.false c.get_more-5.ensures.gets c.get_more-5.ensures.live in
    let h6 = one_got _ _ _ _ _ _ _ _ _ _ h5 refl c.if-not-get_more-6.false c.get_more-6.ensures.gets c.get_more-6.ensures.live in
    let h7 = one_got _ _ _ _ _ _ _ _ _ _ h6 refl c.if-not-get_more-7.false c.get_more-7.ensures.gets c.get_more-7.ensures.live in
    let h8 = one_got _ _ _ _ _ _ _ _ _ _ h7 refl c.if-not-get_more-8.false c.get_more-8.ensures.gets c.get_more-8.ensures.live in
    let h9 = one_got _ _ _ _ _ _ _ _ _ _ h8 refl c.if-not-get_more-9.false c.get_more-9.ensures.gets c.get_more-9.ensures.live in
    let h10 = one_got _ _ _ _ _ _ _ _ _ _ h9 refl c.if-not-get_more-10.false c.get_more-10.ensures.gets c.get_more-10.ensures.live in
    usual_got _ _ _ _ _ _ _ _ _ 10 _ _ h10 (omega arith) c.if-not-get_more-11.true c.get_more-11.ensures.gets c.get_rest-then-not-get_more-11.ensures.low c.get_rest-then-not-get_more-11.ensures.high c.get_rest-then-not-get_more-11.ensures.fits c.get_rest-then-not-get_more-11.ensures.gets

pub returns-then-not-get_more-12-clause-ok : goal.returns-then-not-get_more-12-clause-ok
returns-then-not-get_more-12-clause-ok c =
    let h0 = no_ones_got _ _ _ c.requires.live in
    let h1 = one_got _ _ _ _ _ _ _ _ _ _ h0 refl c.if-not-get_more.false c.get_more.ensures.gets c.get_more.ensures.live in
    let h2 = one_got _ _ _ _ _ _ _ _ _ _ h1 refl c.if-not-get_more-2.false c.get_more-2.ensures.gets c.get_more-2.ensures.live in
    let h3 = one_got _ _ _ _ _ _ _ _ _ _ h2 refl c.if-not-get_more-3.false c.get_more-3.ensures.gets c.get_more-3.ensures.live in
    let h4 = one_got _ _ _ _ _ _ _ _ _ _ h3 refl c.if-not-get_more-4.false c.get_more-4.ensures.gets c.get_more-4.ensures.live in
    let h5 = one_got _ _ _ _ _ _ _ _ _ _ h4 refl c.if-not-get_more-5.false c.get_more-5.ensures.gets c.get_more-5.ensures.live in
    let h6 = one_got _ _ _ _ _ _ _ _ _ _ h5 refl c.if-not-get_more-6.false c.get_more-6.ensures.gets c.get_more-6.ensures.live in
    let h7 = one_got _ _ _ _ _ _ _ _ _ _ h6 refl c.if-not-get_more-7.false c.get_more-7.ensures.gets c.get_more-7.ensures.live in
    let h8 = one_got _ _ _ _ _ _ _ _ _ _ h7 refl c.if-not-get_more-8.false c.get_more-8.ensures.gets c.get_more-8.ensures.live in
    let h9 = one_got _ _ _ _ _ _ _ _ _ _ h8 refl c.if-not-get_more-9.false c.get_more-9.ensures.gets c.get_more-9.ensures.live in
    let h10 = one_got _ _ _ _ _ _ _ _ _ _ h9 refl c.if-not-get_more-10.false c.get_more-10.ensures.gets c.get_more-10.ensures.live in
    let h11 = one_got _ _ _ _ _ _ _ _ _ _ h10 refl c.if-not-get_more-11.false c.get_more-11.ensures.gets c.get_more-11.ensures.live in
    usual_got _ _ _ _ _ _ _ _ _ 11 _ _ h11 (omega arith) c.if-not-get_more-12.true c.get_more-12.ensures.gets c.get_rest-then-not-get_more-12.ensures.low c.get_rest-then-not-get_more-12.ensures.high c.get_rest-then-not-get_more-12.ensures.fits c.get_rest-then-not-get_more-12.ensures.gets

pub loop-many-init : goal.loop-many-init
loop-many-init c =
    let h0 = no_ones_got _ _ _ c.requires.live in
    let h1 = one_got _ _ _ _ _ _ _ _ _ _ h0 refl c.if-not-get_more.false c.get_more.ensures.gets c.get_more.ensures.live in
    let h2 = one_got _ _ _ _ _ _ _ _ _ _ h1 refl c.if-not-get_more-2.false c.get_more-2.ensures.gets c.get_more-2.ensures.live in
    let h3 = one_got _ _ _ _ _ _ _ _ _ _ h2 refl c.if-not-get_more-3.false c.get_more-3.ensures.gets c.get_more-3.ensures.live in
    let h4 = one_got _ _ _ _ _ _ _ _ _ _ h3 refl c.if-not-get_more-4.false c.get_more-4.ensures.gets c.get_more-4.ensures.live in
    let h5 = one_got _ _ _ _ _ _ _ _ _ _ h4 refl c.if-not-get_more-5.false c.get_more-5.ensures.gets c.get_more-5.ensures.live in
    let h6 = one_got _ _ _ _ _ _ _ _ _ _ h5 refl c.if-not-get_more-6.false c.get_more-6.ensures.gets c.get_more-6.ensures.live in
    let h7 = one_got _ _ _ _ _ _ _ _ _ _ h6 refl c.if-not-get_more-7.false c.get_more-7.ensures.gets c.get_more-7.ensures.live in
    let h8 = one_got _ _ _ _ _ _ _ _ _ _ h7 refl c.if-not-get_more-8.false c.get_more-8.ensures.gets c.get_more-8.ensures.live in
    let h9 = one_got _ _ _ _ _ _ _ _ _ _ h8 refl c.if-not-get_more-9.false c.get_more-9.ensures.gets c.get_more-9.ensures.live in
    let h10 = one_got _ _ _ _ _ _ _ _ _ _ h9 refl c.if-not-get_more-10.false c.get_more-10.ensures.gets c.get_more-10.ensures.live in
    let h11 = one_got _ _ _ _ _ _ _ _ _ _ h10 refl c.if-not-get_more-11.false c.get_more-11.ensures.gets c.get_more-11.ensures.live in
    let h12 = one_got _ _ _ _ _ _ _ _ _ _ h11 refl c.if-not-get_more-12.false c.get_more-12.ensures.gets c.get_more-12.ensures.live in
    h12

pub get_more-requires-in-loop-many-clause-live : goal.get_more-requires-in-loop-many-clause-live
get_more-requires-in-loop-many-clause-live c = c.loop-many.invariant.live

pub returns-then-not-get_more-13-clause-ok : goal.returns-then-not-get_more-13-clause-ok
returns-then-not-get_more-13-clause-ok c =
    usual_got _ _ _ _ _ _ _ _ _ _ _ _ c.loop-many.invariant (omega arith) c.if-not-get_more-13.true c.get_more-in-loop-many.ensures.gets c.get_rest-then-not-get_more-13.ensures.low c.get_rest-then-not-get_more-13.ensures.high c.get_rest-then-not-get_more-13.ensures.fits c.get_rest-then-not-get_more-13.ensures.gets

pub returns-then-not-get_more-13-clause-codable : goal.returns-then-not-get_more-13-clause-codable
returns-then-not-get_more-13-clause-codable c =
    let same : to_z w32 (of_z w32 c.get_rest-then-not-get_more-13.result) ≡ c.get_rest-then-not-get_more-13.result = to_z-of_z w32 c.get_rest-then-not-get_more-13.result c.get_rest-then-not-get_more-13.ensures.fits in
    rw same (magnitude_fits _ _ c.get_rest-then-not-get_more-13.ensures.high (omega arith))

pub loop-many-preserved : goal.loop-many-preserved
loop-many-preserved c =
    one_got _ _ _ _ _ _ _ _ _ _ c.loop-many.invariant refl c.if-not-get_more-13.false c.get_more-in-loop-many.ensures.gets c.get_more-in-loop-many.ensures.live

pub returns-clause-bad : goal.returns-clause-bad
returns-clause-bad c = all_ones_got _ _ _ _ _ _ _ (omega arith) c.loop-many.invariant

pub returns-clause-live : goal.returns-clause-live
returns-clause-live c = c.loop-many.invariant.live
