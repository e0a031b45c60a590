use Rattle.std.proofs.Common.{◌≡◌, ◌+◌, ◌<◌, true, false, drop, length, to_z, of_z, w32, w64, FitsSigned, ℤ, List, [], ◌∷◌, refl, sym, arith, rules, ap, ◌∙◌, ℕ}
use Rattle.std.proofs.lemmas.Int.{to_z-of_z, fits_signed_from_abs}
use Rattle.std.proofs.lemmas.List.{drop_all}
use Rattle.flac_predict.specs.Samples.{is_inside, sample_at, IsInside}
use Rattle.flac_predict.specs.Fixed.{following}
use Rattle.flac_predict.proofs.Bounds.{abs_inside}
use Rattle.flac_predict.proofs.RestoreLaws.{restoring_starts, restoring_goes_on, restoring_breaks, restoring_ends, following_nothing, inside_25, next_is}
use Rattle.flac_predict.proofs.sums.sums_into.Goals as goal

pub loop-place-init : goal.loop-place-init
loop-place-init g c = record {
  restoring = restoring_starts c.args.bits (following (g.S.Sums.last c.args.sums) c.args.rest.now) c.args.rest.now;
  fits = c.requires.fits;
}

-- what follows the lasts begins with the next sample
begins : (last after initial now : List ℤ) (place : ℕ) (r x : ℤ) → drop place now ≡ drop place initial → place < length now → r ≡ sample_at now place → ((more : List ℤ) → following last (r ∷ more) ≡ x ∷ following after more) → following last (drop place initial) ≡ x ∷ following after (drop (place + 1) initial)
begins last after initial now place r x e h q next =
    ap (following last) (next_is initial now place e h ∙ ap (λ (y : ℤ). y ∷ drop (place + 1) initial) (sym q)) ∙ next (drop (place + 1) initial)

pub returns-then-not-is_inside-clause-inside : goal.returns-then-not-is_inside-clause-inside
returns-then-not-is_inside-clause-inside g c =
    let x = c.next-sample.result in
    let v : to_z w64 (of_z w64 x) ≡ x = to_z-of_z w64 x (record { sfits = c.next-sample.type_inv }) in
    let i : is_inside c.args.bits x ≡ false = ap (is_inside c.args.bits) (sym v) ∙ sym c.is_inside.ensures ∙ c.if-not-is_inside.true in
    let r = c.loop-place.invariant.restoring in
    let f : FitsSigned w32 (sample_at c.loop-place.rest c.loop-place.place) = search rules in
    let e = begins (g.S.Sums.last c.loop-place.sums) (g.S.Sums.last c.next-sample.new.self) c.args.rest.now c.loop-place.rest c.loop-place.place _ x r.same (omega arith) (to_z-of_z w32 _ f) c.next-sample.ensures.following in
    sym (restoring_breaks c.args.bits _ c.args.rest.now c.loop-place.rest c.loop-place.place _ x _ r e i)

fits_32 : (y x : ℤ) → y ≡ x → IsInside 25 x → FitsSigned w32 y
fits_32 y x e i = rw e (fits_signed_from_abs w32 x (omega (arith, abs_inside 25 x i)))

pub overflow_cast-rest : goal.overflow_cast-rest
overflow_cast-rest g c =
    let x = c.next-sample.result in
    let v : to_z w64 (of_z w64 x) ≡ x = to_z-of_z w64 x (record { sfits = c.next-sample.type_inv }) in
    let i : is_inside c.args.bits x ≡ true = ap (is_inside c.args.bits) (sym v) ∙ sym c.is_inside.ensures ∙ c.if-not-is_inside.false in
    fits_32 _ x v (inside_25 c.args.bits x c.requires.high i)

pub loop-place-preserved : goal.loop-place-preserved
loop-place-preserved g c =
    let x = c.next-sample.result in
    let v : to_z w64 (of_z w64 x) ≡ x = to_z-of_z w64 x (record { sfits = c.next-sample.type_inv }) in
    let i : is_inside c.args.bits x ≡ true = ap (is_inside c.args.bits) (sym v) ∙ sym c.is_inside.ensures ∙ c.if-not-is_inside.false in
    let w : to_z w32 (of_z w32 (to_z w64 (of_z w64 x))) ≡ x = ap (λ (y : ℤ). to_z w32 (of_z w32 y)) v ∙ to_z-of_z w32 x (fits_32 x x refl (inside_25 c.args.bits x c.requires.high i)) in
    let r = c.loop-place.invariant.restoring in
    let f : FitsSigned w32 (sample_at c.loop-place.rest c.loop-place.place) = search rules in
    let e = begins (g.S.Sums.last c.loop-place.sums) (g.S.Sums.last c.next-sample.new.self) c.args.rest.now c.loop-place.rest c.loop-place.place _ x r.same (omega arith) (to_z-of_z w32 _ f) c.next-sample.ensures.following in
    record {
      restoring = rw w (restoring_goes_on c.args.bits _ c.args.rest.now c.loop-place.rest c.loop-place.place _ x _ r (omega arith) e i);
      fits = c.next-sample.ensures.fits (inside_25 c.args.bits x c.requires.high i);
    }

pub returns-clause-inside : goal.returns-clause-inside
returns-clause-inside g c =
    let last = g.S.Sums.last c.loop-place.sums in
    let n : drop c.loop-place.place c.args.rest.now ≡ [] = drop_all c.loop-place.place c.args.rest.now (omega arith) in
    let e : following last (drop c.loop-place.place c.args.rest.now) ≡ [] = ap (following last) n ∙ following_nothing last in
    sym (restoring_ends c.args.bits _ c.args.rest.now c.loop-place.rest c.loop-place.place _ c.loop-place.invariant.restoring (omega arith) e).1

pub returns-clause-following : goal.returns-clause-following
returns-clause-following g c =
    let last = g.S.Sums.last c.loop-place.sums in
    let n : drop c.loop-place.place c.args.rest.now ≡ [] = drop_all c.loop-place.place c.args.rest.now (omega arith) in
    let e : following last (drop c.loop-place.place c.args.rest.now) ≡ [] = ap (following last) n ∙ following_nothing last in
    λ _. (restoring_ends c.args.bits _ c.args.rest.now c.loop-place.rest c.loop-place.place _ c.loop-place.invariant.restoring (omega arith) e).0
