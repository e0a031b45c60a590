-- Lists of choices, each for a number, one after another.
use Rattle.std.proofs.Common.{◌≡◌, ℕ, zero, suc, ◌+◌, ◌<◌, List, [], ◌++◌, refl, ap, ◌∙◌, arith}
use Rattle.range_coder.specs.Choices.{Choice}
use Rattle.ffv1_slice.specs.Plane.{joined, Split, Joins}

pub joined_more : (n : ℕ) (f : ℕ → List Choice) → joined (n + 1) f ≡ joined n f ++ f n
unfolding joined
joined_more n f = let e : n + 1 ≡ suc n = omega arith in rw e refl

pub joined_none : (f : ℕ → List Choice) → joined 0 f ≡ []
unfolding joined
joined_none f = refl

pub joined_same : (n : ℕ) (f g : ℕ → List Choice) → ((x : ℕ) → x < n → f x ≡ g x) → joined n f ≡ joined n g
unfolding joined
joined_same zero f g same = refl
joined_same (suc n) f g same =
    let rest : joined n f ≡ joined n g = joined_same n f g (λ x h. same x (omega arith)) in
    let last : f n ≡ g n = same n (omega arith) in
    ap (λ (cs : List Choice). cs ++ f n) rest ∙ ap (λ (cs : List Choice). joined n g ++ cs) last

pub joins_none : (P : ℕ → List Choice → Type 0) → Joins 0 P []
unfolding Joins
joins_none P = refl

pub joins_more : (n : ℕ) (P : ℕ → List Choice → Type 0) (left right : List Choice) → Joins n P left → P n right → Joins (n + 1) P (left ++ right)
unfolding Joins
joins_more n P left right l r =
    let e : n + 1 ≡ suc n = omega arith in
    let s : Split (Joins n P) (P n) (left ++ right) = record { left = left; right = right; is = refl; left_is = l; right_is = r } in
    rw e s

pub joins_same : (n : ℕ) (P Q : ℕ → List Choice → Type 0) (cs : List Choice) → ((x : ℕ) (c : List Choice) → x < n → P x c → Q x c) → Joins n P cs → Joins n Q cs
unfolding Joins
joins_same zero P Q cs same h = h
joins_same (suc n) P Q cs same h =
    let s : Split (Joins n P) (P n) cs = h in
    let l : Joins n Q s.left = joins_same n P Q s.left (λ x c b. same x c (omega arith)) s.left_is in
    let r : Q n s.right = same n s.right (omega arith) s.right_is in
    record { left = s.left; right = s.right; is = s.is; left_is = l; right_is = r }

pub joins_joined : (n : ℕ) (P : ℕ → List Choice → Type 0) (f : ℕ → List Choice) → ((x : ℕ) → x < n → P x (f x)) → Joins n P (joined n f)
unfolding Joins joined
joins_joined zero P f each = refl
joins_joined (suc n) P f each =
    let l : Joins n P (joined n f) = joins_joined n P f (λ x b. each x (omega arith)) in
    let r : P n (f n) = each n (omega arith) in
    record { left = joined n f; right = f n; is = refl; left_is = l; right_is = r }
