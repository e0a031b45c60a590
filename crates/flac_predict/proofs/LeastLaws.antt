-- The least of a list: one more at its end, what it is, and that no other is it.
use Rattle.std.proofs.Common.{◌≡◌, ℕ, zero, suc, ◌+◌, ◌-◌, ◌<◌, ◌≤◌, Bool, true, false, cond, ltb, List, [], ◌∷◌, ◌++◌, length, get_or, Option, Some, None, refl, ap, ◌∙◌, subst, arith, inl, inr}
use Rattle.std.specs.List.{range_with_len}
use Rattle.std.specs.Option.{unwrap_or}
use Rattle.std.proofs.lemmas.Bool.{ltb-true, ltb-false, lt-ltb, le-ltb, cases_Bool, cases_lt}
use Rattle.std.proofs.lemmas.List.{get_or_default, get_or_past}
use Rattle.std.proofs.lemmas.List.FromFn.{get_or-range_with_len, length-range_with_len}
use Rattle.flac_predict.specs.Least.{kept, least_of, IsFirstLeast}

-- the one that is held, unless the next costs less
abbrev pub taken : {A : Type 0} → (A → ℕ) → Option A → A → A
taken cost None next = next
taken cost (Some held) next = cond (ltb (cost next) (cost held)) next held

-- of three, from either side
three : {A : Type 0} → (cost : A → ℕ) (f m x : A) (p q : Bool) → ltb (cost x) (cost m) ≡ p → ltb (cost m) (cost f) ≡ q → cond (ltb (cost (cond p x m)) (cost f)) (cond p x m) f ≡ cond (ltb (cost x) (cost (cond q m f))) x (cond q m f)
three cost f m x true true e d =
    let r : ltb (cost x) (cost f) ≡ true = lt-ltb (cost x) (cost f) (omega (arith, ltb-true (cost x) (cost m) e, ltb-true (cost m) (cost f) d)) in
    rw (r, e) refl
three cost f m x true false e d = refl
three cost f m x false true e d = rw (d, e) refl
three cost f m x false false e d =
    let r : ltb (cost x) (cost f) ≡ false = le-ltb (cost x) (cost f) (omega (arith, ltb-false (cost x) (cost m) e, ltb-false (cost m) (cost f) d)) in
    rw (d, r) refl

pushed : {A : Type 0} → (cost : A → ℕ) (f x : A) (rest : Option A) → kept cost f (Some (taken cost rest x)) ≡ taken cost (Some (kept cost f rest)) x
unfolding kept
pushed cost f x None = refl
pushed cost f x (Some m) =
    three cost f m x (ltb (cost x) (cost m)) (ltb (cost m) (cost f)) refl refl

pub least_of_push : {A : Type 0} → (cost : A → ℕ) (front : List A) (x : A) → least_of cost (front ++ x ∷ []) ≡ Some (taken cost (least_of cost front) x)
unfolding least_of kept
least_of_push cost [] x = refl
least_of_push {A} cost (f ∷ more) x =
    ap (λ (o : Option A). Some (kept cost f o)) (least_of_push cost more x) ∙ ap (λ (y : A). Some y) (pushed cost f x (least_of cost more))

-- the least is the first of those that cost least
begins : {A : Type 0} → (cost : A → ℕ) (f : A) (more : List A) → ((k : ℕ) → cost f ≤ cost (get_or more k f)) → IsFirstLeast cost (f ∷ more) f
begins cost f more h = record {
  place = 0;
  stands = omega arith;
  is = refl;
  none_less = λ k. elim k as (λ n. cost f ≤ cost (get_or (f ∷ more) n f)) [ zero ↦ omega arith | suc n ↦ h n ];
  first = λ k l. absurd (omega arith);
}

follows : {A : Type 0} → (cost : A → ℕ) (f m : A) (more : List A) → cost m < cost f → IsFirstLeast cost more m → IsFirstLeast cost (f ∷ more) m
follows cost f m more l i = record {
  place = suc i.place;
  stands = omega (arith, i.stands);
  is = i.is;
  none_less = λ k. elim k as (λ n. cost m ≤ cost (get_or (f ∷ more) n m)) [ zero ↦ omega arith | suc n ↦ i.none_less n ];
  first = λ k. elim k as (λ n. n < suc i.place → cost m < cost (get_or (f ∷ more) n m)) [ zero ↦ λ h. l | suc n ↦ λ h. i.first n (omega arith) ];
}

-- where another default is read past the end
no_less : {A : Type 0} → (cost : A → ℕ) (f m : A) (more : List A) → cost f ≤ cost m → IsFirstLeast cost more m → (k : ℕ) → cost f ≤ cost (get_or more k f)
no_less {A} cost f m more l i k =
    elim (cases_lt k (length more)) as (λ _. cost f ≤ cost (get_or more k f)) [
      | inl h ↦ let e : get_or more k f ≡ get_or more k m = get_or_default more k f m h in rw e (omega (arith, l, i.none_less k))
      | inr h ↦ let e : get_or more k f ≡ f = get_or_past more k f h in rw e (omega arith)
    ]

some_same : {A : Type 0} → (x y : A) → Some x ≡ Some y → x ≡ y
some_same x y e = cc

mutual_least : {A : Type 0} → (cost : A → ℕ) (f : A) (more : List A) (rest : Option A) → least_of cost more ≡ rest → ((m : A) → rest ≡ Some m → IsFirstLeast cost more m) → IsFirstLeast cost (f ∷ more) (kept cost f rest)
unfolding least_of kept
mutual_least cost f [] None e h = begins cost f [] (λ k. omega arith)
mutual_least cost f (g ∷ more) None e h = absurd (cc)
mutual_least {A} cost f more (Some m) e h =
    let i = h m refl in
    elim (cases_Bool (ltb (cost m) (cost f))) as (λ _. IsFirstLeast cost (f ∷ more) (cond (ltb (cost m) (cost f)) m f)) [
      | inl t ↦ rw t (follows cost f m more (ltb-true (cost m) (cost f) t) i)
      | inr t ↦ rw t (begins cost f more (no_less cost f m more (ltb-false (cost m) (cost f) t) i))
    ]

pub least_is_first : {A : Type 0} → (cost : A → ℕ) (list : List A) (least : A) → least_of cost list ≡ Some least → IsFirstLeast cost list least
unfolding least_of
least_is_first cost [] least e = absurd (cc)
least_is_first {A} cost (f ∷ more) least e =
    let h = λ (m : A) (d : least_of cost more ≡ Some m). least_is_first cost more m d in
    let i : IsFirstLeast cost (f ∷ more) (kept cost f (least_of cost more)) = mutual_least cost f more (least_of cost more) refl h in
    subst (IsFirstLeast cost (f ∷ more)) (some_same (kept cost f (least_of cost more)) least e) i

-- of a list that isn't empty
pub least_is : {A : Type 0} → (cost : A → ℕ) (f : A) (more : List A) (d : A) → IsFirstLeast cost (f ∷ more) (unwrap_or (least_of cost (f ∷ more)) d)
unfolding least_of
least_is cost f more d = least_is_first cost (f ∷ more) (kept cost f (least_of cost more)) refl

pub least_pushed : {A : Type 0} → (cost : A → ℕ) (front : List A) (x d : A) → IsFirstLeast cost (front ++ x ∷ []) (unwrap_or (least_of cost (front ++ x ∷ [])) d)
least_pushed cost front x d =
    rw (least_of_push cost front x) (least_is_first cost (front ++ x ∷ []) (taken cost (least_of cost front) x) (least_of_push cost front x))

-- a cost that never falls again once it hasn't fallen
pub record TurnsOnce (cost : ℕ → ℕ) : Type 0 where
  pub turns : (k : ℕ) → cost k ≤ cost (suc k) → cost (suc k) ≤ cost (suc (suc k))

rises : (cost : ℕ → ℕ) → TurnsOnce cost → (k d : ℕ) → cost k ≤ cost (suc k) → (cost k ≤ cost (k + d)) × (cost (k + d) ≤ cost (suc (k + d)))
rises cost t k zero h = let e : k + 0 ≡ k = omega arith in rw e (omega arith, h)
rises cost t k (suc d) h =
    let ih = rises cost t k d h in
    let e : k + suc d ≡ suc (k + d) = omega arith in
    rw e (omega (arith, ih.0, ih.1), t.turns (k + d) ih.1)

pub least_after : (cost : ℕ → ℕ) → TurnsOnce cost → (k j : ℕ) → k ≤ j → cost k ≤ cost (suc k) → cost k ≤ cost j
least_after cost t k j l h =
    let e : k + (j - k) ≡ j = omega arith in
    subst (λ (n : ℕ). cost k ≤ cost n) e (rises cost t k (j - k) h).0

falls : (cost : ℕ → ℕ) → TurnsOnce cost → (k j : ℕ) → j ≤ k → cost (suc k) < cost k → cost (suc j) < cost j
falls cost t k j l h =
    elim (cases_lt (cost (suc j)) (cost j)) as (λ _. cost (suc j) < cost j) [
      | inl s ↦ s
      | inr s ↦
          let e : j + (k - j) ≡ k = omega arith in
          let r : cost k ≤ cost (suc k) = subst (λ (n : ℕ). cost n ≤ cost (suc n)) e (rises cost t j (k - j) s).1 in
          absurd (omega arith)
    ]

less_down : (cost : ℕ → ℕ) → TurnsOnce cost → (k d : ℕ) → d ≤ k → cost (suc k) < cost k → cost (suc k) < cost (k - d)
less_down cost t k zero l h = let e : k - 0 ≡ k = omega arith in rw e h
less_down cost t k (suc d) l h =
    let ih = less_down cost t k d (omega arith) h in
    let f : cost (suc (k - suc d)) < cost (k - suc d) = falls cost t k (k - suc d) (omega arith) h in
    let e : suc (k - suc d) ≡ k - d = omega arith in
    let g : cost (k - d) < cost (k - suc d) = subst (λ (n : ℕ). cost n < cost (k - suc d)) e f in
    omega arith

pub less_before : (cost : ℕ → ℕ) → TurnsOnce cost → (k j : ℕ) → j < k → cost k < cost (k - 1) → cost k < cost j
less_before cost t zero j l h = absurd (omega arith)
less_before cost t (suc k) j l h =
    let e : k - (k - j) ≡ j = omega arith in
    let s : suc k - 1 ≡ k = omega arith in
    let i : cost (suc k) < cost k = subst (λ (n : ℕ). cost (suc k) < cost n) s h in
    subst (λ (n : ℕ). cost (suc k) < cost n) e (less_down cost t k (k - j) (omega arith) i)

-- the least of the first numbers, by a test of its neighbours
pub range_least : (cost : ℕ → ℕ) (most least k : ℕ) → TurnsOnce cost → IsFirstLeast cost (range_with_len 0 (suc most)) least → k ≤ most → (k < most → cost k ≤ cost (suc k)) → (0 < k → cost k < cost (k - 1)) → least ≡ k
range_least cost most least k t i h up down =
    let n : i.place < suc most = omega (arith, i.stands, length-range_with_len 0 (suc most)) in
    let r : get_or (range_with_len 0 (suc most)) i.place least ≡ 0 + i.place = get_or-range_with_len 0 (suc most) i.place least n in
    let q : get_or (range_with_len 0 (suc most)) i.place least ≡ least = i.is in
    let p : least ≡ i.place = omega (arith, r, q) in
    let at0 : get_or (range_with_len 0 (suc most)) k least ≡ 0 + k = get_or-range_with_len 0 (suc most) k least (omega arith) in
    let at : get_or (range_with_len 0 (suc most)) k least ≡ k = omega (arith, at0) in
    let most_k : cost least ≤ cost k = subst (λ (n : ℕ). cost least ≤ cost n) at (i.none_less k) in
    elim (cases_lt least k) as (λ _. least ≡ k) [
      | inl l ↦ absurd (let s : cost k < cost least = less_before cost t k least l (down (omega arith)) in omega arith)
      | inr l ↦ elim (cases_lt k least) as (λ _. least ≡ k) [
        | inl m ↦
            let s : cost k ≤ cost least = least_after cost t k least l (up (omega arith)) in
            let f : cost least < cost (get_or (range_with_len 0 (suc most)) k least) = i.first k (omega arith) in
            let g : cost least < cost k = subst (λ (n : ℕ). cost least < cost n) at f in
            absurd (omega arith)
        | inr m ↦ omega arith
      ]
    ]
