-- The tables of a set together.
use Rattle.std.proofs.Common.{◌≡◌, ℕ, zero, suc, ◌+◌, ◌-◌, ◌*◌, ◌/◌, ◌^◌, ◌<◌, ◌≤◌, Bool, true, false, cond, nat_lt, nat_eq, List, [], ◌∷◌, ◌++◌, length, take, get_or, refl, sym, ap, subst, ◌∙◌, append_assoc, length-append, arith, All, ℤ, pos, negsuc, neg_ℤ, ◌+ℤ◌, unsigned_abs}
use Rattle.std.proofs.lemmas.Int.{ints}
use Rattle.std.proofs.lemmas.List.{append-nil, take_all, get_or-append_right, get_or_append_left}
use Rattle.std.proofs.lemmas.List.FromFn.{length-map-range_with_len, get_or-map-range_with_len}
use Rattle.std.proofs.lemmas.List.Elements.{recursion_from_All}
use Rattle.std.proofs.Math.Nat.{mul-le-mul_right, mul-le-mul_left, pow-succ'}
use Rattle.std.specs.List.{AllByRecursion}
use Rattle.ffv1_params.specs.QuantTables.{steps_of, height, entry, table_of, spread, tables_from, scale_after, context_count, QuantSet, set_of, quant_at, IsTable, TellsContexts}
use Rattle.ffv1_params.specs.Parameters.{film_tables}
use Rattle.ffv1_params.proofs.TableLaws.{steps_below}

-- ---- scales

spread_some : (runs : List ℕ) → IsTable runs → 1 ≤ spread runs
spread_some runs is = omega (arith, is.some)

-- what a table adds to the scale is twice its highest value
pub twice_top : (k scale : ℕ) → 1 ≤ k → 2 * ((k - 1) * scale) + scale ≡ scale * (2 * k - 1)
twice_top zero scale some = absurd (omega arith)
twice_top (suc k) scale some =
    let less : suc k - 1 ≡ k = omega arith in
    let more : 2 * suc k - 1 ≡ 2 * k + 1 = omega arith in
    rw (less, more) (omega arith)

pub scale_grows : (scale : ℕ) (tables : List (List ℕ)) → AllByRecursion IsTable tables → scale ≤ scale_after scale tables
unfolding scale_after
scale_grows scale [] are = omega arith
scale_grows scale (runs ∷ more) are =
    let once : scale ≤ scale * spread runs = omega (arith, mul-le-mul_left scale (spread_some runs are.0)) in
    omega (arith, scale_grows (scale * spread runs) more are.1)

pub scale_more : (scale : ℕ) (tables : List (List ℕ)) (i : ℕ) (d : List ℕ) → i < length tables → scale_after scale (take (i + 1) tables) ≡ scale_after scale (take i tables) * spread (get_or tables i d)
unfolding scale_after
scale_more scale [] i d lt = absurd (omega arith)
scale_more scale (runs ∷ more) zero d lt = refl
scale_more scale (runs ∷ more) (suc i) d lt =
    let e : suc i + 1 ≡ suc (i + 1) = omega arith in
    rw e (scale_more (scale * spread runs) more i d (omega arith))

-- the scale on the way is at most the last
pub scale_within : (scale : ℕ) (tables : List (List ℕ)) (i : ℕ) → AllByRecursion IsTable tables → scale_after scale (take i tables) ≤ scale_after scale tables
unfolding scale_after
scale_within scale [] zero are = omega arith
scale_within scale [] (suc i) are = omega arith
scale_within scale (runs ∷ more) zero are = scale_grows scale (runs ∷ more) are
scale_within scale (runs ∷ more) (suc i) are = scale_within (scale * spread runs) more i are.1

-- ---- values

pub values_more : (scale : ℕ) (tables : List (List ℕ)) (i : ℕ) (d : List ℕ) → i < length tables → tables_from scale (take (i + 1) tables) ≡ tables_from scale (take i tables) ++ table_of (scale_after scale (take i tables)) (get_or tables i d)
unfolding scale_after tables_from
values_more scale [] i d lt = absurd (omega arith)
values_more scale (runs ∷ more) zero d lt = append-nil (table_of scale runs)
values_more scale (runs ∷ more) (suc i) d lt =
    let e : suc i + 1 ≡ suc (i + 1) = omega arith in
    rw e (ap (λ (values : List ℤ). table_of scale runs ++ values) (values_more (scale * spread runs) more i d (omega arith)) ∙ sym (append_assoc (table_of scale runs) (tables_from (scale * spread runs) (take i more)) (table_of (scale_after (scale * spread runs) (take i more)) (get_or more i d))))

length-table : (scale : ℕ) (runs : List ℕ) → length (table_of scale runs) ≡ 256
unfolding table_of
length-table scale runs = length-map-range_with_len (entry scale (steps_of runs)) 0 256

pub length-tables : (scale : ℕ) (tables : List (List ℕ)) → length (tables_from scale tables) ≡ 256 * length tables
unfolding tables_from
length-tables scale [] = refl
length-tables scale (runs ∷ more) = omega (arith, length-append (table_of scale runs) (tables_from (scale * spread runs) more), length-table scale runs, length-tables (scale * spread runs) more)

abs_neg : (n : ℕ) → unsigned_abs (neg_ℤ (pos n)) ≡ n
abs_neg zero = refl
abs_neg (suc n) = refl

-- no value of a table stands above its highest
entry_below : (scale : ℕ) (runs : List ℕ) (place : ℕ) → unsigned_abs (entry scale (steps_of runs) place) ≤ (length runs - 1) * scale
entry_below scale runs place = chosen (nat_lt place 128) (nat_eq place 128)
  where
    one : (k : ℕ) → height scale (steps_of runs) k ≤ (length runs - 1) * scale
    one k = mul-le-mul_right scale (steps_below runs k)

    chosen : (a b : Bool) → unsigned_abs (cond a (pos (height scale (steps_of runs) place)) (cond b (neg_ℤ (pos (height scale (steps_of runs) 127))) (neg_ℤ (pos (height scale (steps_of runs) (256 - place)))))) ≤ (length runs - 1) * scale
    chosen true b = one place
    chosen false true = omega (arith, abs_neg (height scale (steps_of runs) 127), one 127)
    chosen false false = omega (arith, abs_neg (height scale (steps_of runs) (256 - place)), one (256 - place))

-- the highest value of a table, by its number
top_at : ℕ → List (List ℕ) → ℕ → ℕ
top_at scale [] number = 0
top_at scale (runs ∷ more) zero = (length runs - 1) * scale
top_at scale (runs ∷ more) (suc number) = top_at (scale * spread runs) more number

value_below : (scale : ℕ) (tables : List (List ℕ)) (number place : ℕ) → place < 256 → unsigned_abs (get_or (tables_from scale tables) (256 * number + place) (pos 0)) ≤ top_at scale tables number
unfolding tables_from top_at table_of
value_below scale [] number place within = omega arith
value_below scale (runs ∷ more) zero place within =
    let T = table_of scale runs in
    let at : 256 * 0 + place ≡ place = omega arith in
    let read : get_or (T ++ tables_from (scale * spread runs) more) place (pos 0) ≡ entry scale (steps_of runs) place = get_or_append_left T (tables_from (scale * spread runs) more) (pos 0) place (omega (arith, length-table scale runs)) ∙ get_or-map-range_with_len (entry scale (steps_of runs)) 0 256 place place (pos 0) within (omega arith) in
    let P : ℕ → Type 0 = λ k. unsigned_abs (get_or (T ++ tables_from (scale * spread runs) more) k (pos 0)) ≤ (length runs - 1) * scale in
    let Q : ℤ → Type 0 = λ z. unsigned_abs z ≤ (length runs - 1) * scale in
    subst P (sym at) (subst Q (sym read) (entry_below scale runs place))
value_below scale (runs ∷ more) (suc number) place within =
    let T = table_of scale runs in
    let rest = tables_from (scale * spread runs) more in
    let at : 256 * suc number + place - 256 ≡ 256 * number + place = omega arith in
    let read : get_or (T ++ rest) (256 * suc number + place) (pos 0) ≡ get_or rest (256 * number + place) (pos 0) = get_or-append_right T rest 256 (256 * suc number + place) (pos 0) (length-table scale runs) (omega arith) ∙ ap (λ k. get_or rest k (pos 0)) at in
    let Q : ℤ → Type 0 = λ z. unsigned_abs z ≤ top_at (scale * spread runs) more number in
    subst Q (sym read) (value_below (scale * spread runs) more number place within)

abs_sum : (x y : ℤ) → unsigned_abs (x +ℤ y) ≤ unsigned_abs x + unsigned_abs y
abs_sum (pos a) (pos b) = omega arith
abs_sum (pos a) (negsuc b) = omega (arith, ints)
abs_sum (negsuc a) (pos b) = omega (arith, ints)
abs_sum (negsuc a) (negsuc b) = omega arith

-- ---- the whole set

-- all highest values together are what the scale has grown by, halved
pub highest_of_all : (scale : ℕ) (tables : List (List ℕ)) → AllByRecursion IsTable tables → ℕ
highest_of_all scale [] are = 0
highest_of_all scale (runs ∷ more) are = (length runs - 1) * scale + highest_of_all (scale * spread runs) more are.1

twice_highest : (scale : ℕ) (tables : List (List ℕ)) (are : AllByRecursion IsTable tables) → 2 * highest_of_all scale tables are + scale ≡ scale_after scale tables
unfolding scale_after highest_of_all
twice_highest scale [] are = omega arith
twice_highest scale (runs ∷ more) are = omega (arith, twice_top (length runs) scale are.0.some, twice_highest (scale * spread runs) more are.1)

five_within : (t0 t1 t2 t3 t4 : List ℕ) → AllByRecursion IsTable (t0 ∷ t1 ∷ t2 ∷ t3 ∷ t4 ∷ []) → (a b c d e : ℕ) → a < 256 → b < 256 → c < 256 → d < 256 → e < 256
    → let set = set_of (t0 ∷ t1 ∷ t2 ∷ t3 ∷ t4 ∷ []) in unsigned_abs (quant_at set 0 a +ℤ quant_at set 1 b +ℤ quant_at set 2 c +ℤ quant_at set 3 d +ℤ quant_at set 4 e) < set.contexts
unfolding set_of highest_of_all top_at
five_within t0 t1 t2 t3 t4 are a b c d e la lb lc ld le =
    let tables = t0 ∷ t1 ∷ t2 ∷ t3 ∷ t4 ∷ [] in
    let q = λ (number place : ℕ). get_or (tables_from 1 tables) (256 * number + place) (pos 0) in
    let s0 = q 0 a in
    let s1 = q 1 b in
    let s2 = q 2 c in
    let s3 = q 3 d in
    let s4 = q 4 e in
    omega (arith, twice_highest 1 tables are, abs_sum s0 s1, abs_sum (s0 +ℤ s1) s2, abs_sum (s0 +ℤ s1 +ℤ s2) s3, abs_sum (s0 +ℤ s1 +ℤ s2 +ℤ s3) s4, value_below 1 tables 0 a la, value_below 1 tables 1 b lb, value_below 1 tables 2 c lc, value_below 1 tables 3 d ld, value_below 1 tables 4 e le)

pub set_tells : (tables : List (List ℕ)) → length tables ≡ 5 → AllByRecursion IsTable tables → context_count tables ≤ 32768 → TellsContexts (set_of tables)
unfolding set_of
set_tells [] long are few = absurd (omega arith)
set_tells (t0 ∷ []) long are few = absurd (omega arith)
set_tells (t0 ∷ t1 ∷ []) long are few = absurd (omega arith)
set_tells (t0 ∷ t1 ∷ t2 ∷ []) long are few = absurd (omega arith)
set_tells (t0 ∷ t1 ∷ t2 ∷ t3 ∷ []) long are few = absurd (omega arith)
set_tells (t0 ∷ t1 ∷ t2 ∷ t3 ∷ t4 ∷ t5 ∷ more) long are few = absurd (omega arith)
set_tells (t0 ∷ t1 ∷ t2 ∷ t3 ∷ t4 ∷ []) long are few =
    let tables = t0 ∷ t1 ∷ t2 ∷ t3 ∷ t4 ∷ [] in
    record { long = omega (arith, length-tables 1 tables); some = omega (arith, scale_grows 1 tables are); most = few; within = five_within t0 t1 t2 t3 t4 are }

-- ---- for the loop over the tables

taken : (n : ℕ) (tables : List (List ℕ)) → AllByRecursion IsTable tables → AllByRecursion IsTable (take n tables)
taken zero tables are = tt
taken (suc n) [] are = tt
taken (suc n) (runs ∷ more) are = (are.0, taken n more are.1)

pub record SoFar (values : List ℤ) (scale : ℕ) (tables : List (List ℕ)) (done : ℕ) : Type 0 where
  pub filled : values ≡ tables_from 1 (take done tables)
  pub scaled : scale ≡ scale_after 1 (take done tables)

pub none_so_far : (values : List ℤ) (tables : List (List ℕ)) → values ≡ [] → SoFar values 1 tables 0
unfolding tables_from scale_after
none_so_far values tables is = record { filled = is; scaled = refl }

pub one_more : (values new : List ℤ) (scale : ℕ) (tables : List (List ℕ)) (done : ℕ) (runs : List ℕ) → done < length tables → runs ≡ get_or tables done runs → SoFar values scale tables done → new ≡ values ++ table_of scale runs → SoFar new (scale * (2 * length runs - 1)) tables (done + 1)
one_more values new scale tables done runs lt at so_far is =
    let e = values_more 1 tables done runs lt in
    let f = scale_more 1 tables done runs lt in
    let g = so_far.filled in
    let h = so_far.scaled in
    record { filled = is ∙ (ap (λ (front : List ℤ). front ++ table_of scale runs) g ∙ (ap (λ (t : List ℤ). tables_from 1 (take done tables) ++ t) (ap (λ n. table_of n runs) h ∙ ap (table_of (scale_after 1 (take done tables))) at) ∙ sym e)); scaled = ap (λ n. n * (2 * length runs - 1)) h ∙ (ap (λ (r : List ℕ). scale_after 1 (take done tables) * spread r) at ∙ sym f) }

abbrev pub record_of : List ℤ → ℕ → QuantSet
record_of values scale = record { values = values; contexts = (scale + 1) / 2 }

-- no value on the way passes 16 bits with its sign, and no scale 32 bits
pub few_so_far : (values : List ℤ) (scale : ℕ) (tables : List (List ℕ)) (done : ℕ) (runs : List ℕ) → done < length tables → runs ≡ get_or tables done runs → All IsTable tables → context_count tables ≤ 32768 → SoFar values scale tables done → ((length runs - 1) * scale ≤ 32767) × (scale * (2 * length runs - 1) ≤ 65536)
few_so_far values scale tables done runs lt at all few so_far =
    let are = recursion_from_All IsTable tables all in
    let is : IsTable runs = subst IsTable (sym at) (all done runs lt) in
    let next : scale_after 1 (take (done + 1) tables) ≡ scale * spread runs = scale_more 1 tables done runs lt ∙ (ap (λ (r : List ℕ). scale_after 1 (take done tables) * spread r) (sym at) ∙ ap (λ n. n * spread runs) (sym so_far.scaled)) in
    let most : scale * spread runs ≤ scale_after 1 tables = omega (arith, scale_within 1 tables (done + 1) are) in
    let least : 1 ≤ scale = omega (arith, scale_grows 1 (take done tables) (taken done tables are), so_far.scaled) in
    (omega (arith, twice_top (length runs) scale is.some), omega arith)

pub all_so_far : (values : List ℤ) (scale : ℕ) (tables : List (List ℕ)) (done : ℕ) → length tables ≤ done → SoFar values scale tables done → record_of values scale ≡ set_of tables
unfolding set_of
all_so_far values scale tables done le so_far =
    let all : take done tables ≡ tables = take_all done tables le in
    let filled : values ≡ tables_from 1 tables = so_far.filled ∙ ap (tables_from 1) all in
    let scaled : scale ≡ scale_after 1 tables = so_far.scaled ∙ ap (scale_after 1) all in
    λ i. record { values = filled i; contexts = (scaled i + 1) / 2 }

-- ---- the writer's tables

pub film_contexts : context_count film_tables ≡ 365
unfolding scale_after
film_contexts = refl

-- ---- for counting the contexts of tables that were read

spread_small : (runs : List ℕ) → IsTable runs → spread runs ≤ 255
spread_small runs is = omega (arith, is.most)

scale_small : (scale : ℕ) (tables : List (List ℕ)) → AllByRecursion IsTable tables → scale_after scale tables ≤ scale * 255 ^ length tables
unfolding scale_after
scale_small scale [] are = omega arith
scale_small scale (runs ∷ more) are =
    let step : scale * spread runs ≤ scale * 255 = mul-le-mul_left scale (spread_small runs are.0) in
    let power : 255 ^ suc (length more) ≡ 255 * 255 ^ length more = pow-succ' 255 (length more) in
    let rest = scale_small (scale * spread runs) more are.1 in
    rw power (omega (arith, rest, mul-le-mul_right (255 ^ length more) step))

pub total_small : (tables : List (List ℕ)) → length tables ≡ 5 → AllByRecursion IsTable tables → scale_after 1 tables ≤ 1078203909375
total_small tables five are =
    let P : ℕ → Type 0 = λ n. scale_after 1 tables ≤ 1 * 255 ^ n in
    subst P five (scale_small 1 tables are)

pub scale_step : (scale : ℕ) (tables : List (List ℕ)) (done : ℕ) (runs : List ℕ) → done < length tables → runs ≡ get_or tables done runs → scale ≡ scale_after 1 (take done tables) → scale * (2 * length runs - 1) ≡ scale_after 1 (take (done + 1) tables)
scale_step scale tables done runs lt at is = ap (λ n. n * spread runs) is ∙ (ap (λ (r : List ℕ). scale_after 1 (take done tables) * spread r) at ∙ sym (scale_more 1 tables done runs lt))

pub step_small : (scale : ℕ) (tables : List (List ℕ)) (done : ℕ) (runs : List ℕ) → done < length tables → runs ≡ get_or tables done runs → length tables ≡ 5 → All IsTable tables → scale ≡ scale_after 1 (take done tables) → scale * (2 * length runs - 1) ≤ 1078203909375
step_small scale tables done runs lt at five all is =
    let are = recursion_from_All IsTable tables all in
    omega (arith, scale_step scale tables done runs lt at is, scale_within 1 tables (done + 1) are, total_small tables five are)

pub end_small : (scale : ℕ) (tables : List (List ℕ)) (done : ℕ) → length tables ≡ 5 → All IsTable tables → scale ≡ scale_after 1 (take done tables) → scale ≤ 1078203909375
end_small scale tables done five all is =
    let are = recursion_from_All IsTable tables all in
    omega (arith, scale_within 1 tables done are, total_small tables five are)

pub scale_none : (tables : List (List ℕ)) → 1 ≡ scale_after 1 (take 0 tables)
unfolding scale_after
scale_none tables = refl
