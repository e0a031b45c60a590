-- Single values of a record as they are read.
use Rattle.std.proofs.Common.{◌≡◌, ℕ, ◌+◌, ◌*◌, ◌<◌, ◌≤◌, true, false, cond, ◌&&◌, nat_le, List, refl}
use Rattle.std.proofs.lemmas.Bool.{le-leb, lt-leb}
use Rattle.ffv1_params.specs.declared.error.ParamsWhy.{ParamsWhy}
use Rattle.ffv1_params.specs.declared.error.ParamsWhy.TheVariants.{Contexts, Grid}
use Rattle.ffv1_params.specs.QuantTables.{QuantSet, set_of, context_count}
use Rattle.ffv1_params.specs.Reading.{◌>>=◌, give, refuse, symbol, within, repeated, table, table_set, grid}
use Rattle.ffv1_params.specs.Walk.{ReaderAt, Leads, Refuses}
use Rattle.ffv1_params.proofs.WalkLaws.{leads_on, leads_here, refuses_later, refuses_it}

within_test : (n least most : ℕ) → least ≤ n → n ≤ most → (nat_le least n && nat_le n most) ≡ true
within_test n least most low high = rw (le-leb least n low, le-leb n most high) refl

pub within_gives : (a b : ReaderAt) (n least most : ℕ) (w : ParamsWhy) → Leads a b symbol (give n) → least ≤ n → n ≤ most → Leads a b (within least most w) (give n)
unfolding within
within_gives a b n least most w here low high =
    let test = within_test n least most low high in
    leads_on a b b symbol n (λ k. cond (nat_le least k && nat_le k most) (give k) (refuse w)) (give n) here (rw test (leads_here b (give n)))

pub set_refused : (a b : ReaderAt) (five : List (List ℕ)) → Leads a b (repeated 5 table) (give five) → 32768 < context_count five → Refuses a table_set Contexts
unfolding table_set
set_refused a b five here past =
    let test : nat_le (context_count five) 32768 ≡ false = lt-leb (context_count five) 32768 past in
    let next = λ (tables : List (List ℕ)). cond (nat_le (context_count tables) 32768) (give (set_of tables)) (refuse Contexts) in
    refuses_later a b (repeated 5 table) five next Contexts here (rw test (refuses_it QuantSet b Contexts))

pub set_given : (a b : ReaderAt) (five : List (List ℕ)) → Leads a b (repeated 5 table) (give five) → context_count five ≤ 32768 → Leads a b table_set (give (set_of five))
unfolding table_set
set_given a b five here few =
    let test : nat_le (context_count five) 32768 ≡ true = le-leb (context_count five) 32768 few in
    let next = λ (tables : List (List ℕ)). cond (nat_le (context_count tables) 32768) (give (set_of tables)) (refuse Contexts) in
    leads_on a b b (repeated 5 table) five next (give (set_of five)) here (rw test (leads_here b (give (set_of five))))

-- the grid
pub grid_given : (a b c : ReaderAt) (columns rows : ℕ) → Leads a b symbol (give columns) → Leads b c symbol (give rows) → (columns + 1) * (rows + 1) ≤ 1024 → Leads a c grid (give (columns + 1, rows + 1))
unfolding grid
grid_given a b c columns rows first second few =
    let test : nat_le ((columns + 1) * (rows + 1)) 1024 ≡ true = le-leb ((columns + 1) * (rows + 1)) 1024 few in
    let next = λ (m : ℕ) (n : ℕ). cond (nat_le ((m + 1) * (n + 1)) 1024) (give (m + 1, n + 1)) (refuse Grid) in
    leads_on a b c symbol columns (λ m. symbol >>= next m) (give (columns + 1, rows + 1)) first (leads_on b c c symbol rows (next columns) (give (columns + 1, rows + 1)) second (rw test (leads_here c (give (columns + 1, rows + 1)))))
