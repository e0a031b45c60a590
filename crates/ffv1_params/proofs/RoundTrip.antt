-- The writer's record is read as the writer's parameters.
use Rattle.std.proofs.Common.{◌≡◌, ℕ, zero, suc, ◌+◌, ◌-◌, ◌*◌, ◌^◌, ◌<◌, ◌≤◌, Bool, true, false, ◌&&◌, ◌||◌, cond, nat_le, nat_eq, List, [], ◌∷◌, ◌++◌, length, slice_index, sum, map, Ok, IsTrue, refl, sym, ap, subst, ◌∙◌, length-append, inl, inr, ◌⊎◌, arith}
use Rattle.std.specs.List.{AllByRecursion}
use Rattle.std.specs.Int.{bytes_high_first}
use Rattle.std.proofs.lemmas.Bool.{le-leb, ne_eqb, eqb-true}
use Rattle.std.proofs.lemmas.List.{take_at}
use Rattle.cook_bits.specs.Crc.{crc32_high_of}
use Rattle.cook_bits.specs.Laws.{ParityLeavesZero}
use Rattle.ffv1_params.proofs.RecordLaws.{length-bytes_high_first}
use Rattle.range_coder.specs.Interval.{coded}
use Rattle.range_coder.specs.Laws.{CodedIsRead, CodedAreBytes, CodedBegins, OnStates}
use Rattle.ffv1_params.specs.declared.error.ParamsWhy.{ParamsWhy}
use Rattle.ffv1_params.specs.declared.error.ParamsWhy.TheVariants.{Version, Coder, Colour, Grid, Tables, Contexts, States, Ec}
use Rattle.ffv1_params.specs.QuantTables.{set_of, context_count}
use Rattle.ffv1_params.specs.Parameters.{Parameters, AreFilm, is_depth, film_tables, film_params, stepped, flat}
use Rattle.ffv1_params.specs.Record.{Field, number, single, table, version_fields, colour_fields, grid_fields, set_fields, flag_fields, film_fields, record_decisions, with_parity, record_of}
use Rattle.ffv1_params.specs.Reading as reading
use Rattle.ffv1_params.specs.Reading.{Place, ◌>>=◌, give, refuse, symbol, bit, within, unset, version, depth, colours, grid, repeated, table_set, no_states, flags, parameters, start_place, value_of, before_parity, record_read}
use Rattle.ffv1_params.proofs.SetLaws.{film_contexts}
use Rattle.ffv1_params.proofs.ReadLaws.{read_on}
use Rattle.ffv1_params.proofs.Expected.{Given, Expects, Gives, CanRun, gives_on, gives_it, gives_number, gives_bit, gives_table, start_stands, on_start}

gives_within : Given → (bytes : List ℕ) (place : Place) (n least most : ℕ) (w : ParamsWhy) (more : List Field) → n < 2 ^ 31 → least ≤ n → n ≤ most → Expects bytes place (number n ∷ more) → Gives bytes place (within least most w) n more
unfolding within
gives_within given bytes place n least most w more lt low high expects =
    let test : (nat_le least n && nat_le n most) ≡ true = rw (le-leb least n low, le-leb n most high) refl in
    gives_on bytes place symbol n (λ k. cond (nat_le least k && nat_le k most) (give k) (refuse w)) n more more (gives_number given bytes place n more lt expects) (λ q e. rw test (gives_it bytes q n more e))

gives_unset : Given → (bytes : List ℕ) (place : Place) (w : ParamsWhy) (more : List Field) → Expects bytes place (single false ∷ more) → Gives bytes place (unset w) tt more
unfolding unset
gives_unset given bytes place w more expects = gives_on bytes place bit false (λ set. cond set (refuse w) (give tt)) tt more more (gives_bit given bytes place false more expects) (λ q e. gives_it bytes q tt more e)

gives_version : Given → (bytes : List ℕ) (place : Place) (more : List Field) → Expects bytes place (version_fields ++ more) → Gives bytes place version 1 more
unfolding version
gives_version given bytes place more expects =
    gives_on bytes place (within 3 3 Version) 3 _ 1 (number 4 ∷ number 1 ∷ more) more (gives_within given bytes place 3 3 3 Version (number 4 ∷ number 1 ∷ more) (omega arith) (omega arith) (omega arith) expects) (λ q e.
    gives_on bytes q (within 4 (2 ^ 31) Version) 4 _ 1 (number 1 ∷ more) more (gives_within given bytes q 4 4 (2 ^ 31) Version (number 1 ∷ more) (omega arith) (omega arith) (omega arith) e) (λ q e.
    gives_within given bytes q 1 1 1 Coder more (omega arith) (omega arith) (omega arith) e))

depth_some : (bits : ℕ) → IsTrue (is_depth bits) → 1 ≤ bits
depth_some zero is = absurd (cc)
depth_some (suc bits) is = omega arith

either_true : (a b : Bool) → (a || b) ≡ true → (a ≡ true) ⊎ (b ≡ true)
either_true true b e = inl refl
either_true false b e = inr e

depth_small : (bits : ℕ) → IsTrue (is_depth bits) → bits ≤ 16
depth_small bits is =
    elim (either_true (nat_eq bits 8 || nat_eq bits 10 || nat_eq bits 12) (nat_eq bits 16) is) [ inl a ↦ elim (either_true (nat_eq bits 8 || nat_eq bits 10) (nat_eq bits 12) a) [ inl b ↦ elim (either_true (nat_eq bits 8) (nat_eq bits 10) b) [ inl e ↦ omega (arith, eqb-true bits 8 e) | inr e ↦ omega (arith, eqb-true bits 10 e) ] | inr e ↦ omega (arith, eqb-true bits 12 e) ] | inr e ↦ omega (arith, eqb-true bits 16 e) ]

gives_depth : Given → (bytes : List ℕ) (place : Place) (bits : ℕ) (more : List Field) → IsTrue (is_depth bits) → Expects bytes place (number bits ∷ more) → Gives bytes place depth bits more
unfolding depth
gives_depth given bytes place bits more is expects =
    let some : nat_eq bits 0 ≡ false = ne_eqb bits 0 (λ e. absurd (omega (arith, depth_some bits is))) in
    let test : is_depth bits ≡ true = is in
    gives_on bytes place symbol bits (λ n. cond (nat_eq n 0) (give 8) (cond (is_depth n) (give n) (refuse Colour))) bits more more (gives_number given bytes place bits more (omega (arith, depth_small bits is)) expects) (λ q e. rw some (rw test (gives_it bytes q bits more e)))

gives_colours : Given → (bytes : List ℕ) (place : Place) (bits : ℕ) (more : List Field) → IsTrue (is_depth bits) → Expects bytes place (colour_fields bits ++ more) → Gives bytes place colours bits more
unfolding colours
gives_colours given bytes place bits more is expects =
    gives_on bytes place (within 1 1 Colour) 1 _ bits (number bits ∷ single true ∷ number 0 ∷ number 0 ∷ single false ∷ more) more (gives_within given bytes place 1 1 1 Colour _ (omega arith) (omega arith) (omega arith) expects) (λ q e.
    gives_on bytes q depth bits _ bits (single true ∷ number 0 ∷ number 0 ∷ single false ∷ more) more (gives_depth given bytes q bits _ is e) (λ q e.
    gives_on bytes q bit true _ bits (number 0 ∷ number 0 ∷ single false ∷ more) more (gives_bit given bytes q true _ e) (λ q e.
    gives_on bytes q (within 0 0 Colour) 0 _ bits (number 0 ∷ single false ∷ more) more (gives_within given bytes q 0 0 0 Colour _ (omega arith) (omega arith) (omega arith) e) (λ q e.
    gives_on bytes q (within 0 0 Colour) 0 _ bits (single false ∷ more) more (gives_within given bytes q 0 0 0 Colour _ (omega arith) (omega arith) (omega arith) e) (λ q e.
    gives_on bytes q (unset Colour) tt _ bits more more (gives_unset given bytes q Colour more e) (λ q e.
    gives_it bytes q bits more e))))))

gives_grid : Given → (bytes : List ℕ) (place : Place) (rows : ℕ) (more : List Field) → 1 ≤ rows → rows ≤ 1024 → Expects bytes place (grid_fields rows ++ more) → Gives bytes place grid (1, rows) more
unfolding grid
gives_grid given bytes place rows more some most expects =
    let back : rows - 1 + 1 ≡ rows = omega arith in
    let test : nat_le ((0 + 1) * (rows - 1 + 1)) 1024 ≡ true = le-leb ((0 + 1) * (rows - 1 + 1)) 1024 (omega arith) in
    let same : (0 + 1, rows - 1 + 1) ≡ (1, rows) = ap (λ (n : ℕ). (1, n)) back in
    let P : ℕ × ℕ → Type 0 = λ slices. Gives bytes place grid slices more in
    subst P same (gives_on bytes place symbol 0 (λ m. symbol >>= λ n. cond (nat_le ((m + 1) * (n + 1)) 1024) (give (m + 1, n + 1)) (refuse Grid)) (0 + 1, rows - 1 + 1) (number (rows - 1) ∷ more) more (gives_number given bytes place 0 (number (rows - 1) ∷ more) (omega arith) expects) (λ q e.
    gives_on bytes q symbol (rows - 1) (λ n. cond (nat_le ((0 + 1) * (n + 1)) 1024) (give (0 + 1, n + 1)) (refuse Grid)) (0 + 1, rows - 1 + 1) more more (gives_number given bytes q (rows - 1) more (omega arith) e) (λ q e.
    rw test (gives_it bytes q (0 + 1, rows - 1 + 1) more e))))

-- a table that can stand in a record
record IsSpelled (runs : List ℕ) : Type 0 where
  most : length runs ≤ 128
  whole : sum runs ≡ 128
  each : AllByRecursion CanRun runs

gives_tables : Given → (bytes : List ℕ) (place : Place) (tables : List (List ℕ)) (more : List Field) → AllByRecursion IsSpelled tables → Expects bytes place (map table tables ++ more) → Gives bytes place (repeated (length tables) reading.table) tables more
unfolding repeated
gives_tables given bytes place [] more are expects = gives_it bytes place [] more expects
gives_tables given bytes place (runs ∷ others) more are expects =
    gives_on bytes place reading.table runs (λ first. repeated (length others) reading.table >>= λ rest. give (first ∷ rest)) (runs ∷ others) (map table others ++ more) more (gives_table given bytes place runs (map table others ++ more) are.0.most are.0.whole are.0.each expects) (λ q e.
    gives_on bytes q (repeated (length others) reading.table) others (λ rest. give (runs ∷ rest)) (runs ∷ others) more more (gives_tables given bytes q others more are.1 e) (λ q e.
    gives_it bytes q (runs ∷ others) more e))

film_spelled : AllByRecursion IsSpelled film_tables
film_spelled =
    let s : IsSpelled stepped = record { most = omega arith; whole = refl; each = ((omega arith, omega arith), ((omega arith, omega arith), ((omega arith, omega arith), ((omega arith, omega arith), ((omega arith, omega arith), tt))))) } in
    let f : IsSpelled flat = record { most = omega arith; whole = refl; each = ((omega arith, omega arith), tt) } in
    (s, (s, (s, (f, (f, tt)))))

gives_set : Given → (bytes : List ℕ) (place : Place) (more : List Field) → Expects bytes place (map table film_tables ++ more) → Gives bytes place table_set (set_of film_tables) more
unfolding table_set
gives_set given bytes place more expects =
    let test : nat_le (context_count film_tables) 32768 ≡ true = le-leb (context_count film_tables) 32768 (omega (arith, film_contexts)) in
    gives_on bytes place (repeated 5 reading.table) film_tables (λ five. cond (nat_le (context_count five) 32768) (give (set_of five)) (refuse Contexts)) (set_of film_tables) more more (gives_tables given bytes place film_tables more film_spelled expects) (λ q e. rw test (gives_it bytes q (set_of film_tables) more e))

gives_sets : Given → (bytes : List ℕ) (place : Place) (more : List Field) → Expects bytes place (map table film_tables ++ more) → Gives bytes place (repeated 1 table_set) (set_of film_tables ∷ []) more
unfolding repeated
gives_sets given bytes place more expects =
    gives_on bytes place table_set (set_of film_tables) (λ first. repeated 0 table_set >>= λ rest. give (first ∷ rest)) (set_of film_tables ∷ []) more more (gives_set given bytes place more expects) (λ q e.
    gives_on bytes q (repeated 0 table_set) [] (λ rest. give (set_of film_tables ∷ rest)) (set_of film_tables ∷ []) more more (gives_it bytes q [] more e) (λ q e. gives_it bytes q (set_of film_tables ∷ []) more e))

gives_no_states : Given → (bytes : List ℕ) (place : Place) (more : List Field) → Expects bytes place (single false ∷ more) → Gives bytes place (no_states 1) tt more
unfolding no_states
gives_no_states given bytes place more expects = gives_on bytes place (unset States) tt (λ coded. no_states 0) tt more more (gives_unset given bytes place States more expects) (λ q e. gives_it bytes q tt more e)

gives_flags : Given → (bytes : List ℕ) (place : Place) → Expects bytes place (number 1 ∷ number 1 ∷ []) → Gives bytes place flags true []
unfolding flags
gives_flags given bytes place expects =
    gives_on bytes place (within 0 1 Ec) 1 _ true (number 1 ∷ []) [] (gives_within given bytes place 1 0 1 Ec (number 1 ∷ []) (omega arith) (omega arith) (omega arith) expects) (λ q e.
    gives_on bytes q (within 0 1 Ec) 1 _ true [] [] (gives_within given bytes q 1 0 1 Ec [] (omega arith) (omega arith) (omega arith) e) (λ q e.
    gives_it bytes q true [] e))

gives_film : Given → (bytes : List ℕ) (place : Place) (bits rows : ℕ) → IsTrue (is_depth bits) → 1 ≤ rows → rows ≤ 1024 → Expects bytes place (film_fields bits rows) → Gives bytes place parameters (film_params bits rows) []
unfolding parameters film_params
gives_film given bytes place bits rows is some most expects =
    let film = film_params bits rows in
    gives_on bytes place version 1 _ film (colour_fields bits ++ grid_fields rows ++ set_fields ++ flag_fields) [] (gives_version given bytes place _ expects) (λ q e.
    gives_on bytes q colours bits _ film (grid_fields rows ++ set_fields ++ flag_fields) [] (gives_colours given bytes q bits _ is e) (λ q e.
    gives_on bytes q grid (1, rows) _ film (set_fields ++ flag_fields) [] (gives_grid given bytes q rows _ some most e) (λ q e.
    gives_on bytes q (within 1 8 Tables) 1 _ film (map table film_tables ++ flag_fields) [] (gives_within given bytes q 1 1 8 Tables _ (omega arith) (omega arith) (omega arith) e) (λ q e.
    gives_on bytes q (repeated 1 table_set) (set_of film_tables ∷ []) _ film flag_fields [] (gives_sets given bytes q flag_fields e) (λ q e.
    gives_on bytes q (no_states 1) tt _ film (number 1 ∷ number 1 ∷ []) [] (gives_no_states given bytes q _ e) (λ q e.
    gives_on bytes q flags true _ film [] [] (gives_flags given bytes q e) (λ q e.
    gives_it bytes q film [] e)))))))

-- ---- the whole record

starts : Given → CodedIsRead → CodedAreBytes → (fields : List Field) → OnStates (record_decisions fields) → Expects (coded (record_decisions fields)) start_place fields
starts given coded_read coded_bytes fields on = record {
  stands = start_stands given coded_bytes (record_decisions fields);
  reads = coded_read (record_decisions fields) on;
}

parity_apart : (bytes parity : List ℕ) → length parity ≡ 4 → before_parity (bytes ++ parity) ≡ bytes
parity_apart bytes parity four =
    let n : length (bytes ++ parity) - 4 ≡ length bytes = omega (arith, length-append bytes parity) in
    rw n (take_at bytes parity (length bytes) refl)

pub film_again : Given → CodedIsRead → CodedAreBytes → CodedBegins → ParityLeavesZero → (params : Parameters) → AreFilm params → record_read (record_of (film_fields params.bits params.rows)) ≡ Ok params
unfolding record_of with_parity
film_again given coded_read coded_bytes begins cleared params are =
    let fields = film_fields params.bits params.rows in
    let bytes = coded (record_decisions fields) in
    let parity = bytes_high_first 4 (crc32_high_of bytes) in
    let four : length parity ≡ 4 = length-bytes_high_first 4 (crc32_high_of bytes) in
    let on = on_start given coded_bytes fields in
    let front : before_parity (bytes ++ parity) ≡ bytes = parity_apart bytes parity four in
    let long : 4 ≤ length (bytes ++ parity) = omega (arith, length-append bytes parity, four) in
    let not_255 : slice_index (before_parity (bytes ++ parity)) 0 ≡ 255 → ⊥ = λ is. (begins (record_decisions fields) on).1 (ap (λ (b : List ℕ). slice_index b 0) (sym front) ∙ is) in
    let film = gives_film given bytes start_place params.bits params.rows are.depth are.rows_some are.rows_most (starts given coded_read coded_bytes fields on) in
    read_on (bytes ++ parity) long (cleared bytes) not_255
    ∙ (ap (λ (b : List ℕ). value_of (parameters b start_place)) front
    ∙ (ap value_of film.is ∙ ap (λ (p : Parameters). Ok p) (sym are.are)))
