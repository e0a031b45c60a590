-- Numbers put one after another, each with its set.
use Rattle.std.proofs.Common.{◌≡◌, ℕ, ◌+◌, ◌<◌, ◌≤◌, List, [], ◌∷◌, ◌++◌, Bool, length, take, drop, suc, slice_index_or, sym, ap, ◌∙◌, subst, arith}
use Rattle.std.proofs.lemmas.List.{take-append-drop, take_all}
use Rattle.std.proofs.Math.Seq.{take-suc}
use Rattle.std.proofs.lemmas.List.Concat.{flat_map-append}
use Rattle.std.proofs.lemmas.List.{append-nil}
use Rattle.range_coder.specs.declared.symbol.Placed.{Placed}
use Rattle.range_coder.specs.Table.{AreLive}
use Rattle.range_coder.specs.Encoding.{Encoding}
use Rattle.range_coder.specs.Choices.{Choice}
use Rattle.range_coder.specs.Coding.{Puts, PutsFront}
use Rattle.range_coder.specs.Placing.{placed_symbol, placed_symbols}
use Rattle.range_coder.proofs.Codings.{puts_nil, puts_more, puts_then_front, front_of_more}
use Rattle.range_coder.proofs.Symbols.{HasPut}

-- one number more
more_is : (signed : Bool) (symbols : List Placed) (k : ℕ) (d : Placed) → k < length symbols → placed_symbols signed (take (k + 1) symbols) ≡ placed_symbols signed (take k symbols) ++ placed_symbol signed (slice_index_or symbols k d)
more_is signed symbols k d below =
    let split : take (k + 1) symbols ≡ take k symbols ++ slice_index_or symbols k d ∷ [] = (let e : k + 1 ≡ suc k = omega arith in rw e (take-suc symbols k d below)) in
    ap (placed_symbols signed) split
    ∙ flat_map-append (placed_symbol signed) (take k symbols) (slice_index_or symbols k d ∷ [])
    ∙ ap (λ (cs : List Choice). placed_symbols signed (take k symbols) ++ cs) (append-nil (placed_symbol signed (slice_index_or symbols k d)))

all_is : (signed : Bool) (symbols : List Placed) (k : ℕ) → placed_symbols signed symbols ≡ placed_symbols signed (take k symbols) ++ placed_symbols signed (drop k symbols)
all_is signed symbols k =
    ap (placed_symbols signed) (sym (take-append-drop k symbols)) ∙ flat_map-append (placed_symbol signed) (take k symbols) (drop k symbols)

pub line_begun : (table : List ℕ) (before : Encoding) (states : List ℕ) (signed : Bool) (symbols : List Placed) → AreLive table states → HasPut table before states before states (placed_symbols signed (take 0 symbols))
line_begun table before states signed symbols live = record { puts = puts_nil table before states; live = live }

pub line_more : (table : List ℕ) (before : Encoding) (states : List ℕ) (between : Encoding) (held : List ℕ) (after : Encoding) (left : List ℕ) (signed : Bool) (symbols : List Placed) (k : ℕ) (d : Placed) → k < length symbols → HasPut table before states between held (placed_symbols signed (take k symbols)) → Puts table between held after left (placed_symbol signed (slice_index_or symbols k d)) → AreLive table left → HasPut table before states after left (placed_symbols signed (take (k + 1) symbols))
line_more table before states between held after left signed symbols k d below h p live = record {
  puts = subst (λ (cs : List Choice). Puts table before states after left cs) (sym (more_is signed symbols k d below)) (puts_more table before states between held after left (placed_symbols signed (take k symbols)) (placed_symbol signed (slice_index_or symbols k d)) h.puts p);
  live = live;
}

pub line_refused : (table : List ℕ) (before : Encoding) (states : List ℕ) (between : Encoding) (held : List ℕ) (after : Encoding) (left : List ℕ) (signed : Bool) (symbols : List Placed) (k : ℕ) (d : Placed) → k < length symbols → HasPut table before states between held (placed_symbols signed (take k symbols)) → PutsFront table between held after left (placed_symbol signed (slice_index_or symbols k d)) → PutsFront table before states after left (placed_symbols signed symbols)
line_refused table before states between held after left signed symbols k d below h q =
    let some = puts_then_front table before states between held after left (placed_symbols signed (take k symbols)) (placed_symbol signed (slice_index_or symbols k d)) h.puts q in
    let some' : PutsFront table before states after left (placed_symbols signed (take (k + 1) symbols)) = subst (λ (cs : List Choice). PutsFront table before states after left cs) (sym (more_is signed symbols k d below)) some in
    subst (λ (cs : List Choice). PutsFront table before states after left cs) (sym (all_is signed symbols (k + 1)))
    (front_of_more table before states after left (placed_symbols signed (take (k + 1) symbols)) (placed_symbols signed (drop (k + 1) symbols)) some')

pub line_put : (table : List ℕ) (before : Encoding) (states : List ℕ) (after : Encoding) (left : List ℕ) (signed : Bool) (symbols : List Placed) (k : ℕ) → length symbols ≤ k → HasPut table before states after left (placed_symbols signed (take k symbols)) → Puts table before states after left (placed_symbols signed symbols)
line_put table before states after left signed symbols k all h =
    subst (λ (xs : List Placed). Puts table before states after left (placed_symbols signed xs)) (take_all k symbols all) h.puts
