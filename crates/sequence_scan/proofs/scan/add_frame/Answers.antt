use Rattle.std.proofs.Common.{◌≡◌, ℕ, ◌<◌, false, List, [], length, get_or, Option, None, option_map, unwrap_or, sym, ap, ◌∙◌, subst, arith}
use Rattle.std.proofs.lemmas.List.{get_or_default}
use Rattle.std.specs.Vec.{vec_len}
use Rattle.sequence_scan.specs.declared.run.Run.{Run}
use Rattle.sequence_scan.specs.Numbers.{is_numbered}
use Rattle.sequence_scan.specs.Runs.{name_at}
use Rattle.sequence_scan.specs.Scanning.{IsParted, runs_below, run_number, with_frame}
use Rattle.sequence_scan.proofs.LastFrames.{run_found, begins_unnumbered, runs_more, run_is, run_within, last_more, last_same}
use Rattle.sequence_scan.proofs.scan.add_frame.Goals as goal

-- the text that was read is the name at the place
name_there : (names : List (List ℕ)) (place : ℕ) (text name : List ℕ) → place < length names → text ≡ name → name ≡ get_or names place name → text ≡ name_at names place
name_there names place text name listed read is = read ∙ is ∙ get_or_default names place name [] listed

pub returns-in_default-clause-runs : goal.returns-in_default-clause-runs
returns-in_default-clause-runs c =
    let names = c.args.names.now in
    let place = c.args.place in
    let here = name_there names place c.as_str.result.now c.index-names-place.result c.requires.listed c.as_str.ensures c.index-names-place.is in
    let none = subst (λ (x : List ℕ). is_numbered x ≡ false) here c.in_default.ensures.none in
    c.in_ok-_run.ensures.runs
    ∙ ap (λ (rs : List Run). with_frame rs None place) c.requires.runs
    ∙ ap (λ (o : Option ℕ). with_frame (runs_below names place) (option_map (run_number names) o) place) (sym (begins_unnumbered names c.requires.frames place c.requires.listed none))
    ∙ sym (runs_more names c.requires.frames place c.requires.listed)

pub returns-in_default-clause-last : goal.returns-in_default-clause-last
returns-in_default-clause-last c =
    let names = c.args.names.now in
    let place = c.args.place in
    let here = name_there names place c.as_str.result.now c.index-names-place.result c.requires.listed c.as_str.ensures c.index-names-place.is in
    last_same names place c.args.last.now (subst (λ (x : List ℕ). is_numbered x ≡ false) here c.in_default.ensures.none) c.requires.last

pub add_to_runs-requires-2 : goal.add_to_runs-requires-2
add_to_runs-requires-2 c = λ run e.
    let names = c.args.names.now in
    let place = c.args.place in
    let here = name_there names place c.as_str.result.now c.index-names-place.result c.requires.listed c.as_str.ensures c.index-names-place.is in
    let of = subst (λ (x : List ℕ). IsParted x c.in-Some.frame) here c.in-Some.ensures.some in
    let before = run_found names c.requires.frames place c.requires.listed c.in-Some.frame of c.args.last.now c.run_before-before.result c.requires.last c.run_before-before.ensures in
    let within = run_within names c.requires.frames place c.requires.listed run (sym before ∙ e) in
    omega (arith, within, ap length c.requires.runs)

pub returns-clause-runs : goal.returns-clause-runs
returns-clause-runs c =
    let names = c.args.names.now in
    let place = c.args.place in
    let here = name_there names place c.as_str.result.now c.index-names-place.result c.requires.listed c.as_str.ensures c.index-names-place.is in
    let of = subst (λ (x : List ℕ). IsParted x c.in-Some.frame) here c.in-Some.ensures.some in
    let before = run_found names c.requires.frames place c.requires.listed c.in-Some.frame of c.args.last.now c.run_before-before.result c.requires.last c.run_before-before.ensures in
    c.in_ok-run.ensures.runs
    ∙ (λ i. with_frame (c.requires.runs i) (before i) place)
    ∙ sym (runs_more names c.requires.frames place c.requires.listed)

pub returns-clause-last : goal.returns-clause-last
returns-clause-last c =
    let names = c.args.names.now in
    let place = c.args.place in
    let here = name_there names place c.as_str.result.now c.index-names-place.result c.requires.listed c.as_str.ensures c.index-names-place.is in
    let of = subst (λ (x : List ℕ). IsParted x c.in-Some.frame) here c.in-Some.ensures.some in
    let before = run_found names c.requires.frames place c.requires.listed c.in-Some.frame of c.args.last.now c.run_before-before.result c.requires.last c.run_before-before.ensures in
    let long : vec_len c.args.runs.now ≡ length (runs_below names place) = omega (arith, ap length c.requires.runs) in
    let run : c.in_ok-run.run' ≡ run_number names place =
    c.in_ok-run.ensures.run
    ∙ (λ i. unwrap_or (before i) (long i))
    ∙ run_is names c.requires.frames place c.requires.listed in
    last_more names place c.in-Some.frame c.in_ok-run.run' c.args.last.now c.insert.new.self of run c.requires.last c.in_ok-insert.ensures.updates
