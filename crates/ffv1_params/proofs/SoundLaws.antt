-- The parameters that this project writes are sound.
use Rattle.std.proofs.Common.{◌≡◌, ℕ, ◌*◌, ◌≤◌, List, [], ◌∷◌, length, All, refl, sym, subst, arith}
use Rattle.std.specs.List.{AllByRecursion}
use Rattle.std.proofs.lemmas.List.Elements.{All-nil, All-cons}
use Rattle.ffv1_params.specs.Parameters.{Parameters, AreFilm, AreSound, stepped, flat, film_tables, film_params}
use Rattle.ffv1_params.specs.QuantTables.{IsTable, TellsContexts, set_of}
use Rattle.ffv1_params.proofs.SetLaws.{film_contexts, set_tells}

stepped-is : IsTable stepped
stepped-is = record { some = omega arith; most = omega arith; whole = refl }

flat-is : IsTable flat
flat-is = record { some = omega arith; most = omega arith; whole = refl }

tables-are : AllByRecursion IsTable film_tables
tables-are = (stepped-is, (stepped-is, (stepped-is, (flat-is, (flat-is, tt)))))

film-set_tells : TellsContexts (set_of film_tables)
film-set_tells = set_tells film_tables refl tables-are (omega (arith, film_contexts))

pub film-sound : (params : Parameters) → AreFilm params → AreSound params
unfolding film_params
film-sound params film =
    let few : params.rows ≤ 1024 = film.rows_most in
    subst AreSound (sym film.are) (record {
      depth = film.depth;
      columns = omega arith;
      rows = film.rows_some;
      slices = omega (arith, few);
      table = refl;
      some = omega arith;
      most = omega arith;
      tell = All-cons TellsContexts (set_of film_tables) [] film-set_tells (All-nil TellsContexts);
    })
