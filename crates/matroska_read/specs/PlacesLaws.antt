-- An outline by its places and by its values.
use Rattle.std.specs.Prelude.{◌≡◌, ℕ, List, Ok, Err, refl}
use Rattle.shelf_reader.specs.Readings.{answers, thence, thence_of}
use Rattle.matroska_read.specs.Outline.{places_of, outline_of}
use Rattle.matroska_read.specs.Places.{Places, outline_at}
use Rattle.matroska_read.specs.declared.error.OutlineFault.{OutlineFault}

pub outline-is : (bytes : List ℕ) (places : Places) → places_of bytes ≡ Ok places → outline_of bytes ≡ Ok (outline_at places bytes)
unfolding outline_of thence thence_of answers
outline-is bytes places is = rw is refl

pub outline-fault : (bytes : List ℕ) (fault : OutlineFault) → places_of bytes ≡ Err fault → outline_of bytes ≡ Err fault
unfolding outline_of thence thence_of answers
outline-fault bytes fault is = rw is refl
