use Rattle.ffv1_params.proofs.SoundLaws.{film-sound}
use Rattle.ffv1_params.proofs.laws.film_is_sound.Goals as goal

pub returns : goal.returns
returns c = film-sound
