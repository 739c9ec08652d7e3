use Rattle.theories.proofs.Sources.{source_sound}
use Rattle.theories.proofs.sound_laws.theories_sound.Goals as goal

pub returns : goal.returns
returns u = λ text ts file all are only h. source_sound text ts file all are only h
