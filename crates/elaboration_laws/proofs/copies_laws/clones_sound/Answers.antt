use Rattle.elaboration_laws.proofs.CloneSteps.{clone_sound, clone_front}
use Rattle.elaboration_laws.proofs.copies_laws.clones_sound.Goals as goal

pub returns : goal.returns
returns u = record {
  sound = λ xs more m theory within first ss h. clone_sound m theory within first xs more ss h;
  front = λ xs more m theory within first ss us h. clone_front xs more m theory within first ss us h;
}
