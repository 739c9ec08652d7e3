use Rattle.theories.proofs.Cloned.{cloned_sound, cloned_plain}
use Rattle.theories.proofs.cloned_laws.cloned_sound.Goals as goal

pub returns : goal.returns
returns u = record {
  sound = λ link p alias es c next h typed placed plain sound. cloned_sound link p alias es c next h typed placed plain sound;
  plain = λ link p alias es c next h typed placed plain sound. cloned_plain link p alias es c next h typed placed plain sound;
}
