use Rattle.elaboration_laws.proofs.Begun.{nothing_sound, begins, ends}
use Rattle.elaboration_laws.proofs.sound_states.begins_sound.Goals as goal

pub returns : goal.returns
returns u = record {
  nothing = nothing_sound;
  begins = λ symbols decls ts path number h named source new. begins symbols decls ts path number h named source new;
  ends = λ c h. ends c h;
}
