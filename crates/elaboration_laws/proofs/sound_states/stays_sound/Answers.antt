use Rattle.elaboration_laws.proofs.Further.{state_further}
use Rattle.elaboration_laws.proofs.Scoped.{uses_kept, scopes_kept}
use Rattle.elaboration_laws.proofs.sound_states.stays_sound.Goals as goal

pub returns : goal.returns
returns u = record {
  used = λ link p alias c d h k. uses_kept link p alias c d h k;
  scoped = λ c within names moves number h scopes typed. scopes_kept c within names moves number h scopes typed;
  further = λ c d more new axioms goals moves h a add. state_further c d more new axioms goals moves h a add;
}
