use Rattle.std.proofs.Common.{subst}
use Rattle.std.proofs.lemmas.Result.{on_ok_weaker}
use Rattle.clones.specs.clone_elements.Meaning.{RightHeld}
use Rattle.clones.proofs.clone_elements.replacements.push_type.Goals as goal

pub returns-in-Type-clause-held : goal.returns-in-Type-clause-held
returns-in-Type-clause-held c = on_ok_weaker c.push_type_at.result (λ h s a r. h s a (subst (RightHeld s) c.in-Type.is r)) c.push_type_at.ensures.held
