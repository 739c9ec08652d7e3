use Rattle.elaboration_laws.proofs.Settings.{scopes_of}
use Rattle.elaboration_laws.proofs.scope_moves.scopes_kept.Goals as goal

pub returns : goal.returns
returns u = λ v s names held h. scopes_of v s names held h
