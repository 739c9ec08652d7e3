use Rattle.elaboration_laws.proofs.Extended.{scopes_part}
use Rattle.elaboration_laws.proofs.MovedScopes.{moves_more}
use Rattle.elaboration_laws.proofs.scope_moves.stays_typed.Goals as goal

pub returns : goal.returns
returns u = record {
  scopes = λ v w names part h. scopes_part v w part names h;
  moves = λ v w ms part h. moves_more v w part ms h;
}
