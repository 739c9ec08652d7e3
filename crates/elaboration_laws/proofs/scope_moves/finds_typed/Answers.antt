use Rattle.elaboration_laws.specs.Scopes.{IsTypedThing}
use Rattle.elaboration_laws.proofs.Scopes.{found_thing}
use Rattle.elaboration_laws.proofs.scope_moves.finds_typed.Goals as goal

pub returns : goal.returns
returns u = λ v names table path h. found_thing (IsTypedThing v) names h table path
