use Rattle.elaboration_laws.proofs.MovedScopes.{opened_typed, left_typed, named_typed, replayed_typed, brought_typed, handed_typed}
use Rattle.elaboration_laws.proofs.scope_moves.moves_typed.Goals as goal

pub returns : goal.returns
returns u = record {
  opened = λ v x d names h. opened_typed v x d names h;
  left = λ v names h. left_typed v names h;
  named = λ v table x t d names h k. named_typed v table x t d names h k;
  replayed = λ v ms names t h. replayed_typed v ms names t h;
  brought = λ v link last alias ms names t h. brought_typed v link last alias ms names t h;
  handed = λ v link ms t. handed_typed v link ms t;
}
