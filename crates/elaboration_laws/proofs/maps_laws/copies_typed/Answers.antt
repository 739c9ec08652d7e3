use Rattle.std.proofs.Common.{map}
use Rattle.std.proofs.lemmas.List.Elements.{All-append}
use Rattle.elab_groups.specs.tasks.Rigid.{rigid_symbol}
use Rattle.elaboration_laws.specs.Placed.{IsPlacedEntry}
use Rattle.elaboration_laws.proofs.Copies.{all_placed, all_copies_typed, rigids_placed}
use Rattle.elaboration_laws.proofs.maps_laws.copies_typed.Goals as goal

pub returns : goal.returns
returns k = record {
  typed = λ c t es theory within placed h q n. all_copies_typed c t es theory within placed h q n;
  placed = λ c t es theory within placed n. all_placed c t es theory within placed n;
  variables = λ symbols vs placed. All-append IsPlacedEntry symbols (map rigid_symbol vs) placed (rigids_placed vs);
}
