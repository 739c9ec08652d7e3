use Rattle.elaboration_laws.proofs.OpenNodes.{first_open_node, first_group_node}
use Rattle.elaboration_laws.proofs.typings_laws.undetermined_is_first.Goals as goal

pub returns : goal.returns
returns c = record {
  expression = λ w r ls t a token o q f. first_open_node w r ls t a token o q f;
  group = λ v w ms gs token h f. first_group_node v w ms gs token h f;
}
