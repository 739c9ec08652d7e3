use Rattle.elaboration_laws.proofs.Decided.{only_typing, no_typing, first_open}
use Rattle.elaboration_laws.proofs.typings_laws.equations_decide.Goals as goal

pub returns : goal.returns
returns u = record {
  solved = λ v w r ls t a e ms h o s. only_typing v w r ls t a h o e ms s;
  clash = λ v w r ls t a k e cs h o f d. no_typing v w r ls t a h o k f e cs d;
  undetermined = λ v w r ls t a token h o f. first_open v w r ls t a h o token f;
}
