use Rattle.elaboration_laws.proofs.GroupSolutions.{group_solution, group_typings, only_typings, no_typings, first_different}
use Rattle.elab_groups.specs.Groups.{most_variables}
use Rattle.elaboration_laws.proofs.typings_laws.group_decides.Goals as goal

pub returns : goal.returns
returns u = record {
  typings = λ v w ms gs es cs h d. group_solution v (most_variables gs) cs d.types w ms gs es h d.typings;
  solutions = λ v w ms gs f h s. group_typings v (most_variables gs) f s.types w ms gs h s.solves;
  solved = λ v w ms gs es matches h s. only_typings v w ms gs es matches h s;
  clash = λ v w ms gs k es cs h f d. no_typings v w ms gs h k f es cs d;
  undetermined = λ v w ms gs token h f. first_different v w ms gs h token f;
}
