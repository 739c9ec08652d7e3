use Rattle.elaboration_laws.proofs.SolutionTypings.{has_typing}
use Rattle.elaboration_laws.proofs.typings_laws.solutions_are_typings.Goals as goal

pub returns : goal.returns
returns c = λ v w r ls t a f h o s. has_typing v w h.signature o.scoped r o.count f s.types ls t a o h.tuples h.named s.solves
