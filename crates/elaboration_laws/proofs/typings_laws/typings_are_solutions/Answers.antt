use Rattle.elaboration_laws.proofs.TypingSolutions.{is_piece_at}
use Rattle.elaboration_laws.proofs.typings_laws.typings_are_solutions.Goals as goal

pub returns : goal.returns
returns c = λ w r ls t a e cs o q d. is_piece_at w o.scoped r o.count cs d.types ls t a e o q d.typing
