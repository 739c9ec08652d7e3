use Rattle.elaboration_laws.proofs.Moves as moves
use Rattle.elaboration_laws.proofs.places_laws.moves_become.Goals as goal

pub returns : goal.returns
returns u = λ v w m xs h t. moves.moves_become v w m h xs t
