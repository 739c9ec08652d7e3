use Rattle.theories.proofs.IntLibrary.{library_ints, theories_ints}
use Rattle.theories.proofs.ints.ints_known.Goals as goal

pub returns : goal.returns
returns u = record { library = library_ints; source = theories_ints }
