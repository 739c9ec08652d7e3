use Rattle.theories.proofs.cloning.own.own_of.Goals as goal
use Rattle.tasks.proofs.outside.Passed.{no_value}

pub returns-in_err-path : goal.returns-in_err-path
returns-in_err-path c = no_value _ _ c.from_residual.result c.from_residual.ensures.1

pub returns-in_err-visible : goal.returns-in_err-visible
returns-in_err-visible c = no_value _ _ c.from_residual-in_err-visible.result c.from_residual-in_err-visible.ensures.1

pub returns-in_err-places : goal.returns-in_err-places
returns-in_err-places c = no_value _ _ c.from_residual-in_err-places.result c.from_residual-in_err-places.ensures.1

pub returns-in_err-axioms : goal.returns-in_err-axioms
returns-in_err-axioms c = no_value _ _ c.from_residual-in_err-axioms.result c.from_residual-in_err-axioms.ensures.1
