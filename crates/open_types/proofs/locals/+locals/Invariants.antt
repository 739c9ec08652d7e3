use Rattle.std.proofs.Common.{ℕ, ◌+◌, length}
use Rattle.open_types.specs.declared.locals.Locals.{Locals, Outside, Inside'}
use Rattle.open_types.proofs.locals.+locals.Given as goal

-- the variables, and two for each link
abbrev weight : Locals → ℕ
weight Outside = 0
weight (Inside' ls p outer) = length ls.now + weight outer + 2

abbrev pub decreases-local_around : goal.decreases-local_around
decreases-local_around l = weight l.locals.now

abbrev pub decreases-local_among : goal.decreases-local_among
decreases-local_among l = length l.inner.now + weight l.outer.now + 1
