use Rattle.std.proofs.Common.{◌-◌, length}
use Rattle.walking.proofs.rewriting.gluing.+glue_locals.Given as goal

abbrev pub decreases-glue_locals : goal.decreases-glue_locals
decreases-glue_locals g l = length l.from.now.locals - length l.done.now
