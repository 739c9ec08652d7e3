use Rattle.std.proofs.Common.{[], subst}
use Rattle.name_resolution.specs.Naming.{Tells, where_at}
use Rattle.name_resolution.proofs.Told.{whole_fault}
use Rattle.name_resolution.proofs.patterns.check_whole.Goals as goal

pub returns : goal.returns
returns c s = subst (Tells c.check_patterns.result) (whole_fault (where_at s c.args.world.now) [] c.args.patterns.now) (rw c.new-names.ensures at c.check_patterns.ensures.fault s)
