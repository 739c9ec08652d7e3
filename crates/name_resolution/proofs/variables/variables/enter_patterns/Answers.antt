use Rattle.name_resolution.specs.variables.Entered.{seen_at}
use Rattle.name_resolution.proofs.variables.Widened.{side_widened}
use Rattle.name_resolution.proofs.variables.variables.enter_patterns.Goals as goal

pub returns : goal.returns
returns c = rw (c.in_ok-enter_tuple.ensures, side_widened c.args.list.now (seen_at c.args.seen.now)) at c.enter_all_patterns.ensures
