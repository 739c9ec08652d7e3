use Rattle.std.proofs.Common.{◌+◌, ◌*◌}
use Rattle.tr_if.proofs.conditionals.eliminating.+eliminating.Given as goal

abbrev pub decreases-eliminate_ifs : goal.decreases-eliminate_ifs
decreases-eliminate_ifs l = 2 * l.e.0 + 1

abbrev pub decreases-eliminate_in_parts : goal.decreases-eliminate_in_parts
decreases-eliminate_in_parts l = 2 * l.e.0
