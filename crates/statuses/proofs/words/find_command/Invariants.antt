use Rattle.std.proofs.Common.{◌≡◌, drop, map}
use Rattle.statuses.specs.Words.{command_among, command_row}
use Rattle.statuses.proofs.words.find_command.Given as goal

abbrev pub invariant-loop-row : goal.invariant-loop-row
invariant-loop-row l = command_among (map command_row (drop l.row-index l.rows)) l.name l.operands ≡ command_among (map command_row l.rows) l.name l.operands
