use Rattle.std.proofs.Common.{◌+◌, ◌*◌}
use Rattle.name_tables.proofs.walk.+terms.Given as goal

abbrev pub decreases-note_term : goal.decreases-note_term
decreases-note_term l = 2 * l.e.0 + 1

abbrev pub decreases-note_parts : goal.decreases-note_parts
decreases-note_parts l = 2 * l.e.0
