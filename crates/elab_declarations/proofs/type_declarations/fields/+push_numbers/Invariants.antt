use Rattle.std.proofs.Common.{length}
use Rattle.elab_declarations.proofs.type_declarations.fields.+push_numbers.Given as goal

abbrev pub decreases-push_numbers : goal.decreases-push_numbers
decreases-push_numbers l = length l.types.now
