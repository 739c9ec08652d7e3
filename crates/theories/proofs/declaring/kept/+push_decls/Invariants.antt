use Rattle.std.proofs.Common.{length}
use Rattle.theories.proofs.declaring.kept.+push_decls.Given as goal

abbrev pub decreases-push_decls : goal.decreases-push_decls
decreases-push_decls l = length l.decls.now
