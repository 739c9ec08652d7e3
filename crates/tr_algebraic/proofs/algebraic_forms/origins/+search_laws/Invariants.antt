use Rattle.std.proofs.Common.{length}
use Rattle.tr_algebraic.proofs.algebraic_forms.origins.+search_laws.Given as goal

abbrev pub decreases-search_laws : goal.decreases-search_laws
decreases-search_laws l = length l.types.now
