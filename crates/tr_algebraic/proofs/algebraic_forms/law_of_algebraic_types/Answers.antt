use Rattle.tr_algebraic.specs.algebraic_forms.lemmas.Kept.{algebraic_keeps, algebraic_valid}
use Rattle.tr_algebraic.specs.algebraic_forms.lemmas.NoMatch.{matches_none}
use Rattle.tr_algebraic.proofs.algebraic_forms.law_of_algebraic_types.Goals as goal

pub returns-clause-made : goal.returns-clause-made
returns-clause-made c = algebraic_keeps

pub returns-clause-valid : goal.returns-clause-valid
returns-clause-valid c = algebraic_valid

pub returns-clause-none : goal.returns-clause-none
returns-clause-none c = matches_none
