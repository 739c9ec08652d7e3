use Rattle.inlining.proofs.branch_equations.Formulas.{recursions_spelling}
use Rattle.inlining.proofs.branch_equations.AtTerms.{branches_at_terms}
use Rattle.inlining.proofs.branch_equations.law_of_branches.Goals as goal

pub returns-clause-formulas : goal.returns-clause-formulas
returns-clause-formulas c = recursions_spelling

pub returns-clause-terms : goal.returns-clause-terms
returns-clause-terms c = branches_at_terms
