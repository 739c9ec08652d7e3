use Rattle.tr_if.proofs.conditionals.Growing.{ifs_grow}
use Rattle.tr_if.specs.conditionals.lemmas.Typed.{ifs_keep_typing}
use Rattle.tr_if.specs.conditionals.lemmas.AtTypes.{ifs_at_types}
use Rattle.tr_if.proofs.conditionals.First.{first_comes_first, others_stay, formula_becomes}
use Rattle.tr_if.proofs.conditionals.law_of_conditionals.Goals as goal

pub returns-clause-first : goal.returns-clause-first
returns-clause-first c = first_comes_first

pub returns-clause-others : goal.returns-clause-others
returns-clause-others c = others_stay

pub returns-clause-formulas : goal.returns-clause-formulas
returns-clause-formulas c = formula_becomes

pub returns-clause-nodes : goal.returns-clause-nodes
returns-clause-nodes c = ifs_grow

pub returns-clause-typing : goal.returns-clause-typing
returns-clause-typing c = ifs_keep_typing

pub returns-clause-types : goal.returns-clause-types
returns-clause-types c = ifs_at_types
