use Rattle.std.proofs.Common.{◌∙◌, subst, sym}
use Rattle.tasks.specs.trees.Node.{tree_at}
use Rattle.tasks.specs.Task.{neg}
use Rattle.tr_split.specs.parts.Glue.{IsNegation}
use Rattle.tr_split.proofs.Inner.{neg_same}
use Rattle.tr_split.proofs.over.end_formula.Goals as goal

pub last_formula-negated-requires : goal.last_formula-negated-requires
last_formula-negated-requires c = record { front = c.requires.front; last = neg c.requires.whole; refutes = c.requires.refutes }

pub under_not-requires-clause-formula : goal.under_not-requires-clause-formula
under_not-requires-clause-formula c = c.last_formula-negated.ensures.formula

pub under_not-requires-clause-negation : goal.under_not-requires-clause-negation
under_not-requires-clause-negation c = subst IsNegation (sym (c.last_formula-negated.ensures.is c.requires.front (neg c.requires.whole) c.requires.refutes)) tt

pub returns-clause-formula : goal.returns-clause-formula
returns-clause-formula c = c.under_not.ensures.formula

pub returns-clause-is : goal.returns-clause-is
returns-clause-is c = λ front whole r. neg_same (tree_at c.args.draft.now.trees c.under_not.result) whole (sym c.under_not.ensures.tree ∙ c.last_formula-negated.ensures.is front (neg whole) r)
