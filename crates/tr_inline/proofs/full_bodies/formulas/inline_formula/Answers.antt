use Rattle.std.proofs.Common.{◌≡◌}
use Rattle.trees.specs.Node.{tree_at}
use Rattle.inlining.specs.images.Images.{image}
use Rattle.tr_inline.specs.full_bodies.FullBodies.{rule_after}
use Rattle.tr_inline.specs.full_bodies.Made.{IsFormulaFault}
use Rattle.tr_inline.proofs.full_bodies.Steps.{err_passed}
use Rattle.tr_inline.proofs.full_bodies.MadeBodies.{formula_fault}
use Rattle.tr_inline.proofs.full_bodies.formulas.inline_formula.Goals as goal

pub returns-in_err-made-clause-fault : goal.returns-in_err-made-clause-fault
returns-in_err-made-clause-fault c =
    let s = c.args.store.now in
    let e = image (rule_after s (λ z. z) c.args.bodies.now) (tree_at s c.args.formula) in
    err_passed (IsFormulaFault e) c.from_residual.result c.in_err-made.field-0.0 c.from_residual.ensures.1 (formula_fault e c.in_err-made.field-0.0 c.in_err-made.ensures.fault)
