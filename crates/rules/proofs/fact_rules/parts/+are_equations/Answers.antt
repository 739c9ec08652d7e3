use Rattle.std.proofs.Common.{rules, ◌∙◌}
use Rattle.trees.specs.Node.{tree_at, Holds}
use Rattle.tasks.specs.Meaning.{trees_at}
use Rattle.rules.proofs.Sequents.{not_so}
use Rattle.rules.proofs.fact_rules.Cells.{all_rest, more_at, no_first}
use Rattle.rules.proofs.fact_rules.parts.+are_equations.Goals as goal
use Rattle.tasks.proofs.Declared.{no}

pub returns-then-not-is_equation : goal.returns-then-not-is_equation
returns-then-not-is_equation t c =
    let s = c.args.store.now in
    no (no_first s c.args.under c.args.args.now c.in-Some.rest.now c.in-Some.ty.now c.args.list c.in-Cell.a c.in-Cell.more c.in-Some.ensures.cases.0 c.in-Cell.ensures.tree
    (trees_at s c.args.types.now) (tree_at s c.args.made) (tree_at s c.in-Some-sides.u) (tree_at s c.in-Some-sides.v)
    (not_so c.no_equations.result c.no_equations.ensures c.if-no_equations.false) c.in-Some-sides.ensures.some
    (not_so c.is_equation-in-Some-sides.result c.is_equation-in-Some-sides.ensures c.if-not-is_equation.true))

pub are_equations-requires : goal.are_equations-requires
are_equations-requires t c = (
  search rules,
  (
    c.requires.types_held,
    (all_rest (Holds c.args.store.now) c.args.args.now c.in-Some.rest.now c.in-Some.ty.now c.in-Some.ensures.cases.0 c.requires.args_held, (search rules, search rules)),
  ),
)

pub returns-in-None-sides : goal.returns-in-None-sides
returns-in-None-sides t c =
    let s = c.args.store.now in
    let more = more_at s c.args.under c.args.args.now c.in-Some.rest.now c.in-Some.ty.now c.args.list c.in-Cell.a c.in-Cell.more c.in-Some.ensures.cases.0 c.in-Cell.ensures.tree
    (trees_at s c.args.types.now) (not_so c.no_equations.result c.no_equations.ensures c.if-no_equations.false) in
    no (λ h. c.in-None-sides.ensures.none _ _ (h ∙ more))
