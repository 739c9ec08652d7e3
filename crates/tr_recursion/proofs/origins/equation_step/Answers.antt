use Rattle.std.proofs.Common.{◌≡◌, List, sym, subst}
use Rattle.tasks.specs.trees.Node.{tree_at, trees_at}
use Rattle.tasks.specs.trees.Tree.{Tree}
use Rattle.tasks.specs.trees.Binding.{inst_types}
use Rattle.trees.specs.binders.Visits.{HoldTypes}
use Rattle.tr_recursion.proofs.Equations.{is_defined, ground_types, hold_types, branch_defined, branch_at}
use Rattle.tr_recursion.proofs.origins.equation_step.Goals as goal

pub equation_of-equation-requires-clause-defined : goal.equation_of-equation-requires-clause-defined
equation_of-equation-requires-clause-defined c = let d = c.args.draft.now in is_defined d.task c.args.symbol (trees_at d.trees c.args.types.now) (tree_at d.trees c.args.formula) c.requires.follows

pub is_inst_types-requires-clause-types : goal.is_inst_types-requires-clause-types
is_inst_types-requires-clause-types c =
    let d = c.args.draft.now in
    subst (λ (s : List Tree). HoldTypes s c.args.types.now) (sym c.store.ensures)
    (hold_types d.task d.trees c.args.types.now c.requires.types_held (ground_types d.task c.args.symbol (trees_at d.trees c.args.types.now) (tree_at d.trees c.args.formula) c.requires.follows))

pub branch_step-requires-clause-defined : goal.branch_step-requires-clause-defined
branch_step-requires-clause-defined c =
    let d = c.args.draft.now in
    let eq = c.equation_of-equation.result in
    branch_defined d (record { symbol = c.args.symbol; equation = eq }) c.equation_of-equation.ensures.tree (trees_at d.trees c.args.types.now) (tree_at d.trees c.args.formula) c.requires.follows (λ q.
    let h = c.is_inst_types.ensures.1 (subst (λ (s : List Tree). tree_at s c.args.formula ≡ inst_types (tree_at s eq) (trees_at s c.args.types.now)) (sym c.store.ensures) q) in
    let n = c.if-is_inst_types.false in
    cc) c.equation_of-equation.ensures.held c.requires.own.valid

pub branch_step-requires-clause-branch : goal.branch_step-requires-clause-branch
branch_step-requires-clause-branch c =
    let d = c.args.draft.now in
    let eq = c.equation_of-equation.result in (
      trees_at d.trees c.args.types.now,
      branch_at d (record { symbol = c.args.symbol; equation = eq }) c.equation_of-equation.ensures.tree (trees_at d.trees c.args.types.now) (tree_at d.trees c.args.formula) c.requires.follows (λ q.
          let h = c.is_inst_types.ensures.1 (subst (λ (s : List Tree). tree_at s c.args.formula ≡ inst_types (tree_at s eq) (trees_at s c.args.types.now)) (sym c.store.ensures) q) in
          let n = c.if-is_inst_types.false in
          cc),
    )
