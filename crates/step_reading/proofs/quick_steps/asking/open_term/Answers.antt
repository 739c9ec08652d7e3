use Rattle.std.proofs.Common.{◌≡◌, List, ◌∷◌, All, sym, subst, ap, ◌∙◌, arith}
use Rattle.trees.specs.Tree.{Tree}
use Rattle.trees.specs.Node.{tree_at, Grows}
use Rattle.trees.specs.Sorts.{sort_of}
use Rattle.tasks.specs.Equations.{cells}
use Rattle.tasks.specs.MatchTests.{constructor_projections, fields, result_at}
use Rattle.tasks.specs.Task.{symbol_or}
use Rattle.tasks.proofs.trees.Nodes.{Grows_trans}
use Rattle.images.specs.PatternTerms.{HasClosedResult}
use Rattle.images.specs.match_terms.Asking.{task_under}
use Rattle.images.proofs.DataTerms.{cells_members}
use Rattle.images.proofs.match_terms.Growing.{equation_is}
use Rattle.step_reading.proofs.quick_steps.asking.open_term.Goals as goal

pub rebuilt_term-requires-clause-results : goal.rebuilt_term-requires-clause-results
rebuilt_term-requires-clause-results c =
    let t = task_under c.args.store.now c.args.look in
    subst (λ js. All (HasClosedResult t) (c.args.constructor ∷ js)) (sym c.projections-own.ensures) c.requires.results

pub add-requires-clause-fits : goal.add-requires-clause-fits
add-requires-clause-fits c =
    let made = c.in_ok-made.ensures in
    ((ap sort_of (made.grows.same c.args.term.0 c.requires.term.0) ∙ c.requires.term.1, ap sort_of made.tree), tt)

pub returns-clause-equation_held : goal.returns-clause-equation_held
returns-clause-equation_held c = ((c.in_ok-equation.ensures.held, ap sort_of c.in_ok-equation.ensures.tree), tt)

pub returns-clause-equation : goal.returns-clause-equation
returns-clause-equation c =
    let s = c.args.store.now in
    let s1 = c.rebuilt_term.new.g in
    let made = c.in_ok-made.ensures in
    equation_is (task_under s c.args.look) c.args.constructor c.projections-own.result.now (tree_at c.add.new.self c.in_ok-equation.equation) (tree_at s1 c.args.term) (tree_at s1 c.in_ok-made.made) (tree_at s c.args.types) (tree_at s c.args.term)
    c.in_ok-equation.ensures.tree (made.grows.same c.args.term.0 c.requires.term.0) made.tree c.projections-own.ensures

pub returns-clause-fields : goal.returns-clause-fields
returns-clause-fields c =
    let s = c.args.store.now in
    let t = task_under s c.args.look in
    let js = c.projections-own.result.now in
    let types = tree_at s c.args.types in
    let term = tree_at s c.args.term in
    let made = c.in_ok-made.ensures in
    c.in_ok-fields.ensures.trees c.args.constructor types (cells (fields t js types term)) (result_at (symbol_or t.symbols c.args.constructor).result types)
    (c.in_ok-equation.ensures.grows.same c.in_ok-made.made.0 made.held ∙ made.tree)
    ∙ cells_members (fields t js types term) ∙ ap (λ is. fields t is types term) c.projections-own.ensures
