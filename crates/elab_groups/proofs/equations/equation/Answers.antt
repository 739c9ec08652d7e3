use Rattle.std.proofs.Common.{◌≡◌, List, ap, ◌∙◌}
use Rattle.std.proofs.lemmas.Result.{IfOk-weaker}
use Rattle.tasks.specs.trees.declared.TermId.{TermId}
use Rattle.tasks.specs.trees.Tree.{Tree}
use Rattle.tasks.specs.trees.Node.{tree_at}
use Rattle.tasks.specs.Meaning.{trees_at}
use Rattle.tasks.specs.Equations.{for_all}
use Rattle.open_types.proofs.Growing.{types_stay}
use Rattle.elab_groups.specs.members.Sources.{signed_at}
use Rattle.elab_groups.specs.Groups.{inner_equation}
use Rattle.elab_groups.proofs.equations.equation.Goals as goal

pub returns-clause-tree : goal.returns-clause-tree
returns-clause-tree c =
    let s = c.args.store.now in
    let s1 = c.symbol_equation.new.store in
    let g = signed_at s c.args.signed.now in
    let args : trees_at s1 c.as_slice.result.now ≡ g.args = ap (trees_at s1) c.as_slice.ensures ∙ types_stay s s1 c.symbol_equation.ensures.grows c.args.signed.now.args c.requires.signed.args in
    IfOk-weaker c.quantify_formula.result _ (λ (id : TermId). tree_at c.quantify_formula.new.store id ≡ for_all g.args (inner_equation c.args.number g g.result (tree_at s c.args.body)))
    (λ id h. h ∙ (ap (λ (ts : List Tree). for_all ts (tree_at s1 c.in_ok-formula.formula)) args ∙ ap (for_all g.args) c.in_ok-formula.ensures.tree)) c.quantify_formula.ensures.tree
