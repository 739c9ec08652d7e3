use Rattle.std.proofs.Common.{◌≡◌, ℕ, ◌+◌, ◌∷◌, length, sym, ap, ◌∙◌}
use Rattle.std.proofs.lemmas.List.{length-map}
use Rattle.trees.specs.Tree.{Tree, Two, HCell}
use Rattle.trees.specs.Binding.{Bound}
use Rattle.trees.specs.Node.{tree_at, trees_at}
use Rattle.tasks.specs.Equations.{cells}
use Rattle.tasks.proofs.Growth.{tree_later}
use Rattle.declarations.proofs.spelled_groups.Making.{first_kind}
use Rattle.tr_algebraic.specs.algebraic_forms.Formulas.{variables_under}
use Rattle.tr_algebraic.proofs.algebraic_forms.terms.+variables.Goals as goal

pub returns-clause-tree : goal.returns-clause-tree
returns-clause-tree t c =
    let s = c.args.store.now in
    let s1 = c.variables.new.store in
    let s2 = c.variable.new.store in
    let ty = c.in-Some.first.now in
    let rest = c.in-Some.rest.now in
    let n = c.args.below in
    let k = first_kind s c.args.types.now ty rest c.in-Some.ensures.cases.0 c.requires in
    let types = trees_at s rest in
    let variable : tree_at s2 c.in_ok-variable.variable ≡ Bound (n + length types) (tree_at s ty) =
    c.in_ok-variable.ensures.tree ∙ (ap (Bound (n + length rest)) (tree_later s s1 c.in_ok-list.ensures.grows ty k.held) ∙ ap (λ (m : ℕ). Bound (n + m) (tree_at s ty)) (sym (length-map rest (tree_at s)))) in
    let list : tree_at s2 c.in_ok-list.list ≡ cells (variables_under n types) = tree_later s1 s2 c.in_ok-variable.ensures.grows c.in_ok-list.list c.in_ok-list.ensures.terms.held ∙ c.in_ok-list.ensures.tree in
    let both : Two HCell (tree_at s2 c.in_ok-variable.variable) (tree_at s2 c.in_ok-list.list) ≡ cells (variables_under n (tree_at s ty ∷ types)) =
    ap (λ (e : Tree). Two HCell e (tree_at s2 c.in_ok-list.list)) variable ∙ ap (Two HCell (Bound (n + length types) (tree_at s ty))) list in
    rw c.in-Some.ensures.cases.0 (c.in_ok-made.ensures.tree ∙ both)
