use Rattle.std.proofs.Common.{◌≡◌, ℕ, ◌∷◌, length, sym, ap, ◌∙◌}
use Rattle.std.proofs.Math.ListN.{length-map}
use Rattle.std.proofs.lemmas.Result.{IfOk-weaker}
use Rattle.tasks.specs.trees.declared.TermId.{TermId}
use Rattle.tasks.specs.trees.Tree.{Tree, One, Two, HBound, HCell}
use Rattle.tasks.specs.trees.Node.{tree_at}
use Rattle.tasks.proofs.trees.Nodes.{tree_at-grows}
use Rattle.tasks.specs.Meaning.{trees_at}
use Rattle.tasks.specs.Equations.{cells, bound_variables}
use Rattle.open_types.proofs.Growing.{first_held, type_stays}
use Rattle.elab_groups.proofs.equations.+parameters_list.Goals as goal

pub returns-clause-tree : goal.returns-clause-tree
returns-clause-tree t c =
    let s = c.args.store.now in
    let s1 = c.parameters_list.new.store in
    let s2 = c.add-2.new.self in
    let ty = c.in-Some.first.now in
    let rest = c.in-Some.rest.now in
    let held = first_held s c.args.args.now rest ty c.in-Some.ensures.cases.0 c.requires in
    let types = trees_at s rest in
    let variable : tree_at s2 c.in_ok-variable.variable ≡ One (HBound (length types)) (tree_at s ty) =
    c.in_ok-variable.ensures.tree ∙ (ap (One (HBound (length rest))) (type_stays s s1 c.in_ok-list.ensures.grows ty held) ∙ ap (λ (n : ℕ). One (HBound n) (tree_at s ty)) (sym (length-map rest (tree_at s)))) in
    let list : tree_at s2 c.in_ok-list.list ≡ cells (bound_variables types) = tree_at-grows s1 s2 c.in_ok-list.list c.in_ok-variable.ensures.grows c.in_ok-list.ensures.held ∙ c.in_ok-list.ensures.tree in
    let both : Two HCell (tree_at s2 c.in_ok-variable.variable) (tree_at s2 c.in_ok-list.list) ≡ cells (bound_variables (tree_at s ty ∷ types)) =
    ap (λ (e : Tree). Two HCell e (tree_at s2 c.in_ok-list.list)) variable ∙ ap (Two HCell (One (HBound (length types)) (tree_at s ty))) list in
    rw c.in-Some.ensures.cases.0 (IfOk-weaker c.add-3.result _ (λ (id : TermId). tree_at c.add-3.new.self id ≡ cells (bound_variables (tree_at s ty ∷ types))) (λ id h. h ∙ both) c.add-3.ensures.tree)
