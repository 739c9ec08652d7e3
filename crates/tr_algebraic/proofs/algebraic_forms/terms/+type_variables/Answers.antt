use Rattle.std.proofs.Common.{sym, ap, ◌∙◌}
use Rattle.std.proofs.lemmas.Result.{IfOk-weaker}
use Rattle.trees.specs.Tree.{Tree, Leaf, Two, HTyVar, HCell}
use Rattle.trees.specs.Node.{tree_at}
use Rattle.trees.proofs.Nodes.{tree_at-grows}
use Rattle.tr_algebraic.proofs.algebraic_forms.Making.{own_step}
use Rattle.tr_algebraic.proofs.algebraic_forms.terms.+type_variables.Goals as goal

pub returns-clause-tree : goal.returns-clause-tree
returns-clause-tree t c =
    let s1 = c.type_variables.new.store in
    let s2 = c.add-2.new.self in
    let list = tree_at-grows s1 s2 c.in_ok-list.list c.in_ok-variable.ensures.grows c.in_ok-list.ensures.held ∙ c.in_ok-list.ensures.tree in
    IfOk-weaker c.add-3.result _ _ (λ id h.
    h ∙ ap (λ (e : Tree). Two HCell e (tree_at s2 c.in_ok-list.list)) c.in_ok-variable.ensures.tree ∙ ap (Two HCell (Leaf (HTyVar c.args.from))) list
    ∙ sym (own_step c.args.from c.args.many c.if-many-eq0.false)) c.add-3.ensures.tree
