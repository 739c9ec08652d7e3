use Rattle.std.proofs.Common.{ap, ◌∙◌}
use Rattle.trees.specs.Tree.{Tree, Three, HFun}
use Rattle.trees.specs.Node.{tree_at, trees_at}
use Rattle.tasks.specs.Equations.{cells}
use Rattle.tr_algebraic.specs.algebraic_forms.Formulas.{own_type_list, variables_under}
use Rattle.tr_algebraic.proofs.algebraic_forms.Making.{own_later}
use Rattle.tr_algebraic.proofs.algebraic_forms.terms.con_on_variables.Goals as goal

pub apply-requires-clause-own : goal.apply-requires-clause-own
apply-requires-clause-own c = own_later c.args.store.now c.variables.new.store c.in_ok-args.ensures.grows c.args.own.symbol c.args.own.vars c.args.own c.requires.own

pub apply-requires-clause-ty : goal.apply-requires-clause-ty
apply-requires-clause-ty c = (own_later c.args.store.now c.variables.new.store c.in_ok-args.ensures.grows c.args.own.symbol c.args.own.vars c.args.own c.requires.own).type

pub returns-clause-tree : goal.returns-clause-tree
returns-clause-tree c =
    let s1 = c.variables.new.store in
    let own = own_later c.args.store.now s1 c.in_ok-args.ensures.grows c.args.own.symbol c.args.own.vars c.args.own c.requires.own in
    let f = HFun c.args.con.now.symbol in
    let types = own_type_list c.args.own.vars in
    let args : Tree = cells (variables_under c.args.below (trees_at c.args.store.now c.args.con.now.fields)) in
    c.in_ok-made.ensures.tree ∙ ap (λ (e : Tree). Three f types e (tree_at s1 c.args.own.ty)) (rw c.as_slice.ensures at c.in_ok-args.ensures.tree) ∙ ap (Three f types args) own.type_is
