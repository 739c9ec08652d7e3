use Rattle.std.proofs.Common.{◌≡◌, ℕ, length, sym, ap, ◌∙◌}
use Rattle.std.proofs.lemmas.List.{length-map}
use Rattle.trees.specs.Tree.{Tree, Two, HEq}
use Rattle.trees.specs.Node.{tree_at, trees_at}
use Rattle.trees.specs.Sorts.{sort_of}
use Rattle.tasks.specs.Task.{ConstructorTree, neg}
use Rattle.tasks.specs.Meaning.{con_at}
use Rattle.tasks.proofs.Growth.{tree_later}
use Rattle.tr_algebraic.specs.algebraic_forms.Formulas.{con_on, variables_under}
use Rattle.tr_algebraic.proofs.algebraic_forms.Making.{own_later, term_later, con_fit_later, con_same}
use Rattle.tr_algebraic.proofs.algebraic_forms.distinct.different.Goals as goal

pub con_on_variables-requires-2-clause-own : goal.con_on_variables-requires-2-clause-own
con_on_variables-requires-2-clause-own c = own_later c.args.store.now c.con_on_variables.new.store c.in_ok-left.ensures.grows c.args.own.symbol c.args.own.vars c.args.own c.requires.own

pub con_on_variables-requires-2-clause-con : goal.con_on_variables-requires-2-clause-con
con_on_variables-requires-2-clause-con c = con_fit_later c.args.store.now c.con_on_variables.new.store c.in_ok-left.ensures.grows c.args.second.now c.requires.second

pub add-requires-clause-fits : goal.add-requires-clause-fits
add-requires-clause-fits c = (((term_later c.con_on_variables.new.store c.con_on_variables-2.new.store c.in_ok-right.ensures.grows c.in_ok-left.left c.in_ok-left.ensures.term).term, c.in_ok-right.ensures.term.term), tt)

pub add-requires-2-clause-fits : goal.add-requires-2-clause-fits
add-requires-2-clause-fits c = ap sort_of c.in_ok-equation.ensures.tree

pub returns-clause-formula : goal.returns-clause-formula
returns-clause-formula c = record { held = c.in_ok-made.ensures.held; formula = ap sort_of c.in_ok-made.ensures.tree }

pub returns-clause-tree : goal.returns-clause-tree
returns-clause-tree c =
    let s = c.args.store.now in
    let s1 = c.con_on_variables.new.store in
    let s2 = c.con_on_variables-2.new.store in
    let type = c.args.own.symbol in
    let vars = c.args.own.vars in
    let a = c.args.first.now in
    let b = c.args.second.now in
    let left_is : Tree = con_on type vars (con_at s a) (variables_under (length (trees_at s b.fields)) (trees_at s a.fields)) in
    let left : tree_at s2 c.in_ok-left.left ≡ left_is =
    tree_later s1 s2 c.in_ok-right.ensures.grows c.in_ok-left.left c.in_ok-left.ensures.term.held ∙ c.in_ok-left.ensures.tree
    ∙ ap (λ (n : ℕ). con_on type vars (con_at s a) (variables_under n (trees_at s a.fields))) (c.len.ensures ∙ sym (length-map b.fields (tree_at s))) in
    let right : tree_at s2 c.in_ok-right.right ≡ con_on type vars (con_at s b) (variables_under 0 (trees_at s b.fields)) =
    c.in_ok-right.ensures.tree ∙ ap (λ (z : ConstructorTree). con_on type vars z (variables_under 0 z.fields)) (con_same s s1 c.in_ok-left.ensures.grows b c.requires.second) in
    c.in_ok-made.ensures.tree ∙ ap neg (c.in_ok-equation.ensures.tree ∙ ap (λ (z : Tree). Two HEq z (tree_at s2 c.in_ok-right.right)) left ∙ ap (Two HEq left_is) right)
