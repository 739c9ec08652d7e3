use Rattle.std.proofs.Common.{◌≡◌, List, map, ap, ◌∙◌}
use Rattle.trees.specs.Tree.{Tree, Two, HForall}
use Rattle.trees.specs.Binding.{Bound}
use Rattle.trees.specs.Node.{tree_at}
use Rattle.trees.specs.Sorts.{sort_of}
use Rattle.trees.proofs.Nodes.{Grows_trans}
use Rattle.tasks.specs.Task.{ConstructorTree}
use Rattle.tasks.specs.Valid.{own_type}
use Rattle.tasks.specs.Meaning.{cons_at}
use Rattle.tr_algebraic.specs.algebraic_forms.Formulas.{case_equation, disjunction, own_variable}
use Rattle.tr_algebraic.proofs.algebraic_forms.Making.{own_later, cons_fit_later, cons_same}
use Rattle.tr_algebraic.proofs.algebraic_forms.cases.exhaustion_law.Goals as goal

pub variable-requires : goal.variable-requires
variable-requires c = c.requires.own.type

pub cases_of-requires-clause-own : goal.cases_of-requires-clause-own
cases_of-requires-clause-own c = own_later c.args.store.now c.variable.new.store c.in_ok-x.ensures.grows c.args.own.symbol c.args.own.vars c.args.own c.requires.own

pub cases_of-requires-clause-cons : goal.cases_of-requires-clause-cons
cases_of-requires-clause-cons c = cons_fit_later c.args.store.now c.variable.new.store c.in_ok-x.ensures.grows c.args.cons.now c.requires.cons

pub add-requires-clause-fits : goal.add-requires-clause-fits
add-requires-clause-fits c =
    let s = c.args.store.now in
    let s2 = c.cases_of.new.store in
    (((own_later s s2 (Grows_trans s c.variable.new.store s2 c.in_ok-x.ensures.grows c.in_ok-cases.ensures.grows) c.args.own.symbol c.args.own.vars c.args.own c.requires.own).type.kind, c.in_ok-cases.ensures.formula.formula), tt)

pub returns-clause-formula : goal.returns-clause-formula
returns-clause-formula c = record { held = c.in_ok-made.ensures.held; formula = ap sort_of c.in_ok-made.ensures.tree }

pub returns-clause-tree : goal.returns-clause-tree
returns-clause-tree c =
    let s = c.args.store.now in
    let s1 = c.variable.new.store in
    let s2 = c.cases_of.new.store in
    let g1 = c.in_ok-x.ensures.grows in
    let type = c.args.own.symbol in
    let vars = c.args.own.vars in
    let cons = c.args.cons.now in
    let own = own_later s s2 (Grows_trans s s1 s2 g1 c.in_ok-cases.ensures.grows) type vars c.args.own c.requires.own in
    let x : tree_at s1 c.in_ok-x.x ≡ own_variable type vars = c.in_ok-x.ensures.tree ∙ ap (Bound 0) c.requires.own.type_is in
    let cases : tree_at s2 c.in_ok-cases.cases ≡ disjunction (map (case_equation type vars (own_variable type vars)) (cons_at s cons)) =
    c.in_ok-cases.ensures.tree ∙ ap (λ (z : Tree). disjunction (map (case_equation type vars z) (cons_at s1 cons))) x ∙ ap (λ (z : List ConstructorTree). disjunction (map (case_equation type vars (own_variable type vars)) z)) (cons_same s s1 g1 cons c.requires.cons) in
    c.in_ok-made.ensures.tree ∙ ap (λ (z : Tree). Two HForall z (tree_at s2 c.in_ok-cases.cases)) own.type_is ∙ ap (Two HForall (own_type type vars)) cases
