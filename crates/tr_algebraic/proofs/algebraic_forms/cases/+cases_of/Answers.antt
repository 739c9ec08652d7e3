use Rattle.std.proofs.Common.{◌≡◌, List, [], length, map, sym, ap, ◌∙◌, arith}
use Rattle.std.proofs.lemmas.Result.{IfOk-weaker}
use Rattle.trees.specs.declared.Op.TheVariants.{Or}
use Rattle.trees.specs.Tree.{Tree, Two, HJoin}
use Rattle.trees.specs.Node.{tree_at}
use Rattle.tasks.specs.Task.{ConstructorTree}
use Rattle.tasks.specs.Meaning.{con_at, cons_at}
use Rattle.tasks.proofs.Growth.{tree_later}
use Rattle.tasks.proofs.Lists.{split_all}
use Rattle.tr_algebraic.specs.algebraic_forms.Formulas.{case_equation, disjunction}
use Rattle.tr_algebraic.specs.algebraic_forms.Making.{ConIsFit}
use Rattle.tr_algebraic.proofs.algebraic_forms.Making.{own_later, term_later, cons_fit_later, cons_same, some_cons, case_step}
use Rattle.tr_algebraic.proofs.algebraic_forms.cases.+cases_of.Goals as goal

pub case_equation-requires-clause-con : goal.case_equation-requires-clause-con
case_equation-requires-clause-con t c = (split_all (ConIsFit c.args.store.now) c.args.cons.now c.in-Some.first.now c.in-Some.rest.now c.in-Some.ensures.cases.0 c.requires.cons).0

pub cases_of-requires : goal.cases_of-requires
cases_of-requires t c =
    let s = c.args.store.now in
    let s1 = c.case_equation.new.store in
    let g = c.in_ok-case.ensures.grows in
    let both = split_all (ConIsFit s) c.args.cons.now c.in-Some.first.now c.in-Some.rest.now c.in-Some.ensures.cases.0 c.requires.cons in
    (omega (arith, ap length c.in-Some.ensures.cases.0), (own_later s s1 g c.args.own.symbol c.args.own.vars c.args.own c.requires.own, (cons_fit_later s s1 g c.in-Some.rest.now both.1, term_later s s1 g c.args.term c.requires.term)))

pub returns-clause-tree : goal.returns-clause-tree
returns-clause-tree t c =
    let s = c.args.store.now in
    let s1 = c.case_equation.new.store in
    let s2 = c.cases_of.new.store in
    let g = c.in_ok-case.ensures.grows in
    let type = c.args.own.symbol in
    let vars = c.args.own.vars in
    let x = tree_at s c.args.term in
    let rest = c.in-Some.rest.now in
    let first = con_at s c.in-Some.first.now in
    let both = split_all (ConIsFit s) c.args.cons.now c.in-Some.first.now rest c.in-Some.ensures.cases.0 c.requires.cons in
    let some : rest ≡ [] → ⊥ = some_cons rest _ c.is_empty.ensures c.if-is_empty.false in
    let others : tree_at s2 c.in_ok-others.others ≡ disjunction (map (case_equation type vars x) (cons_at s rest)) =
    c.in_ok-others.ensures.tree ∙ ap (λ (z : Tree). disjunction (map (case_equation type vars z) (cons_at s1 rest))) (tree_later s s1 g c.args.term c.requires.term.held)
    ∙ ap (λ (z : List ConstructorTree). disjunction (map (case_equation type vars x) z)) (cons_same s s1 g rest both.1) in
    let case : tree_at s2 c.in_ok-case.case ≡ case_equation type vars x first = tree_later s1 s2 c.in_ok-others.ensures.grows c.in_ok-case.case c.in_ok-case.ensures.formula.held ∙ c.in_ok-case.ensures.tree in
    rw c.in-Some.ensures.cases.0 (IfOk-weaker c.add-2.result _ _ (λ id h.
    h ∙ ap (λ (z : Tree). Two (HJoin Or) z (tree_at s2 c.in_ok-others.others)) case ∙ ap (Two (HJoin Or) (case_equation type vars x first)) others ∙ sym (case_step s type vars x first rest some)) c.add-2.ensures.tree)
