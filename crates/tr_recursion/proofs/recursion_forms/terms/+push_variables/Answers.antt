use Rattle.std.proofs.Common.{[], ◌∷◌, length, sym, ap, subst, arith}
use Rattle.std.proofs.lemmas.Result.{on_ok_weaker}
use Rattle.trees.specs.declared.Sort.TheVariants.{Kind, Term}
use Rattle.trees.specs.binders.Visits.{HoldTerms, held_stays}
use Rattle.tr_recursion.proofs.recursion_forms.Numbers.{held_append, held_split, variables_more}
use Rattle.tr_recursion.proofs.recursion_forms.terms.+push_variables.Goals as goal

pub push_variables-requires : goal.push_variables-requires
push_variables-requires t c =
    let s = c.args.store.now in
    let s1 = c.variable.new.store in
    let m = c.in_ok-made-in-Some.ensures in
    let cases = c.in-Some.ensures.cases in
    let types = held_split Kind s c.args.types.now c.in-Some.first.now c.in-Some.rest.now cases.0 c.requires.types in
    let terms = held_append Term s1 c.args.terms.now.items (c.in_ok-made-in-Some.made ∷ []) (held_stays Term s s1 c.args.terms.now.items m.grows c.requires.terms) (m.held, tt) in
    (omega (arith, ap length cases.0), (held_stays Kind s s1 c.in-Some.rest.now m.grows types.1, subst (HoldTerms s1) (sym c.in_ok-push-in-Some.ensures.items) terms))

pub returns-in_ok-push-in-Some-clause-trees : goal.returns-in_ok-push-in-Some-clause-trees
returns-in_ok-push-in-Some-clause-trees t c =
    let m = c.in_ok-made-in-Some.ensures in
    on_ok_weaker c.push_variables.result (λ h.
    variables_more c.args.store.now c.variable.new.store m.grows c.args.below c.args.types.now c.in-Some.first.now c.in-Some.rest.now c.args.terms.now.items c.push.new.self.items c.in_ok-made-in-Some.made _ c.in-Some.ensures.cases.0 c.requires.types c.requires.terms
    c.in_ok-push-in-Some.ensures.items m.tree h) c.push_variables.ensures.trees
