use Rattle.std.proofs.Common.{length, ap, arith}
use Rattle.std.proofs.lemmas.Result.{on_ok_weaker}
use Rattle.trees.specs.Node.{trees_at}
use Rattle.tasks.proofs.Lists.{split_all}
use Rattle.tr_algebraic.specs.algebraic_forms.Making.{ConIsFit}
use Rattle.tr_algebraic.proofs.algebraic_forms.Making.{own_later, cons_fit_later, distinctness_more}
use Rattle.tr_algebraic.proofs.algebraic_forms.distinct.+push_distinctness_laws.Goals as goal

pub push_differences-requires-clause-first : goal.push_differences-requires-clause-first
push_differences-requires-clause-first t c = (split_all (ConIsFit c.args.store.now) c.args.cons.now c.in-Some.first.now c.in-Some.rest.now c.in-Some.ensures.cases.0 c.requires.cons).0

pub push_differences-requires-clause-rest : goal.push_differences-requires-clause-rest
push_differences-requires-clause-rest t c = (split_all (ConIsFit c.args.store.now) c.args.cons.now c.in-Some.first.now c.in-Some.rest.now c.in-Some.ensures.cases.0 c.requires.cons).1

pub push_distinctness_laws-requires : goal.push_distinctness_laws-requires
push_distinctness_laws-requires t c =
    let s = c.args.store.now in
    let s1 = c.push_differences.new.store in
    let g = c.in_ok-push_differences.ensures.grows in
    let both = split_all (ConIsFit s) c.args.cons.now c.in-Some.first.now c.in-Some.rest.now c.in-Some.ensures.cases.0 c.requires.cons in (
      omega (arith, ap length c.in-Some.ensures.cases.0),
      (own_later s s1 g c.args.own.symbol c.args.own.vars c.args.own c.requires.own, (cons_fit_later s s1 g c.in-Some.rest.now both.1, c.in_ok-push_differences.ensures.held)),
    )

pub returns-clause-laws : goal.returns-clause-laws
returns-clause-laws t c =
    let s = c.args.store.now in
    let s1 = c.push_differences.new.store in
    let both = split_all (ConIsFit s) c.args.cons.now c.in-Some.first.now c.in-Some.rest.now c.in-Some.ensures.cases.0 c.requires.cons in
    rw c.in-Some.ensures.cases.0 (on_ok_weaker c.push_distinctness_laws.result (λ h.
    distinctness_more s s1 c.in_ok-push_differences.ensures.grows c.args.own.symbol c.args.own.vars c.in-Some.first.now c.in-Some.rest.now both.1 (trees_at s c.args.laws.now.items) (trees_at s1 c.push_differences.new.laws.items) _ c.in_ok-push_differences.ensures.laws h)
    c.push_distinctness_laws.ensures.laws)
