use Rattle.std.proofs.Common.{length, ap, arith}
use Rattle.std.proofs.lemmas.Result.{on_ok_weaker}
use Rattle.tasks.proofs.Lists.{split_all}
use Rattle.tr_algebraic.specs.algebraic_forms.Making.{ConIsFit}
use Rattle.tr_algebraic.proofs.algebraic_forms.Making.{own_later, con_fit_later, cons_fit_later, pushed_held, differences_more}
use Rattle.tr_algebraic.proofs.algebraic_forms.distinct.+push_differences.Goals as goal

pub distinctness_law-requires-clause-second : goal.distinctness_law-requires-clause-second
distinctness_law-requires-clause-second t c = (split_all (ConIsFit c.args.store.now) c.args.rest.now c.in-Some.second.now c.in-Some.others.now c.in-Some.ensures.cases.0 c.requires.rest).0

pub push_differences-requires : goal.push_differences-requires
push_differences-requires t c =
    let s = c.args.store.now in
    let s1 = c.distinctness_law.new.store in
    let g = c.in_ok-made.ensures.grows in
    let both = split_all (ConIsFit s) c.args.rest.now c.in-Some.second.now c.in-Some.others.now c.in-Some.ensures.cases.0 c.requires.rest in (
      omega (arith, ap length c.in-Some.ensures.cases.0),
      (
        own_later s s1 g c.args.own.symbol c.args.own.vars c.args.own c.requires.own,
        (
          con_fit_later s s1 g c.args.first.now c.requires.first,
          (cons_fit_later s s1 g c.in-Some.others.now both.1, pushed_held s s1 g c.args.laws.now.items c.push.new.self.items c.in_ok-made.made c.requires.laws c.in_ok-push.ensures.items c.in_ok-made.ensures.formula.held),
        ),
      ),
    )

pub returns-clause-laws : goal.returns-clause-laws
returns-clause-laws t c =
    let s = c.args.store.now in
    let s1 = c.distinctness_law.new.store in
    let both = split_all (ConIsFit s) c.args.rest.now c.in-Some.second.now c.in-Some.others.now c.in-Some.ensures.cases.0 c.requires.rest in
    rw c.in-Some.ensures.cases.0 (on_ok_weaker c.push_differences.result (λ h.
    differences_more s s1 c.in_ok-made.ensures.grows c.args.own.symbol c.args.own.vars c.args.first.now c.requires.first c.in-Some.second.now c.in-Some.others.now both.1 c.args.laws.now.items c.push.new.self.items c.in_ok-made.made _ c.requires.laws c.in_ok-push.ensures.items
    c.in_ok-made.ensures.tree h) c.push_differences.ensures.laws)
