use Rattle.std.proofs.Common.{length, ap, arith}
use Rattle.std.proofs.lemmas.Result.{on_ok_weaker}
use Rattle.trees.specs.Node.{trees_at}
use Rattle.tasks.proofs.Lists.{split_all}
use Rattle.tr_algebraic.specs.algebraic_forms.Making.{ConIsFit}
use Rattle.tr_algebraic.proofs.algebraic_forms.Making.{own_later, cons_fit_later, all_projections_more}
use Rattle.tr_algebraic.proofs.algebraic_forms.projecting.+push_all_projection_laws.Goals as goal

pub push_projection_laws-requires-clause-con : goal.push_projection_laws-requires-clause-con
push_projection_laws-requires-clause-con t c = (split_all (ConIsFit c.args.store.now) c.args.cons.now c.in-Some.con.now c.in-Some.rest.now c.in-Some.ensures.cases.0 c.requires.cons).0

pub push_projection_laws-requires-clause-types : goal.push_projection_laws-requires-clause-types
push_projection_laws-requires-clause-types t c = rw c.as_slice.ensures (split_all (ConIsFit c.args.store.now) c.args.cons.now c.in-Some.con.now c.in-Some.rest.now c.in-Some.ensures.cases.0 c.requires.cons).0

pub push_all_projection_laws-requires : goal.push_all_projection_laws-requires
push_all_projection_laws-requires t c =
    let s = c.args.store.now in
    let s1 = c.push_projection_laws.new.store in
    let g = c.in_ok-push_projection_laws.ensures.grows in
    let both = split_all (ConIsFit s) c.args.cons.now c.in-Some.con.now c.in-Some.rest.now c.in-Some.ensures.cases.0 c.requires.cons in (
      omega (arith, ap length c.in-Some.ensures.cases.0),
      (own_later s s1 g c.args.own.symbol c.args.own.vars c.args.own c.requires.own, (cons_fit_later s s1 g c.in-Some.rest.now both.1, c.in_ok-push_projection_laws.ensures.held)),
    )

pub returns-clause-laws : goal.returns-clause-laws
returns-clause-laws t c =
    let s = c.args.store.now in
    let s1 = c.push_projection_laws.new.store in
    let both = split_all (ConIsFit s) c.args.cons.now c.in-Some.con.now c.in-Some.rest.now c.in-Some.ensures.cases.0 c.requires.cons in
    rw c.in-Some.ensures.cases.0 (on_ok_weaker c.push_all_projection_laws.result (λ h.
    all_projections_more s s1 c.in_ok-push_projection_laws.ensures.grows c.args.own.symbol c.args.own.vars c.in-Some.con.now c.in-Some.rest.now both.1 (trees_at s c.args.laws.now.items) (trees_at s1 c.push_projection_laws.new.laws.items) _
    (rw (c.as_slice-projections.ensures, c.as_slice.ensures) at c.in_ok-push_projection_laws.ensures.laws) h) c.push_all_projection_laws.ensures.laws)
