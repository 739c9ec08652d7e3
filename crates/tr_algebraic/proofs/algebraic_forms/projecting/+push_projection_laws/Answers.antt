use Rattle.std.proofs.Common.{length, ap, arith}
use Rattle.std.proofs.lemmas.Result.{on_ok_weaker}
use Rattle.declarations.proofs.spelled_groups.Making.{kinds_later, first_kind, rest_kinds}
use Rattle.tr_algebraic.proofs.algebraic_forms.Making.{own_later, con_fit_later, pushed_held, projections_more}
use Rattle.tr_algebraic.proofs.algebraic_forms.projecting.+push_projection_laws.Goals as goal

pub projection_law-requires-clause-ty : goal.projection_law-requires-clause-ty
projection_law-requires-clause-ty t c = first_kind c.args.store.now c.args.types.now c.in-Some-split_first.ty.now c.in-Some-split_first.rest.now c.in-Some-split_first.ensures.cases.0 c.requires.types

pub push_projection_laws-requires : goal.push_projection_laws-requires
push_projection_laws-requires t c =
    let s = c.args.store.now in
    let s1 = c.projection_law.new.store in
    let g = c.in_ok-made.ensures.grows in (
      omega (arith, ap length c.in-Some.ensures.cases.0),
      (
        own_later s s1 g c.args.own.symbol c.args.own.vars c.args.own c.requires.own,
        (
          con_fit_later s s1 g c.args.con.now c.requires.con,
          (
            kinds_later s s1 g c.in-Some-split_first.rest.now (rest_kinds s c.args.types.now c.in-Some-split_first.ty.now c.in-Some-split_first.rest.now c.in-Some-split_first.ensures.cases.0 c.requires.types),
            pushed_held s s1 g c.args.laws.now.items c.push.new.self.items c.in_ok-made.made c.requires.laws c.in_ok-push.ensures.items c.in_ok-made.ensures.formula.held,
          ),
        ),
      ),
    )

pub returns-clause-laws : goal.returns-clause-laws
returns-clause-laws t c =
    let s = c.args.store.now in
    let s1 = c.projection_law.new.store in
    let p = c.in-Some-split_first.ensures.cases.0 in
    rw (c.in-Some.ensures.cases.0, p) (on_ok_weaker c.push_projection_laws.result (λ h.
    projections_more s s1 c.in_ok-made.ensures.grows c.args.own.symbol c.args.own.vars c.args.con.now c.requires.con c.in-Some.projection.now c.in-Some.others.now c.in-Some-split_first.ty.now c.in-Some-split_first.rest.now
    (rest_kinds s c.args.types.now c.in-Some-split_first.ty.now c.in-Some-split_first.rest.now p c.requires.types) c.args.laws.now.items c.push.new.self.items c.in_ok-made.made _ c.requires.laws c.in_ok-push.ensures.items c.in_ok-made.ensures.tree h) c.push_projection_laws.ensures.laws)
