use Rattle.std.proofs.Common.{◌≡◌, ℕ, ◌<◌, ◌≤◌, length, subst, arith}
use Rattle.trees.proofs.Nodes.{Grows_trans}
use Rattle.open_types.specs.declared.unify_types.bindings.Bound.{Bound}
use Rattle.open_types.proofs.unify_types.Values.{unknown_above, valued_next, all_treated}
use Rattle.open_types.proofs.unify_types.valuing.determined_unknowns.Goals as goal

pub add_value-requires-clause-unknown : goal.add_value-requires-clause-unknown
add_value-requires-clause-unknown c =
    let d : Bound = record { unknown = 0; ty = record { 0 = 0 } } in
    let within : c.loop-i.i < length c.args.bindings.now = omega (arith, c.loop-i-test.true, c.len-i-end.ensures) in
    subst (λ (n : ℕ). c.args.rigid ≤ n) (c.unknown_at-unknown.ensures d) (unknown_above c.args.rigid c.loop-i.store c.args.bindings.now c.loop-i.i d c.loop-i.invariant.valued.triangular within)

pub loop-i-preserved : goal.loop-i-preserved
loop-i-preserved c = record {
  grows = Grows_trans c.args.store.now c.loop-i.store c.add_value.new.store c.loop-i.invariant.grows c.in_ok-add_value.ensures.grows;
  valued = valued_next c.args.rigid c.loop-i.store c.add_value.new.store c.args.bindings.now c.loop-i.known c.add_value.new.known c.loop-i.values c.add_value.new.values c.loop-i.i c.unknown_at-unknown.result
      c.loop-i.invariant.valued c.in_ok-add_value.ensures.grows c.in_ok-add_value.ensures.known c.in_ok-add_value.ensures.values c.in_ok-add_value.ensures.treated c.in_ok-add_value.ensures.kept c.unknown_at-unknown.ensures;
}

pub returns-clause-treated : goal.returns-clause-treated
returns-clause-treated c = λ u above.
    let end : c.loop-i.i ≡ length c.args.bindings.now = omega (arith, c.loop-i-test.false, c.len-i-end.ensures, c.loop-i.auto.i-end) in
    all_treated c.args.rigid c.loop-i.store c.args.bindings.now c.loop-i.known c.loop-i.values c.loop-i.i c.loop-i.invariant.valued end u above
