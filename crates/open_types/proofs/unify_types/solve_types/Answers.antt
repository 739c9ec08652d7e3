use Rattle.std.proofs.Common.{◌≡◌, ℕ, length, take, get_or, ap, ◌∙◌, arith}
use Rattle.std.proofs.Math.Seq.{take-length}
use Rattle.std.proofs.lemmas.List.{get_or_default}
use Rattle.open_types.specs.declared.unify_types.Equation.{Equation}
use Rattle.open_types.proofs.unify_types.Steps.{solves_next, clash_fails, clash_solved, most_general, value_given}
use Rattle.open_types.proofs.unify_types.solve_types.Goals as goal

pub returns-then-not-branch-clause-clash : goal.returns-then-not-branch-clause-clash
returns-then-not-branch-clause-clash c =
    let d : Equation = record { left = record { 0 = 0 }; right = record { 0 = 0 } } in
    let es = c.args.equations.now in
    let e : Equation = get_or es c.loop-k.k d in
    let at : get_or es c.loop-k.k e ≡ e = get_or_default es c.loop-k.k e d c.loop-k-test.true in (
      c.loop-k-test.true,
      clash_fails c.args.rigid_vars c.args.store.now es c.loop-k.k c.loop-k.store c.loop-k.bindings e c.loop-k.invariant c.loop-k-test.true at (c.requires c.loop-k.k d c.loop-k-test.true) (c.in_ok-unify.ensures.failed c.if-not-branch.true),
      clash_solved c.args.rigid_vars c.args.store.now es c.loop-k.k c.loop-k.store c.loop-k.bindings c.loop-k.invariant,
    )

pub loop-k-preserved : goal.loop-k-preserved
loop-k-preserved c =
    let d : Equation = record { left = record { 0 = 0 }; right = record { 0 = 0 } } in
    let es = c.args.equations.now in
    let e : Equation = get_or es c.loop-k.k d in
    let at : get_or es c.loop-k.k e ≡ e = get_or_default es c.loop-k.k e d c.loop-k-test.true in
    solves_next c.args.rigid_vars c.args.store.now es c.loop-k.k c.loop-k.store c.unify.new.store c.loop-k.bindings c.unify.new.bindings e c.loop-k.invariant c.loop-k-test.true at (c.requires c.loop-k.k d c.loop-k-test.true) (c.in_ok-unify.ensures.solved c.if-not-branch.false)

pub returns-clause-general : goal.returns-clause-general
returns-clause-general c =
    let end : c.loop-k.k ≡ length c.args.equations.now = omega (arith, c.loop-k-test.false, c.loop-k.auto.k-end) in
    let whole : take c.loop-k.k c.args.equations.now ≡ c.args.equations.now = ap (λ (n : ℕ). take n c.args.equations.now) end ∙ take-length c.args.equations.now in
    most_general c.args.rigid_vars c.args.store.now c.args.equations.now c.loop-k.k c.loop-k.store c.loop-k.bindings c.loop-k.invariant whole

pub returns-clause-values : goal.returns-clause-values
returns-clause-values c =
    let end : c.loop-k.k ≡ length c.args.equations.now = omega (arith, c.loop-k-test.false, c.loop-k.auto.k-end) in
    let whole : take c.loop-k.k c.args.equations.now ≡ c.args.equations.now = ap (λ (n : ℕ). take n c.args.equations.now) end ∙ take-length c.args.equations.now in
    value_given c.args.rigid_vars c.args.store.now c.args.equations.now c.loop-k.k c.loop-k.store c.determined_unknowns.new.store c.loop-k.bindings c.in_ok-values.values c.loop-k.invariant whole c.in_ok-values.ensures.grows c.in_ok-values.ensures.values c.in_ok-values.ensures.treated
