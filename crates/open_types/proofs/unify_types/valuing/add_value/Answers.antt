use Rattle.std.proofs.Common.{true, sym, refl, ◌∙◌}
use Rattle.trees.specs.Node.{tree_at}
use Rattle.open_types.specs.unify_types.Assigned.{Variable}
use Rattle.open_types.specs.unify_types.Bound.{bound_over}
use Rattle.open_types.proofs.unify_types.Resolved.{bound_held, bound_type, assign-bound}
use Rattle.open_types.proofs.unify_types.Values.{values_grown, values_insert, treated_open, treated_free}
use Rattle.open_types.proofs.unify_types.valuing.add_value.Goals as goal

pub returns-in-None-clause-treated : goal.returns-in-None-clause-treated
returns-in-None-clause-treated c = treated_free c.args.rigid c.args.store.now c.args.bindings.now c.args.values.now c.args.unknown c.requires.unknown (sym c.in-None.ensures)

pub build-requires-clause-e_held : goal.build-requires-clause-e_held
build-requires-clause-e_held c = bound_held c.args.store.now c.args.unknown c.in-Some.ty c.args.bindings.now c.requires.bound (sym c.in-Some.ensures)

pub build-requires-clause-typed : goal.build-requires-clause-typed
build-requires-clause-typed c = (true, bound_type c.args.rigid c.args.store.now c.args.unknown c.in-Some.ty c.args.bindings.now c.requires.triangular (sym c.in-Some.ensures))

pub returns-then-branch-clause-values : goal.returns-then-branch-clause-values
returns-then-branch-clause-values c = values_grown c.args.rigid (bound_over c.args.store.now c.args.bindings.now) c.args.store.now c.build.new.store c.args.values.now c.in_ok-made.ensures.grows c.requires.values

pub returns-then-branch-clause-treated : goal.returns-then-branch-clause-treated
returns-then-branch-clause-treated c =
    treated_open c.args.rigid (bound_over c.args.store.now c.args.bindings.now) c.args.values.now c.args.unknown (tree_at c.build.new.store c.in_ok-made.made)
    (c.in_ok-made.ensures.tree ∙ assign-bound c.args.rigid c.args.store.now c.args.unknown c.in-Some.ty c.args.bindings.now (Variable c.args.unknown) c.requires.triangular c.in-Some.ensures refl)
    (sym c.in_ok-has_sought.ensures.answer ∙ c.if-branch.true)

pub returns-clause-values : goal.returns-clause-values
returns-clause-values c =
    values_insert c.args.rigid (bound_over c.args.store.now c.args.bindings.now) c.build.new.store c.args.values.now c.insert.new.self c.args.unknown c.in_ok-made.made
    (values_grown c.args.rigid (bound_over c.args.store.now c.args.bindings.now) c.args.store.now c.build.new.store c.args.values.now c.in_ok-made.ensures.grows c.requires.values)
    c.in_ok-made.ensures.held
    (c.in_ok-made.ensures.tree ∙ assign-bound c.args.rigid c.args.store.now c.args.unknown c.in-Some.ty c.args.bindings.now (Variable c.args.unknown) c.requires.triangular c.in-Some.ensures refl)
    (sym c.in_ok-has_sought.ensures.answer ∙ c.if-branch.false)
    c.in_ok-insert.ensures.updates.0
