use Rattle.std.proofs.Common.{rules}
use Rattle.std.proofs.lemmas.Result.{IfOk-weaker}
use Rattle.open_types.specs.declared.unify_types.Equation.{Equation}
use Rattle.open_types.specs.unify_types.Bound.{IsTriangular, bound_over, BindingsHeld}
use Rattle.open_types.specs.unify_types.Further.{IsListEquation, AreMerged, Unifies}
use Rattle.open_types.proofs.unify_types.Unified.{unifies_as, list_grown, unifies_rest}
use Rattle.open_types.proofs.unify_types.Merged.{merged_later, merged_insert, roots_meet}
use Rattle.open_types.proofs.unify_types.solving.+unification.Goals as goal

pub unify_sides-returns-clause-solved : goal.unify_sides-returns-clause-solved
unify_sides-returns-clause-solved t c =
    let r = c.args.rigid in
    let s = c.args.store.now in
    let bs = c.args.bindings.now in
    let roots : Equation = record { left = c.in_ok-left.left; right = c.in_ok-right.right } in
    IfOk-weaker c.unify_roots.result _ _
    (λ yes h so.
    unifies_as r s bs c.args.e roots c.unify_roots.new.store c.unify_roots.new.bindings (roots_meet r s (bound_over s bs) c.args.e c.in_ok-left.left c.in_ok-right.right c.in_ok-left.ensures.stands c.in_ok-right.ensures.stands) (h so))
    c.unify_roots.ensures.solved

pub unify_roots-returns-in-Some-clause-merged : goal.unify_roots-returns-in-Some-clause-merged
unify_roots-returns-in-Some-clause-merged t c =
    IfOk-weaker c.eliminate.result _ _
    (λ yes h so. merged_later c.args.rigid c.args.store.now c.args.bindings.now c.args.e c.eliminate.new.store c.eliminate.new.bindings c.args.merged.now (h so) c.requires.merged)
    c.eliminate.ensures.solved

pub unify_roots-returns-in-Some-unknown_of-clause-merged : goal.unify_roots-returns-in-Some-unknown_of-clause-merged
unify_roots-returns-in-Some-unknown_of-clause-merged t c =
    let turned : Equation = record { left = c.args.e.right; right = c.args.e.left } in
    IfOk-weaker c.eliminate-in-Some-unknown_of.result _ _
    (λ yes h so. merged_later c.args.rigid c.args.store.now c.args.bindings.now turned c.eliminate-in-Some-unknown_of.new.store c.eliminate-in-Some-unknown_of.new.bindings c.args.merged.now (h so) c.requires.merged)
    c.eliminate-in-Some-unknown_of.ensures.solved

pub unify_roots-returns-in_ok-insert-in-Some-arguments-clause-solved : goal.unify_roots-returns-in_ok-insert-in-Some-arguments-clause-solved
unify_roots-returns-in_ok-insert-in-Some-arguments-clause-solved t c = λ _.
    unifies_as c.args.rigid c.args.store.now c.args.bindings.now c.args.e c.in-Some-arguments.lists c.unify_lists.new.store c.unify_lists.new.bindings (λ f h. c.in-Some-arguments.ensures.1 f) (c.in_ok-unify_lists-in-Some-arguments.ensures.solved c.if-not-branch.false)

pub unify_roots-returns-in_ok-insert-in-Some-arguments-clause-merged : goal.unify_roots-returns-in_ok-insert-in-Some-arguments-clause-merged
unify_roots-returns-in_ok-insert-in-Some-arguments-clause-merged t c = λ _.
    let r = c.args.rigid in
    let s = c.args.store.now in
    let bs = c.args.bindings.now in
    let s' = c.unify_lists.new.store in
    let bs' = c.unify_lists.new.bindings in
    let u : Unifies r s bs c.args.e s' bs' = unifies_as r s bs c.args.e c.in-Some-arguments.lists s' bs' (λ f h. c.in-Some-arguments.ensures.1 f) (c.in_ok-unify_lists-in-Some-arguments.ensures.solved c.if-not-branch.false) in
    merged_insert r s bs c.args.e s' bs' c.unify_lists.new.merged c.insert.new.self c.requires.equation u (c.in_ok-unify_lists-in-Some-arguments.ensures.merged c.if-not-branch.false) c.in_ok-insert-in-Some-arguments.ensures.updates.0

pub unify_lists-unify_lists-requires : goal.unify_lists-unify_lists-requires
unify_lists-unify_lists-requires t c =
    let r = c.args.rigid in
    let s1 = c.unify_sides.new.store in
    let bs1 = c.unify_sides.new.bindings in
    let u : Unifies r c.args.store.now c.args.bindings.now c.in-Some.first s1 bs1 = c.in_ok-unify_sides-in-Some.ensures.solved c.if-not-branch.false in
    let lists : IsListEquation s1 c.in-Some.rest = list_grown c.args.store.now s1 c.in-Some.rest u.narrows.grows c.in-Some.ensures.rest_lists in
    let bound : BindingsHeld s1 bs1 = u.narrows.bound in
    let triangular : IsTriangular r (bound_over s1 bs1) = u.narrows.triangular in
    let merged : AreMerged r (bound_over s1 bs1) s1 c.unify_sides.new.merged = c.in_ok-unify_sides-in-Some.ensures.merged c.if-not-branch.false in
    search rules

pub unify_lists-returns-else-not-branch-clause-solved : goal.unify_lists-returns-else-not-branch-clause-solved
unify_lists-returns-else-not-branch-clause-solved t c =
    let u : Unifies c.args.rigid c.args.store.now c.args.bindings.now c.in-Some.first c.unify_sides.new.store c.unify_sides.new.bindings = c.in_ok-unify_sides-in-Some.ensures.solved c.if-not-branch.false in
    IfOk-weaker c.unify_lists.result _ _
    (λ yes h so.
    unifies_rest c.args.rigid c.args.store.now c.args.bindings.now c.args.e c.in-Some.first c.in-Some.rest c.unify_sides.new.store c.unify_sides.new.bindings c.in-Some.ensures u c.unify_lists.new.store c.unify_lists.new.bindings (h so))
    c.unify_lists.ensures.solved
