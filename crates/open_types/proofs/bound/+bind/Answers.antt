use Rattle.std.proofs.Common.{◌≡◌, ℕ, ◌+◌, List, length, ap, subst, ◌∙◌}
use Rattle.std.proofs.lemmas.Result.{on_ok_weaker}
use Rattle.name_resolution.specs.Abstract.{bound_names_of, binders_of}
use Rattle.name_resolution.specs.Naming.{where_at}
use Rattle.open_types.specs.Patterns.{LocalTree}
use Rattle.open_types.specs.Pieces.{binder_vars, binders_vars, bound}
use Rattle.open_types.specs.Drafts.{IsBound}
use Rattle.open_types.proofs.Growing.{world_stays}
use Rattle.open_types.proofs.Noting.{next, count_replicate}
use Rattle.open_types.proofs.Binding.{bound_both}
use Rattle.open_types.proofs.bound.+bind.Goals as goal

pub returns-clause-bound : goal.returns-clause-bound
returns-clause-bound t c =
    let n : ℕ = length c.args.draft.now.takers in
    let one = bound_names_of c.in-Some.first.now in
    let rest = binders_of c.in-Some.rest.now in
    let a = c.in_ok-bind_one.ensures.bound in
    let k : length c.bind_one.new.draft.takers ≡ n + binder_vars one.names one.of_type = next a.noted ∙ ap (λ (m : ℕ). n + m) (count_replicate (binder_vars one.names one.of_type) c.args.token) in
    let w = world_stays _ _ c.bind_one.ensures.grows c.args.world.now c.requires.world in
    let same : bound (where_at c.bind_one.new.store c.args.world.now) (length c.bind_one.new.draft.takers) rest ≡ bound (where_at c.args.store.now c.args.world.now) (n + binder_vars one.names one.of_type) rest = cc (w, k) in
    rw c.in-Some.ensures.cases.0 (on_ok_weaker c.bind.result (λ h. bound_both a (subst (λ (xs : List LocalTree). IsBound c.bind_one.new.store c.bind_one.new.draft c.bind_one.new.locals.items c.bind.new.store c.bind.new.draft c.bind.new.locals.items c.args.token (binders_vars rest) xs) same h)) c.bind.ensures.bound)
