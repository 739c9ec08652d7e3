use Rattle.std.proofs.Common.{◌≡◌, ℕ, ◌+◌, suc, [], ◌∷◌, length, refl, ◌∙◌, arith}
use Rattle.std.proofs.lemmas.Result.{on_ok_weaker}
use Rattle.open_types.specs.declared.locals.Local.{Local}
use Rattle.open_types.specs.Patterns.{LocalTree, local, noted}
use Rattle.open_types.specs.Pieces.{unknown}
use Rattle.open_types.specs.Drafts.{local_at}
use Rattle.open_types.proofs.Noting.{next}
use Rattle.open_types.proofs.Binding.{bound_first}
use Rattle.open_types.proofs.bound.+bind_untyped.Goals as goal

pub returns-clause-bound : goal.returns-clause-bound
returns-clause-bound t c =
    let n : ℕ = length c.args.draft.now.takers in
    let u = c.in_ok-ty.ensures in
    let l : Local = record { name = c.as_slice.result; ty = c.in_ok-ty.ty } in
    let v : LocalTree = local c.in-Some.first.now.text (unknown n) in
    let e : local_at c.new_unknown.new.store l ≡ v = cc (c.as_slice.ensures, u.tree) in
    let z : n + 1 ≡ suc n = omega arith in
    let k : length c.new_unknown.new.draft.takers ≡ suc n = next u.noted ∙ z in
    let b = rw (c.in_ok-push.ensures.items, k) at c.bind_untyped.ensures.bound in
    rw c.in-Some.ensures.cases.0 (on_ok_weaker c.bind_untyped.result (λ h. bound_first l v (noted [] (c.args.token ∷ [])) (suc (length c.in-Some.rest.now)) u.grows c.requires.held e u.noted refl h) b)
