use Rattle.std.proofs.Common.{◌∷◌, [], length, ap, ◌∙◌, arith, append_assoc}
use Rattle.std.proofs.lemmas.Result.{on_ok_weaker}
use Rattle.tasks.specs.trees.Tree.{Leaf, HTyRigid}
use Rattle.tasks.specs.trees.Sorts.{sort_of}
use Rattle.tasks.proofs.trees.Nodes.{Grows_trans}
use Rattle.tasks.specs.Meaning.{trees_at}
use Rattle.open_types.specs.Drafts.{HoldsType}
use Rattle.open_types.proofs.Growing.{types_stay, types_more}
use Rattle.open_types.proofs.Taking.{mapped_more}
use Rattle.clones.specs.clone_copies.Places.{rigid_types}
use Rattle.clones.proofs.clone_copies.places.+push_rigid_types.Goals as goal
use Rattle.tasks.proofs.outside.Passed.{no_ok}

pub returns-clause-trees : goal.returns-clause-trees
returns-clause-trees t c =
    let s = c.args.store.now in
    let s1 = c.add.new.self in
    let here = mapped_more s1 c.args.types.now.items c.in_ok-ty.ty in
    let kept = types_stay s s1 c.add.ensures.grows c.args.types.now.items c.requires in
    rw c.in-Some.ensures.cases.0 (on_ok_weaker c.push_rigid_types.result (λ h. h ∙ (rw (here, kept, c.in_ok-ty.ensures.tree) (append_assoc (trees_at s c.args.types.now.items) (Leaf (HTyRigid c.in-Some.first.now) ∷ []) (rigid_types c.in-Some.rest.now)))) (rw c.in_ok-push.ensures.items at c.push_rigid_types.ensures.trees))

pub push_rigid_types-requires : goal.push_rigid_types-requires
push_rigid_types-requires t c =
    let s1 = c.add.new.self in
    let ty : HoldsType s1 c.in_ok-ty.ty = record { held = c.in_ok-ty.ensures.held; kind = ap sort_of c.in_ok-ty.ensures.tree } in
    (omega (arith, ap length c.in-Some.ensures.cases.0), rw c.in_ok-push.ensures.items (types_more c.args.store.now s1 c.add.ensures.grows c.args.types.now.items c.in_ok-ty.ty c.requires ty))

pub returns-clause-held : goal.returns-clause-held
returns-clause-held t c = c.push_rigid_types.ensures.held

pub returns-clause-grows : goal.returns-clause-grows
returns-clause-grows t c = Grows_trans c.args.store.now c.add.new.self c.push_rigid_types.new.store c.add.ensures.grows c.push_rigid_types.ensures.grows

pub returns-in_err-ty-clause-held : goal.returns-in_err-ty-clause-held
returns-in_err-ty-clause-held t c = no_ok _ _ c.from_residual.result c.from_residual.ensures.1

pub returns-in_err-ty-clause-trees : goal.returns-in_err-ty-clause-trees
returns-in_err-ty-clause-trees t c = no_ok _ _ c.from_residual.result c.from_residual.ensures.1

pub returns-in_err-ty-clause-grows : goal.returns-in_err-ty-clause-grows
returns-in_err-ty-clause-grows t c = c.add.ensures.grows

pub returns-in_err-push-clause-held : goal.returns-in_err-push-clause-held
returns-in_err-push-clause-held t c = no_ok _ _ c.from_residual-in_err-push.result c.from_residual-in_err-push.ensures.1

pub returns-in_err-push-clause-trees : goal.returns-in_err-push-clause-trees
returns-in_err-push-clause-trees t c = no_ok _ _ c.from_residual-in_err-push.result c.from_residual-in_err-push.ensures.1

pub returns-in_err-push-clause-grows : goal.returns-in_err-push-clause-grows
returns-in_err-push-clause-grows t c = c.add.ensures.grows
