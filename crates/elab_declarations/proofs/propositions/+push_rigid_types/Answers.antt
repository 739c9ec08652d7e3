use Rattle.std.proofs.Common.{◌∷◌, [], ◌∙◌, append_assoc}
use Rattle.std.proofs.lemmas.Result.{on_ok_weaker}
use Rattle.tasks.specs.trees.Tree.{Leaf, HTyRigid}
use Rattle.tasks.specs.Meaning.{trees_at}
use Rattle.elab_groups.proofs.open_types.Growing.{types_stay}
use Rattle.elab_groups.proofs.open_types.Taking.{mapped_more}
use Rattle.elab_declarations.specs.Outcomes.{rigid_types}
use Rattle.elab_declarations.proofs.propositions.+push_rigid_types.Goals as goal

pub returns-clause-trees : goal.returns-clause-trees
returns-clause-trees t c =
    let s = c.args.store.now in
    let s1 = c.add.new.self in
    let here = mapped_more s1 c.args.types.now.items c.in_ok-ty.ty in
    let kept = types_stay s s1 c.add.ensures.grows c.args.types.now.items c.requires in
    rw c.in-Some.ensures.cases.0 (on_ok_weaker c.push_rigid_types.result (λ h. h ∙ (rw (here, kept, c.in_ok-ty.ensures.tree) (append_assoc (trees_at s c.args.types.now.items) (Leaf (HTyRigid c.in-Some.first.now) ∷ []) (rigid_types c.in-Some.rest.now)))) (rw c.in_ok-push.ensures.items at c.push_rigid_types.ensures.trees))
