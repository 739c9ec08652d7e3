use Rattle.std.proofs.Common.{◌≡◌, ap, ◌∙◌}
use Rattle.std.proofs.lemmas.Result.{IfOk-weaker}
use Rattle.tasks.specs.trees.Tree.{Tree}
use Rattle.tasks.specs.trees.Node.{tree_at}
use Rattle.tasks.specs.trees.Binding.{inst_types}
use Rattle.tasks.proofs.trees.Nodes.{tree_at-grows}
use Rattle.tasks.specs.Meaning.{trees_at}
use Rattle.elab_declarations.specs.Outcomes.{rigid_types}
use Rattle.elab_declarations.proofs.propositions.say.Goals as goal
use Rattle.elab_groups.proofs.open_types.Forming.{hold_types}

pub inst_types-requires-clause-types : goal.inst_types-requires-clause-types
inst_types-requires-clause-types c = rw c.as_slice.ensures.value (hold_types c.push_rigid_types.new.store c.push_rigid_types.new.types.items c.in_ok-push_rigid_types-in-Goal.ensures.held)

pub returns-in_ok-push_rigid_types-in-Goal-clause-tree : goal.returns-in_ok-push_rigid_types-in-Goal-clause-tree
returns-in_ok-push_rigid_types-in-Goal-clause-tree c =
    let s = c.args.store.now in
    let s1 = c.push_rigid_types.new.store in
    let types : trees_at s1 c.as_slice.result.now ≡ rigid_types c.args.numbers.now = ap (trees_at s1) c.as_slice.ensures.value ∙ (rw c.new-types.ensures.items at c.in_ok-push_rigid_types-in-Goal.ensures.trees) in
    let tree : tree_at s1 c.args.formula ≡ tree_at s c.args.formula = tree_at-grows s s1 c.args.formula c.push_rigid_types.ensures.grows c.requires in
    rw c.in-Goal.is (IfOk-weaker c.inst_types.result _ _ (λ id h. h ∙ (ap (λ (e : Tree). inst_types e (trees_at s1 c.as_slice.result.now)) tree ∙ ap (inst_types (tree_at s c.args.formula)) types)) c.inst_types.ensures.tree)
