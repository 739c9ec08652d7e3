use Rattle.std.proofs.Common.{length, ap, arith}
use Rattle.std.proofs.lemmas.Result.{on_ok_weaker}
use Rattle.tasks.specs.trees.Node.{Holds}
use Rattle.open_types.proofs.Growing.{types_grow}
use Rattle.elab_groups.proofs.parts.Putting.{all_rest, all_held, held_more, put_step}
use Rattle.elab_groups.proofs.parts.solution.+put_trees.Goals as goal
use Rattle.open_types.proofs.Forming.{hold_types}

pub inst_types-requires-clause-types : goal.inst_types-requires-clause-types
inst_types-requires-clause-types t c = hold_types c.args.store.now c.args.types.now c.requires.types

pub put_trees-requires : goal.put_trees-requires
put_trees-requires t c =
    let s = c.args.store.now in
    let s1 = c.inst_types.new.g in
    let rest = all_rest (Holds s) c.args.ids.now c.in-Some.first.now c.in-Some.rest.now c.in-Some.ensures.cases.0 c.requires.ids in (
      omega (arith, ap length c.in-Some.ensures.cases.0),
      (
        rw c.in_ok-push.ensures.items (held_more s s1 c.inst_types.ensures.grows c.args.them.now.items c.in_ok-tree.tree c.requires.them c.in_ok-tree.ensures.held),
        (all_held s s1 c.inst_types.ensures.grows c.in-Some.rest.now rest, types_grow s s1 c.inst_types.ensures.grows c.args.types.now c.requires.types),
      ),
    )

pub returns-clause-trees : goal.returns-clause-trees
returns-clause-trees t c =
    let s = c.args.store.now in
    let s1 = c.inst_types.new.g in
    let rest = all_rest (Holds s) c.args.ids.now c.in-Some.first.now c.in-Some.rest.now c.in-Some.ensures.cases.0 c.requires.ids in
    rw c.in-Some.ensures.cases.0 (on_ok_weaker c.put_trees.result (λ h. put_step s s1 c.put_trees.new.store c.inst_types.ensures.grows c.args.them.now.items c.in-Some.first.now c.in_ok-tree.tree c.in-Some.rest.now c.args.types.now c.put_trees.new.them.items c.requires.them rest c.requires.types c.in_ok-tree.ensures.tree h)
    (rw c.in_ok-push.ensures.items at c.put_trees.ensures.trees))
