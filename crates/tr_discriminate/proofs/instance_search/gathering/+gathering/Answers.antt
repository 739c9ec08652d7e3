use Rattle.std.proofs.Common.{◌≡◌, ◌++◌, List, rules, sym, ap, subst, ◌∙◌}
use Rattle.std.proofs.lemmas.Result.{on_ok_weaker}
use Rattle.trees.specs.Tree.{Two, Three}
use Rattle.trees.specs.Node.{tree_at, assemble, head_of_node}
use Rattle.name_tables.specs.Occurrences.{Occurrence}
use Rattle.tr_discriminate.specs.instance_search.Gather.{before_parts, after_parts, in_parts, IsGathering, WalkGains}
use Rattle.tr_discriminate.proofs.instance_search.Walking.{walks_then, walks_gained, walks_done, walks_marked, parts_of_tree}
use Rattle.tr_discriminate.proofs.instance_search.gathering.+gathering.Goals as goal

pub gather_parts-returns-in_ok-gather_tree-in-Two : goal.gather_parts-returns-in_ok-gather_tree-in-Two
gather_parts-returns-in_ok-gather_tree-in-Two t c =
    let s = c.args.store.now in
    let h = head_of_node c.node.result in
    let e : tree_at s c.args.e ≡ Two h (tree_at s c.in-Two.a) (tree_at s c.in-Two.b) = c.node.ensures.tree ∙ ap (assemble s h) (sym c.in-Two.ensures) in
    on_ok_weaker c.gather_tree-in-Two-2.result (λ k. rw e (walks_then s c.args.sought _ _ _ _ _ _ _ c.in_ok-gather_tree-in-Two.ensures k)) c.gather_tree-in-Two-2.ensures

pub gather_parts-returns-in_ok-gather_tree-in-Three-2 : goal.gather_parts-returns-in_ok-gather_tree-in-Three-2
gather_parts-returns-in_ok-gather_tree-in-Three-2 t c =
    let s = c.args.store.now in
    let h = head_of_node c.node.result in
    let w = c.args.sought in
    let e : tree_at s c.args.e ≡ Three h (tree_at s c.in-Three.x) (tree_at s c.in-Three.y) (tree_at s c.in-Three.z) = c.node.ensures.tree ∙ ap (assemble s h) (sym c.in-Three.ensures) in
    on_ok_weaker c.gather_tree-in-Three-3.result (λ k. rw e (walks_then s w _ _ _ _ _ _ _ c.in_ok-gather_tree-in-Three.ensures (walks_then s w _ _ _ _ _ _ _ c.in_ok-gather_tree-in-Three-2.ensures k))) c.gather_tree-in-Three-3.ensures

pub gather_tree-returns-then-contains : goal.gather_tree-returns-then-contains
gather_tree-returns-then-contains t c = walks_done c.args.store.now c.args.sought c.args.keys.now.keys c.args.done.now.keys c.args.e.0 c.requires.walk (sym c.contains.ensures ∙ c.if-contains.true)

pub gather_tree-gather_parts-requires : goal.gather_tree-gather_parts-requires
gather_tree-gather_parts-requires t c =
    let s = c.args.store.now in
    let walk : IsGathering s c.args.sought c.add_before.new.keys.keys c.args.done.now.keys = (walks_gained s c.args.sought _ _ _ _ c.requires.walk c.in_ok-add_before.ensures).walk in
    search rules

pub gather_tree-returns : goal.gather_tree-returns
gather_tree-returns t c =
    let s = c.args.store.now in
    let w = c.args.sought in
    let e = tree_at s c.args.e in
    let first = walks_gained s w _ _ _ _ c.requires.walk c.in_ok-add_before.ensures in
    let last = walks_gained s w _ _ _ _ c.in_ok-gather_parts.ensures.walk c.in_ok-add_after.ensures in
    let all : WalkGains s w c.args.keys.now.keys (before_parts w e ++ (in_parts w e ++ after_parts w e)) c.add_after.new.keys.keys c.gather_parts.new.done.keys =
    walks_then s w _ _ _ _ _ _ _ first (walks_then s w _ _ _ _ _ _ _ c.in_ok-gather_parts.ensures last) in
    walks_marked s w _ _ _ _ c.args.e.0 (subst (λ (ps : List Occurrence). WalkGains s w c.args.keys.now.keys ps c.add_after.new.keys.keys c.gather_parts.new.done.keys) (parts_of_tree w e) all) c.in_ok-insert.ensures.keys
