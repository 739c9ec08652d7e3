use Rattle.std.proofs.Common.{◌≡◌, ◌++◌, ℕ, List, rules, sym, ap, subst, ◌∙◌}
use Rattle.std.proofs.lemmas.Result.{on_ok_weaker}
use Rattle.trees.specs.Tree.{Two, Three, head_of}
use Rattle.trees.specs.Node.{tree_at, assemble, head_of_node}
use Rattle.theory_states.specs.goal_tasks.Named.{inner_named, head_named}
use Rattle.theory_states.specs.goal_tasks.Gathered.{Walks, GainsSymbols, AreGathered}
use Rattle.theory_states.proofs.goal_tasks.Steps.{walks_then, walks_noted, walks_done, walks_marked, parts_of_tree, head_of_tree}
use Rattle.theory_states.proofs.goal_tasks.declarations.+trees.Goals as goal

pub note_parts-returns-in_ok-note_tree-in-Two : goal.note_parts-returns-in_ok-note_tree-in-Two
note_parts-returns-in_ok-note_tree-in-Two t c =
    let s = c.args.store.now in
    let h = head_of_node c.node.result in
    let e : tree_at s c.args.e ≡ Two h (tree_at s c.in-Two.a) (tree_at s c.in-Two.b) = c.node.ensures.tree ∙ ap (assemble s h) (sym c.in-Two.ensures) in
    on_ok_weaker c.note_tree-in-Two-2.result (λ k. rw e (walks_then s _ _ _ _ _ _ _ c.in_ok-note_tree-in-Two.ensures k)) c.note_tree-in-Two-2.ensures

pub note_parts-returns-in_ok-note_tree-in-Three-2 : goal.note_parts-returns-in_ok-note_tree-in-Three-2
note_parts-returns-in_ok-note_tree-in-Three-2 t c =
    let s = c.args.store.now in
    let h = head_of_node c.node.result in
    let e : tree_at s c.args.e ≡ Three h (tree_at s c.in-Three.x) (tree_at s c.in-Three.y) (tree_at s c.in-Three.z) = c.node.ensures.tree ∙ ap (assemble s h) (sym c.in-Three.ensures) in
    on_ok_weaker c.note_tree-in-Three-3.result (λ k. rw e (walks_then s _ _ _ _ _ _ _ c.in_ok-note_tree-in-Three.ensures (walks_then s _ _ _ _ _ _ _ c.in_ok-note_tree-in-Three-2.ensures k))) c.note_tree-in-Three-3.ensures

pub note_tree-returns-then-contains : goal.note_tree-returns-then-contains
note_tree-returns-then-contains t c = walks_done c.args.store.now c.args.found.now.keys c.args.done.now.keys c.args.e.0 c.requires.walk (sym c.contains.ensures ∙ c.if-contains.true)

pub note_tree-note_parts-requires : goal.note_tree-note_parts-requires
note_tree-note_parts-requires t c =
    let s = c.args.store.now in
    let walk : AreGathered s c.note_head.new.found.keys c.args.done.now.keys = (walks_noted s _ _ _ _ c.requires.walk c.in_ok-note_head.ensures).is_done in
    search rules

pub note_tree-returns : goal.note_tree-returns
note_tree-returns t c =
    let s = c.args.store.now in
    let e = tree_at s c.args.e in
    let same : head_named (head_of_node c.node.result) ≡ head_named (head_of e) = ap head_named (sym (head_of_tree s c.node.result)) ∙ ap (λ z. head_named (head_of z)) (sym c.node.ensures.tree) in
    let own_is : GainsSymbols c.args.found.now.keys c.note_head.new.found.keys (head_named (head_of e)) = subst (λ (z : List ℕ). GainsSymbols c.args.found.now.keys c.note_head.new.found.keys z) same c.in_ok-note_head.ensures in
    let both : Walks s c.args.found.now.keys c.note_parts.new.found.keys c.note_parts.new.done.keys (head_named (head_of e) ++ inner_named e) =
    walks_then s _ _ _ _ _ _ _ (walks_noted s _ _ _ _ c.requires.walk own_is) c.in_ok-note_parts.ensures in
    walks_marked s _ _ _ _ c.args.e.0 (subst (λ (ps : List ℕ). Walks s c.args.found.now.keys c.note_parts.new.found.keys c.note_parts.new.done.keys ps) (parts_of_tree e) both) c.in_ok-insert.ensures.keys
