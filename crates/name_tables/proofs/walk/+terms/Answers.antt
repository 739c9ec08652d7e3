use Rattle.std.proofs.Common.{◌≡◌, ◌++◌, List, rules, sym, ap, subst, ◌∙◌}
use Rattle.std.proofs.lemmas.Result.{on_ok_weaker}
use Rattle.trees.specs.Tree.{Two, Three}
use Rattle.trees.specs.Node.{tree_at, assemble, head_of_node}
use Rattle.name_tables.specs.Occurrences.{Occurrence}
use Rattle.name_tables.specs.Own.{own, inner}
use Rattle.name_tables.specs.Seen.{IsWalk, WalksTerms, Sees}
use Rattle.name_tables.proofs.Steps.{walks_then, walks_seen, walks_done, walks_marked, parts_of_term}
use Rattle.name_tables.proofs.walk.+terms.Goals as goal

pub note_parts-returns-in_ok-note_term-in-Two : goal.note_parts-returns-in_ok-note_term-in-Two
note_parts-returns-in_ok-note_term-in-Two t c =
    let s = c.args.store.now in
    let h = head_of_node c.node.result in
    let e : tree_at s c.args.e ≡ Two h (tree_at s c.in-Two.a) (tree_at s c.in-Two.b) = c.node.ensures.tree ∙ ap (assemble s h) (sym c.in-Two.ensures) in
    on_ok_weaker c.note_term-in-Two-2.result (λ k. rw e (walks_then s _ _ _ _ _ _ _ c.in_ok-note_term-in-Two.ensures k)) c.note_term-in-Two-2.ensures

pub note_parts-returns-in_ok-note_term-in-Three-2 : goal.note_parts-returns-in_ok-note_term-in-Three-2
note_parts-returns-in_ok-note_term-in-Three-2 t c =
    let s = c.args.store.now in
    let h = head_of_node c.node.result in
    let e : tree_at s c.args.e ≡ Three h (tree_at s c.in-Three.x) (tree_at s c.in-Three.y) (tree_at s c.in-Three.z) = c.node.ensures.tree ∙ ap (assemble s h) (sym c.in-Three.ensures) in
    on_ok_weaker c.note_term-in-Three-3.result (λ k. rw e (walks_then s _ _ _ _ _ _ _ c.in_ok-note_term-in-Three.ensures (walks_then s _ _ _ _ _ _ _ c.in_ok-note_term-in-Three-2.ensures k))) c.note_term-in-Three-3.ensures

pub note_term-returns-then-contains : goal.note_term-returns-then-contains
note_term-returns-then-contains t c = walks_done c.args.store.now c.args.seen.now.keys c.args.done.now.keys c.args.e.0 c.requires.walk (sym c.contains.ensures ∙ c.if-contains.true)

pub note_term-note_parts-requires : goal.note_term-note_parts-requires
note_term-note_parts-requires t c =
    let s = c.args.store.now in
    let walk : IsWalk s c.note_node.new.seen.keys c.args.done.now.keys = (walks_seen s _ _ _ _ c.requires.walk c.in_ok-note_node.ensures).walk in
    search rules

pub note_term-returns : goal.note_term-returns
note_term-returns t c =
    let s = c.args.store.now in
    let e = tree_at s c.args.e in
    let node = c.node.ensures.tree in
    let own_is : Sees s c.args.seen.now.keys (own e) c.note_node.new.seen.keys = rw node c.in_ok-note_node.ensures in
    let both : WalksTerms s c.args.seen.now.keys (own e ++ inner e) c.note_parts.new.seen.keys c.note_parts.new.done.keys =
    walks_then s _ _ _ _ _ _ _ (walks_seen s _ _ _ _ c.requires.walk own_is) c.in_ok-note_parts.ensures in
    walks_marked s _ _ _ _ c.args.e.0 (subst (λ (ps : List Occurrence). WalksTerms s c.args.seen.now.keys ps c.note_parts.new.seen.keys c.note_parts.new.done.keys) (parts_of_term e) both) c.in_ok-insert.ensures.keys
