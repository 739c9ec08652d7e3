use Rattle.std.proofs.Common.{rules, ◌≡◌, ◌<◌, ◌≤◌, Result, Ok, Err, IfOk, sym, ap, ◌∙◌, arith}
use Rattle.trees.specs.Tree.{Leaf, One, Two, Three}
use Rattle.trees.specs.Node.{tree_at, Holds, Grows, assemble, head_of_node}
use Rattle.trees.specs.Sorts.{Fits}
use Rattle.trees.proofs.Nodes.{Grows_refl, Grows_trans}
use Rattle.trees.specs.binders.Depth.{IsChanged}
use Rattle.trees.specs.binders.Known.{CanRebuild, IsRebuilt}
use Rattle.trees.proofs.binders.Rebuilt.{held_later, changed_held, known_later, known_more, one_child, first_child, second_child, three_children, one_fits_too, two_fits_too, three_fits_too, leaf_made, one_made, two_made, three_made, go_on, as_before}
use Rattle.trees.proofs.binders.rebuilding.+rebuild.Goals as goal

IfOk-both : {A E : Type 0} (r : Result A E) (P Q T : A → Type 0) → ((x : A) → P x → Q x → T x) → IfOk r P → IfOk r Q → IfOk r T
IfOk-both (Ok x) P Q T f p q = f x p q
IfOk-both (Err e) P Q T f p q = tt

pub rebuild-returns-in-Some-clause-rebuilt : goal.rebuild-returns-in-Some-clause-rebuilt
rebuild-returns-in-Some-clause-rebuilt g t c =
    let k = c.requires.known c.args.e.0 c.args.depth c.in-Some.made.now (sym c.in-Some.ensures.value) in
    record { held = k.1; is = k.2; known = c.requires.known }

pub rebuild-returns-clause-rebuilt : goal.rebuild-returns-clause-rebuilt
rebuild-returns-clause-rebuilt g t c =
    let s = g.G.Grow.trees c.args.g.now in
    let s1 = g.G.Grow.trees c.rebuild_node.new.g in
    let w : Grows s s1 = g.met.G.Grow.keeps_trees _ _ c.in_ok-made.ensures.grows in
    let f = g.V.Visit.change_over c.args.visit.now s in
    let r = c.in_ok-made.ensures.rebuilt in
    let is : IsChanged f c.args.depth (tree_at s1 c.args.e) (tree_at s1 c.in_ok-made.made) = rw (w.same c.args.e.0 c.requires.held) r.is in
    record {
      held = r.held;
      is = r.is;
      known = known_more f s1 c.rebuild_node.new.known c.insert.new.self c.args.e c.in_ok-made.made c.args.depth r.known (held_later s s1 c.args.e w c.requires.held) r.held is c.in_ok-insert.ensures.updates.0;
    }

pub rebuild_node-returns-in-Some-clause-rebuilt : goal.rebuild_node-returns-in-Some-clause-rebuilt
rebuild_node-returns-in-Some-clause-rebuilt g t c =
    let s = g.G.Grow.trees c.args.g.now in
    let s1 = g.G.Grow.trees c.visit.new.g in
    let w : Grows s s1 = g.met.G.Grow.keeps_trees _ _ c.in_ok-made.ensures.grows in
    let f = g.V.Visit.change_over c.args.visit.now s in
    let v : Holds s1 c.in-Some.made × IsChanged f c.args.depth (tree_at s c.args.e) (tree_at s1 c.in-Some.made) = rw c.in-Some.is at c.in_ok-made.ensures.visited in
    record { held = v.0; is = v.1; known = known_later f s s1 c.args.known.now w c.requires.known }

pub rebuild_parts-returns-in-None-clause-rebuilt : goal.rebuild_parts-returns-in-None-clause-rebuilt
rebuild_parts-returns-in-None-clause-rebuilt g t c =
    let s = g.G.Grow.trees c.args.g.now in
    let f = g.V.Visit.change_over c.args.visit.now s in
    let h = head_of_node c.node_of-node.result in
    let e : tree_at s c.args.e ≡ Leaf h = c.node_of-node.ensures.tree ∙ ap (assemble s h) (sym c.in-None.ensures) in
    record { held = c.requires.can.held; is = leaf_made f c.args.depth (tree_at s c.args.e) h (rw e at c.requires.plain) e; known = c.requires.can.known }

pub rebuild_parts-rebuild-requires : goal.rebuild_parts-rebuild-requires
rebuild_parts-rebuild-requires g t c κs within =
    let s = g.G.Grow.trees c.args.g.now in
    let ch = g.V.Visit.change_over c.args.visit.now in
    let R = g.V.Visit.Ready c.args.visit.now in
    let stays = g.met.V.Visit.stays c.args.visit.now in
    let ready = g.met.V.Visit.stays_ready c.args.visit.now in
    let can = c.requires.can in
    let h = head_of_node c.node_of-node.result in
    let e : tree_at s c.args.e ≡ One h (tree_at s c.in-One.a) = c.node_of-node.ensures.tree ∙ ap (assemble s h) (sym c.in-One.ensures) in
    let below : (c.in-One.a.0 < c.args.e.0) = rw (← c.in-One.ensures) at c.node_of-node.ensures.below in
    let held_a : Holds s c.in-One.a = omega (arith, below, can.held) in
    let v0 : Grows s s = Grows_refl s in
    let k : CanRebuild (ch s) (R s) s c.args.known.now c.in-One.a c.args.depth = go_on ch R stays ready s s v0 can.is_ready c.in-One.a c.args.depth held_a c.args.known.now (one_child (ch s) c.args.depth (tree_at s c.args.e) c.requires.plain can.fits h (tree_at s c.in-One.a) e) can.known in
    search rules

pub rebuild_parts-remake-requires-clause-fits : goal.rebuild_parts-remake-requires-clause-fits
rebuild_parts-remake-requires-clause-fits g t c =
    let s = g.G.Grow.trees c.args.g.now in
    let ch = g.V.Visit.change_over c.args.visit.now in
    let R = g.V.Visit.Ready c.args.visit.now in
    let stays = g.met.V.Visit.stays c.args.visit.now in
    let ready = g.met.V.Visit.stays_ready c.args.visit.now in
    let can = c.requires.can in
    let h = head_of_node c.node_of-node.result in
    let p = g.met.V.Visit.sorts c.args.visit.now s can.is_ready in
    let small : c.args.depth ≤ 18446744073709551615 = omega (arith, c.ranges.depth.fits) in
    let e : tree_at s c.args.e ≡ One h (tree_at s c.in-One.a) = c.node_of-node.ensures.tree ∙ ap (assemble s h) (sym c.in-One.ensures) in
    let below : (c.in-One.a.0 < c.args.e.0) = rw (← c.in-One.ensures) at c.node_of-node.ensures.below in
    let held_a : Holds s c.in-One.a = omega (arith, below, can.held) in
    let fit : Fits (One h (tree_at s c.in-One.a)) = rw e at c.node_of-node.ensures.fits in
    let s1 = g.G.Grow.trees c.rebuild.new.g in
    let w1 : Grows s s1 = g.met.G.Grow.keeps_trees _ _ c.in_ok-x-in-One.ensures.grows in
    let v0 : Grows s s = Grows_refl s in
    let v1 : Grows s s1 = w1 in
    let r1 : IsRebuilt (ch s) (tree_at s c.in-One.a) c.args.depth s1 c.rebuild.new.known c.in_ok-x-in-One.x = as_before ch R stays ready s s v0 can.is_ready c.in-One.a c.args.depth held_a s1 c.rebuild.new.known c.in_ok-x-in-One.x c.in_ok-x-in-One.ensures.rebuilt in
    let i1 : IsChanged (ch s) c.args.depth (tree_at s c.in-One.a) (tree_at s1 c.in_ok-x-in-One.x) = r1.is in
    one_fits_too (ch s) p c.args.depth small h (tree_at s c.in-One.a) _ i1 fit

pub rebuild_parts-returns-in_ok-x-in-One-clause-rebuilt : goal.rebuild_parts-returns-in_ok-x-in-One-clause-rebuilt
rebuild_parts-returns-in_ok-x-in-One-clause-rebuilt g t c =
    let s = g.G.Grow.trees c.args.g.now in
    let ch = g.V.Visit.change_over c.args.visit.now in
    let R = g.V.Visit.Ready c.args.visit.now in
    let stays = g.met.V.Visit.stays c.args.visit.now in
    let ready = g.met.V.Visit.stays_ready c.args.visit.now in
    let can = c.requires.can in
    let h = head_of_node c.node_of-node.result in
    let e : tree_at s c.args.e ≡ One h (tree_at s c.in-One.a) = c.node_of-node.ensures.tree ∙ ap (assemble s h) (sym c.in-One.ensures) in
    let below : (c.in-One.a.0 < c.args.e.0) = rw (← c.in-One.ensures) at c.node_of-node.ensures.below in
    let held_a : Holds s c.in-One.a = omega (arith, below, can.held) in
    let s1 = g.G.Grow.trees c.rebuild.new.g in
    let w1 : Grows s s1 = g.met.G.Grow.keeps_trees _ _ c.in_ok-x-in-One.ensures.grows in
    let v0 : Grows s s = Grows_refl s in
    let v1 : Grows s s1 = w1 in
    let r1 : IsRebuilt (ch s) (tree_at s c.in-One.a) c.args.depth s1 c.rebuild.new.known c.in_ok-x-in-One.x = as_before ch R stays ready s s v0 can.is_ready c.in-One.a c.args.depth held_a s1 c.rebuild.new.known c.in_ok-x-in-One.x c.in_ok-x-in-One.ensures.rebuilt in
    let i1 : IsChanged (ch s) c.args.depth (tree_at s c.in-One.a) (tree_at s1 c.in_ok-x-in-One.x) = r1.is in
    let u = g.G.Grow.trees c.remake.new.g in
    let wu : Grows s1 u = g.met.G.Grow.keeps_trees _ _ c.remake.ensures.grows in
    IfOk-both c.remake.result _ _ _
    (λ id b d. record { held = b; is = rw d (one_made (ch s) c.args.depth (tree_at s c.args.e) h (tree_at s c.in-One.a) _ (rw e at c.requires.plain) e i1); known = known_later (ch s) s1 u c.rebuild.new.known wu r1.known })
    c.remake.ensures.held c.remake.ensures.tree

pub rebuild_parts-returns-in_ok-x-in-One-clause-grows : goal.rebuild_parts-returns-in_ok-x-in-One-clause-grows
rebuild_parts-returns-in_ok-x-in-One-clause-grows g t c = g.met.G.Grow.grows_trans _ _ _ c.in_ok-x-in-One.ensures.grows c.remake.ensures.grows

pub rebuild_parts-rebuild-requires-in-Two : goal.rebuild_parts-rebuild-requires-in-Two
rebuild_parts-rebuild-requires-in-Two g t c κs within =
    let s = g.G.Grow.trees c.args.g.now in
    let ch = g.V.Visit.change_over c.args.visit.now in
    let R = g.V.Visit.Ready c.args.visit.now in
    let stays = g.met.V.Visit.stays c.args.visit.now in
    let ready = g.met.V.Visit.stays_ready c.args.visit.now in
    let can = c.requires.can in
    let h = head_of_node c.node_of-node.result in
    let e : tree_at s c.args.e ≡ Two h (tree_at s c.in-Two.a) (tree_at s c.in-Two.b) = c.node_of-node.ensures.tree ∙ ap (assemble s h) (sym c.in-Two.ensures) in
    let below : (c.in-Two.a.0 < c.args.e.0) × (c.in-Two.b.0 < c.args.e.0) = rw (← c.in-Two.ensures) at c.node_of-node.ensures.below in
    let held_a : Holds s c.in-Two.a = omega (arith, below.0, can.held) in
    let held_b : Holds s c.in-Two.b = omega (arith, below.1, can.held) in
    let v0 : Grows s s = Grows_refl s in
    let k : CanRebuild (ch s) (R s) s c.args.known.now c.in-Two.a c.args.depth = go_on ch R stays ready s s v0 can.is_ready c.in-Two.a c.args.depth held_a c.args.known.now (first_child (ch s) c.args.depth (tree_at s c.args.e) c.requires.plain can.fits h (tree_at s c.in-Two.a) (tree_at s c.in-Two.b) e) can.known in
    search rules

pub rebuild_parts-rebuild-requires-in-Two-2 : goal.rebuild_parts-rebuild-requires-in-Two-2
rebuild_parts-rebuild-requires-in-Two-2 g t c κs within =
    let s = g.G.Grow.trees c.args.g.now in
    let ch = g.V.Visit.change_over c.args.visit.now in
    let R = g.V.Visit.Ready c.args.visit.now in
    let stays = g.met.V.Visit.stays c.args.visit.now in
    let ready = g.met.V.Visit.stays_ready c.args.visit.now in
    let can = c.requires.can in
    let h = head_of_node c.node_of-node.result in
    let e : tree_at s c.args.e ≡ Two h (tree_at s c.in-Two.a) (tree_at s c.in-Two.b) = c.node_of-node.ensures.tree ∙ ap (assemble s h) (sym c.in-Two.ensures) in
    let below : (c.in-Two.a.0 < c.args.e.0) × (c.in-Two.b.0 < c.args.e.0) = rw (← c.in-Two.ensures) at c.node_of-node.ensures.below in
    let held_a : Holds s c.in-Two.a = omega (arith, below.0, can.held) in
    let held_b : Holds s c.in-Two.b = omega (arith, below.1, can.held) in
    let s1 = g.G.Grow.trees c.rebuild-in-Two.new.g in
    let w1 : Grows s s1 = g.met.G.Grow.keeps_trees _ _ c.in_ok-x-in-Two.ensures.grows in
    let v0 : Grows s s = Grows_refl s in
    let v1 : Grows s s1 = w1 in
    let r1 : IsRebuilt (ch s) (tree_at s c.in-Two.a) c.args.depth s1 c.rebuild-in-Two.new.known c.in_ok-x-in-Two.x = as_before ch R stays ready s s v0 can.is_ready c.in-Two.a c.args.depth held_a s1 c.rebuild-in-Two.new.known c.in_ok-x-in-Two.x c.in_ok-x-in-Two.ensures.rebuilt in
    let k : CanRebuild (ch s1) (R s1) s1 c.rebuild-in-Two.new.known c.in-Two.b c.depth_under-under.result = go_on ch R stays ready s s1 v1 can.is_ready c.in-Two.b c.depth_under-under.result held_b c.rebuild-in-Two.new.known (second_child (ch s) c.args.depth (tree_at s c.args.e) c.requires.plain can.fits h (tree_at s c.in-Two.a) (tree_at s c.in-Two.b) c.depth_under-under.result e c.depth_under-under.ensures) r1.known in
    search rules

pub rebuild_parts-remake-requires-in-Two-clause-fits : goal.rebuild_parts-remake-requires-in-Two-clause-fits
rebuild_parts-remake-requires-in-Two-clause-fits g t c =
    let s = g.G.Grow.trees c.args.g.now in
    let ch = g.V.Visit.change_over c.args.visit.now in
    let R = g.V.Visit.Ready c.args.visit.now in
    let stays = g.met.V.Visit.stays c.args.visit.now in
    let ready = g.met.V.Visit.stays_ready c.args.visit.now in
    let can = c.requires.can in
    let h = head_of_node c.node_of-node.result in
    let p = g.met.V.Visit.sorts c.args.visit.now s can.is_ready in
    let small : c.args.depth ≤ 18446744073709551615 = omega (arith, c.ranges.depth.fits) in
    let e : tree_at s c.args.e ≡ Two h (tree_at s c.in-Two.a) (tree_at s c.in-Two.b) = c.node_of-node.ensures.tree ∙ ap (assemble s h) (sym c.in-Two.ensures) in
    let below : (c.in-Two.a.0 < c.args.e.0) × (c.in-Two.b.0 < c.args.e.0) = rw (← c.in-Two.ensures) at c.node_of-node.ensures.below in
    let held_a : Holds s c.in-Two.a = omega (arith, below.0, can.held) in
    let held_b : Holds s c.in-Two.b = omega (arith, below.1, can.held) in
    let fit : Fits (Two h (tree_at s c.in-Two.a) (tree_at s c.in-Two.b)) = rw e at c.node_of-node.ensures.fits in
    let s1 = g.G.Grow.trees c.rebuild-in-Two.new.g in
    let w1 : Grows s s1 = g.met.G.Grow.keeps_trees _ _ c.in_ok-x-in-Two.ensures.grows in
    let s2 = g.G.Grow.trees c.rebuild-in-Two-2.new.g in
    let w2 : Grows s1 s2 = g.met.G.Grow.keeps_trees _ _ c.in_ok-y-in-Two.ensures.grows in
    let v0 : Grows s s = Grows_refl s in
    let v1 : Grows s s1 = w1 in
    let v2 : Grows s s2 = Grows_trans s s1 s2 v1 w2 in
    let r1 : IsRebuilt (ch s) (tree_at s c.in-Two.a) c.args.depth s1 c.rebuild-in-Two.new.known c.in_ok-x-in-Two.x = as_before ch R stays ready s s v0 can.is_ready c.in-Two.a c.args.depth held_a s1 c.rebuild-in-Two.new.known c.in_ok-x-in-Two.x c.in_ok-x-in-Two.ensures.rebuilt in
    let r2 : IsRebuilt (ch s) (tree_at s c.in-Two.b) c.depth_under-under.result s2 c.rebuild-in-Two-2.new.known c.in_ok-y-in-Two.y = as_before ch R stays ready s s1 v1 can.is_ready c.in-Two.b c.depth_under-under.result held_b s2 c.rebuild-in-Two-2.new.known c.in_ok-y-in-Two.y c.in_ok-y-in-Two.ensures.rebuilt in
    let i1 : IsChanged (ch s) c.args.depth (tree_at s c.in-Two.a) (tree_at s2 c.in_ok-x-in-Two.x) = (changed_held (ch s) s1 s2 (tree_at s c.in-Two.a) c.in_ok-x-in-Two.x c.args.depth w2 r1.held r1.is) in
    let i2 : IsChanged (ch s) c.depth_under-under.result (tree_at s c.in-Two.b) (tree_at s2 c.in_ok-y-in-Two.y) = r2.is in
    let usmall : c.depth_under-under.result ≤ 18446744073709551615 = omega (arith, c.depth_under-under.ensures.is) in
    two_fits_too (ch s) p c.args.depth small c.depth_under-under.result usmall h (tree_at s c.in-Two.a) (tree_at s c.in-Two.b) _ _ i1 i2 fit

pub rebuild_parts-returns-in_ok-y-in-Two-clause-rebuilt : goal.rebuild_parts-returns-in_ok-y-in-Two-clause-rebuilt
rebuild_parts-returns-in_ok-y-in-Two-clause-rebuilt g t c =
    let s = g.G.Grow.trees c.args.g.now in
    let ch = g.V.Visit.change_over c.args.visit.now in
    let R = g.V.Visit.Ready c.args.visit.now in
    let stays = g.met.V.Visit.stays c.args.visit.now in
    let ready = g.met.V.Visit.stays_ready c.args.visit.now in
    let can = c.requires.can in
    let h = head_of_node c.node_of-node.result in
    let e : tree_at s c.args.e ≡ Two h (tree_at s c.in-Two.a) (tree_at s c.in-Two.b) = c.node_of-node.ensures.tree ∙ ap (assemble s h) (sym c.in-Two.ensures) in
    let below : (c.in-Two.a.0 < c.args.e.0) × (c.in-Two.b.0 < c.args.e.0) = rw (← c.in-Two.ensures) at c.node_of-node.ensures.below in
    let held_a : Holds s c.in-Two.a = omega (arith, below.0, can.held) in
    let held_b : Holds s c.in-Two.b = omega (arith, below.1, can.held) in
    let s1 = g.G.Grow.trees c.rebuild-in-Two.new.g in
    let w1 : Grows s s1 = g.met.G.Grow.keeps_trees _ _ c.in_ok-x-in-Two.ensures.grows in
    let s2 = g.G.Grow.trees c.rebuild-in-Two-2.new.g in
    let w2 : Grows s1 s2 = g.met.G.Grow.keeps_trees _ _ c.in_ok-y-in-Two.ensures.grows in
    let v0 : Grows s s = Grows_refl s in
    let v1 : Grows s s1 = w1 in
    let v2 : Grows s s2 = Grows_trans s s1 s2 v1 w2 in
    let r1 : IsRebuilt (ch s) (tree_at s c.in-Two.a) c.args.depth s1 c.rebuild-in-Two.new.known c.in_ok-x-in-Two.x = as_before ch R stays ready s s v0 can.is_ready c.in-Two.a c.args.depth held_a s1 c.rebuild-in-Two.new.known c.in_ok-x-in-Two.x c.in_ok-x-in-Two.ensures.rebuilt in
    let r2 : IsRebuilt (ch s) (tree_at s c.in-Two.b) c.depth_under-under.result s2 c.rebuild-in-Two-2.new.known c.in_ok-y-in-Two.y = as_before ch R stays ready s s1 v1 can.is_ready c.in-Two.b c.depth_under-under.result held_b s2 c.rebuild-in-Two-2.new.known c.in_ok-y-in-Two.y c.in_ok-y-in-Two.ensures.rebuilt in
    let i1 : IsChanged (ch s) c.args.depth (tree_at s c.in-Two.a) (tree_at s2 c.in_ok-x-in-Two.x) = (changed_held (ch s) s1 s2 (tree_at s c.in-Two.a) c.in_ok-x-in-Two.x c.args.depth w2 r1.held r1.is) in
    let i2 : IsChanged (ch s) c.depth_under-under.result (tree_at s c.in-Two.b) (tree_at s2 c.in_ok-y-in-Two.y) = r2.is in
    let u = g.G.Grow.trees c.remake-in-Two.new.g in
    let wu : Grows s2 u = g.met.G.Grow.keeps_trees _ _ c.remake-in-Two.ensures.grows in
    IfOk-both c.remake-in-Two.result _ _ _
    (λ id b d. record { held = b; is = rw d (two_made (ch s) c.args.depth (tree_at s c.args.e) h (tree_at s c.in-Two.a) (tree_at s c.in-Two.b) _ _ c.depth_under-under.result e c.depth_under-under.ensures i1 i2); known = known_later (ch s) s2 u c.rebuild-in-Two-2.new.known wu r2.known })
    c.remake-in-Two.ensures.held c.remake-in-Two.ensures.tree

pub rebuild_parts-returns-in_ok-y-in-Two-clause-grows : goal.rebuild_parts-returns-in_ok-y-in-Two-clause-grows
rebuild_parts-returns-in_ok-y-in-Two-clause-grows g t c = g.met.G.Grow.grows_trans _ _ _ c.in_ok-x-in-Two.ensures.grows (g.met.G.Grow.grows_trans _ _ _ c.in_ok-y-in-Two.ensures.grows c.remake-in-Two.ensures.grows)

pub rebuild_parts-returns-in_err-y-in-Two-clause-grows : goal.rebuild_parts-returns-in_err-y-in-Two-clause-grows
rebuild_parts-returns-in_err-y-in-Two-clause-grows g t c = g.met.G.Grow.grows_trans _ _ _ c.in_ok-x-in-Two.ensures.grows c.rebuild-in-Two-2.ensures.grows

pub rebuild_parts-rebuild-requires-in-Three : goal.rebuild_parts-rebuild-requires-in-Three
rebuild_parts-rebuild-requires-in-Three g t c κs within =
    let s = g.G.Grow.trees c.args.g.now in
    let ch = g.V.Visit.change_over c.args.visit.now in
    let R = g.V.Visit.Ready c.args.visit.now in
    let stays = g.met.V.Visit.stays c.args.visit.now in
    let ready = g.met.V.Visit.stays_ready c.args.visit.now in
    let can = c.requires.can in
    let h = head_of_node c.node_of-node.result in
    let e : tree_at s c.args.e ≡ Three h (tree_at s c.in-Three.a) (tree_at s c.in-Three.b) (tree_at s c.in-Three.c) = c.node_of-node.ensures.tree ∙ ap (assemble s h) (sym c.in-Three.ensures) in
    let below : (c.in-Three.a.0 < c.args.e.0) × (c.in-Three.b.0 < c.args.e.0) × (c.in-Three.c.0 < c.args.e.0) = rw (← c.in-Three.ensures) at c.node_of-node.ensures.below in
    let held_a : Holds s c.in-Three.a = omega (arith, below.0, can.held) in
    let held_b : Holds s c.in-Three.b = omega (arith, below.1, can.held) in
    let held_c : Holds s c.in-Three.c = omega (arith, below.2, can.held) in
    let v0 : Grows s s = Grows_refl s in
    let k : CanRebuild (ch s) (R s) s c.args.known.now c.in-Three.a c.args.depth = go_on ch R stays ready s s v0 can.is_ready c.in-Three.a c.args.depth held_a c.args.known.now (three_children (ch s) c.args.depth (tree_at s c.args.e) c.requires.plain can.fits h (tree_at s c.in-Three.a) (tree_at s c.in-Three.b) (tree_at s c.in-Three.c) e).0 can.known in
    search rules

pub rebuild_parts-rebuild-requires-in-Three-2 : goal.rebuild_parts-rebuild-requires-in-Three-2
rebuild_parts-rebuild-requires-in-Three-2 g t c κs within =
    let s = g.G.Grow.trees c.args.g.now in
    let ch = g.V.Visit.change_over c.args.visit.now in
    let R = g.V.Visit.Ready c.args.visit.now in
    let stays = g.met.V.Visit.stays c.args.visit.now in
    let ready = g.met.V.Visit.stays_ready c.args.visit.now in
    let can = c.requires.can in
    let h = head_of_node c.node_of-node.result in
    let e : tree_at s c.args.e ≡ Three h (tree_at s c.in-Three.a) (tree_at s c.in-Three.b) (tree_at s c.in-Three.c) = c.node_of-node.ensures.tree ∙ ap (assemble s h) (sym c.in-Three.ensures) in
    let below : (c.in-Three.a.0 < c.args.e.0) × (c.in-Three.b.0 < c.args.e.0) × (c.in-Three.c.0 < c.args.e.0) = rw (← c.in-Three.ensures) at c.node_of-node.ensures.below in
    let held_a : Holds s c.in-Three.a = omega (arith, below.0, can.held) in
    let held_b : Holds s c.in-Three.b = omega (arith, below.1, can.held) in
    let held_c : Holds s c.in-Three.c = omega (arith, below.2, can.held) in
    let s1 = g.G.Grow.trees c.rebuild-in-Three.new.g in
    let w1 : Grows s s1 = g.met.G.Grow.keeps_trees _ _ c.in_ok-x-in-Three.ensures.grows in
    let v0 : Grows s s = Grows_refl s in
    let v1 : Grows s s1 = w1 in
    let r1 : IsRebuilt (ch s) (tree_at s c.in-Three.a) c.args.depth s1 c.rebuild-in-Three.new.known c.in_ok-x-in-Three.x = as_before ch R stays ready s s v0 can.is_ready c.in-Three.a c.args.depth held_a s1 c.rebuild-in-Three.new.known c.in_ok-x-in-Three.x c.in_ok-x-in-Three.ensures.rebuilt in
    let k : CanRebuild (ch s1) (R s1) s1 c.rebuild-in-Three.new.known c.in-Three.b c.args.depth = go_on ch R stays ready s s1 v1 can.is_ready c.in-Three.b c.args.depth held_b c.rebuild-in-Three.new.known (three_children (ch s) c.args.depth (tree_at s c.args.e) c.requires.plain can.fits h (tree_at s c.in-Three.a) (tree_at s c.in-Three.b) (tree_at s c.in-Three.c) e).1 r1.known in
    search rules

pub rebuild_parts-rebuild-requires-in-Three-3 : goal.rebuild_parts-rebuild-requires-in-Three-3
rebuild_parts-rebuild-requires-in-Three-3 g t c κs within =
    let s = g.G.Grow.trees c.args.g.now in
    let ch = g.V.Visit.change_over c.args.visit.now in
    let R = g.V.Visit.Ready c.args.visit.now in
    let stays = g.met.V.Visit.stays c.args.visit.now in
    let ready = g.met.V.Visit.stays_ready c.args.visit.now in
    let can = c.requires.can in
    let h = head_of_node c.node_of-node.result in
    let e : tree_at s c.args.e ≡ Three h (tree_at s c.in-Three.a) (tree_at s c.in-Three.b) (tree_at s c.in-Three.c) = c.node_of-node.ensures.tree ∙ ap (assemble s h) (sym c.in-Three.ensures) in
    let below : (c.in-Three.a.0 < c.args.e.0) × (c.in-Three.b.0 < c.args.e.0) × (c.in-Three.c.0 < c.args.e.0) = rw (← c.in-Three.ensures) at c.node_of-node.ensures.below in
    let held_a : Holds s c.in-Three.a = omega (arith, below.0, can.held) in
    let held_b : Holds s c.in-Three.b = omega (arith, below.1, can.held) in
    let held_c : Holds s c.in-Three.c = omega (arith, below.2, can.held) in
    let s1 = g.G.Grow.trees c.rebuild-in-Three.new.g in
    let w1 : Grows s s1 = g.met.G.Grow.keeps_trees _ _ c.in_ok-x-in-Three.ensures.grows in
    let s2 = g.G.Grow.trees c.rebuild-in-Three-2.new.g in
    let w2 : Grows s1 s2 = g.met.G.Grow.keeps_trees _ _ c.in_ok-y-in-Three.ensures.grows in
    let v0 : Grows s s = Grows_refl s in
    let v1 : Grows s s1 = w1 in
    let v2 : Grows s s2 = Grows_trans s s1 s2 v1 w2 in
    let r1 : IsRebuilt (ch s) (tree_at s c.in-Three.a) c.args.depth s1 c.rebuild-in-Three.new.known c.in_ok-x-in-Three.x = as_before ch R stays ready s s v0 can.is_ready c.in-Three.a c.args.depth held_a s1 c.rebuild-in-Three.new.known c.in_ok-x-in-Three.x c.in_ok-x-in-Three.ensures.rebuilt in
    let r2 : IsRebuilt (ch s) (tree_at s c.in-Three.b) c.args.depth s2 c.rebuild-in-Three-2.new.known c.in_ok-y-in-Three.y = as_before ch R stays ready s s1 v1 can.is_ready c.in-Three.b c.args.depth held_b s2 c.rebuild-in-Three-2.new.known c.in_ok-y-in-Three.y c.in_ok-y-in-Three.ensures.rebuilt in
    let k : CanRebuild (ch s2) (R s2) s2 c.rebuild-in-Three-2.new.known c.in-Three.c c.args.depth = go_on ch R stays ready s s2 v2 can.is_ready c.in-Three.c c.args.depth held_c c.rebuild-in-Three-2.new.known (three_children (ch s) c.args.depth (tree_at s c.args.e) c.requires.plain can.fits h (tree_at s c.in-Three.a) (tree_at s c.in-Three.b) (tree_at s c.in-Three.c) e).2 r2.known in
    search rules

pub rebuild_parts-remake-requires-in-Three-clause-fits : goal.rebuild_parts-remake-requires-in-Three-clause-fits
rebuild_parts-remake-requires-in-Three-clause-fits g t c =
    let s = g.G.Grow.trees c.args.g.now in
    let ch = g.V.Visit.change_over c.args.visit.now in
    let R = g.V.Visit.Ready c.args.visit.now in
    let stays = g.met.V.Visit.stays c.args.visit.now in
    let ready = g.met.V.Visit.stays_ready c.args.visit.now in
    let can = c.requires.can in
    let h = head_of_node c.node_of-node.result in
    let p = g.met.V.Visit.sorts c.args.visit.now s can.is_ready in
    let small : c.args.depth ≤ 18446744073709551615 = omega (arith, c.ranges.depth.fits) in
    let e : tree_at s c.args.e ≡ Three h (tree_at s c.in-Three.a) (tree_at s c.in-Three.b) (tree_at s c.in-Three.c) = c.node_of-node.ensures.tree ∙ ap (assemble s h) (sym c.in-Three.ensures) in
    let below : (c.in-Three.a.0 < c.args.e.0) × (c.in-Three.b.0 < c.args.e.0) × (c.in-Three.c.0 < c.args.e.0) = rw (← c.in-Three.ensures) at c.node_of-node.ensures.below in
    let held_a : Holds s c.in-Three.a = omega (arith, below.0, can.held) in
    let held_b : Holds s c.in-Three.b = omega (arith, below.1, can.held) in
    let held_c : Holds s c.in-Three.c = omega (arith, below.2, can.held) in
    let fit : Fits (Three h (tree_at s c.in-Three.a) (tree_at s c.in-Three.b) (tree_at s c.in-Three.c)) = rw e at c.node_of-node.ensures.fits in
    let s1 = g.G.Grow.trees c.rebuild-in-Three.new.g in
    let w1 : Grows s s1 = g.met.G.Grow.keeps_trees _ _ c.in_ok-x-in-Three.ensures.grows in
    let s2 = g.G.Grow.trees c.rebuild-in-Three-2.new.g in
    let w2 : Grows s1 s2 = g.met.G.Grow.keeps_trees _ _ c.in_ok-y-in-Three.ensures.grows in
    let s3 = g.G.Grow.trees c.rebuild-in-Three-3.new.g in
    let w3 : Grows s2 s3 = g.met.G.Grow.keeps_trees _ _ c.in_ok-z-in-Three.ensures.grows in
    let v0 : Grows s s = Grows_refl s in
    let v1 : Grows s s1 = w1 in
    let v2 : Grows s s2 = Grows_trans s s1 s2 v1 w2 in
    let v3 : Grows s s3 = Grows_trans s s2 s3 v2 w3 in
    let r1 : IsRebuilt (ch s) (tree_at s c.in-Three.a) c.args.depth s1 c.rebuild-in-Three.new.known c.in_ok-x-in-Three.x = as_before ch R stays ready s s v0 can.is_ready c.in-Three.a c.args.depth held_a s1 c.rebuild-in-Three.new.known c.in_ok-x-in-Three.x c.in_ok-x-in-Three.ensures.rebuilt in
    let r2 : IsRebuilt (ch s) (tree_at s c.in-Three.b) c.args.depth s2 c.rebuild-in-Three-2.new.known c.in_ok-y-in-Three.y = as_before ch R stays ready s s1 v1 can.is_ready c.in-Three.b c.args.depth held_b s2 c.rebuild-in-Three-2.new.known c.in_ok-y-in-Three.y c.in_ok-y-in-Three.ensures.rebuilt in
    let r3 : IsRebuilt (ch s) (tree_at s c.in-Three.c) c.args.depth s3 c.rebuild-in-Three-3.new.known c.in_ok-z-in-Three.z = as_before ch R stays ready s s2 v2 can.is_ready c.in-Three.c c.args.depth held_c s3 c.rebuild-in-Three-3.new.known c.in_ok-z-in-Three.z c.in_ok-z-in-Three.ensures.rebuilt in
    let i1 : IsChanged (ch s) c.args.depth (tree_at s c.in-Three.a) (tree_at s3 c.in_ok-x-in-Three.x) = (changed_held (ch s) s1 s3 (tree_at s c.in-Three.a) c.in_ok-x-in-Three.x c.args.depth (Grows_trans s1 s2 s3 w2 w3) r1.held r1.is) in
    let i2 : IsChanged (ch s) c.args.depth (tree_at s c.in-Three.b) (tree_at s3 c.in_ok-y-in-Three.y) = (changed_held (ch s) s2 s3 (tree_at s c.in-Three.b) c.in_ok-y-in-Three.y c.args.depth w3 r2.held r2.is) in
    let i3 : IsChanged (ch s) c.args.depth (tree_at s c.in-Three.c) (tree_at s3 c.in_ok-z-in-Three.z) = r3.is in
    three_fits_too (ch s) p c.args.depth small h (tree_at s c.in-Three.a) (tree_at s c.in-Three.b) (tree_at s c.in-Three.c) _ _ _ i1 i2 i3 fit

pub rebuild_parts-returns-in_ok-z-in-Three-clause-rebuilt : goal.rebuild_parts-returns-in_ok-z-in-Three-clause-rebuilt
rebuild_parts-returns-in_ok-z-in-Three-clause-rebuilt g t c =
    let s = g.G.Grow.trees c.args.g.now in
    let ch = g.V.Visit.change_over c.args.visit.now in
    let R = g.V.Visit.Ready c.args.visit.now in
    let stays = g.met.V.Visit.stays c.args.visit.now in
    let ready = g.met.V.Visit.stays_ready c.args.visit.now in
    let can = c.requires.can in
    let h = head_of_node c.node_of-node.result in
    let e : tree_at s c.args.e ≡ Three h (tree_at s c.in-Three.a) (tree_at s c.in-Three.b) (tree_at s c.in-Three.c) = c.node_of-node.ensures.tree ∙ ap (assemble s h) (sym c.in-Three.ensures) in
    let below : (c.in-Three.a.0 < c.args.e.0) × (c.in-Three.b.0 < c.args.e.0) × (c.in-Three.c.0 < c.args.e.0) = rw (← c.in-Three.ensures) at c.node_of-node.ensures.below in
    let held_a : Holds s c.in-Three.a = omega (arith, below.0, can.held) in
    let held_b : Holds s c.in-Three.b = omega (arith, below.1, can.held) in
    let held_c : Holds s c.in-Three.c = omega (arith, below.2, can.held) in
    let s1 = g.G.Grow.trees c.rebuild-in-Three.new.g in
    let w1 : Grows s s1 = g.met.G.Grow.keeps_trees _ _ c.in_ok-x-in-Three.ensures.grows in
    let s2 = g.G.Grow.trees c.rebuild-in-Three-2.new.g in
    let w2 : Grows s1 s2 = g.met.G.Grow.keeps_trees _ _ c.in_ok-y-in-Three.ensures.grows in
    let s3 = g.G.Grow.trees c.rebuild-in-Three-3.new.g in
    let w3 : Grows s2 s3 = g.met.G.Grow.keeps_trees _ _ c.in_ok-z-in-Three.ensures.grows in
    let v0 : Grows s s = Grows_refl s in
    let v1 : Grows s s1 = w1 in
    let v2 : Grows s s2 = Grows_trans s s1 s2 v1 w2 in
    let v3 : Grows s s3 = Grows_trans s s2 s3 v2 w3 in
    let r1 : IsRebuilt (ch s) (tree_at s c.in-Three.a) c.args.depth s1 c.rebuild-in-Three.new.known c.in_ok-x-in-Three.x = as_before ch R stays ready s s v0 can.is_ready c.in-Three.a c.args.depth held_a s1 c.rebuild-in-Three.new.known c.in_ok-x-in-Three.x c.in_ok-x-in-Three.ensures.rebuilt in
    let r2 : IsRebuilt (ch s) (tree_at s c.in-Three.b) c.args.depth s2 c.rebuild-in-Three-2.new.known c.in_ok-y-in-Three.y = as_before ch R stays ready s s1 v1 can.is_ready c.in-Three.b c.args.depth held_b s2 c.rebuild-in-Three-2.new.known c.in_ok-y-in-Three.y c.in_ok-y-in-Three.ensures.rebuilt in
    let r3 : IsRebuilt (ch s) (tree_at s c.in-Three.c) c.args.depth s3 c.rebuild-in-Three-3.new.known c.in_ok-z-in-Three.z = as_before ch R stays ready s s2 v2 can.is_ready c.in-Three.c c.args.depth held_c s3 c.rebuild-in-Three-3.new.known c.in_ok-z-in-Three.z c.in_ok-z-in-Three.ensures.rebuilt in
    let i1 : IsChanged (ch s) c.args.depth (tree_at s c.in-Three.a) (tree_at s3 c.in_ok-x-in-Three.x) = (changed_held (ch s) s1 s3 (tree_at s c.in-Three.a) c.in_ok-x-in-Three.x c.args.depth (Grows_trans s1 s2 s3 w2 w3) r1.held r1.is) in
    let i2 : IsChanged (ch s) c.args.depth (tree_at s c.in-Three.b) (tree_at s3 c.in_ok-y-in-Three.y) = (changed_held (ch s) s2 s3 (tree_at s c.in-Three.b) c.in_ok-y-in-Three.y c.args.depth w3 r2.held r2.is) in
    let i3 : IsChanged (ch s) c.args.depth (tree_at s c.in-Three.c) (tree_at s3 c.in_ok-z-in-Three.z) = r3.is in
    let u = g.G.Grow.trees c.remake-in-Three.new.g in
    let wu : Grows s3 u = g.met.G.Grow.keeps_trees _ _ c.remake-in-Three.ensures.grows in
    IfOk-both c.remake-in-Three.result _ _ _
    (λ id b d. record { held = b; is = rw d (three_made (ch s) c.args.depth (tree_at s c.args.e) h (tree_at s c.in-Three.a) (tree_at s c.in-Three.b) (tree_at s c.in-Three.c) _ _ _ e i1 i2 i3); known = known_later (ch s) s3 u c.rebuild-in-Three-3.new.known wu r3.known })
    c.remake-in-Three.ensures.held c.remake-in-Three.ensures.tree

pub rebuild_parts-returns-in_ok-z-in-Three-clause-grows : goal.rebuild_parts-returns-in_ok-z-in-Three-clause-grows
rebuild_parts-returns-in_ok-z-in-Three-clause-grows g t c = g.met.G.Grow.grows_trans _ _ _ c.in_ok-x-in-Three.ensures.grows (g.met.G.Grow.grows_trans _ _ _ c.in_ok-y-in-Three.ensures.grows (g.met.G.Grow.grows_trans _ _ _ c.in_ok-z-in-Three.ensures.grows c.remake-in-Three.ensures.grows))

pub rebuild_parts-returns-in_err-y-in-Three-clause-grows : goal.rebuild_parts-returns-in_err-y-in-Three-clause-grows
rebuild_parts-returns-in_err-y-in-Three-clause-grows g t c = g.met.G.Grow.grows_trans _ _ _ c.in_ok-x-in-Three.ensures.grows c.rebuild-in-Three-2.ensures.grows

pub rebuild_parts-returns-in_err-z-in-Three-clause-grows : goal.rebuild_parts-returns-in_err-z-in-Three-clause-grows
rebuild_parts-returns-in_err-z-in-Three-clause-grows g t c = g.met.G.Grow.grows_trans _ _ _ c.in_ok-x-in-Three.ensures.grows (g.met.G.Grow.grows_trans _ _ _ c.in_ok-y-in-Three.ensures.grows c.rebuild-in-Three-3.ensures.grows)
