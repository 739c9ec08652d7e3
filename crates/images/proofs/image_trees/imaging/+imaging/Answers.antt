use Rattle.std.proofs.Common.{rules, ◌≡◌, ◌<◌, Result, Ok, Err, IfOk, sym, ap, ◌∙◌, arith}
use Rattle.trees.specs.Tree.{Leaf, One, Two, Three}
use Rattle.trees.specs.Node.{tree_at, Holds, Grows, assemble, head_of_node}
use Rattle.trees.proofs.Nodes.{Grows_refl, Grows_trans}
use Rattle.images.specs.Images.{image}
use Rattle.images.specs.image_trees.Imaged.{RuleOver, IsTypedSomewhere, CanImage, IsImaged}
use Rattle.trees.proofs.binders.Rebuilt.{held_later}
use Rattle.images.proofs.image_trees.ImagedParts.{known_later, known_more, one_part, two_parts, three_parts, over_is_typed, one_fit, two_fit, three_fit, none_over, one_over, two_over, three_over, made_is, go_on, as_before}
use Rattle.images.proofs.image_trees.imaging.+imaging.Goals as goal

IfOk-both : {A E : Type 0} (r : Result A E) (P Q T : A → Type 0) → ((x : A) → P x → Q x → T x) → IfOk r P → IfOk r Q → IfOk r T
IfOk-both (Ok x) P Q T f p q = f x p q
IfOk-both (Err e) P Q T f p q = tt

pub image_of-returns-in-Some-clause-imaged : goal.image_of-returns-in-Some-clause-imaged
image_of-returns-in-Some-clause-imaged g t c =
    let k = c.requires.known c.args.e.0 c.in-Some.made.now (sym c.in-Some.ensures.value) in
    record { held = k.1.0; is = k.1.1; known = c.requires.known }

pub image_of-at_node-requires-clause-ready : goal.image_of-at_node-requires-clause-ready
image_of-at_node-requires-clause-ready g t c =
    let s = g.G.Grow.trees c.args.g.now in
    let ro = g.R.NodeRule.rule_over c.args.rule.now in
    let R = g.R.NodeRule.Ready c.args.rule.now in
    let stays = g.met.R.NodeRule.stays c.args.rule.now in
    let ready = g.met.R.NodeRule.stays_ready c.args.rule.now in
    let can = c.requires in
    let s1 = g.G.Grow.trees c.over_parts.new.g in
    let w : Grows s s1 = g.met.G.Grow.keeps_trees _ _ c.in_ok-over.ensures.grows in
    let o = c.in_ok-over.ensures.over in
    ready s s1 w can.is_ready

pub image_of-at_node-requires-clause-typed : goal.image_of-at_node-requires-clause-typed
image_of-at_node-requires-clause-typed g t c =
    let s = g.G.Grow.trees c.args.g.now in
    let ro = g.R.NodeRule.rule_over c.args.rule.now in
    let R = g.R.NodeRule.Ready c.args.rule.now in
    let stays = g.met.R.NodeRule.stays c.args.rule.now in
    let ready = g.met.R.NodeRule.stays_ready c.args.rule.now in
    let can = c.requires in
    let s1 = g.G.Grow.trees c.over_parts.new.g in
    let w : Grows s s1 = g.met.G.Grow.keeps_trees _ _ c.in_ok-over.ensures.grows in
    let o = c.in_ok-over.ensures.over in
    let x : IsTypedSomewhere (ro s) (tree_at s1 c.in_ok-over.over) = rw o.is (over_is_typed (ro s) (g.met.R.NodeRule.keeps c.args.rule.now s can.is_ready) (tree_at s c.args.e) can.typed) in
    rw (stays s s1 w can.is_ready) x

pub image_of-returns-clause-imaged : goal.image_of-returns-clause-imaged
image_of-returns-clause-imaged g t c =
    let s = g.G.Grow.trees c.args.g.now in
    let ro = g.R.NodeRule.rule_over c.args.rule.now in
    let R = g.R.NodeRule.Ready c.args.rule.now in
    let stays = g.met.R.NodeRule.stays c.args.rule.now in
    let ready = g.met.R.NodeRule.stays_ready c.args.rule.now in
    let can = c.requires in
    let s1 = g.G.Grow.trees c.over_parts.new.g in
    let w : Grows s s1 = g.met.G.Grow.keeps_trees _ _ c.in_ok-over.ensures.grows in
    let o = c.in_ok-over.ensures.over in
    let s2 = g.G.Grow.trees c.at_node.new.g in
    let w2 : Grows s1 s2 = g.met.G.Grow.keeps_trees _ _ c.in_ok-made.ensures.grows in
    let m = c.in_ok-made.made in
    let is : tree_at s2 m ≡ image (ro s).rule (tree_at s c.args.e) =
    made_is (ro s) (tree_at s c.args.e) (tree_at s1 c.in_ok-over.over) (tree_at s2 m) o.is (c.in_ok-made.ensures.tree ∙ ap (λ (r : RuleOver). r.rule (tree_at s1 c.in_ok-over.over)) (stays s s1 w can.is_ready)) in
    let same : tree_at s2 c.args.e ≡ tree_at s c.args.e = (Grows_trans s s1 s2 w w2).same c.args.e.0 can.held in
    record {
      held = c.in_ok-made.ensures.held;
      is = is;
      known = known_more (ro s) s2 c.over_parts.new.known c.insert.new.self c.args.e m (known_later (ro s) s1 s2 c.over_parts.new.known w2 o.known) (held_later s s2 c.args.e (Grows_trans s s1 s2 w w2) can.held) c.in_ok-made.ensures.held
          (is ∙ ap (image (ro s).rule) (sym same)) c.in_ok-insert.ensures.updates.0;
    }

pub image_of-returns-clause-grows : goal.image_of-returns-clause-grows
image_of-returns-clause-grows g t c =
    g.met.G.Grow.grows_trans _ _ _ c.in_ok-over.ensures.grows c.in_ok-made.ensures.grows

pub image_of-returns-in_err-made-clause-grows : goal.image_of-returns-in_err-made-clause-grows
image_of-returns-in_err-made-clause-grows g t c =
    g.met.G.Grow.grows_trans _ _ _ c.in_ok-over.ensures.grows c.at_node.ensures.grows

pub image_of-returns-in_err-insert-clause-grows : goal.image_of-returns-in_err-insert-clause-grows
image_of-returns-in_err-insert-clause-grows g t c =
    g.met.G.Grow.grows_trans _ _ _ c.in_ok-over.ensures.grows c.in_ok-made.ensures.grows

pub over_parts-returns-in-None-clause-over : goal.over_parts-returns-in-None-clause-over
over_parts-returns-in-None-clause-over g t c =
    let s = g.G.Grow.trees c.args.g.now in
    let ro = g.R.NodeRule.rule_over c.args.rule.now in
    let R = g.R.NodeRule.Ready c.args.rule.now in
    let stays = g.met.R.NodeRule.stays c.args.rule.now in
    let ready = g.met.R.NodeRule.stays_ready c.args.rule.now in
    let can = c.requires in
    let h = head_of_node c.node_of-node.result in
    let e : tree_at s c.args.e ≡ Leaf h = c.node_of-node.ensures.tree ∙ ap (assemble s h) (sym c.in-None.ensures) in
    record { held = can.held; is = none_over (ro s) (tree_at s c.args.e) h e; known = can.known }

pub over_parts-image_of-requires : goal.over_parts-image_of-requires
over_parts-image_of-requires g t c κs within =
    let s = g.G.Grow.trees c.args.g.now in
    let ro = g.R.NodeRule.rule_over c.args.rule.now in
    let R = g.R.NodeRule.Ready c.args.rule.now in
    let stays = g.met.R.NodeRule.stays c.args.rule.now in
    let ready = g.met.R.NodeRule.stays_ready c.args.rule.now in
    let can = c.requires in
    let h = head_of_node c.node_of-node.result in
    let e : tree_at s c.args.e ≡ One h (tree_at s c.in-One.a) = c.node_of-node.ensures.tree ∙ ap (assemble s h) (sym c.in-One.ensures) in
    let below : (c.in-One.a.0 < c.args.e.0) = rw (← c.in-One.ensures) at c.node_of-node.ensures.below in
    let held_a : Holds s c.in-One.a = omega (arith, below, can.held) in
    let xs = one_part (ro s) (tree_at s c.args.e) can.typed h (tree_at s c.in-One.a) e in
    let v0 : Grows s s = Grows_refl s in
    let k : CanImage (ro s) (R s) s c.args.known.now c.in-One.a = go_on ro R stays ready s s v0 can.is_ready c.in-One.a held_a c.args.known.now xs can.known in
    search rules

pub over_parts-remake-requires-clause-fits : goal.over_parts-remake-requires-clause-fits
over_parts-remake-requires-clause-fits g t c =
    let s = g.G.Grow.trees c.args.g.now in
    let ro = g.R.NodeRule.rule_over c.args.rule.now in
    let R = g.R.NodeRule.Ready c.args.rule.now in
    let stays = g.met.R.NodeRule.stays c.args.rule.now in
    let ready = g.met.R.NodeRule.stays_ready c.args.rule.now in
    let can = c.requires in
    let h = head_of_node c.node_of-node.result in
    let e : tree_at s c.args.e ≡ One h (tree_at s c.in-One.a) = c.node_of-node.ensures.tree ∙ ap (assemble s h) (sym c.in-One.ensures) in
    let below : (c.in-One.a.0 < c.args.e.0) = rw (← c.in-One.ensures) at c.node_of-node.ensures.below in
    let held_a : Holds s c.in-One.a = omega (arith, below, can.held) in
    let xs = one_part (ro s) (tree_at s c.args.e) can.typed h (tree_at s c.in-One.a) e in
    let v0 : Grows s s = Grows_refl s in
    let s1 = g.G.Grow.trees c.image_of.new.g in
    let w1 : Grows s s1 = g.met.G.Grow.keeps_trees _ _ c.in_ok-x-in-One.ensures.grows in
    let v1 : Grows s s1 = w1 in
    let r1 : IsImaged (ro s) (tree_at s c.in-One.a) s1 c.image_of.new.known c.in_ok-x-in-One.x = as_before ro R stays ready s s v0 can.is_ready c.in-One.a held_a s1 c.image_of.new.known c.in_ok-x-in-One.x c.in_ok-x-in-One.ensures.imaged in
    let i1 : tree_at s1 c.in_ok-x-in-One.x ≡ image (ro s).rule (tree_at s c.in-One.a) = r1.is in
    one_fit (ro s) (g.met.R.NodeRule.keeps c.args.rule.now s can.is_ready) (tree_at s c.args.e) can.typed h (tree_at s c.in-One.a) _ e i1 c.node_of-node.ensures.fits

pub over_parts-returns-in_ok-x-in-One-clause-over : goal.over_parts-returns-in_ok-x-in-One-clause-over
over_parts-returns-in_ok-x-in-One-clause-over g t c =
    let s = g.G.Grow.trees c.args.g.now in
    let ro = g.R.NodeRule.rule_over c.args.rule.now in
    let R = g.R.NodeRule.Ready c.args.rule.now in
    let stays = g.met.R.NodeRule.stays c.args.rule.now in
    let ready = g.met.R.NodeRule.stays_ready c.args.rule.now in
    let can = c.requires in
    let h = head_of_node c.node_of-node.result in
    let e : tree_at s c.args.e ≡ One h (tree_at s c.in-One.a) = c.node_of-node.ensures.tree ∙ ap (assemble s h) (sym c.in-One.ensures) in
    let below : (c.in-One.a.0 < c.args.e.0) = rw (← c.in-One.ensures) at c.node_of-node.ensures.below in
    let held_a : Holds s c.in-One.a = omega (arith, below, can.held) in
    let xs = one_part (ro s) (tree_at s c.args.e) can.typed h (tree_at s c.in-One.a) e in
    let v0 : Grows s s = Grows_refl s in
    let s1 = g.G.Grow.trees c.image_of.new.g in
    let w1 : Grows s s1 = g.met.G.Grow.keeps_trees _ _ c.in_ok-x-in-One.ensures.grows in
    let v1 : Grows s s1 = w1 in
    let r1 : IsImaged (ro s) (tree_at s c.in-One.a) s1 c.image_of.new.known c.in_ok-x-in-One.x = as_before ro R stays ready s s v0 can.is_ready c.in-One.a held_a s1 c.image_of.new.known c.in_ok-x-in-One.x c.in_ok-x-in-One.ensures.imaged in
    let i1 : tree_at s1 c.in_ok-x-in-One.x ≡ image (ro s).rule (tree_at s c.in-One.a) = r1.is in
    let u = g.G.Grow.trees c.remake.new.g in
    let wu : Grows s1 u = g.met.G.Grow.keeps_trees _ _ c.remake.ensures.grows in
    IfOk-both c.remake.result _ _ _
    (λ id b d. record { held = b; is = d ∙ one_over (ro s) (tree_at s c.args.e) h (tree_at s c.in-One.a) _ e i1; known = known_later (ro s) s1 u c.image_of.new.known wu r1.known })
    c.remake.ensures.held c.remake.ensures.tree

pub over_parts-returns-in_ok-x-in-One-clause-grows : goal.over_parts-returns-in_ok-x-in-One-clause-grows
over_parts-returns-in_ok-x-in-One-clause-grows g t c =
    g.met.G.Grow.grows_trans _ _ _ c.in_ok-x-in-One.ensures.grows c.remake.ensures.grows

pub over_parts-image_of-requires-in-Two : goal.over_parts-image_of-requires-in-Two
over_parts-image_of-requires-in-Two g t c κs within =
    let s = g.G.Grow.trees c.args.g.now in
    let ro = g.R.NodeRule.rule_over c.args.rule.now in
    let R = g.R.NodeRule.Ready c.args.rule.now in
    let stays = g.met.R.NodeRule.stays c.args.rule.now in
    let ready = g.met.R.NodeRule.stays_ready c.args.rule.now in
    let can = c.requires in
    let h = head_of_node c.node_of-node.result in
    let e : tree_at s c.args.e ≡ Two h (tree_at s c.in-Two.a) (tree_at s c.in-Two.b) = c.node_of-node.ensures.tree ∙ ap (assemble s h) (sym c.in-Two.ensures) in
    let below : (c.in-Two.a.0 < c.args.e.0) × (c.in-Two.b.0 < c.args.e.0) = rw (← c.in-Two.ensures) at c.node_of-node.ensures.below in
    let held_a : Holds s c.in-Two.a = omega (arith, below.0, can.held) in
    let held_b : Holds s c.in-Two.b = omega (arith, below.1, can.held) in
    let xs = two_parts (ro s) (tree_at s c.args.e) can.typed h (tree_at s c.in-Two.a) (tree_at s c.in-Two.b) e in
    let v0 : Grows s s = Grows_refl s in
    let k : CanImage (ro s) (R s) s c.args.known.now c.in-Two.a = go_on ro R stays ready s s v0 can.is_ready c.in-Two.a held_a c.args.known.now xs.0 can.known in
    search rules

pub over_parts-image_of-requires-in-Two-2 : goal.over_parts-image_of-requires-in-Two-2
over_parts-image_of-requires-in-Two-2 g t c κs within =
    let s = g.G.Grow.trees c.args.g.now in
    let ro = g.R.NodeRule.rule_over c.args.rule.now in
    let R = g.R.NodeRule.Ready c.args.rule.now in
    let stays = g.met.R.NodeRule.stays c.args.rule.now in
    let ready = g.met.R.NodeRule.stays_ready c.args.rule.now in
    let can = c.requires in
    let h = head_of_node c.node_of-node.result in
    let e : tree_at s c.args.e ≡ Two h (tree_at s c.in-Two.a) (tree_at s c.in-Two.b) = c.node_of-node.ensures.tree ∙ ap (assemble s h) (sym c.in-Two.ensures) in
    let below : (c.in-Two.a.0 < c.args.e.0) × (c.in-Two.b.0 < c.args.e.0) = rw (← c.in-Two.ensures) at c.node_of-node.ensures.below in
    let held_a : Holds s c.in-Two.a = omega (arith, below.0, can.held) in
    let held_b : Holds s c.in-Two.b = omega (arith, below.1, can.held) in
    let xs = two_parts (ro s) (tree_at s c.args.e) can.typed h (tree_at s c.in-Two.a) (tree_at s c.in-Two.b) e in
    let v0 : Grows s s = Grows_refl s in
    let s1 = g.G.Grow.trees c.image_of-in-Two.new.g in
    let w1 : Grows s s1 = g.met.G.Grow.keeps_trees _ _ c.in_ok-x-in-Two.ensures.grows in
    let v1 : Grows s s1 = w1 in
    let r1 : IsImaged (ro s) (tree_at s c.in-Two.a) s1 c.image_of-in-Two.new.known c.in_ok-x-in-Two.x = as_before ro R stays ready s s v0 can.is_ready c.in-Two.a held_a s1 c.image_of-in-Two.new.known c.in_ok-x-in-Two.x c.in_ok-x-in-Two.ensures.imaged in
    let k : CanImage (ro s1) (R s1) s1 c.image_of-in-Two.new.known c.in-Two.b = go_on ro R stays ready s s1 v1 can.is_ready c.in-Two.b held_b c.image_of-in-Two.new.known xs.1 r1.known in
    search rules

pub over_parts-remake-requires-in-Two-clause-fits : goal.over_parts-remake-requires-in-Two-clause-fits
over_parts-remake-requires-in-Two-clause-fits g t c =
    let s = g.G.Grow.trees c.args.g.now in
    let ro = g.R.NodeRule.rule_over c.args.rule.now in
    let R = g.R.NodeRule.Ready c.args.rule.now in
    let stays = g.met.R.NodeRule.stays c.args.rule.now in
    let ready = g.met.R.NodeRule.stays_ready c.args.rule.now in
    let can = c.requires in
    let h = head_of_node c.node_of-node.result in
    let e : tree_at s c.args.e ≡ Two h (tree_at s c.in-Two.a) (tree_at s c.in-Two.b) = c.node_of-node.ensures.tree ∙ ap (assemble s h) (sym c.in-Two.ensures) in
    let below : (c.in-Two.a.0 < c.args.e.0) × (c.in-Two.b.0 < c.args.e.0) = rw (← c.in-Two.ensures) at c.node_of-node.ensures.below in
    let held_a : Holds s c.in-Two.a = omega (arith, below.0, can.held) in
    let held_b : Holds s c.in-Two.b = omega (arith, below.1, can.held) in
    let xs = two_parts (ro s) (tree_at s c.args.e) can.typed h (tree_at s c.in-Two.a) (tree_at s c.in-Two.b) e in
    let v0 : Grows s s = Grows_refl s in
    let s1 = g.G.Grow.trees c.image_of-in-Two.new.g in
    let w1 : Grows s s1 = g.met.G.Grow.keeps_trees _ _ c.in_ok-x-in-Two.ensures.grows in
    let v1 : Grows s s1 = w1 in
    let r1 : IsImaged (ro s) (tree_at s c.in-Two.a) s1 c.image_of-in-Two.new.known c.in_ok-x-in-Two.x = as_before ro R stays ready s s v0 can.is_ready c.in-Two.a held_a s1 c.image_of-in-Two.new.known c.in_ok-x-in-Two.x c.in_ok-x-in-Two.ensures.imaged in
    let s2 = g.G.Grow.trees c.image_of-in-Two-2.new.g in
    let w2 : Grows s1 s2 = g.met.G.Grow.keeps_trees _ _ c.in_ok-y-in-Two.ensures.grows in
    let v2 : Grows s s2 = Grows_trans s s1 s2 v1 w2 in
    let r2 : IsImaged (ro s) (tree_at s c.in-Two.b) s2 c.image_of-in-Two-2.new.known c.in_ok-y-in-Two.y = as_before ro R stays ready s s1 v1 can.is_ready c.in-Two.b held_b s2 c.image_of-in-Two-2.new.known c.in_ok-y-in-Two.y c.in_ok-y-in-Two.ensures.imaged in
    let i1 : tree_at s2 c.in_ok-x-in-Two.x ≡ image (ro s).rule (tree_at s c.in-Two.a) = w2.same c.in_ok-x-in-Two.x.0 r1.held ∙ r1.is in
    let i2 : tree_at s2 c.in_ok-y-in-Two.y ≡ image (ro s).rule (tree_at s c.in-Two.b) = r2.is in
    two_fit (ro s) (g.met.R.NodeRule.keeps c.args.rule.now s can.is_ready) (tree_at s c.args.e) can.typed h (tree_at s c.in-Two.a) (tree_at s c.in-Two.b) _ _ e i1 i2 c.node_of-node.ensures.fits

pub over_parts-returns-in_ok-y-in-Two-clause-over : goal.over_parts-returns-in_ok-y-in-Two-clause-over
over_parts-returns-in_ok-y-in-Two-clause-over g t c =
    let s = g.G.Grow.trees c.args.g.now in
    let ro = g.R.NodeRule.rule_over c.args.rule.now in
    let R = g.R.NodeRule.Ready c.args.rule.now in
    let stays = g.met.R.NodeRule.stays c.args.rule.now in
    let ready = g.met.R.NodeRule.stays_ready c.args.rule.now in
    let can = c.requires in
    let h = head_of_node c.node_of-node.result in
    let e : tree_at s c.args.e ≡ Two h (tree_at s c.in-Two.a) (tree_at s c.in-Two.b) = c.node_of-node.ensures.tree ∙ ap (assemble s h) (sym c.in-Two.ensures) in
    let below : (c.in-Two.a.0 < c.args.e.0) × (c.in-Two.b.0 < c.args.e.0) = rw (← c.in-Two.ensures) at c.node_of-node.ensures.below in
    let held_a : Holds s c.in-Two.a = omega (arith, below.0, can.held) in
    let held_b : Holds s c.in-Two.b = omega (arith, below.1, can.held) in
    let xs = two_parts (ro s) (tree_at s c.args.e) can.typed h (tree_at s c.in-Two.a) (tree_at s c.in-Two.b) e in
    let v0 : Grows s s = Grows_refl s in
    let s1 = g.G.Grow.trees c.image_of-in-Two.new.g in
    let w1 : Grows s s1 = g.met.G.Grow.keeps_trees _ _ c.in_ok-x-in-Two.ensures.grows in
    let v1 : Grows s s1 = w1 in
    let r1 : IsImaged (ro s) (tree_at s c.in-Two.a) s1 c.image_of-in-Two.new.known c.in_ok-x-in-Two.x = as_before ro R stays ready s s v0 can.is_ready c.in-Two.a held_a s1 c.image_of-in-Two.new.known c.in_ok-x-in-Two.x c.in_ok-x-in-Two.ensures.imaged in
    let s2 = g.G.Grow.trees c.image_of-in-Two-2.new.g in
    let w2 : Grows s1 s2 = g.met.G.Grow.keeps_trees _ _ c.in_ok-y-in-Two.ensures.grows in
    let v2 : Grows s s2 = Grows_trans s s1 s2 v1 w2 in
    let r2 : IsImaged (ro s) (tree_at s c.in-Two.b) s2 c.image_of-in-Two-2.new.known c.in_ok-y-in-Two.y = as_before ro R stays ready s s1 v1 can.is_ready c.in-Two.b held_b s2 c.image_of-in-Two-2.new.known c.in_ok-y-in-Two.y c.in_ok-y-in-Two.ensures.imaged in
    let i1 : tree_at s2 c.in_ok-x-in-Two.x ≡ image (ro s).rule (tree_at s c.in-Two.a) = w2.same c.in_ok-x-in-Two.x.0 r1.held ∙ r1.is in
    let i2 : tree_at s2 c.in_ok-y-in-Two.y ≡ image (ro s).rule (tree_at s c.in-Two.b) = r2.is in
    let u = g.G.Grow.trees c.remake-in-Two.new.g in
    let wu : Grows s2 u = g.met.G.Grow.keeps_trees _ _ c.remake-in-Two.ensures.grows in
    IfOk-both c.remake-in-Two.result _ _ _
    (λ id b d. record { held = b; is = d ∙ two_over (ro s) (tree_at s c.args.e) h (tree_at s c.in-Two.a) (tree_at s c.in-Two.b) _ _ e i1 i2; known = known_later (ro s) s2 u c.image_of-in-Two-2.new.known wu r2.known })
    c.remake-in-Two.ensures.held c.remake-in-Two.ensures.tree

pub over_parts-returns-in_ok-y-in-Two-clause-grows : goal.over_parts-returns-in_ok-y-in-Two-clause-grows
over_parts-returns-in_ok-y-in-Two-clause-grows g t c =
    g.met.G.Grow.grows_trans _ _ _ c.in_ok-x-in-Two.ensures.grows (g.met.G.Grow.grows_trans _ _ _ c.in_ok-y-in-Two.ensures.grows c.remake-in-Two.ensures.grows)

pub over_parts-returns-in_err-y-in-Two-clause-grows : goal.over_parts-returns-in_err-y-in-Two-clause-grows
over_parts-returns-in_err-y-in-Two-clause-grows g t c =
    g.met.G.Grow.grows_trans _ _ _ c.in_ok-x-in-Two.ensures.grows c.image_of-in-Two-2.ensures.grows

pub over_parts-image_of-requires-in-Three : goal.over_parts-image_of-requires-in-Three
over_parts-image_of-requires-in-Three g t c κs within =
    let s = g.G.Grow.trees c.args.g.now in
    let ro = g.R.NodeRule.rule_over c.args.rule.now in
    let R = g.R.NodeRule.Ready c.args.rule.now in
    let stays = g.met.R.NodeRule.stays c.args.rule.now in
    let ready = g.met.R.NodeRule.stays_ready c.args.rule.now in
    let can = c.requires in
    let h = head_of_node c.node_of-node.result in
    let e : tree_at s c.args.e ≡ Three h (tree_at s c.in-Three.a) (tree_at s c.in-Three.b) (tree_at s c.in-Three.c) = c.node_of-node.ensures.tree ∙ ap (assemble s h) (sym c.in-Three.ensures) in
    let below : (c.in-Three.a.0 < c.args.e.0) × (c.in-Three.b.0 < c.args.e.0) × (c.in-Three.c.0 < c.args.e.0) = rw (← c.in-Three.ensures) at c.node_of-node.ensures.below in
    let held_a : Holds s c.in-Three.a = omega (arith, below.0, can.held) in
    let held_b : Holds s c.in-Three.b = omega (arith, below.1, can.held) in
    let held_c : Holds s c.in-Three.c = omega (arith, below.2, can.held) in
    let xs = three_parts (ro s) (tree_at s c.args.e) can.typed h (tree_at s c.in-Three.a) (tree_at s c.in-Three.b) (tree_at s c.in-Three.c) e in
    let v0 : Grows s s = Grows_refl s in
    let k : CanImage (ro s) (R s) s c.args.known.now c.in-Three.a = go_on ro R stays ready s s v0 can.is_ready c.in-Three.a held_a c.args.known.now xs.0 can.known in
    search rules

pub over_parts-image_of-requires-in-Three-2 : goal.over_parts-image_of-requires-in-Three-2
over_parts-image_of-requires-in-Three-2 g t c κs within =
    let s = g.G.Grow.trees c.args.g.now in
    let ro = g.R.NodeRule.rule_over c.args.rule.now in
    let R = g.R.NodeRule.Ready c.args.rule.now in
    let stays = g.met.R.NodeRule.stays c.args.rule.now in
    let ready = g.met.R.NodeRule.stays_ready c.args.rule.now in
    let can = c.requires in
    let h = head_of_node c.node_of-node.result in
    let e : tree_at s c.args.e ≡ Three h (tree_at s c.in-Three.a) (tree_at s c.in-Three.b) (tree_at s c.in-Three.c) = c.node_of-node.ensures.tree ∙ ap (assemble s h) (sym c.in-Three.ensures) in
    let below : (c.in-Three.a.0 < c.args.e.0) × (c.in-Three.b.0 < c.args.e.0) × (c.in-Three.c.0 < c.args.e.0) = rw (← c.in-Three.ensures) at c.node_of-node.ensures.below in
    let held_a : Holds s c.in-Three.a = omega (arith, below.0, can.held) in
    let held_b : Holds s c.in-Three.b = omega (arith, below.1, can.held) in
    let held_c : Holds s c.in-Three.c = omega (arith, below.2, can.held) in
    let xs = three_parts (ro s) (tree_at s c.args.e) can.typed h (tree_at s c.in-Three.a) (tree_at s c.in-Three.b) (tree_at s c.in-Three.c) e in
    let v0 : Grows s s = Grows_refl s in
    let s1 = g.G.Grow.trees c.image_of-in-Three.new.g in
    let w1 : Grows s s1 = g.met.G.Grow.keeps_trees _ _ c.in_ok-x-in-Three.ensures.grows in
    let v1 : Grows s s1 = w1 in
    let r1 : IsImaged (ro s) (tree_at s c.in-Three.a) s1 c.image_of-in-Three.new.known c.in_ok-x-in-Three.x = as_before ro R stays ready s s v0 can.is_ready c.in-Three.a held_a s1 c.image_of-in-Three.new.known c.in_ok-x-in-Three.x c.in_ok-x-in-Three.ensures.imaged in
    let k : CanImage (ro s1) (R s1) s1 c.image_of-in-Three.new.known c.in-Three.b = go_on ro R stays ready s s1 v1 can.is_ready c.in-Three.b held_b c.image_of-in-Three.new.known xs.1.0 r1.known in
    search rules

pub over_parts-image_of-requires-in-Three-3 : goal.over_parts-image_of-requires-in-Three-3
over_parts-image_of-requires-in-Three-3 g t c κs within =
    let s = g.G.Grow.trees c.args.g.now in
    let ro = g.R.NodeRule.rule_over c.args.rule.now in
    let R = g.R.NodeRule.Ready c.args.rule.now in
    let stays = g.met.R.NodeRule.stays c.args.rule.now in
    let ready = g.met.R.NodeRule.stays_ready c.args.rule.now in
    let can = c.requires in
    let h = head_of_node c.node_of-node.result in
    let e : tree_at s c.args.e ≡ Three h (tree_at s c.in-Three.a) (tree_at s c.in-Three.b) (tree_at s c.in-Three.c) = c.node_of-node.ensures.tree ∙ ap (assemble s h) (sym c.in-Three.ensures) in
    let below : (c.in-Three.a.0 < c.args.e.0) × (c.in-Three.b.0 < c.args.e.0) × (c.in-Three.c.0 < c.args.e.0) = rw (← c.in-Three.ensures) at c.node_of-node.ensures.below in
    let held_a : Holds s c.in-Three.a = omega (arith, below.0, can.held) in
    let held_b : Holds s c.in-Three.b = omega (arith, below.1, can.held) in
    let held_c : Holds s c.in-Three.c = omega (arith, below.2, can.held) in
    let xs = three_parts (ro s) (tree_at s c.args.e) can.typed h (tree_at s c.in-Three.a) (tree_at s c.in-Three.b) (tree_at s c.in-Three.c) e in
    let v0 : Grows s s = Grows_refl s in
    let s1 = g.G.Grow.trees c.image_of-in-Three.new.g in
    let w1 : Grows s s1 = g.met.G.Grow.keeps_trees _ _ c.in_ok-x-in-Three.ensures.grows in
    let v1 : Grows s s1 = w1 in
    let r1 : IsImaged (ro s) (tree_at s c.in-Three.a) s1 c.image_of-in-Three.new.known c.in_ok-x-in-Three.x = as_before ro R stays ready s s v0 can.is_ready c.in-Three.a held_a s1 c.image_of-in-Three.new.known c.in_ok-x-in-Three.x c.in_ok-x-in-Three.ensures.imaged in
    let s2 = g.G.Grow.trees c.image_of-in-Three-2.new.g in
    let w2 : Grows s1 s2 = g.met.G.Grow.keeps_trees _ _ c.in_ok-y-in-Three.ensures.grows in
    let v2 : Grows s s2 = Grows_trans s s1 s2 v1 w2 in
    let r2 : IsImaged (ro s) (tree_at s c.in-Three.b) s2 c.image_of-in-Three-2.new.known c.in_ok-y-in-Three.y = as_before ro R stays ready s s1 v1 can.is_ready c.in-Three.b held_b s2 c.image_of-in-Three-2.new.known c.in_ok-y-in-Three.y c.in_ok-y-in-Three.ensures.imaged in
    let k : CanImage (ro s2) (R s2) s2 c.image_of-in-Three-2.new.known c.in-Three.c = go_on ro R stays ready s s2 v2 can.is_ready c.in-Three.c held_c c.image_of-in-Three-2.new.known xs.1.1 r2.known in
    search rules

pub over_parts-remake-requires-in-Three-clause-fits : goal.over_parts-remake-requires-in-Three-clause-fits
over_parts-remake-requires-in-Three-clause-fits g t c =
    let s = g.G.Grow.trees c.args.g.now in
    let ro = g.R.NodeRule.rule_over c.args.rule.now in
    let R = g.R.NodeRule.Ready c.args.rule.now in
    let stays = g.met.R.NodeRule.stays c.args.rule.now in
    let ready = g.met.R.NodeRule.stays_ready c.args.rule.now in
    let can = c.requires in
    let h = head_of_node c.node_of-node.result in
    let e : tree_at s c.args.e ≡ Three h (tree_at s c.in-Three.a) (tree_at s c.in-Three.b) (tree_at s c.in-Three.c) = c.node_of-node.ensures.tree ∙ ap (assemble s h) (sym c.in-Three.ensures) in
    let below : (c.in-Three.a.0 < c.args.e.0) × (c.in-Three.b.0 < c.args.e.0) × (c.in-Three.c.0 < c.args.e.0) = rw (← c.in-Three.ensures) at c.node_of-node.ensures.below in
    let held_a : Holds s c.in-Three.a = omega (arith, below.0, can.held) in
    let held_b : Holds s c.in-Three.b = omega (arith, below.1, can.held) in
    let held_c : Holds s c.in-Three.c = omega (arith, below.2, can.held) in
    let xs = three_parts (ro s) (tree_at s c.args.e) can.typed h (tree_at s c.in-Three.a) (tree_at s c.in-Three.b) (tree_at s c.in-Three.c) e in
    let v0 : Grows s s = Grows_refl s in
    let s1 = g.G.Grow.trees c.image_of-in-Three.new.g in
    let w1 : Grows s s1 = g.met.G.Grow.keeps_trees _ _ c.in_ok-x-in-Three.ensures.grows in
    let v1 : Grows s s1 = w1 in
    let r1 : IsImaged (ro s) (tree_at s c.in-Three.a) s1 c.image_of-in-Three.new.known c.in_ok-x-in-Three.x = as_before ro R stays ready s s v0 can.is_ready c.in-Three.a held_a s1 c.image_of-in-Three.new.known c.in_ok-x-in-Three.x c.in_ok-x-in-Three.ensures.imaged in
    let s2 = g.G.Grow.trees c.image_of-in-Three-2.new.g in
    let w2 : Grows s1 s2 = g.met.G.Grow.keeps_trees _ _ c.in_ok-y-in-Three.ensures.grows in
    let v2 : Grows s s2 = Grows_trans s s1 s2 v1 w2 in
    let r2 : IsImaged (ro s) (tree_at s c.in-Three.b) s2 c.image_of-in-Three-2.new.known c.in_ok-y-in-Three.y = as_before ro R stays ready s s1 v1 can.is_ready c.in-Three.b held_b s2 c.image_of-in-Three-2.new.known c.in_ok-y-in-Three.y c.in_ok-y-in-Three.ensures.imaged in
    let s3 = g.G.Grow.trees c.image_of-in-Three-3.new.g in
    let w3 : Grows s2 s3 = g.met.G.Grow.keeps_trees _ _ c.in_ok-z-in-Three.ensures.grows in
    let v3 : Grows s s3 = Grows_trans s s2 s3 v2 w3 in
    let r3 : IsImaged (ro s) (tree_at s c.in-Three.c) s3 c.image_of-in-Three-3.new.known c.in_ok-z-in-Three.z = as_before ro R stays ready s s2 v2 can.is_ready c.in-Three.c held_c s3 c.image_of-in-Three-3.new.known c.in_ok-z-in-Three.z c.in_ok-z-in-Three.ensures.imaged in
    let i1 : tree_at s3 c.in_ok-x-in-Three.x ≡ image (ro s).rule (tree_at s c.in-Three.a) = (Grows_trans s1 s2 s3 w2 w3).same c.in_ok-x-in-Three.x.0 r1.held ∙ r1.is in
    let i2 : tree_at s3 c.in_ok-y-in-Three.y ≡ image (ro s).rule (tree_at s c.in-Three.b) = w3.same c.in_ok-y-in-Three.y.0 r2.held ∙ r2.is in
    let i3 : tree_at s3 c.in_ok-z-in-Three.z ≡ image (ro s).rule (tree_at s c.in-Three.c) = r3.is in
    three_fit (ro s) (g.met.R.NodeRule.keeps c.args.rule.now s can.is_ready) (tree_at s c.args.e) can.typed h (tree_at s c.in-Three.a) (tree_at s c.in-Three.b) (tree_at s c.in-Three.c) _ _ _ e i1 i2 i3 c.node_of-node.ensures.fits

pub over_parts-returns-in_ok-z-in-Three-clause-over : goal.over_parts-returns-in_ok-z-in-Three-clause-over
over_parts-returns-in_ok-z-in-Three-clause-over g t c =
    let s = g.G.Grow.trees c.args.g.now in
    let ro = g.R.NodeRule.rule_over c.args.rule.now in
    let R = g.R.NodeRule.Ready c.args.rule.now in
    let stays = g.met.R.NodeRule.stays c.args.rule.now in
    let ready = g.met.R.NodeRule.stays_ready c.args.rule.now in
    let can = c.requires in
    let h = head_of_node c.node_of-node.result in
    let e : tree_at s c.args.e ≡ Three h (tree_at s c.in-Three.a) (tree_at s c.in-Three.b) (tree_at s c.in-Three.c) = c.node_of-node.ensures.tree ∙ ap (assemble s h) (sym c.in-Three.ensures) in
    let below : (c.in-Three.a.0 < c.args.e.0) × (c.in-Three.b.0 < c.args.e.0) × (c.in-Three.c.0 < c.args.e.0) = rw (← c.in-Three.ensures) at c.node_of-node.ensures.below in
    let held_a : Holds s c.in-Three.a = omega (arith, below.0, can.held) in
    let held_b : Holds s c.in-Three.b = omega (arith, below.1, can.held) in
    let held_c : Holds s c.in-Three.c = omega (arith, below.2, can.held) in
    let xs = three_parts (ro s) (tree_at s c.args.e) can.typed h (tree_at s c.in-Three.a) (tree_at s c.in-Three.b) (tree_at s c.in-Three.c) e in
    let v0 : Grows s s = Grows_refl s in
    let s1 = g.G.Grow.trees c.image_of-in-Three.new.g in
    let w1 : Grows s s1 = g.met.G.Grow.keeps_trees _ _ c.in_ok-x-in-Three.ensures.grows in
    let v1 : Grows s s1 = w1 in
    let r1 : IsImaged (ro s) (tree_at s c.in-Three.a) s1 c.image_of-in-Three.new.known c.in_ok-x-in-Three.x = as_before ro R stays ready s s v0 can.is_ready c.in-Three.a held_a s1 c.image_of-in-Three.new.known c.in_ok-x-in-Three.x c.in_ok-x-in-Three.ensures.imaged in
    let s2 = g.G.Grow.trees c.image_of-in-Three-2.new.g in
    let w2 : Grows s1 s2 = g.met.G.Grow.keeps_trees _ _ c.in_ok-y-in-Three.ensures.grows in
    let v2 : Grows s s2 = Grows_trans s s1 s2 v1 w2 in
    let r2 : IsImaged (ro s) (tree_at s c.in-Three.b) s2 c.image_of-in-Three-2.new.known c.in_ok-y-in-Three.y = as_before ro R stays ready s s1 v1 can.is_ready c.in-Three.b held_b s2 c.image_of-in-Three-2.new.known c.in_ok-y-in-Three.y c.in_ok-y-in-Three.ensures.imaged in
    let s3 = g.G.Grow.trees c.image_of-in-Three-3.new.g in
    let w3 : Grows s2 s3 = g.met.G.Grow.keeps_trees _ _ c.in_ok-z-in-Three.ensures.grows in
    let v3 : Grows s s3 = Grows_trans s s2 s3 v2 w3 in
    let r3 : IsImaged (ro s) (tree_at s c.in-Three.c) s3 c.image_of-in-Three-3.new.known c.in_ok-z-in-Three.z = as_before ro R stays ready s s2 v2 can.is_ready c.in-Three.c held_c s3 c.image_of-in-Three-3.new.known c.in_ok-z-in-Three.z c.in_ok-z-in-Three.ensures.imaged in
    let i1 : tree_at s3 c.in_ok-x-in-Three.x ≡ image (ro s).rule (tree_at s c.in-Three.a) = (Grows_trans s1 s2 s3 w2 w3).same c.in_ok-x-in-Three.x.0 r1.held ∙ r1.is in
    let i2 : tree_at s3 c.in_ok-y-in-Three.y ≡ image (ro s).rule (tree_at s c.in-Three.b) = w3.same c.in_ok-y-in-Three.y.0 r2.held ∙ r2.is in
    let i3 : tree_at s3 c.in_ok-z-in-Three.z ≡ image (ro s).rule (tree_at s c.in-Three.c) = r3.is in
    let u = g.G.Grow.trees c.remake-in-Three.new.g in
    let wu : Grows s3 u = g.met.G.Grow.keeps_trees _ _ c.remake-in-Three.ensures.grows in
    IfOk-both c.remake-in-Three.result _ _ _
    (λ id b d. record { held = b; is = d ∙ three_over (ro s) (tree_at s c.args.e) h (tree_at s c.in-Three.a) (tree_at s c.in-Three.b) (tree_at s c.in-Three.c) _ _ _ e i1 i2 i3; known = known_later (ro s) s3 u c.image_of-in-Three-3.new.known wu r3.known })
    c.remake-in-Three.ensures.held c.remake-in-Three.ensures.tree

pub over_parts-returns-in_ok-z-in-Three-clause-grows : goal.over_parts-returns-in_ok-z-in-Three-clause-grows
over_parts-returns-in_ok-z-in-Three-clause-grows g t c =
    g.met.G.Grow.grows_trans _ _ _ c.in_ok-x-in-Three.ensures.grows (g.met.G.Grow.grows_trans _ _ _ c.in_ok-y-in-Three.ensures.grows (g.met.G.Grow.grows_trans _ _ _ c.in_ok-z-in-Three.ensures.grows c.remake-in-Three.ensures.grows))

pub over_parts-returns-in_err-y-in-Three-clause-grows : goal.over_parts-returns-in_err-y-in-Three-clause-grows
over_parts-returns-in_err-y-in-Three-clause-grows g t c =
    g.met.G.Grow.grows_trans _ _ _ c.in_ok-x-in-Three.ensures.grows c.image_of-in-Three-2.ensures.grows

pub over_parts-returns-in_err-z-in-Three-clause-grows : goal.over_parts-returns-in_err-z-in-Three-clause-grows
over_parts-returns-in_err-z-in-Three-clause-grows g t c =
    g.met.G.Grow.grows_trans _ _ _ c.in_ok-x-in-Three.ensures.grows (g.met.G.Grow.grows_trans _ _ _ c.in_ok-y-in-Three.ensures.grows c.image_of-in-Three-3.ensures.grows)
