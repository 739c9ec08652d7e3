use Rattle.std.proofs.Common.{◌≡◌, ◌<◌, rules, sym, ap, subst, ◌∙◌, arith}
use Rattle.trees.specs.Tree.{Tree, One, Two, Three}
use Rattle.trees.specs.Node.{tree_at, Holds, Grows, assemble, head_of_node}
use Rattle.trees.specs.Sorts.{Fits}
use Rattle.trees.proofs.Nodes.{Grows_refl, Grows_trans}
use Rattle.clones.specs.Mapped.{Map, one_mapped, head_mapped}
use Rattle.clones.specs.Meaning.{map_at, MapHeld, IsAlike, IsMapped, AreKnown}
use Rattle.clones.proofs.Alike.{two_fits, three_fits, two_alike, three_alike, alike_then, one_over, one_moved}
use Rattle.clones.proofs.Steps.{map_stays, map_held, mapped_later, known_later, known_more, known_on, known_back, mapped_back, one_made, two_made, three_made, ok_any}
use Rattle.clones.proofs.maps.+mapping.Goals as goal
use Rattle.tasks.proofs.plain_laws.Results.{if_ok_both as ok_both}
use Rattle.tasks.proofs.outside.Passed.{no_ok, no_value}

pub map_tree-returns-in-Some-clause-mapped : goal.map_tree-returns-in-Some-clause-mapped
map_tree-returns-in-Some-clause-mapped t c = (c.requires.known.each c.args.e.0 c.in-Some.made.now (sym c.in-Some.ensures.value)).1

pub map_tree-returns-clause-known : goal.map_tree-returns-clause-known
map_tree-returns-clause-known t c =
    let s = c.args.store.now in
    let s1 = c.map_parts.new.store in
    let m = map_at s c.args.map.now in
    let w : Grows s s1 = c.in_ok-made.ensures.grows in
    let there : Holds s1 c.args.e = omega (arith, c.requires.held, w.longer) in
    let is : IsMapped m (tree_at s1 c.args.e) s1 c.in_ok-made.made = subst (λ (x : Tree). IsMapped m x s1 c.in_ok-made.made) (sym (w.same c.args.e.0 c.requires.held)) c.in_ok-made.ensures.mapped in
    known_more m s1 c.map_parts.new.known c.insert.new.self c.args.e c.in_ok-made.made c.in_ok-made.ensures.known there is c.in_ok-insert.ensures.updates.0

pub map_parts-map_one-requires-clause-map_held : goal.map_parts-map_one-requires-clause-map_held
map_parts-map_one-requires-clause-map_held t c = map_held c.args.store.now c.map_tree.new.store c.in_ok-x-in-One.ensures.grows c.args.map.now c.requires.map_held

pub map_parts-map_one-requires-clause-fits : goal.map_parts-map_one-requires-clause-fits
map_parts-map_one-requires-clause-fits t c =
    let s = c.args.store.now in
    let h = head_of_node c.node-node.result in
    let e : tree_at s c.args.e ≡ One h (tree_at s c.in-One.a) = c.node-node.ensures.tree ∙ ap (assemble s h) (sym c.in-One.ensures) in
    one_moved h (tree_at s c.in-One.a) _ c.in_ok-x-in-One.ensures.mapped.alike (subst Fits e c.node-node.ensures.fits)

pub map_parts-returns-in_ok-x-in-One-clause-mapped : goal.map_parts-returns-in_ok-x-in-One-clause-mapped
map_parts-returns-in_ok-x-in-One-clause-mapped t c =
    let s = c.args.store.now in
    let s1 = c.map_tree.new.store in
    let s2 = c.map_one.new.store in
    let m = map_at s c.args.map.now in
    let h = head_of_node c.node-node.result in
    let a = tree_at s c.in-One.a in
    let x = tree_at s1 c.in_ok-x-in-One.x in
    let w : Grows s s1 = c.in_ok-x-in-One.ensures.grows in
    let r : IsMapped m a s1 c.in_ok-x-in-One.x = c.in_ok-x-in-One.ensures.mapped in
    let e : tree_at s c.args.e ≡ One h a = c.node-node.ensures.tree ∙ ap (assemble s h) (sym c.in-One.ensures) in
    let stays : map_at s1 c.args.map.now ≡ m = map_stays s s1 w c.args.map.now c.requires.map_held in
    ok_both c.map_one.result _ _ _
    (λ id p q. record {
      held = p.0;
      is = one_made m (tree_at s c.args.e) h a x (tree_at s2 id) e r.is (p.1 ∙ ap (λ (v : Map). one_mapped v h x) stays);
      alike = subst (λ (v : Tree). IsAlike v (tree_at s2 id)) (sym e) (alike_then (One h a) (One h x) (tree_at s2 id) (one_over h a x) q);
    })
    (ok_both c.map_one.result _ _ (λ id. Holds s2 id × (tree_at s2 id ≡ one_mapped (map_at s1 c.args.map.now) h x)) (λ id p q. (p, q)) c.map_one.ensures.held c.map_one.ensures.tree)
    c.map_one.ensures.alike

pub map_parts-returns-in_ok-x-in-One-clause-known : goal.map_parts-returns-in_ok-x-in-One-clause-known
map_parts-returns-in_ok-x-in-One-clause-known t c = ok_any c.map_one.result (known_later (map_at c.args.store.now c.args.map.now) c.map_tree.new.store c.map_one.new.store c.map_tree.new.known c.map_one.ensures.grows c.in_ok-x-in-One.ensures.known)

pub map_parts-map_tree-requires-in-Two-2 : goal.map_parts-map_tree-requires-in-Two-2
map_parts-map_tree-requires-in-Two-2 t c =
    let s = c.args.store.now in
    let s1 = c.map_tree-in-Two.new.store in
    let m = c.args.map.now in
    let w : Grows s s1 = c.in_ok-x-in-Two.ensures.grows in
    let below : (c.in-Two.a.0 < c.args.e.0) × (c.in-Two.b.0 < c.args.e.0) = rw (← c.in-Two.ensures) at c.node-node.ensures.below in
    let b_held : Holds s1 c.in-Two.b = omega (arith, below.1, c.requires.held, w.longer) in
    let held : MapHeld s1 m = map_held s s1 w m c.requires.map_held in
    let known : AreKnown (map_at s1 m) s1 c.map_tree-in-Two.new.known = known_on m s s1 w c.requires.map_held c.map_tree-in-Two.new.known c.in_ok-x-in-Two.ensures.known in
    search rules

pub map_parts-remake-requires-clause-fits : goal.map_parts-remake-requires-clause-fits
map_parts-remake-requires-clause-fits t c =
    let s = c.args.store.now in
    let s1 = c.map_tree-in-Two.new.store in
    let s2 = c.map_tree-in-Two-2.new.store in
    let m = c.args.map.now in
    let h = head_of_node c.node-node.result in
    let a = tree_at s c.in-Two.a in
    let b = tree_at s c.in-Two.b in
    let w : Grows s s1 = c.in_ok-x-in-Two.ensures.grows in
    let w2 : Grows s1 s2 = c.in_ok-y-in-Two.ensures.grows in
    let below : (c.in-Two.a.0 < c.args.e.0) × (c.in-Two.b.0 < c.args.e.0) = rw (← c.in-Two.ensures) at c.node-node.ensures.below in
    let b_held : Holds s c.in-Two.b = omega (arith, below.1, c.requires.held) in
    let e : tree_at s c.args.e ≡ Two h a b = c.node-node.ensures.tree ∙ ap (assemble s h) (sym c.in-Two.ensures) in
    let r : IsMapped (map_at s m) a s2 c.in_ok-x-in-Two.x = mapped_later (map_at s m) a s1 s2 c.in_ok-x-in-Two.x w2 c.in_ok-x-in-Two.ensures.mapped in
    let q : IsMapped (map_at s m) b s2 c.in_ok-y-in-Two.y = mapped_back m s s1 w c.requires.map_held c.in-Two.b b_held s2 c.in_ok-y-in-Two.y c.in_ok-y-in-Two.ensures.mapped in
    two_fits (map_at s m).symbols h a b _ _ r.alike q.alike (subst Fits e c.node-node.ensures.fits)

pub map_parts-returns-in_ok-y-in-Two-clause-mapped : goal.map_parts-returns-in_ok-y-in-Two-clause-mapped
map_parts-returns-in_ok-y-in-Two-clause-mapped t c =
    let s = c.args.store.now in
    let s1 = c.map_tree-in-Two.new.store in
    let s2 = c.map_tree-in-Two-2.new.store in
    let s3 = c.remake.new.store in
    let m = c.args.map.now in
    let h = head_of_node c.node-node.result in
    let a = tree_at s c.in-Two.a in
    let b = tree_at s c.in-Two.b in
    let w : Grows s s1 = c.in_ok-x-in-Two.ensures.grows in
    let w2 : Grows s1 s2 = c.in_ok-y-in-Two.ensures.grows in
    let below : (c.in-Two.a.0 < c.args.e.0) × (c.in-Two.b.0 < c.args.e.0) = rw (← c.in-Two.ensures) at c.node-node.ensures.below in
    let b_held : Holds s c.in-Two.b = omega (arith, below.1, c.requires.held) in
    let e : tree_at s c.args.e ≡ Two h a b = c.node-node.ensures.tree ∙ ap (assemble s h) (sym c.in-Two.ensures) in
    let r : IsMapped (map_at s m) a s2 c.in_ok-x-in-Two.x = mapped_later (map_at s m) a s1 s2 c.in_ok-x-in-Two.x w2 c.in_ok-x-in-Two.ensures.mapped in
    let q : IsMapped (map_at s m) b s2 c.in_ok-y-in-Two.y = mapped_back m s s1 w c.requires.map_held c.in-Two.b b_held s2 c.in_ok-y-in-Two.y c.in_ok-y-in-Two.ensures.mapped in
    let x = tree_at s2 c.in_ok-x-in-Two.x in
    let y = tree_at s2 c.in_ok-y-in-Two.y in
    let f = (map_at s m).symbols in
    ok_both c.remake.result _ _ _
    (λ id p t. record {
      held = p;
      is = two_made (map_at s m) (tree_at s c.args.e) h a b x y (tree_at s3 id) e r.is q.is t;
      alike = subst (λ (v : Tree). IsAlike (tree_at s c.args.e) v) (sym t) (subst (λ (v : Tree). IsAlike v (Two (head_mapped f h) x y)) (sym e) (two_alike f h a b x y r.alike q.alike));
    })
    c.remake.ensures.held c.remake.ensures.tree

pub map_parts-returns-in_ok-y-in-Two-clause-known : goal.map_parts-returns-in_ok-y-in-Two-clause-known
map_parts-returns-in_ok-y-in-Two-clause-known t c =
    let s = c.args.store.now in
    let m = c.args.map.now in
    let back = known_back m s c.map_tree-in-Two.new.store c.in_ok-x-in-Two.ensures.grows c.requires.map_held c.map_tree-in-Two-2.new.store c.map_tree-in-Two-2.new.known c.in_ok-y-in-Two.ensures.known in
    ok_any c.remake.result (known_later (map_at s m) c.map_tree-in-Two-2.new.store c.remake.new.store c.map_tree-in-Two-2.new.known c.remake.ensures.grows back)

pub map_parts-map_tree-requires-in-Three-2 : goal.map_parts-map_tree-requires-in-Three-2
map_parts-map_tree-requires-in-Three-2 t c =
    let s = c.args.store.now in
    let s1 = c.map_tree-in-Three.new.store in
    let m = c.args.map.now in
    let w : Grows s s1 = c.in_ok-x-in-Three.ensures.grows in
    let below : (c.in-Three.a.0 < c.args.e.0) × (c.in-Three.b.0 < c.args.e.0) × (c.in-Three.c.0 < c.args.e.0) = rw (← c.in-Three.ensures) at c.node-node.ensures.below in
    let b_held : Holds s1 c.in-Three.b = omega (arith, below.1, c.requires.held, w.longer) in
    let held : MapHeld s1 m = map_held s s1 w m c.requires.map_held in
    let known : AreKnown (map_at s1 m) s1 c.map_tree-in-Three.new.known = known_on m s s1 w c.requires.map_held c.map_tree-in-Three.new.known c.in_ok-x-in-Three.ensures.known in
    search rules

pub map_parts-map_tree-requires-in-Three-3 : goal.map_parts-map_tree-requires-in-Three-3
map_parts-map_tree-requires-in-Three-3 t c =
    let s = c.args.store.now in
    let s1 = c.map_tree-in-Three.new.store in
    let m = c.args.map.now in
    let w : Grows s s1 = c.in_ok-x-in-Three.ensures.grows in
    let below : (c.in-Three.a.0 < c.args.e.0) × (c.in-Three.b.0 < c.args.e.0) × (c.in-Three.c.0 < c.args.e.0) = rw (← c.in-Three.ensures) at c.node-node.ensures.below in
    let s2 = c.map_tree-in-Three-2.new.store in
    let w2 : Grows s1 s2 = c.in_ok-y-in-Three.ensures.grows in
    let w02 : Grows s s2 = Grows_trans s s1 s2 w w2 in
    let back : AreKnown (map_at s m) s2 c.map_tree-in-Three-2.new.known = known_back m s s1 w c.requires.map_held s2 c.map_tree-in-Three-2.new.known c.in_ok-y-in-Three.ensures.known in
    let d_held : Holds s2 c.in-Three.c = omega (arith, below.2, c.requires.held, w02.longer) in
    let held : MapHeld s2 m = map_held s s2 w02 m c.requires.map_held in
    let known : AreKnown (map_at s2 m) s2 c.map_tree-in-Three-2.new.known = known_on m s s2 w02 c.requires.map_held c.map_tree-in-Three-2.new.known back in
    search rules

pub map_parts-remake-requires-in-Three-clause-fits : goal.map_parts-remake-requires-in-Three-clause-fits
map_parts-remake-requires-in-Three-clause-fits t c =
    let s = c.args.store.now in
    let s1 = c.map_tree-in-Three.new.store in
    let m = c.args.map.now in
    let w : Grows s s1 = c.in_ok-x-in-Three.ensures.grows in
    let below : (c.in-Three.a.0 < c.args.e.0) × (c.in-Three.b.0 < c.args.e.0) × (c.in-Three.c.0 < c.args.e.0) = rw (← c.in-Three.ensures) at c.node-node.ensures.below in
    let s2 = c.map_tree-in-Three-2.new.store in
    let w2 : Grows s1 s2 = c.in_ok-y-in-Three.ensures.grows in
    let w02 : Grows s s2 = Grows_trans s s1 s2 w w2 in
    let back : AreKnown (map_at s m) s2 c.map_tree-in-Three-2.new.known = known_back m s s1 w c.requires.map_held s2 c.map_tree-in-Three-2.new.known c.in_ok-y-in-Three.ensures.known in
    let s3 = c.map_tree-in-Three-3.new.store in
    let w3 : Grows s2 s3 = c.in_ok-z-in-Three.ensures.grows in
    let h = head_of_node c.node-node.result in
    let a = tree_at s c.in-Three.a in
    let b = tree_at s c.in-Three.b in
    let d = tree_at s c.in-Three.c in
    let b_held : Holds s c.in-Three.b = omega (arith, below.1, c.requires.held) in
    let d_held : Holds s c.in-Three.c = omega (arith, below.2, c.requires.held) in
    let e : tree_at s c.args.e ≡ Three h a b d = c.node-node.ensures.tree ∙ ap (assemble s h) (sym c.in-Three.ensures) in
    let f = (map_at s m).symbols in
    let r : IsMapped (map_at s m) a s3 c.in_ok-x-in-Three.x = mapped_later (map_at s m) a s1 s3 c.in_ok-x-in-Three.x (Grows_trans s1 s2 s3 w2 w3) c.in_ok-x-in-Three.ensures.mapped in
    let q : IsMapped (map_at s m) b s3 c.in_ok-y-in-Three.y = mapped_later (map_at s m) b s2 s3 c.in_ok-y-in-Three.y w3 (mapped_back m s s1 w c.requires.map_held c.in-Three.b b_held s2 c.in_ok-y-in-Three.y c.in_ok-y-in-Three.ensures.mapped) in
    let p : IsMapped (map_at s m) d s3 c.in_ok-z-in-Three.z = mapped_back m s s2 w02 c.requires.map_held c.in-Three.c d_held s3 c.in_ok-z-in-Three.z c.in_ok-z-in-Three.ensures.mapped in
    let x = tree_at s3 c.in_ok-x-in-Three.x in
    let y = tree_at s3 c.in_ok-y-in-Three.y in
    let z = tree_at s3 c.in_ok-z-in-Three.z in
    three_fits f h a b d x y z r.alike q.alike p.alike (subst Fits e c.node-node.ensures.fits)

pub map_parts-returns-in_ok-z-in-Three-clause-mapped : goal.map_parts-returns-in_ok-z-in-Three-clause-mapped
map_parts-returns-in_ok-z-in-Three-clause-mapped t c =
    let s = c.args.store.now in
    let s1 = c.map_tree-in-Three.new.store in
    let m = c.args.map.now in
    let w : Grows s s1 = c.in_ok-x-in-Three.ensures.grows in
    let below : (c.in-Three.a.0 < c.args.e.0) × (c.in-Three.b.0 < c.args.e.0) × (c.in-Three.c.0 < c.args.e.0) = rw (← c.in-Three.ensures) at c.node-node.ensures.below in
    let s2 = c.map_tree-in-Three-2.new.store in
    let w2 : Grows s1 s2 = c.in_ok-y-in-Three.ensures.grows in
    let w02 : Grows s s2 = Grows_trans s s1 s2 w w2 in
    let back : AreKnown (map_at s m) s2 c.map_tree-in-Three-2.new.known = known_back m s s1 w c.requires.map_held s2 c.map_tree-in-Three-2.new.known c.in_ok-y-in-Three.ensures.known in
    let s3 = c.map_tree-in-Three-3.new.store in
    let w3 : Grows s2 s3 = c.in_ok-z-in-Three.ensures.grows in
    let h = head_of_node c.node-node.result in
    let a = tree_at s c.in-Three.a in
    let b = tree_at s c.in-Three.b in
    let d = tree_at s c.in-Three.c in
    let b_held : Holds s c.in-Three.b = omega (arith, below.1, c.requires.held) in
    let d_held : Holds s c.in-Three.c = omega (arith, below.2, c.requires.held) in
    let e : tree_at s c.args.e ≡ Three h a b d = c.node-node.ensures.tree ∙ ap (assemble s h) (sym c.in-Three.ensures) in
    let f = (map_at s m).symbols in
    let r : IsMapped (map_at s m) a s3 c.in_ok-x-in-Three.x = mapped_later (map_at s m) a s1 s3 c.in_ok-x-in-Three.x (Grows_trans s1 s2 s3 w2 w3) c.in_ok-x-in-Three.ensures.mapped in
    let q : IsMapped (map_at s m) b s3 c.in_ok-y-in-Three.y = mapped_later (map_at s m) b s2 s3 c.in_ok-y-in-Three.y w3 (mapped_back m s s1 w c.requires.map_held c.in-Three.b b_held s2 c.in_ok-y-in-Three.y c.in_ok-y-in-Three.ensures.mapped) in
    let p : IsMapped (map_at s m) d s3 c.in_ok-z-in-Three.z = mapped_back m s s2 w02 c.requires.map_held c.in-Three.c d_held s3 c.in_ok-z-in-Three.z c.in_ok-z-in-Three.ensures.mapped in
    let x = tree_at s3 c.in_ok-x-in-Three.x in
    let y = tree_at s3 c.in_ok-y-in-Three.y in
    let z = tree_at s3 c.in_ok-z-in-Three.z in
    let s4 = c.remake-in-Three.new.store in
    ok_both c.remake-in-Three.result _ _ _
    (λ id l t. record {
      held = l;
      is = three_made (map_at s m) (tree_at s c.args.e) h a b d x y z (tree_at s4 id) e r.is q.is p.is t;
      alike = subst (λ (v : Tree). IsAlike (tree_at s c.args.e) v) (sym t) (subst (λ (v : Tree). IsAlike v (Three (head_mapped f h) x y z)) (sym e) (three_alike f h a b d x y z q.alike));
    })
    c.remake-in-Three.ensures.held c.remake-in-Three.ensures.tree

pub map_parts-returns-in_ok-z-in-Three-clause-known : goal.map_parts-returns-in_ok-z-in-Three-clause-known
map_parts-returns-in_ok-z-in-Three-clause-known t c =
    let s = c.args.store.now in
    let s1 = c.map_tree-in-Three.new.store in
    let m = c.args.map.now in
    let w : Grows s s1 = c.in_ok-x-in-Three.ensures.grows in
    let below : (c.in-Three.a.0 < c.args.e.0) × (c.in-Three.b.0 < c.args.e.0) × (c.in-Three.c.0 < c.args.e.0) = rw (← c.in-Three.ensures) at c.node-node.ensures.below in
    let s2 = c.map_tree-in-Three-2.new.store in
    let w2 : Grows s1 s2 = c.in_ok-y-in-Three.ensures.grows in
    let w02 : Grows s s2 = Grows_trans s s1 s2 w w2 in
    let back : AreKnown (map_at s m) s2 c.map_tree-in-Three-2.new.known = known_back m s s1 w c.requires.map_held s2 c.map_tree-in-Three-2.new.known c.in_ok-y-in-Three.ensures.known in
    let s3 = c.map_tree-in-Three-3.new.store in
    let known : AreKnown (map_at s m) s3 c.map_tree-in-Three-3.new.known = known_back m s s2 w02 c.requires.map_held s3 c.map_tree-in-Three-3.new.known c.in_ok-z-in-Three.ensures.known in
    ok_any c.remake-in-Three.result (known_later (map_at s m) s3 c.remake-in-Three.new.store c.map_tree-in-Three-3.new.known c.remake-in-Three.ensures.grows known)

pub map_tree-returns-in-Some-clause-known : goal.map_tree-returns-in-Some-clause-known
map_tree-returns-in-Some-clause-known t c = c.requires.known

pub map_tree-returns-in-Some-clause-grows : goal.map_tree-returns-in-Some-clause-grows
map_tree-returns-in-Some-clause-grows t c = Grows_refl c.args.store.now

pub map_tree-returns-in_err-made-clause-mapped : goal.map_tree-returns-in_err-made-clause-mapped
map_tree-returns-in_err-made-clause-mapped t c = no_value _ _ c.from_residual.result c.from_residual.ensures.1

pub map_tree-returns-in_err-made-clause-known : goal.map_tree-returns-in_err-made-clause-known
map_tree-returns-in_err-made-clause-known t c = no_ok _ _ c.from_residual.result c.from_residual.ensures.1

pub map_tree-returns-in_err-made-clause-grows : goal.map_tree-returns-in_err-made-clause-grows
map_tree-returns-in_err-made-clause-grows t c = c.map_parts.ensures.grows

pub map_tree-returns-in_err-insert-clause-mapped : goal.map_tree-returns-in_err-insert-clause-mapped
map_tree-returns-in_err-insert-clause-mapped t c = no_value _ _ c.from_residual-in_err-insert.result c.from_residual-in_err-insert.ensures.1

pub map_tree-returns-in_err-insert-clause-known : goal.map_tree-returns-in_err-insert-clause-known
map_tree-returns-in_err-insert-clause-known t c = no_ok _ _ c.from_residual-in_err-insert.result c.from_residual-in_err-insert.ensures.1

pub map_tree-returns-in_err-insert-clause-grows : goal.map_tree-returns-in_err-insert-clause-grows
map_tree-returns-in_err-insert-clause-grows t c = c.map_parts.ensures.grows

pub map_tree-returns-clause-mapped : goal.map_tree-returns-clause-mapped
map_tree-returns-clause-mapped t c = c.in_ok-made.ensures.mapped

pub map_tree-returns-clause-grows : goal.map_tree-returns-clause-grows
map_tree-returns-clause-grows t c = c.map_parts.ensures.grows

pub map_parts-returns-in_err-x-in-One-clause-mapped : goal.map_parts-returns-in_err-x-in-One-clause-mapped
map_parts-returns-in_err-x-in-One-clause-mapped t c = no_value _ _ c.from_residual.result c.from_residual.ensures.1

pub map_parts-returns-in_err-x-in-One-clause-known : goal.map_parts-returns-in_err-x-in-One-clause-known
map_parts-returns-in_err-x-in-One-clause-known t c = no_ok _ _ c.from_residual.result c.from_residual.ensures.1

pub map_parts-returns-in_err-x-in-One-clause-grows : goal.map_parts-returns-in_err-x-in-One-clause-grows
map_parts-returns-in_err-x-in-One-clause-grows t c = c.map_tree.ensures.grows

pub map_parts-returns-in_err-x-in-Two-clause-mapped : goal.map_parts-returns-in_err-x-in-Two-clause-mapped
map_parts-returns-in_err-x-in-Two-clause-mapped t c = no_value _ _ c.from_residual-in_err-x-in-Two.result c.from_residual-in_err-x-in-Two.ensures.1

pub map_parts-returns-in_err-x-in-Two-clause-known : goal.map_parts-returns-in_err-x-in-Two-clause-known
map_parts-returns-in_err-x-in-Two-clause-known t c = no_ok _ _ c.from_residual-in_err-x-in-Two.result c.from_residual-in_err-x-in-Two.ensures.1

pub map_parts-returns-in_err-x-in-Two-clause-grows : goal.map_parts-returns-in_err-x-in-Two-clause-grows
map_parts-returns-in_err-x-in-Two-clause-grows t c = c.map_tree-in-Two.ensures.grows

pub map_parts-returns-in_err-y-in-Two-clause-mapped : goal.map_parts-returns-in_err-y-in-Two-clause-mapped
map_parts-returns-in_err-y-in-Two-clause-mapped t c = no_value _ _ c.from_residual-in_err-y-in-Two.result c.from_residual-in_err-y-in-Two.ensures.1

pub map_parts-returns-in_err-y-in-Two-clause-known : goal.map_parts-returns-in_err-y-in-Two-clause-known
map_parts-returns-in_err-y-in-Two-clause-known t c = no_ok _ _ c.from_residual-in_err-y-in-Two.result c.from_residual-in_err-y-in-Two.ensures.1

pub map_parts-returns-in_err-y-in-Two-clause-grows : goal.map_parts-returns-in_err-y-in-Two-clause-grows
map_parts-returns-in_err-y-in-Two-clause-grows t c = Grows_trans c.args.store.now c.map_tree-in-Two.new.store c.map_tree-in-Two-2.new.store c.map_tree-in-Two.ensures.grows c.map_tree-in-Two-2.ensures.grows

pub map_parts-returns-in_err-x-in-Three-clause-mapped : goal.map_parts-returns-in_err-x-in-Three-clause-mapped
map_parts-returns-in_err-x-in-Three-clause-mapped t c = no_value _ _ c.from_residual-in_err-x-in-Three.result c.from_residual-in_err-x-in-Three.ensures.1

pub map_parts-returns-in_err-x-in-Three-clause-known : goal.map_parts-returns-in_err-x-in-Three-clause-known
map_parts-returns-in_err-x-in-Three-clause-known t c = no_ok _ _ c.from_residual-in_err-x-in-Three.result c.from_residual-in_err-x-in-Three.ensures.1

pub map_parts-returns-in_err-x-in-Three-clause-grows : goal.map_parts-returns-in_err-x-in-Three-clause-grows
map_parts-returns-in_err-x-in-Three-clause-grows t c = c.map_tree-in-Three.ensures.grows

pub map_parts-returns-in_err-y-in-Three-clause-mapped : goal.map_parts-returns-in_err-y-in-Three-clause-mapped
map_parts-returns-in_err-y-in-Three-clause-mapped t c = no_value _ _ c.from_residual-in_err-y-in-Three.result c.from_residual-in_err-y-in-Three.ensures.1

pub map_parts-returns-in_err-y-in-Three-clause-known : goal.map_parts-returns-in_err-y-in-Three-clause-known
map_parts-returns-in_err-y-in-Three-clause-known t c = no_ok _ _ c.from_residual-in_err-y-in-Three.result c.from_residual-in_err-y-in-Three.ensures.1

pub map_parts-returns-in_err-y-in-Three-clause-grows : goal.map_parts-returns-in_err-y-in-Three-clause-grows
map_parts-returns-in_err-y-in-Three-clause-grows t c = Grows_trans c.args.store.now c.map_tree-in-Three.new.store c.map_tree-in-Three-2.new.store c.map_tree-in-Three.ensures.grows c.map_tree-in-Three-2.ensures.grows

pub map_parts-returns-in_err-z-in-Three-clause-mapped : goal.map_parts-returns-in_err-z-in-Three-clause-mapped
map_parts-returns-in_err-z-in-Three-clause-mapped t c = no_value _ _ c.from_residual-in_err-z-in-Three.result c.from_residual-in_err-z-in-Three.ensures.1

pub map_parts-returns-in_err-z-in-Three-clause-known : goal.map_parts-returns-in_err-z-in-Three-clause-known
map_parts-returns-in_err-z-in-Three-clause-known t c = no_ok _ _ c.from_residual-in_err-z-in-Three.result c.from_residual-in_err-z-in-Three.ensures.1

pub map_parts-returns-in_err-z-in-Three-clause-grows : goal.map_parts-returns-in_err-z-in-Three-clause-grows
map_parts-returns-in_err-z-in-Three-clause-grows t c = Grows_trans c.args.store.now c.map_tree-in-Three-2.new.store c.map_tree-in-Three-3.new.store (Grows_trans c.args.store.now c.map_tree-in-Three.new.store c.map_tree-in-Three-2.new.store c.map_tree-in-Three.ensures.grows c.map_tree-in-Three-2.ensures.grows) c.map_tree-in-Three-3.ensures.grows

pub map_parts-returns-in-None-clause-known : goal.map_parts-returns-in-None-clause-known
map_parts-returns-in-None-clause-known t c = c.requires.known

pub map_parts-returns-in-None-clause-grows : goal.map_parts-returns-in-None-clause-grows
map_parts-returns-in-None-clause-grows t c = Grows_refl c.args.store.now

pub map_parts-returns-in_ok-x-in-One-clause-grows : goal.map_parts-returns-in_ok-x-in-One-clause-grows
map_parts-returns-in_ok-x-in-One-clause-grows t c = Grows_trans c.args.store.now c.map_tree.new.store c.map_one.new.store c.map_tree.ensures.grows c.map_one.ensures.grows

pub map_parts-returns-in_ok-y-in-Two-clause-grows : goal.map_parts-returns-in_ok-y-in-Two-clause-grows
map_parts-returns-in_ok-y-in-Two-clause-grows t c = Grows_trans c.args.store.now c.map_tree-in-Two-2.new.store c.remake.new.store (Grows_trans c.args.store.now c.map_tree-in-Two.new.store c.map_tree-in-Two-2.new.store c.map_tree-in-Two.ensures.grows c.map_tree-in-Two-2.ensures.grows) c.remake.ensures.grows

pub map_parts-returns-in_ok-z-in-Three-clause-grows : goal.map_parts-returns-in_ok-z-in-Three-clause-grows
map_parts-returns-in_ok-z-in-Three-clause-grows t c = Grows_trans c.args.store.now c.map_tree-in-Three-3.new.store c.remake-in-Three.new.store (Grows_trans c.args.store.now c.map_tree-in-Three-2.new.store c.map_tree-in-Three-3.new.store (Grows_trans c.args.store.now c.map_tree-in-Three.new.store c.map_tree-in-Three-2.new.store c.map_tree-in-Three.ensures.grows c.map_tree-in-Three-2.ensures.grows) c.map_tree-in-Three-3.ensures.grows) c.remake-in-Three.ensures.grows
