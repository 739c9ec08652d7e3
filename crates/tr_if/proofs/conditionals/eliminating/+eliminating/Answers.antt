use Rattle.std.proofs.Common.{◌≡◌, ◌<◌, IfErr, subst, sym, ap, ◌∙◌, arith}
use Rattle.std.proofs.lemmas.Result.{IfOk-weaker}
use Rattle.trees.specs.Tree.{One, Two, Three, size}
use Rattle.trees.specs.Node.{tree_at, node_tree, assemble, head_of_node, parts_of, Holds, Grows}
use Rattle.trees.specs.Sorts.{Fits}
use Rattle.trees.proofs.Nodes.{Grows_trans}
use Rattle.tr_if.specs.conditionals.Conditionals.{without_ifs}
use Rattle.tr_if.specs.conditionals.Held.{IsEliminated, IsGrowthFault}
use Rattle.tr_if.proofs.conditionals.ByFirst.{growth_passed}
use Rattle.tr_if.proofs.conditionals.EliminatedParts.{over_large, whole_is, whole_large, over_fit, part_later, one_is, two_is, three_is}
use Rattle.tr_if.proofs.conditionals.eliminating.+eliminating.Goals as goal

pub eliminate_ifs-returns-in_err-over-clause-fault : goal.eliminate_ifs-returns-in_err-over-clause-fault
eliminate_ifs-returns-in_err-over-clause-fault t c = growth_passed c.from_residual.result _ _ c.from_residual.ensures.1 (over_large (tree_at c.args.store.now c.args.e) _ c.in_err-over.ensures.fault)

pub eliminate_in_parts-add-requires-clause-fits : goal.eliminate_in_parts-add-requires-clause-fits
eliminate_in_parts-add-requires-clause-fits t c =
    let s = c.args.store.now in
    let e = c.args.e in
    let h = head_of_node c.node-node.result in
    let q : tree_at s e ≡ One h (tree_at s c.in-One.a) = c.node-node.ensures.tree ∙ ap (assemble s h) (sym c.in-One.ensures) in
    let s1 = c.eliminate_ifs.new.store in
    let n : node_tree s1 c.with_parts.result ≡ One h (tree_at s1 c.in_ok-x-in-One.x) = ap (λ z. assemble s1 z (parts_of c.with_parts.result)) c.with_parts.ensures.head ∙ ap (assemble s1 h) c.with_parts.ensures.parts in
    subst Fits (sym (n ∙ one_is (tree_at s e) (tree_at s c.in-One.a) (tree_at s1 c.in_ok-x-in-One.x) h q c.in_ok-x-in-One.ensures.eliminated.is)) (over_fit s e c.requires c.node-node.ensures.fits)

pub eliminate_in_parts-add-requires-in-Two-clause-fits : goal.eliminate_in_parts-add-requires-in-Two-clause-fits
eliminate_in_parts-add-requires-in-Two-clause-fits t c =
    let s = c.args.store.now in
    let e = c.args.e in
    let a = c.in-Two.a in
    let b = c.in-Two.b in
    let h = head_of_node c.node-node.result in
    let q : tree_at s e ≡ Two h (tree_at s a) (tree_at s b) = c.node-node.ensures.tree ∙ ap (assemble s h) (sym c.in-Two.ensures) in
    let below : (a.0 < e.0) × (b.0 < e.0) = rw (← c.in-Two.ensures) at c.node-node.ensures.below in
    let hb : Holds s b = omega (arith, below.1, c.requires.held) in
    let s1 = c.eliminate_ifs-in-Two.new.store in
    let s2 = c.eliminate_ifs-in-Two-2.new.store in
    let w1 : Grows s s1 = c.in_ok-x-in-Two.ensures.grows in
    let w2 : Grows s1 s2 = c.in_ok-y-in-Two.ensures.grows in
    let x = c.in_ok-x-in-Two.x in
    let y = c.in_ok-y-in-Two.y in
    let m = part_later s1 s2 w2 (tree_at s a) x c.in_ok-x-in-Two.ensures.eliminated in
    let o : tree_at s2 y ≡ without_ifs (tree_at s b) = c.in_ok-y-in-Two.ensures.eliminated.is ∙ ap without_ifs (w1.same b.0 hb) in
    let n : node_tree s2 c.with_parts-in-Two.result ≡ Two h (tree_at s2 x) (tree_at s2 y) = ap (λ z. assemble s2 z (parts_of c.with_parts-in-Two.result)) c.with_parts-in-Two.ensures.head ∙ ap (assemble s2 h) c.with_parts-in-Two.ensures.parts in
    subst Fits (sym (n ∙ two_is (tree_at s e) (tree_at s a) (tree_at s b) (tree_at s2 x) (tree_at s2 y) h q m o)) (over_fit s e c.requires c.node-node.ensures.fits)

pub eliminate_in_parts-add-requires-in-Three-clause-fits : goal.eliminate_in_parts-add-requires-in-Three-clause-fits
eliminate_in_parts-add-requires-in-Three-clause-fits t c =
    let s = c.args.store.now in
    let e = c.args.e in
    let a = c.in-Three.a in
    let b = c.in-Three.b in
    let d = c.in-Three.c in
    let h = head_of_node c.node-node.result in
    let q : tree_at s e ≡ Three h (tree_at s a) (tree_at s b) (tree_at s d) = c.node-node.ensures.tree ∙ ap (assemble s h) (sym c.in-Three.ensures) in
    let below : (a.0 < e.0) × (b.0 < e.0) × (d.0 < e.0) = rw (← c.in-Three.ensures) at c.node-node.ensures.below in
    let hb : Holds s b = omega (arith, below.1, c.requires.held) in
    let hd : Holds s d = omega (arith, below.2, c.requires.held) in
    let s1 = c.eliminate_ifs-in-Three.new.store in
    let s2 = c.eliminate_ifs-in-Three-2.new.store in
    let s3 = c.eliminate_ifs-in-Three-3.new.store in
    let w1 : Grows s s1 = c.in_ok-x-in-Three.ensures.grows in
    let w2 : Grows s1 s2 = c.in_ok-y-in-Three.ensures.grows in
    let w3 : Grows s2 s3 = c.in_ok-z-in-Three.ensures.grows in
    let x = c.in_ok-x-in-Three.x in
    let y = c.in_ok-y-in-Three.y in
    let z = c.in_ok-z-in-Three.z in
    let m = part_later s1 s3 (Grows_trans s1 s2 s3 w2 w3) (tree_at s a) x c.in_ok-x-in-Three.ensures.eliminated in
    let o : tree_at s3 y ≡ without_ifs (tree_at s b) = part_later s2 s3 w3 (tree_at s1 b) y c.in_ok-y-in-Three.ensures.eliminated ∙ ap without_ifs (w1.same b.0 hb) in
    let u : tree_at s3 z ≡ without_ifs (tree_at s d) = c.in_ok-z-in-Three.ensures.eliminated.is ∙ ap without_ifs ((Grows_trans s s1 s2 w1 w2).same d.0 hd) in
    let n : node_tree s3 c.with_parts-in-Three.result ≡ Three h (tree_at s3 x) (tree_at s3 y) (tree_at s3 z) = ap (λ k. assemble s3 k (parts_of c.with_parts-in-Three.result)) c.with_parts-in-Three.ensures.head ∙ ap (assemble s3 h) c.with_parts-in-Three.ensures.parts in
    subst Fits (sym (n ∙ three_is (tree_at s e) (tree_at s a) (tree_at s b) (tree_at s d) (tree_at s3 x) (tree_at s3 y) (tree_at s3 z) h q m o u)) (over_fit s e c.requires c.node-node.ensures.fits)

pub eliminate_ifs-returns-in_err-made-clause-fault : goal.eliminate_ifs-returns-in_err-made-clause-fault
eliminate_ifs-returns-in_err-made-clause-fault t c =
    let s = c.args.store.now in
    let s1 = c.eliminate_in_parts.new.store in
    growth_passed c.from_residual-in_err-made.result _ _ c.from_residual-in_err-made.ensures.1 (whole_large (tree_at s c.args.e) (tree_at s1 c.in_ok-over.over) _ c.in_ok-over.ensures.over.is c.in_err-made.ensures.fault)

pub eliminate_ifs-returns-clause-eliminated : goal.eliminate_ifs-returns-clause-eliminated
eliminate_ifs-returns-clause-eliminated t c =
    let s = c.args.store.now in
    let s1 = c.eliminate_in_parts.new.store in
    let s2 = c.by_rule.new.store in
    let m : tree_at s2 c.in_ok-made.made ≡ without_ifs (tree_at s c.args.e) = whole_is (tree_at s c.args.e) (tree_at s1 c.in_ok-over.over) (tree_at s2 c.in_ok-made.made) c.in_ok-over.ensures.over.is c.in_ok-made.ensures.ruled.is in
    IfOk-weaker c.bounded.result _ _ (λ id q. subst (IsEliminated (tree_at s c.args.e) s2) (sym q) (record { held = c.in_ok-made.ensures.ruled.held; is = m })) c.bounded.ensures.ok

pub eliminate_ifs-returns-clause-fault : goal.eliminate_ifs-returns-clause-fault
eliminate_ifs-returns-clause-fault t c =
    let s = c.args.store.now in
    let s1 = c.eliminate_in_parts.new.store in
    let s2 = c.by_rule.new.store in
    let m : tree_at s2 c.in_ok-made.made ≡ without_ifs (tree_at s c.args.e) = whole_is (tree_at s c.args.e) (tree_at s1 c.in_ok-over.over) (tree_at s2 c.in_ok-made.made) c.in_ok-over.ensures.over.is c.in_ok-made.ensures.ruled.is in
    subst (λ n. IfErr c.bounded.result (IsGrowthFault n)) (ap size m) c.bounded.ensures.fault
