use Rattle.std.proofs.Common.{◌≡◌, ℕ, ◌+◌, ◌≤◌, min, sym, ap, subst, ◌∙◌, arith, rules}
use Rattle.trees.specs.Tree.{Head, head_of, loose}
use Rattle.trees.specs.Node.{tree_at, head_of_node, parts_of, assemble}
use Rattle.open_types.specs.Reordered.{HeadFits}
use Rattle.open_types.proofs.Reordering.{left_fits, leaf_fit, one_fit, two_fit, three_fit, fits_there, fits_more, looked, own_head}
use Rattle.open_types.proofs.reorder.+look.Goals as goal

pub look_at-returns-then-loose-depth : goal.look_at-returns-then-loose-depth
look_at-returns-then-loose-depth t c =
    let s = c.args.store.now in
    let e = tree_at s c.args.e in
    let l : loose e ≤ c.args.depth = omega (arith, c.loose.ensures, c.if-loose-depth.true) in
    record { fits = left_fits c.args.places.now c.args.depth e c.node-node.ensures.sorted l; others = c.requires.seen }

pub look_at-returns-then-contains : goal.look_at-returns-then-contains
look_at-returns-then-contains t c =
    record {
      fits = fits_there c.args.places.now c.args.store.now c.args.seen.now.keys c.args.e.0 c.args.depth c.requires.seen (sym c.contains.ensures ∙ c.if-contains.true);
      others = c.requires.seen;
    }

pub look_at-look_at_parts-requires : goal.look_at-look_at_parts-requires
look_at-look_at_parts-requires t c =
    let s = c.args.store.now in
    let ps = c.args.places.now in
    let node = c.node-node.result in
    let same : head_of (tree_at s c.args.e) ≡ head_of_node node = own_head s (tree_at s c.args.e) (head_of_node node) (parts_of node) c.node-node.ensures.tree in
    let own : HeadFits ps c.args.depth (head_of (tree_at s c.args.e)) = subst (λ (h : Head). HeadFits ps c.args.depth h) (sym same) (c.keeps_index.ensures c.if-not-keeps_index.false) in
    search rules

pub look_at-returns : goal.look_at-returns
look_at-returns t c =
    let s = c.args.store.now in
    let ps = c.args.places.now in
    let k = c.in_ok-look_at_parts.ensures in
    record { fits = k.fits; others = fits_more ps s c.look_at_parts.new.seen.keys c.insert.new.self.keys c.args.e.0 c.args.depth k.others k.fits c.in_ok-insert.ensures.keys }

pub look_at_parts-returns-in-None : goal.look_at_parts-returns-in-None
look_at_parts-returns-in-None t c =
    let s = c.args.store.now in
    let node = c.node-node.result in
    let h = head_of_node node in
    let q = c.node-node.ensures.tree ∙ ap (assemble s h) (sym c.in-None.ensures) in
    record { fits = leaf_fit c.args.places.now c.args.depth (tree_at s c.args.e) h q; others = c.requires.seen }

pub look_at_parts-returns-in-One : goal.look_at_parts-returns-in-One
look_at_parts-returns-in-One t c =
    let s = c.args.store.now in
    let node = c.node-node.result in
    let h = head_of_node node in
    let q = c.node-node.ensures.tree ∙ ap (assemble s h) (sym c.in-One.ensures) in
    looked c.look_at.result _ _ (λ k. record { fits = one_fit c.args.places.now c.args.depth (tree_at s c.args.e) h (tree_at s c.in-One.a) q c.node-node.ensures.sorted c.requires.own k.fits; others = k.others }) c.look_at.ensures

pub look_at_parts-returns-in_ok-look_at-in-Two : goal.look_at_parts-returns-in_ok-look_at-in-Two
look_at_parts-returns-in_ok-look_at-in-Two t c =
    let s = c.args.store.now in
    let node = c.node-node.result in
    let h = head_of_node node in
    let q = c.node-node.ensures.tree ∙ ap (assemble s h) (sym c.in-Two.ensures) in
    let u = c.saturating_add.ensures ∙ ap (λ (n : ℕ). min (c.args.depth + n) 18446744073709551615) c.binders.ensures in
    looked c.look_at-in-Two-2.result _ _ (λ k. record {
      fits = two_fit c.args.places.now c.args.depth (tree_at s c.args.e) h (tree_at s c.in-Two.a) (tree_at s c.in-Two.b) c.saturating_add.result q u c.in_ok-look_at-in-Two.ensures.fits k.fits;
      others = k.others;
    }) c.look_at-in-Two-2.ensures

pub look_at_parts-returns-in_ok-look_at-in-Three-2 : goal.look_at_parts-returns-in_ok-look_at-in-Three-2
look_at_parts-returns-in_ok-look_at-in-Three-2 t c =
    let s = c.args.store.now in
    let node = c.node-node.result in
    let h = head_of_node node in
    let q = c.node-node.ensures.tree ∙ ap (assemble s h) (sym c.in-Three.ensures) in
    looked c.look_at-in-Three-3.result _ _ (λ k. record {
      fits = three_fit c.args.places.now c.args.depth (tree_at s c.args.e) h (tree_at s c.in-Three.a) (tree_at s c.in-Three.b) (tree_at s c.in-Three.c) q c.in_ok-look_at-in-Three.ensures.fits c.in_ok-look_at-in-Three-2.ensures.fits k.fits;
      others = k.others;
    }) c.look_at-in-Three-3.ensures
