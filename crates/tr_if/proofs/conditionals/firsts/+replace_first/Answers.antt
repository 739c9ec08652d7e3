use Rattle.std.proofs.Common.{◌≡◌, length, sym, subst, ◌∙◌, arith}
use Rattle.trees.specs.Node.{tree_at, node_tree, parts_of, AreBelow, Holds, Grows}
use Rattle.tr_if.specs.conditionals.Conditionals.{replace_first}
use Rattle.tr_if.specs.conditionals.Places.{with_first, HasFirstBelow}
use Rattle.tr_if.proofs.conditionals.PlacedNodes.{can_there, made_fits, made_placed}
use Rattle.tr_if.proofs.conditionals.firsts.+replace_first.Goals as goal

pub returns-in-Here-clause-placed : goal.returns-in-Here-clause-placed
returns-in-Here-clause-placed g t c =
    let s = g.G.Grow.trees c.args.g.now in
    let h = subst (λ z. (x : _) → replace_first (tree_at z c.args.e) x ≡ x) c.store.ensures c.in-Here.ensures in
    record { held = c.requires.other_held; is = sym (h (tree_at s c.args.x)) }

pub returns-in-Nowhere-clause-placed : goal.returns-in-Nowhere-clause-placed
returns-in-Nowhere-clause-placed g t c =
    let s = g.G.Grow.trees c.args.g.now in
    let h = subst (λ z. (x : _) → replace_first (tree_at z c.args.e) x ≡ tree_at z c.args.e) c.store.ensures c.in-Nowhere.ensures in
    record { held = c.requires.held; is = sym (h (tree_at s c.args.x)) }

pub replace_first-requires : goal.replace_first-requires
replace_first-requires g t c κs within =
    let s = g.G.Grow.trees c.args.g.now in
    let child = c.in-Below.child in
    let h = subst (λ z. HasFirstBelow z c.args.e child) c.store.ensures c.in-Below.ensures in
    (omega (arith, h.below), (within, can_there s c.args.e c.args.x c.requires child h))

pub with_child-node-requires : goal.with_child-node-requires
with_child-node-requires g t c =
    let s = g.G.Grow.trees c.args.g.now in
    let s1 = g.G.Grow.trees c.replace_first.new.g in
    let w : Grows s s1 = g.met.G.Grow.keeps_trees _ _ c.in_ok-made-in-Below.ensures.grows in
    let he : Holds s1 c.args.e = omega (arith, c.requires.held, w.longer) in
    record { held = subst (λ z. Holds z c.args.e) (sym c.store-in-Below.ensures) he; made_held = subst (λ z. Holds z c.in_ok-made-in-Below.made) (sym c.store-in-Below.ensures) c.in_ok-made-in-Below.ensures.placed.held }

pub add-requires-clause-fits : goal.add-requires-clause-fits
add-requires-clause-fits g t c =
    let s = g.G.Grow.trees c.args.g.now in
    let s1 = g.G.Grow.trees c.replace_first.new.g in
    let w : Grows s s1 = g.met.G.Grow.keeps_trees _ _ c.in_ok-made-in-Below.ensures.grows in
    let child = c.in-Below.child in
    let h = subst (λ z. HasFirstBelow z c.args.e child) c.store.ensures c.in-Below.ensures in
    let q = subst (λ z. node_tree z c.with_child-node.result ≡ with_first (tree_at z c.args.e) (tree_at z c.in_ok-made-in-Below.made)) c.store-in-Below.ensures c.with_child-node.ensures.tree in
    made_fits s c.args.e c.args.x c.requires child h s1 w c.in_ok-made-in-Below.made c.in_ok-made-in-Below.ensures.placed c.with_child-node.result q

pub returns-in_ok-whole-in-Below-clause-placed : goal.returns-in_ok-whole-in-Below-clause-placed
returns-in_ok-whole-in-Below-clause-placed g t c =
    let s = g.G.Grow.trees c.args.g.now in
    let s1 = g.G.Grow.trees c.replace_first.new.g in
    let w : Grows s s1 = g.met.G.Grow.keeps_trees _ _ c.in_ok-made-in-Below.ensures.grows in
    let child = c.in-Below.child in
    let h = subst (λ z. HasFirstBelow z c.args.e child) c.store.ensures c.in-Below.ensures in
    let q = subst (λ z. node_tree z c.with_child-node.result ≡ with_first (tree_at z c.args.e) (tree_at z c.in_ok-made-in-Below.made)) c.store-in-Below.ensures c.with_child-node.ensures.tree in
    record { held = c.in_ok-whole-in-Below.ensures.held; is = c.in_ok-whole-in-Below.ensures.tree ∙ made_placed s c.args.e c.args.x c.requires child h s1 w c.in_ok-made-in-Below.made c.in_ok-made-in-Below.ensures.placed c.with_child-node.result q }

pub returns-in_err-whole-in-Below-clause-grows : goal.returns-in_err-whole-in-Below-clause-grows
returns-in_err-whole-in-Below-clause-grows g t c = g.met.G.Grow.grows_trans _ _ _ c.in_ok-made-in-Below.ensures.grows c.in_err-whole-in-Below.ensures.grows

pub returns-in_ok-whole-in-Below-clause-grows : goal.returns-in_ok-whole-in-Below-clause-grows
returns-in_ok-whole-in-Below-clause-grows g t c = g.met.G.Grow.grows_trans _ _ _ c.in_ok-made-in-Below.ensures.grows c.in_ok-whole-in-Below.ensures.grows

pub place_of_first-requires : goal.place_of_first-requires
place_of_first-requires g t c = subst (λ z. Holds z c.args.e) (sym c.store.ensures) c.requires.held

pub add-requires-clause-held : goal.add-requires-clause-held
add-requires-clause-held g t c = subst (λ z. AreBelow (length z) (parts_of c.with_child-node.result)) c.store-in-Below.ensures c.with_child-node.ensures.below

pub returns-in-Here-clause-grows : goal.returns-in-Here-clause-grows
returns-in-Here-clause-grows g t c = g.met.G.Grow.grows_refl _

pub returns-in-Nowhere-clause-grows : goal.returns-in-Nowhere-clause-grows
returns-in-Nowhere-clause-grows g t c = g.met.G.Grow.grows_refl _

pub returns-in_err-made-in-Below-clause-grows : goal.returns-in_err-made-in-Below-clause-grows
returns-in_err-made-in-Below-clause-grows g t c = c.in_err-made-in-Below.ensures.grows
