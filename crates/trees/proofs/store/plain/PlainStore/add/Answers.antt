use Rattle.std.proofs.Common.{refl, ◌≡◌, ◌≢◌, ℕ, ◌<◌, ap, [], ◌∷◌, ◌++◌, length, get_or, arith}
use Rattle.trees.specs.declared.Node.TheVariants.{End}
use Rattle.trees.specs.Node.{AreBelow, Grows, parts_of, node_tree}
use Rattle.trees.specs.Sorts.{Fits}
use Rattle.trees.specs.store.Nodes.{trees_of}
use Rattle.trees.proofs.store.Tables.{HasInt-grows}
use Rattle.trees.proofs.store.NodeLists.{length_is, IsSound-push, adds, added_tree, added_held}
use Rattle.trees.proofs.store.plain.PlainStore.add.Goals as goal

pub returns-in-Some-clause-held : goal.returns-in-Some-clause-held
returns-in-Some-clause-held c =
    let n : length c.self.inside.nodes.items ≡ length c.args.self.now = length_is _ _ c.self.view_is in
    let m = ap length c.deref.ensures.value in
    omega (arith, c.in-Some.ensures.within)

pub invariant_of-self-2 : goal.invariant_of-self-2
invariant_of-self-2 c =
    let ns = c.self.inside.nodes.items in
    let n : length ns ≡ length c.args.self.now = length_is _ _ c.self.view_is in
    let below : AreBelow (length ns) (parts_of c.args.node) = rw n c.requires.held in
    let fits : Fits (node_tree (trees_of ns) c.args.node) = rw c.self.view_is c.requires.fits in
    let new : (k : ℕ) → k < length ns → get_or ns k End ≢ c.args.node = rw c.deref.ensures.value at c.in_default.ensures.absent in
    let s = c.args.self.now in
    let grown : Grows (trees_of ns) (trees_of (ns ++ c.args.node ∷ [])) = rw c.self.view_is (adds ns s c.self.view_is c.args.node (length ns) refl) in
    rw c.in_ok-push.ensures.items (record {
      sound = IsSound-push ns c.args.node c.self.invariant.sound below fits new;
      int = HasInt-grows (trees_of ns) (trees_of (ns ++ c.args.node ∷ [])) grown c.self.invariant.int;
    })

pub returns-clause-held : goal.returns-clause-held
returns-clause-held c =
    let last : c.len.result ≡ length c.self.inside.nodes.items = omega (arith, c.self.inside.nodes.ok.0) in
    rw c.in_ok-push.ensures.items (added_held _ _ c.self.view_is c.args.node c.len.result last)

pub returns-clause-tree : goal.returns-clause-tree
returns-clause-tree c =
    let last : c.len.result ≡ length c.self.inside.nodes.items = omega (arith, c.self.inside.nodes.ok.0) in
    rw c.in_ok-push.ensures.items (added_tree _ _ c.self.view_is c.args.node c.len.result last)

pub returns-clause-grows : goal.returns-clause-grows
returns-clause-grows c = rw c.in_ok-push.ensures.items (adds _ _ c.self.view_is c.args.node (length c.self.inside.nodes.items) refl)
