use Rattle.std.proofs.Common.{◌≡◌, ◌+◌, ◌||◌, Bool, false, subst, sym, ap, ◌∙◌, arith}
use Rattle.trees.specs.Tree.{Two, binders_over}
use Rattle.trees.specs.Node.{tree_at, assemble, head_of_node}
use Rattle.trees.specs.Facts.{IndicesFit, is_open}
use Rattle.trees.proofs.Sizes.{sorted_fits}
use Rattle.tr_simplify.specs.SimplifyAtTypes.{closed_open}
use Rattle.tr_simplify.proofs.OpenVariables.{open_under}
use Rattle.tr_simplify.proofs.opening.+is_open.Goals as goal

pub returns-then-number-lt18446744073709551615 : goal.returns-then-number-lt18446744073709551615
returns-then-number-lt18446744073709551615 t c =
    sym (closed_open c.args.number (tree_at c.args.store.now c.args.e) (omega (arith, c.loose.ensures, c.if-loose-number.true, c.if-number-lt18446744073709551615.true)))

pub returns-else-is_open : goal.returns-else-is_open
returns-else-is_open t c =
    let s = c.args.store.now in
    let h = head_of_node c.node-node.result in
    let n = c.args.number in
    let a = tree_at s c.in-Two.a in
    let b = tree_at s c.in-Two.b in
    let e : tree_at s c.args.e ≡ Two h a b = c.node-node.ensures.tree ∙ ap (assemble s h) (sym c.in-Two.ensures) in
    let fit : IndicesFit b = (subst IndicesFit e (sorted_fits (tree_at s c.args.e) c.node-node.ensures.sorted)).1 in
    let under = open_under n (binders_over h a) c.saturating_add-under.result b fit (omega (arith, c.saturating_add-under.ensures, c.binders.ensures)) in
    let first : is_open n a ≡ false = cc (c.is_open-in-Two.ensures, c.if-is_open.false) in
    c.is_open-else-is_open.ensures ∙ under ∙ ap (λ (u : Bool). u || is_open (n + binders_over h a) b) (sym first) ∙ ap (is_open n) (sym e)
