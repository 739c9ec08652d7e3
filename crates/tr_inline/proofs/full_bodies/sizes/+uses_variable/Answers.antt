use Rattle.std.proofs.Common.{◌≡◌, ◌+◌, ◌||◌, Bool, true, false, subst, sym, ap, ◌∙◌, arith}
use Rattle.trees.specs.Tree.{Two, binders_over}
use Rattle.trees.specs.Node.{tree_at, assemble, head_of_node}
use Rattle.trees.specs.Facts.{IndicesFit}
use Rattle.trees.proofs.Sizes.{sorted_fits}
use Rattle.tr_inline.specs.full_bodies.Least.{is_used}
use Rattle.tr_inline.proofs.full_bodies.Variables.{used_under}
use Rattle.tr_inline.proofs.full_bodies.sizes.+uses_variable.Goals as goal

pub returns-else-uses_variable : goal.returns-else-uses_variable
returns-else-uses_variable t c =
    let s = c.args.store.now in
    let h = head_of_node c.node-node.result in
    let n = c.args.number in
    let a = tree_at s c.in-Two.a in
    let b = tree_at s c.in-Two.b in
    let e : tree_at s c.args.e ≡ Two h a b = c.node-node.ensures.tree ∙ ap (assemble s h) (sym c.in-Two.ensures) in
    let fit : IndicesFit b = (subst IndicesFit e (sorted_fits (tree_at s c.args.e) c.node-node.ensures.sorted)).1 in
    let under = used_under n (binders_over h a) c.saturating_add-under.result b fit (omega (arith, c.saturating_add-under.ensures, c.binders.ensures)) in
    let first : is_used n a ≡ false = cc (c.uses_variable-in-Two.ensures, c.if-uses_variable.false) in
    c.uses_variable-else-uses_variable.ensures ∙ under ∙ ap (λ (t : Bool). t || is_used (n + binders_over h a) b) (sym first) ∙ ap (is_used n) (sym e)
