use Rattle.std.proofs.Common.{List, sym, ap, subst, ◌∙◌}
use Rattle.trees.specs.Tree.{Tree}
use Rattle.trees.specs.Node.{tree_at}
use Rattle.agreement.specs.Agreement.{ArePartsOf}
use Rattle.agreement.proofs.PartNodes.{no_parts}
use Rattle.agreement.proofs.parts.parts_of.Goals as goal

pub unreachable-requires : goal.unreachable-requires
unreachable-requires c =
    let d = c.args.draft.now in
    let q = c.args.q in
    let s = c.store.result.now in
    let h = c.in_default in
    let e = ap (λ (z : List Tree). tree_at z q.left) (sym c.store.ensures) ∙ c.node.ensures.tree in
    let x = subst (λ (z : Tree). ArePartsOf d.task q.number z (tree_at d.trees q.right) c.requires.parts.0) e c.requires.parts.1 in
    no_parts d.task q.number s c.node.result (tree_at d.trees q.right) c.requires.parts.0 x h.not-Not h.not-Join h.not-Eq h.not-If h.not-Forall h.not-Exists h.not-Let h.not-Fun h.not-Pred h.not-Case
