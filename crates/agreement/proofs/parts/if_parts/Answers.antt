use Rattle.std.proofs.Common.{◌≡◌, List, sym, subst, arith}
use Rattle.std.proofs.lemmas.Result.{IfOk-weaker}
use Rattle.trees.specs.Tree.{Tree, Three, HIf}
use Rattle.trees.specs.Node.{tree_at, Holds}
use Rattle.agreement.specs.Questions.{AreQuestions}
use Rattle.agreement.proofs.PlainParts.{if_asked}
use Rattle.agreement.proofs.parts.if_parts.Goals as goal

pub returns : goal.returns
returns c =
    let d = c.args.draft.now in
    let q = c.args.q in
    let p = c.requires.asked.pair in
    let k = c.in-If.d in
    let x = c.in-If.x in
    let y = c.in-If.y in
    let r : tree_at d.trees q.right ≡ Three HIf (tree_at d.trees k) (tree_at d.trees x) (tree_at d.trees y) = subst (λ (s : List Tree). tree_at s q.right ≡ Three HIf (tree_at s k) (tree_at s x) (tree_at s y)) c.store.ensures c.in-If.ensures.tree in
    let hc : Holds d.trees c.args.c = omega (arith, c.requires.condition_below, p.left.held) in
    let ha : Holds d.trees c.args.a = omega (arith, c.requires.then_below, p.left.held) in
    let hb : Holds d.trees c.args.b = omega (arith, c.requires.else_below, p.left.held) in
    let hk : Holds d.trees k = omega (arith, c.in-If.ensures.below.0, p.right.held) in
    let hx : Holds d.trees x = omega (arith, c.in-If.ensures.below.1, p.right.held) in
    let hy : Holds d.trees y = omega (arith, c.in-If.ensures.below.2, p.right.held) in
    record {
      parts = IfOk-weaker c.from_slice.result _ _ (λ v i. subst (AreQuestions d q) (sym i) (if_asked d q c.requires.asked c.args.c c.args.a c.args.b k x y hc ha hb hk hx hy c.requires.left r c.requires.condition_below c.requires.then_below c.requires.else_below)) c.from_slice.ensures.items;
    }
