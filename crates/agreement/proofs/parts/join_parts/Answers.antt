use Rattle.std.proofs.Common.{◌≡◌, List, sym, subst, arith}
use Rattle.std.proofs.lemmas.Result.{IfOk-weaker}
use Rattle.trees.specs.Tree.{Tree, Two, HJoin}
use Rattle.trees.specs.Node.{tree_at, Holds}
use Rattle.agreement.specs.Questions.{AreQuestions}
use Rattle.agreement.proofs.PlainParts.{join_asked}
use Rattle.agreement.proofs.parts.join_parts.Goals as goal

pub returns : goal.returns
returns c =
    let d = c.args.draft.now in
    let q = c.args.q in
    let p = c.requires.asked.pair in
    let b = c.in-Join.b in
    let e = c.in-Join.e in
    let op = c.in-Join.field-0 in
    let r : tree_at d.trees q.right ≡ Two (HJoin op) (tree_at d.trees b) (tree_at d.trees e) = subst (λ (s : List Tree). tree_at s q.right ≡ Two (HJoin op) (tree_at s b) (tree_at s e)) c.store.ensures c.in-Join.ensures.tree in
    let ha : Holds d.trees c.args.a = omega (arith, c.requires.first_below, p.left.held) in
    let hc : Holds d.trees c.args.c = omega (arith, c.requires.second_below, p.left.held) in
    let hb : Holds d.trees b = omega (arith, c.in-Join.ensures.below.0, p.right.held) in
    let he : Holds d.trees e = omega (arith, c.in-Join.ensures.below.1, p.right.held) in
    record {
      parts = IfOk-weaker c.from_slice.result _ _ (λ v i. subst (AreQuestions d q) (sym i) (join_asked d q c.requires.asked c.args.op op c.args.a c.args.c b e ha hc hb he c.requires.left r c.requires.first_below c.requires.second_below c.requires.parts.0 c.requires.parts.1)) c.from_slice.ensures.items;
    }
