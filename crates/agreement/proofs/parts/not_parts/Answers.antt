use Rattle.std.proofs.Common.{◌≡◌, List, sym, subst, arith}
use Rattle.std.proofs.lemmas.Result.{IfOk-weaker}
use Rattle.trees.specs.Tree.{Tree, One, HNot}
use Rattle.trees.specs.Node.{tree_at, Holds}
use Rattle.agreement.specs.Questions.{AreQuestions}
use Rattle.agreement.proofs.PlainParts.{not_asked}
use Rattle.agreement.proofs.parts.not_parts.Goals as goal

pub returns : goal.returns
returns c =
    let d = c.args.draft.now in
    let q = c.args.q in
    let p = c.requires.asked.pair in
    let b = c.in-Not.b in
    let e : tree_at d.trees q.right ≡ One HNot (tree_at d.trees b) = subst (λ (s : List Tree). tree_at s q.right ≡ One HNot (tree_at s b)) c.store.ensures c.in-Not.ensures.tree in
    let ha : Holds d.trees c.args.a = omega (arith, c.requires.below, p.left.held) in
    let hb : Holds d.trees b = omega (arith, c.in-Not.ensures.below, p.right.held) in
    record { parts = IfOk-weaker c.from_slice.result _ _ (λ v i. subst (AreQuestions d q) (sym i) (not_asked d q c.requires.asked c.args.a b ha hb c.requires.left e c.requires.below)) c.from_slice.ensures.items }
