use Rattle.std.proofs.Common.{◌≡◌, List, sym, subst, ◌∙◌, arith}
use Rattle.std.proofs.lemmas.Result.{IfOk-weaker}
use Rattle.trees.specs.Tree.{Tree, Two, HLet}
use Rattle.trees.specs.Node.{tree_at, Holds}
use Rattle.congruence.specs.tasks.typed_trees.instances.Instances.{IsInstance, IsClosedTerm}
use Rattle.evidence.specs.Laws.{Extends_trans, AddsTrees_extends}
use Rattle.congruence.proofs.Later.{tree_later, held_later}
use Rattle.agreement.specs.Questions.{AreQuestions}
use Rattle.agreement.proofs.OpenedParts.{let_value, let_asked}
use Rattle.agreement.proofs.QuestionsLater.{asked_later}
use Rattle.agreement.proofs.parts.let_parts.Goals as goal

pub instance-requires-clause-closed : goal.instance-requires-clause-closed
instance-requires-clause-closed c = let_value c.args.draft.now c.args.q.left _ _ c.requires.asked.pair.left c.requires.left

pub instance-requires-in-Let-clause-closed : goal.instance-requires-in-Let-clause-closed
instance-requires-in-Let-clause-closed c =
    let d = c.args.draft.now in
    let d1 = c.instance.new.g in
    let q = c.args.q in
    let w = c.in-Let.w in
    let b = c.in-Let.b in
    let e : tree_at d.trees q.right ≡ Two HLet (tree_at d.trees w) (tree_at d.trees b) = subst (λ (s : List Tree). tree_at s q.right ≡ Two HLet (tree_at s w) (tree_at s b)) c.store.ensures c.in-Let.ensures.tree in
    let hw : Holds d.trees w = omega (arith, c.in-Let.ensures.below.0, c.requires.asked.pair.right.held) in
    subst IsClosedTerm (sym (tree_later d d1 (AddsTrees_extends d d1 c.in_ok-left-in-Let.ensures.grows) w hw)) (let_value d q.right _ _ c.requires.asked.pair.right e)

pub returns-clause-parts : goal.returns-clause-parts
returns-clause-parts c =
    let d = c.args.draft.now in
    let d1 = c.instance.new.g in
    let d2 = c.instance-in-Let.new.g in
    let x1 = AddsTrees_extends d d1 c.in_ok-left-in-Let.ensures.grows in
    let x2 = AddsTrees_extends d1 d2 c.in_ok-right-in-Let.ensures.grows in
    let x = Extends_trans d d1 d2 x1 x2 in
    let q = c.args.q in
    let p = c.requires.asked.pair in
    let w = c.in-Let.w in
    let b = c.in-Let.b in
    let l = c.in_ok-left-in-Let.left in
    let r = c.in_ok-right-in-Let.right in
    let V : Tree = tree_at d.trees c.args.v in
    let A : Tree = tree_at d.trees c.args.a in
    let W : Tree = tree_at d1.trees w in
    let B : Tree = tree_at d1.trees b in
    let hw : Holds d.trees w = omega (arith, c.in-Let.ensures.below.0, p.right.held) in
    let hb : Holds d.trees b = omega (arith, c.in-Let.ensures.below.1, p.right.held) in
    let e : tree_at d.trees q.right ≡ Two HLet (tree_at d.trees w) (tree_at d.trees b) = subst (λ (s : List Tree). tree_at s q.right ≡ Two HLet (tree_at s w) (tree_at s b)) c.store.ensures c.in-Let.ensures.tree in
    let el : tree_at d2.trees q.left ≡ Two HLet V A = tree_later d d2 x q.left p.left.held ∙ c.requires.left in
    let er : tree_at d2.trees q.right ≡ Two HLet W B = tree_later d d2 x q.right p.right.held ∙ e ∙ cc (sym (tree_later d d1 x1 w hw), sym (tree_later d d1 x1 b hb)) in
    let ml : tree_at d2.trees l ≡ tree_at d1.trees l = tree_later d1 d2 x2 l c.in_ok-left-in-Let.ensures.held in
    IfOk-weaker c.from_slice.result _ _ (λ v i. subst (AreQuestions d2 q) (sym i)
    (let_asked d2 q (asked_later d d2 x q c.requires.asked) V A W B l r el er (held_later d1 d2 x2 l c.in_ok-left-in-Let.ensures.held) c.in_ok-right-in-Let.ensures.held (ml ∙ c.in_ok-left-in-Let.ensures.tree) c.in_ok-right-in-Let.ensures.tree
    (subst (IsInstance A V) (sym ml) c.in_ok-left-in-Let.ensures.keeps) c.in_ok-right-in-Let.ensures.keeps))
    c.from_slice.ensures.items
