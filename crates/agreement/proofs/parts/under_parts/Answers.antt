use Rattle.std.proofs.Common.{◌≡◌, sym, ap, subst, ◌∙◌, arith}
use Rattle.std.proofs.lemmas.Result.{IfOk-weaker}
use Rattle.trees.specs.Tree.{Tree, Two}
use Rattle.trees.specs.Node.{tree_at, Holds}
use Rattle.trees.specs.Binding.{Param}
use Rattle.congruence.specs.tasks.typed_trees.instances.Instances.{IsInstance}
use Rattle.evidence.specs.Laws.{Extends_trans, AddsTrees_extends}
use Rattle.congruence.specs.Quantifiers.{quantifier_head}
use Rattle.congruence.proofs.Later.{tree_later, held_later}
use Rattle.agreement.specs.Questions.{AreQuestions}
use Rattle.agreement.proofs.AnswerParts.{under_shape}
use Rattle.agreement.proofs.OpenedParts.{under_asked}
use Rattle.agreement.proofs.QuestionsLater.{asked_later}
use Rattle.agreement.proofs.parts.under_parts.Goals as goal

pub body_of-b-requires-clause-is : goal.body_of-b-requires-clause-is
body_of-b-requires-clause-is c =
    let d = c.args.draft.now in
    let m = under_shape d.task c.args.q.number (tree_at d.trees c.args.q.left) (tree_at d.trees c.args.q.right) c.args.universal (tree_at d.trees c.args.ty) (tree_at d.trees c.args.a) c.requires.parts.0 c.requires.left c.requires.parts.1 in
    (tree_at d.trees c.args.ty, (m.0, m.1))

pub returns-clause-parts : goal.returns-clause-parts
returns-clause-parts c =
    let d = c.args.draft.now in
    let d1 = c.parameter.new.g in
    let d2 = c.instance.new.g in
    let d3 = c.instance-2.new.g in
    let x1 = AddsTrees_extends d d1 c.in_ok-term.ensures.grows in
    let x2 = AddsTrees_extends d1 d2 c.in_ok-left.ensures.grows in
    let x3 = AddsTrees_extends d2 d3 c.in_ok-right.ensures.grows in
    let x12 = Extends_trans d d1 d2 x1 x2 in
    let x23 = Extends_trans d1 d2 d3 x2 x3 in
    let x = Extends_trans d d1 d3 x1 x23 in
    let u = c.args.universal in
    let q = c.args.q in
    let n = q.number in
    let a = c.args.a in
    let b = c.body_of-b.result in
    let term = c.in_ok-term.term in
    let l = c.in_ok-left.left in
    let r = c.in_ok-right.right in
    let TY : Tree = tree_at d.trees c.args.ty in
    let p = c.requires.asked.pair in
    let m = under_shape d.task n (tree_at d.trees q.left) (tree_at d.trees q.right) u TY (tree_at d.trees a) c.requires.parts.0 c.requires.left c.requires.parts.1 in
    let ha : Holds d.trees a = omega (arith, c.requires.body_below, p.left.held) in
    let hb : Holds d.trees b = c.body_of-b.ensures.held in
    let er : tree_at d.trees q.right ≡ Two (quantifier_head u) TY (tree_at d.trees b) = c.body_of-b.ensures.tree TY m.0 m.1 in
    let a1 : tree_at d1.trees a ≡ tree_at d.trees a = tree_later d d1 x1 a ha in
    let a3 : tree_at d3.trees a ≡ tree_at d.trees a = tree_later d d3 x a ha in
    let b2 : tree_at d2.trees b ≡ tree_at d.trees b = tree_later d d2 x12 b hb in
    let b3 : tree_at d3.trees b ≡ tree_at d.trees b = tree_later d d3 x b hb in
    let t1 : tree_at d1.trees term ≡ Param n TY = c.in_ok-term.ensures.tree in
    let t2 : tree_at d2.trees term ≡ Param n TY = tree_later d1 d2 x2 term c.in_ok-term.ensures.held ∙ t1 in
    let l3 : tree_at d3.trees l ≡ tree_at d2.trees l = tree_later d2 d3 x3 l c.in_ok-left.ensures.held in
    let il : IsInstance (tree_at d3.trees a) (Param n TY) (tree_at d3.trees l)
    = subst (λ (z : Tree). IsInstance (tree_at d3.trees a) (Param n TY) z) (sym l3) (subst (λ (z : Tree). IsInstance (tree_at d3.trees a) z (tree_at d2.trees l)) t1 (subst (λ (z : Tree). IsInstance z (tree_at d1.trees term) (tree_at d2.trees l)) (a1 ∙ sym a3) c.in_ok-left.ensures.keeps)) in
    let ir : IsInstance (tree_at d3.trees b) (Param n TY) (tree_at d3.trees r)
    = subst (λ (z : Tree). IsInstance (tree_at d3.trees b) z (tree_at d3.trees r)) t2 (subst (λ (z : Tree). IsInstance z (tree_at d2.trees term) (tree_at d3.trees r)) (b2 ∙ sym b3) c.in_ok-right.ensures.keeps) in
    IfOk-weaker c.from_slice.result _ _ (λ v i. subst (AreQuestions d3 q) (sym i)
    (under_asked d3 q (asked_later d d3 x q c.requires.asked) u TY a b l r
    (tree_later d d3 x q.left p.left.held ∙ c.requires.left ∙ ap (Two (quantifier_head u) TY) (sym a3)) (tree_later d d3 x q.right p.right.held ∙ er ∙ ap (Two (quantifier_head u) TY) (sym b3))
    (held_later d2 d3 x3 l c.in_ok-left.ensures.held) c.in_ok-right.ensures.held
    (l3 ∙ c.in_ok-left.ensures.tree ∙ cc (a1, a3, t1)) (c.in_ok-right.ensures.tree ∙ cc (b2, b3, t2)) il ir))
    c.from_slice.ensures.items
