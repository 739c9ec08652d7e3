use Rattle.std.proofs.Common.{◌≡◌, true, false, List, sym, ap, subst, ◌∙◌, arith}
use Rattle.trees.specs.Tree.{Tree, Two, HForall, HExists, HLet, HCase}
use Rattle.trees.specs.Node.{tree_at}
use Rattle.congruence.specs.declared.applications.SymbolAt.TheVariants as symbol
use Rattle.congruence.specs.Applications.{applied}
use Rattle.agreement.specs.Agreement.{ArePartsOf}
use Rattle.agreement.specs.Questions.{links_at}
use Rattle.agreement.proofs.PartNodes.{no_parts}
use Rattle.agreement.proofs.LinkedParts.{under_link, let_link}
use Rattle.agreement.proofs.answers.answer.Goals as goal

pub answer_not-requires-clause-linked : goal.answer_not-requires-clause-linked
answer_not-requires-clause-linked c = c.requires.linked

pub answer_not-requires-clause-left : goal.answer_not-requires-clause-left
answer_not-requires-clause-left c = (_, ap (λ (s : List Tree). tree_at s c.args.q.left) (sym c.store.ensures) ∙ c.in-Not.ensures.tree)

pub answer_join-requires-clause-linked : goal.answer_join-requires-clause-linked
answer_join-requires-clause-linked c = c.requires.linked

pub answer_join-requires-clause-left : goal.answer_join-requires-clause-left
answer_join-requires-clause-left c = (_, (_, ap (λ (s : List Tree). tree_at s c.args.q.left) (sym c.store.ensures) ∙ c.in-Join.ensures.tree))

pub answer_equal-requires-clause-linked : goal.answer_equal-requires-clause-linked
answer_equal-requires-clause-linked c = c.requires.linked

pub answer_equal-requires-clause-left : goal.answer_equal-requires-clause-left
answer_equal-requires-clause-left c = (_, (_, ap (λ (s : List Tree). tree_at s c.args.q.left) (sym c.store.ensures) ∙ c.in-Eq.ensures.tree))

pub answer_if-requires-clause-linked : goal.answer_if-requires-clause-linked
answer_if-requires-clause-linked c = c.requires.linked

pub answer_if-requires-clause-left : goal.answer_if-requires-clause-left
answer_if-requires-clause-left c = (_, (_, (_, ap (λ (s : List Tree). tree_at s c.args.q.left) (sym c.store.ensures) ∙ c.in-If.ensures.tree)))

pub bounds-links-0 : goal.bounds-links-0
bounds-links-0 c = (under_link c.args.draft.now c.args.q c.args.links.now c.requires.linked true (tree_at c.args.draft.now.trees c.in-Forall.ty) (tree_at c.args.draft.now.trees c.in-Forall.a) (subst (λ (s : List Tree). tree_at s c.args.q.left ≡ Two HForall (tree_at s c.in-Forall.ty) (tree_at s c.in-Forall.a)) c.store.ensures c.in-Forall.ensures.tree)).0

pub answer_under-requires-clause-asked : goal.answer_under-requires-clause-asked
answer_under-requires-clause-asked c = c.requires.linked.asked

pub answer_under-requires-clause-part : goal.answer_under-requires-clause-part
answer_under-requires-clause-part c = ((under_link c.args.draft.now c.args.q c.args.links.now c.requires.linked true (tree_at c.args.draft.now.trees c.in-Forall.ty) (tree_at c.args.draft.now.trees c.in-Forall.a) (subst (λ (s : List Tree). tree_at s c.args.q.left ≡ Two HForall (tree_at s c.in-Forall.ty) (tree_at s c.in-Forall.a)) c.store.ensures c.in-Forall.ensures.tree)).1 _).shown

pub answer_under-requires-clause-parts : goal.answer_under-requires-clause-parts
answer_under-requires-clause-parts c = ((under_link c.args.draft.now c.args.q c.args.links.now c.requires.linked true (tree_at c.args.draft.now.trees c.in-Forall.ty) (tree_at c.args.draft.now.trees c.in-Forall.a) (subst (λ (s : List Tree). tree_at s c.args.q.left ≡ Two HForall (tree_at s c.in-Forall.ty) (tree_at s c.in-Forall.a)) c.store.ensures c.in-Forall.ensures.tree)).1 _).parts

pub answer_under-requires-clause-left : goal.answer_under-requires-clause-left
answer_under-requires-clause-left c = subst (λ (s : List Tree). tree_at s c.args.q.left ≡ Two HForall (tree_at s c.in-Forall.ty) (tree_at s c.in-Forall.a)) c.store.ensures c.in-Forall.ensures.tree

pub answer_under-requires-clause-ty_held : goal.answer_under-requires-clause-ty_held
answer_under-requires-clause-ty_held c = omega (arith, c.in-Forall.ensures.below.0, c.requires.linked.asked.pair.left.held)

pub answer_under-requires-clause-a_held : goal.answer_under-requires-clause-a_held
answer_under-requires-clause-a_held c = omega (arith, c.in-Forall.ensures.below.1, c.requires.linked.asked.pair.left.held)

pub bounds-links-0-in-Exists : goal.bounds-links-0-in-Exists
bounds-links-0-in-Exists c = (under_link c.args.draft.now c.args.q c.args.links.now c.requires.linked false (tree_at c.args.draft.now.trees c.in-Exists.ty) (tree_at c.args.draft.now.trees c.in-Exists.a) (subst (λ (s : List Tree). tree_at s c.args.q.left ≡ Two HExists (tree_at s c.in-Exists.ty) (tree_at s c.in-Exists.a)) c.store.ensures c.in-Exists.ensures.tree)).0

pub answer_under-requires-in-Exists-clause-asked : goal.answer_under-requires-in-Exists-clause-asked
answer_under-requires-in-Exists-clause-asked c = c.requires.linked.asked

pub answer_under-requires-in-Exists-clause-part : goal.answer_under-requires-in-Exists-clause-part
answer_under-requires-in-Exists-clause-part c = ((under_link c.args.draft.now c.args.q c.args.links.now c.requires.linked false (tree_at c.args.draft.now.trees c.in-Exists.ty) (tree_at c.args.draft.now.trees c.in-Exists.a) (subst (λ (s : List Tree). tree_at s c.args.q.left ≡ Two HExists (tree_at s c.in-Exists.ty) (tree_at s c.in-Exists.a)) c.store.ensures c.in-Exists.ensures.tree)).1 _).shown

pub answer_under-requires-in-Exists-clause-parts : goal.answer_under-requires-in-Exists-clause-parts
answer_under-requires-in-Exists-clause-parts c = ((under_link c.args.draft.now c.args.q c.args.links.now c.requires.linked false (tree_at c.args.draft.now.trees c.in-Exists.ty) (tree_at c.args.draft.now.trees c.in-Exists.a) (subst (λ (s : List Tree). tree_at s c.args.q.left ≡ Two HExists (tree_at s c.in-Exists.ty) (tree_at s c.in-Exists.a)) c.store.ensures c.in-Exists.ensures.tree)).1 _).parts

pub answer_under-requires-in-Exists-clause-left : goal.answer_under-requires-in-Exists-clause-left
answer_under-requires-in-Exists-clause-left c = subst (λ (s : List Tree). tree_at s c.args.q.left ≡ Two HExists (tree_at s c.in-Exists.ty) (tree_at s c.in-Exists.a)) c.store.ensures c.in-Exists.ensures.tree

pub answer_under-requires-in-Exists-clause-ty_held : goal.answer_under-requires-in-Exists-clause-ty_held
answer_under-requires-in-Exists-clause-ty_held c = omega (arith, c.in-Exists.ensures.below.0, c.requires.linked.asked.pair.left.held)

pub answer_under-requires-in-Exists-clause-a_held : goal.answer_under-requires-in-Exists-clause-a_held
answer_under-requires-in-Exists-clause-a_held c = omega (arith, c.in-Exists.ensures.below.1, c.requires.linked.asked.pair.left.held)

pub bounds-links-0-in-Let : goal.bounds-links-0-in-Let
bounds-links-0-in-Let c = (let_link c.args.draft.now c.args.q c.args.links.now c.requires.linked (tree_at c.args.draft.now.trees c.in-Let.v) (tree_at c.args.draft.now.trees c.in-Let.a) (subst (λ (s : List Tree). tree_at s c.args.q.left ≡ Two HLet (tree_at s c.in-Let.v) (tree_at s c.in-Let.a)) c.store.ensures c.in-Let.ensures.tree)).0

pub answer_let-requires-clause-asked : goal.answer_let-requires-clause-asked
answer_let-requires-clause-asked c = c.requires.linked.asked

pub answer_let-requires-clause-part : goal.answer_let-requires-clause-part
answer_let-requires-clause-part c = ((let_link c.args.draft.now c.args.q c.args.links.now c.requires.linked (tree_at c.args.draft.now.trees c.in-Let.v) (tree_at c.args.draft.now.trees c.in-Let.a) (subst (λ (s : List Tree). tree_at s c.args.q.left ≡ Two HLet (tree_at s c.in-Let.v) (tree_at s c.in-Let.a)) c.store.ensures c.in-Let.ensures.tree)).1 _).shown

pub answer_let-requires-clause-parts : goal.answer_let-requires-clause-parts
answer_let-requires-clause-parts c = ((let_link c.args.draft.now c.args.q c.args.links.now c.requires.linked (tree_at c.args.draft.now.trees c.in-Let.v) (tree_at c.args.draft.now.trees c.in-Let.a) (subst (λ (s : List Tree). tree_at s c.args.q.left ≡ Two HLet (tree_at s c.in-Let.v) (tree_at s c.in-Let.a)) c.store.ensures c.in-Let.ensures.tree)).1 _).parts

pub answer_let-requires-clause-left : goal.answer_let-requires-clause-left
answer_let-requires-clause-left c = subst (λ (s : List Tree). tree_at s c.args.q.left ≡ Two HLet (tree_at s c.in-Let.v) (tree_at s c.in-Let.a)) c.store.ensures c.in-Let.ensures.tree

pub answer_let-requires-clause-v_held : goal.answer_let-requires-clause-v_held
answer_let-requires-clause-v_held c = omega (arith, c.in-Let.ensures.below.0, c.requires.linked.asked.pair.left.held)

pub answer_let-requires-clause-a_held : goal.answer_let-requires-clause-a_held
answer_let-requires-clause-a_held c = omega (arith, c.in-Let.ensures.below.1, c.requires.linked.asked.pair.left.held)

pub answer_symbol-requires-clause-linked : goal.answer_symbol-requires-clause-linked
answer_symbol-requires-clause-linked c = c.requires.linked

pub answer_symbol-requires-clause-arguments_held : goal.answer_symbol-requires-clause-arguments_held
answer_symbol-requires-clause-arguments_held c = omega (arith, c.in-Fun.ensures.below.1, c.requires.linked.asked.pair.left.held)

pub answer_symbol-requires-clause-left : goal.answer_symbol-requires-clause-left
answer_symbol-requires-clause-left c = subst (λ (s : List Tree). tree_at s c.args.q.left ≡ applied s (symbol.Function c.in-Fun.f c.in-Fun.types c.in-Fun.ty) (tree_at s c.in-Fun.arguments)) c.store.ensures c.in-Fun.ensures.tree

pub answer_symbol-requires-in-Pred-clause-linked : goal.answer_symbol-requires-in-Pred-clause-linked
answer_symbol-requires-in-Pred-clause-linked c = c.requires.linked

pub answer_symbol-requires-in-Pred-clause-arguments_held : goal.answer_symbol-requires-in-Pred-clause-arguments_held
answer_symbol-requires-in-Pred-clause-arguments_held c = omega (arith, c.in-Pred.ensures.below.1, c.requires.linked.asked.pair.left.held)

pub answer_symbol-requires-in-Pred-clause-left : goal.answer_symbol-requires-in-Pred-clause-left
answer_symbol-requires-in-Pred-clause-left c = subst (λ (s : List Tree). tree_at s c.args.q.left ≡ applied s (symbol.Predicate c.in-Pred.p c.in-Pred.types) (tree_at s c.in-Pred.arguments)) c.store.ensures c.in-Pred.ensures.tree

pub answer_case-requires-clause-linked : goal.answer_case-requires-clause-linked
answer_case-requires-clause-linked c = c.requires.linked

pub answer_case-requires-clause-by_held : goal.answer_case-requires-clause-by_held
answer_case-requires-clause-by_held c = omega (arith, c.in-Case.ensures.below.0, c.requires.linked.asked.pair.left.held)

pub answer_case-requires-clause-arms_held : goal.answer_case-requires-clause-arms_held
answer_case-requires-clause-arms_held c = omega (arith, c.in-Case.ensures.below.1, c.requires.linked.asked.pair.left.held)

pub answer_case-requires-clause-left : goal.answer_case-requires-clause-left
answer_case-requires-clause-left c = subst (λ (s : List Tree). tree_at s c.args.q.left ≡ Two HCase (tree_at s c.in-Case.scrutinee) (tree_at s c.in-Case.arms)) c.store.ensures c.in-Case.ensures.tree

pub unreachable-requires : goal.unreachable-requires
unreachable-requires c =
    let d = c.args.draft.now in
    let q = c.args.q in
    let s = c.store.result.now in
    let h = c.in_default in
    let e = ap (λ (z : List Tree). tree_at z q.left) (sym c.store.ensures) ∙ c.node.ensures.tree in
    let x = subst (λ (z : Tree). ArePartsOf d.task q.number z (tree_at d.trees q.right) (links_at d.trees c.args.links.now)) e c.requires.linked.parts in
    no_parts d.task q.number s c.node.result (tree_at d.trees q.right) (links_at d.trees c.args.links.now) x h.not-Not h.not-Join h.not-Eq h.not-If h.not-Forall h.not-Exists h.not-Let h.not-Fun h.not-Pred h.not-Case
