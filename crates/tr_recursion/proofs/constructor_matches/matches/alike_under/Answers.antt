use Rattle.std.proofs.Common.{◌≡◌, [], ◌∷◌, sym, ap, subst, ◌∙◌}
use Rattle.trees.specs.Tree.{Tree}
use Rattle.trees.specs.Node.{tree_at}
use Rattle.tasks.specs.Task.{neg}
use Rattle.congruence.specs.kernel.rules.Forms.{alike}
use Rattle.evidence.specs.Drafts.{Refutes}
use Rattle.evidence.specs.Laws.{Extends_trans, AddsTrees_extends}
use Rattle.evidence.proofs.Rules.{refutes_later}
use Rattle.congruence.proofs.Later.{tree_later, pair_later}
use Rattle.congruence.specs.Alike.{Shows}
use Rattle.congruence.proofs.CaseParts.{denied, denied_step}
use Rattle.tr_recursion.proofs.constructor_matches.Follows.{under_follows}
use Rattle.tr_recursion.proofs.constructor_matches.matches.alike_under.Goals as goal

pub derive-requires-clause-follow : goal.derive-requires-clause-follow
derive-requires-clause-follow c =
    let d = c.args.draft.now in
    let d1 = c.denial.new.draft in
    let x = AddsTrees_extends d d1 c.in_ok-goal.ensures.grows in
    let p = c.requires.pair in
    let w = c.args.whole in
    let b = c.args.part in
    let h = c.args.hypothesis in
    let a : alike (tree_at d.trees w) (tree_at d.trees b) ≡ alike (tree_at d1.trees w) (tree_at d1.trees b) = ap (λ (z : Tree). alike z (tree_at d.trees b)) (sym (tree_later d d1 x w p.left.held)) ∙ ap (alike (tree_at d1.trees w)) (sym (tree_later d d1 x b p.right.held)) in
    let k = sym (tree_later d d1 x h c.requires.hypothesis.held) in
    under_follows d1 (tree_at d1.trees c.in_ok-goal.goal) (tree_at d1.trees h) (alike (tree_at d1.trees w) (tree_at d1.trees b)) c.args.value c.args.lemma (denied d d1 x c.in_ok-goal.goal w b p.left.held p.right.held c.in_ok-goal.ensures.tree)
    (subst (λ (z : Tree). Refutes d1 c.args.value (tree_at d1.trees h ∷ neg z ∷ [])) a (subst (λ (z : Tree). Refutes d1 c.args.value (z ∷ neg (alike (tree_at d.trees w) (tree_at d.trees b)) ∷ [])) k (refutes_later d d1 x c.args.value _ c.requires.value)))
    (subst (λ (z : Tree). Refutes d1 c.args.lemma (neg z ∷ [])) k (refutes_later d d1 x c.args.lemma _ c.requires.lemma))

pub alike_by_step-requires-clause-pair : goal.alike_by_step-requires-clause-pair
alike_by_step-requires-clause-pair c =
    pair_later c.args.draft.now c.derive.new.draft (Extends_trans _ _ _ (AddsTrees_extends _ _ c.in_ok-goal.ensures.grows) c.in_ok-step.ensures.grows) c.args.whole c.args.part c.requires.pair

pub alike_by_step-requires-clause-step : goal.alike_by_step-requires-clause-step
alike_by_step-requires-clause-step c =
    let d = c.args.draft.now in
    let d1 = c.denial.new.draft in
    let d2 = c.derive.new.draft in
    let p = c.requires.pair in
    denied_step d d2 (Extends_trans d d1 d2 (AddsTrees_extends d d1 c.in_ok-goal.ensures.grows) c.in_ok-step.ensures.grows) d2 c.in_ok-step.step c.args.whole c.args.part p.left.held p.right.held
    (subst (λ (z : Tree). Refutes d2 c.in_ok-step.step (z ∷ [])) c.in_ok-goal.ensures.tree c.in_ok-step.ensures.refutes)

pub returns-clause-shows : goal.returns-clause-shows
returns-clause-shows c =
    let d = c.args.draft.now in
    let d1 = c.denial.new.draft in
    let d2 = c.derive.new.draft in
    let d3 = c.alike_by_step.new.draft in
    let x = Extends_trans d d1 d2 (AddsTrees_extends d d1 c.in_ok-goal.ensures.grows) c.in_ok-step.ensures.grows in
    let p = c.requires.pair in
    subst (λ (z : Tree). Shows d3 c.in_ok-made.made z (tree_at d.trees c.args.part)) (tree_later d d2 x c.args.whole p.left.held)
    (subst (λ (z : Tree). Shows d3 c.in_ok-made.made (tree_at d2.trees c.args.whole) z) (tree_later d d2 x c.args.part p.right.held) c.in_ok-made.ensures.shows)

pub returns-in_err-step-clause-grows : goal.returns-in_err-step-clause-grows
returns-in_err-step-clause-grows c = Extends_trans _ _ _ (AddsTrees_extends _ _ c.in_ok-goal.ensures.grows) c.derive.ensures.grows

pub returns-in_err-goal-clause-grows : goal.returns-in_err-goal-clause-grows
returns-in_err-goal-clause-grows c = AddsTrees_extends _ _ c.denial.ensures.grows

pub returns-in_err-made-clause-grows : goal.returns-in_err-made-clause-grows
returns-in_err-made-clause-grows c = Extends_trans _ _ _ (Extends_trans _ _ _ (AddsTrees_extends _ _ c.in_ok-goal.ensures.grows) c.in_ok-step.ensures.grows) c.in_err-made.ensures.grows

pub returns-clause-grows : goal.returns-clause-grows
returns-clause-grows c = Extends_trans _ _ _ (Extends_trans _ _ _ (AddsTrees_extends _ _ c.in_ok-goal.ensures.grows) c.in_ok-step.ensures.grows) c.in_ok-made.ensures.grows
