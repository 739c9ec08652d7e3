use Rattle.std.proofs.Common.{◌≡◌, ◌≤◌, sym, ap, subst, ◌∙◌}
use Rattle.trees.specs.Tree.{Tree, above_params}
use Rattle.trees.specs.Node.{tree_at}
use Rattle.trees.specs.Binding.{inst, Param}
use Rattle.evidence.specs.Laws.{AddsTrees_extends, Extends_trans}
use Rattle.evidence.proofs.Formulas.{formula_later}
use Rattle.congruence.proofs.Later.{held_later, tree_later, pair_later, shows_at}
use Rattle.congruence.proofs.CaseParts.{closed_formula}
use Rattle.agreement.proofs.AnswerParts.{under_is, under_right}
use Rattle.agreement.proofs.OpenedParts.{quantified_formula, opened_sort}
use Rattle.agreement.proofs.ShownSince.{shown_since}
use Rattle.agreement.proofs.answers.answer_under.Goals as goal

pub body_of-b-requires-clause-is : goal.body_of-b-requires-clause-is
body_of-b-requires-clause-is c =
    let d = c.args.draft.now in
    let m = under_is d.task c.args.q.number (tree_at d.trees c.args.q.left) (tree_at d.trees c.args.q.right) c.args.universal (tree_at d.trees c.args.ty) (tree_at d.trees c.args.a) (tree_at d.trees c.args.part.left) (tree_at d.trees c.args.part.right) c.requires.left c.requires.parts in
    (tree_at d.trees c.args.ty, (m.1.0, m.1.1.0))

pub alike_quantified-requires-clause-at_a : goal.alike_quantified-requires-clause-at_a
alike_quantified-requires-clause-at_a c =
    let d = c.args.draft.now in
    let m = under_is d.task c.args.q.number (tree_at d.trees c.args.q.left) (tree_at d.trees c.args.q.right) c.args.universal (tree_at d.trees c.args.ty) (tree_at d.trees c.args.a) (tree_at d.trees c.args.part.left) (tree_at d.trees c.args.part.right) c.requires.left c.requires.parts in
    formula_later d c.parameter.new.g (AddsTrees_extends _ _ c.in_ok-term.ensures.grows) c.args.part.left
    (closed_formula d c.args.part.left c.requires.part.pair.left (opened_sort d c.args.universal c.args.q.number c.args.q.left c.args.part.left (tree_at d.trees c.args.ty) (tree_at d.trees c.args.a) c.requires.asked.pair.left c.requires.left m.0))

pub alike_quantified-requires-clause-at_b : goal.alike_quantified-requires-clause-at_b
alike_quantified-requires-clause-at_b c =
    let d = c.args.draft.now in
    let m = under_is d.task c.args.q.number (tree_at d.trees c.args.q.left) (tree_at d.trees c.args.q.right) c.args.universal (tree_at d.trees c.args.ty) (tree_at d.trees c.args.a) (tree_at d.trees c.args.part.left) (tree_at d.trees c.args.part.right) c.requires.left c.requires.parts in
    formula_later d c.parameter.new.g (AddsTrees_extends _ _ c.in_ok-term.ensures.grows) c.args.part.right
    (closed_formula d c.args.part.right c.requires.part.pair.right (opened_sort d c.args.universal c.args.q.number c.args.q.right c.args.part.right (tree_at d.trees c.args.ty) m.1.0 c.requires.asked.pair.right m.1.1.0 m.1.1.1))

pub alike_quantified-requires-clause-right_is : goal.alike_quantified-requires-clause-right_is
alike_quantified-requires-clause-right_is c =
    let d = c.args.draft.now in
    let d1 = c.parameter.new.g in
    let x = AddsTrees_extends d d1 c.in_ok-term.ensures.grows in
    let u = c.args.universal in
    let b = c.body_of-b.result in
    let m = under_is d.task c.args.q.number (tree_at d.trees c.args.q.left) (tree_at d.trees c.args.q.right) u (tree_at d.trees c.args.ty) (tree_at d.trees c.args.a) (tree_at d.trees c.args.part.left) (tree_at d.trees c.args.part.right) c.requires.left c.requires.parts in
    tree_later d d1 x c.args.q.right c.requires.asked.pair.right.held ∙ c.body_of-b.ensures.tree (tree_at d.trees c.args.ty) m.1.0 m.1.1.0 ∙ cc (tree_later d d1 x c.args.ty c.requires.ty_held, tree_later d d1 x b c.body_of-b.ensures.held)

pub alike_quantified-requires-clause-at_b_is : goal.alike_quantified-requires-clause-at_b_is
alike_quantified-requires-clause-at_b_is c =
    let d = c.args.draft.now in
    let d1 = c.parameter.new.g in
    let x = AddsTrees_extends d d1 c.in_ok-term.ensures.grows in
    let u = c.args.universal in
    let b = c.body_of-b.result in
    let n = c.args.q.number in
    let m = under_is d.task n (tree_at d.trees c.args.q.left) (tree_at d.trees c.args.q.right) u (tree_at d.trees c.args.ty) (tree_at d.trees c.args.a) (tree_at d.trees c.args.part.left) (tree_at d.trees c.args.part.right) c.requires.left c.requires.parts in
    let r : tree_at d.trees c.args.part.right ≡ inst (tree_at d.trees b) (Param n (tree_at d.trees c.args.ty))
    = under_right d.task n (tree_at d.trees c.args.q.left) (tree_at d.trees c.args.q.right) u (tree_at d.trees c.args.ty) (tree_at d.trees c.args.a) (tree_at d.trees b) (tree_at d.trees c.args.part.left) (tree_at d.trees c.args.part.right) c.requires.left (c.body_of-b.ensures.tree (tree_at d.trees c.args.ty) m.1.0 m.1.1.0) c.requires.parts in
    tree_later d d1 x c.args.part.right c.requires.part.pair.right.held ∙ r ∙ ap (λ (z : Tree). inst z (Param n (tree_at d.trees c.args.ty))) (sym (tree_later d d1 x b c.body_of-b.ensures.held)) ∙ ap (λ (z : Tree). inst (tree_at d1.trees b) (Param n z)) (sym (tree_later d d1 x c.args.ty c.requires.ty_held))

pub body_of-b-requires-clause-held : goal.body_of-b-requires-clause-held
body_of-b-requires-clause-held c = c.requires.asked.pair.right.held

pub parameter-requires-clause-held : goal.parameter-requires-clause-held
parameter-requires-clause-held c = c.requires.ty_held

pub returns-in_err-term-clause-grows : goal.returns-in_err-term-clause-grows
returns-in_err-term-clause-grows c = AddsTrees_extends _ _ c.in_err-term.ensures.grows

pub alike_quantified-requires-clause-left : goal.alike_quantified-requires-clause-left
alike_quantified-requires-clause-left c = formula_later c.args.draft.now c.parameter.new.g (AddsTrees_extends c.args.draft.now c.parameter.new.g c.in_ok-term.ensures.grows) c.args.q.left (quantified_formula c.args.draft.now c.args.universal c.args.q.left _ _ c.requires.asked.pair.left c.requires.left)

pub alike_quantified-requires-clause-right : goal.alike_quantified-requires-clause-right
alike_quantified-requires-clause-right c = formula_later c.args.draft.now c.parameter.new.g (AddsTrees_extends c.args.draft.now c.parameter.new.g c.in_ok-term.ensures.grows) c.args.q.right (quantified_formula c.args.draft.now c.args.universal c.args.q.right _ _ c.requires.asked.pair.right (under_is c.args.draft.now.task c.args.q.number (tree_at c.args.draft.now.trees c.args.q.left) (tree_at c.args.draft.now.trees c.args.q.right) c.args.universal (tree_at c.args.draft.now.trees c.args.ty) (tree_at c.args.draft.now.trees c.args.a) (tree_at c.args.draft.now.trees c.args.part.left) (tree_at c.args.draft.now.trees c.args.part.right) c.requires.left c.requires.parts).1.1.0)

pub alike_quantified-requires-clause-pair : goal.alike_quantified-requires-clause-pair
alike_quantified-requires-clause-pair c = pair_later c.args.draft.now c.parameter.new.g (AddsTrees_extends c.args.draft.now c.parameter.new.g c.in_ok-term.ensures.grows) c.args.part.left c.args.part.right c.requires.part.pair

pub alike_quantified-requires-clause-ty_held : goal.alike_quantified-requires-clause-ty_held
alike_quantified-requires-clause-ty_held c = held_later c.args.draft.now c.parameter.new.g (AddsTrees_extends c.args.draft.now c.parameter.new.g c.in_ok-term.ensures.grows) c.args.ty c.requires.ty_held

pub alike_quantified-requires-clause-a_held : goal.alike_quantified-requires-clause-a_held
alike_quantified-requires-clause-a_held c = held_later c.args.draft.now c.parameter.new.g (AddsTrees_extends c.args.draft.now c.parameter.new.g c.in_ok-term.ensures.grows) c.args.a c.requires.a_held

pub alike_quantified-requires-clause-b_held : goal.alike_quantified-requires-clause-b_held
alike_quantified-requires-clause-b_held c = held_later c.args.draft.now c.parameter.new.g (AddsTrees_extends c.args.draft.now c.parameter.new.g c.in_ok-term.ensures.grows) c.body_of-b.result c.body_of-b.ensures.held

pub alike_quantified-requires-clause-term_is : goal.alike_quantified-requires-clause-term_is
alike_quantified-requires-clause-term_is c = c.in_ok-term.ensures.tree ∙ ap (λ (z : Tree). Param c.args.q.number z) (sym (tree_later c.args.draft.now c.parameter.new.g (AddsTrees_extends c.args.draft.now c.parameter.new.g c.in_ok-term.ensures.grows) c.args.ty c.requires.ty_held))

pub alike_quantified-requires-clause-left_is : goal.alike_quantified-requires-clause-left_is
alike_quantified-requires-clause-left_is c = tree_later c.args.draft.now c.parameter.new.g (AddsTrees_extends c.args.draft.now c.parameter.new.g c.in_ok-term.ensures.grows) c.args.q.left c.requires.asked.pair.left.held ∙ c.requires.left ∙ cc (tree_later c.args.draft.now c.parameter.new.g (AddsTrees_extends c.args.draft.now c.parameter.new.g c.in_ok-term.ensures.grows) c.args.ty c.requires.ty_held, tree_later c.args.draft.now c.parameter.new.g (AddsTrees_extends c.args.draft.now c.parameter.new.g c.in_ok-term.ensures.grows) c.args.a c.requires.a_held)

pub alike_quantified-requires-clause-at_a_is : goal.alike_quantified-requires-clause-at_a_is
alike_quantified-requires-clause-at_a_is c = tree_later c.args.draft.now c.parameter.new.g (AddsTrees_extends c.args.draft.now c.parameter.new.g c.in_ok-term.ensures.grows) c.args.part.left c.requires.part.pair.left.held ∙ (under_is c.args.draft.now.task c.args.q.number (tree_at c.args.draft.now.trees c.args.q.left) (tree_at c.args.draft.now.trees c.args.q.right) c.args.universal (tree_at c.args.draft.now.trees c.args.ty) (tree_at c.args.draft.now.trees c.args.a) (tree_at c.args.draft.now.trees c.args.part.left) (tree_at c.args.draft.now.trees c.args.part.right) c.requires.left c.requires.parts).0 ∙ cc (tree_later c.args.draft.now c.parameter.new.g (AddsTrees_extends c.args.draft.now c.parameter.new.g c.in_ok-term.ensures.grows) c.args.ty c.requires.ty_held, tree_later c.args.draft.now c.parameter.new.g (AddsTrees_extends c.args.draft.now c.parameter.new.g c.in_ok-term.ensures.grows) c.args.a c.requires.a_held)

pub alike_quantified-requires-clause-left_above : goal.alike_quantified-requires-clause-left_above
alike_quantified-requires-clause-left_above c = subst (λ (z : Tree). above_params z ≤ c.args.q.number) (sym (tree_later c.args.draft.now c.parameter.new.g (AddsTrees_extends c.args.draft.now c.parameter.new.g c.in_ok-term.ensures.grows) c.args.q.left c.requires.asked.pair.left.held)) c.requires.asked.left_above

pub alike_quantified-requires-clause-right_above : goal.alike_quantified-requires-clause-right_above
alike_quantified-requires-clause-right_above c = subst (λ (z : Tree). above_params z ≤ c.args.q.number) (sym (tree_later c.args.draft.now c.parameter.new.g (AddsTrees_extends c.args.draft.now c.parameter.new.g c.in_ok-term.ensures.grows) c.args.q.right c.requires.asked.pair.right.held)) c.requires.asked.right_above

pub alike_quantified-requires-clause-shows : goal.alike_quantified-requires-clause-shows
alike_quantified-requires-clause-shows c = shows_at c.args.draft.now c.parameter.new.g (AddsTrees_extends c.args.draft.now c.parameter.new.g c.in_ok-term.ensures.grows) c.args.part.alike c.args.part.left c.args.part.right c.requires.part.pair.left.held c.requires.part.pair.right.held c.requires.part.shows

pub returns-clause-grows : goal.returns-clause-grows
returns-clause-grows c = Extends_trans _ _ _ (AddsTrees_extends _ _ c.in_ok-term.ensures.grows) c.alike_quantified.ensures.grows

pub returns-clause-shows : goal.returns-clause-shows
returns-clause-shows c = shown_since c.alike_quantified.result c.args.draft.now c.parameter.new.g c.alike_quantified.new.draft (AddsTrees_extends _ _ c.in_ok-term.ensures.grows) c.args.q.left c.args.q.right c.requires.asked.pair c.alike_quantified.ensures.shows
