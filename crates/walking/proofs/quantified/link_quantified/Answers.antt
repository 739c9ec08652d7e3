use Rattle.std.proofs.Common.{◌+◌, [], ◌∷◌, ◌++◌, sym, ap, ◌∙◌}
use Rattle.trees.specs.Tree.{Tree, Two}
use Rattle.trees.specs.Binding.{inst, Param}
use Rattle.congruence.specs.Quantifiers.{quantifier_head}
use Rattle.tasks.proofs.outside.Passed.{no_value}
use Rattle.trees.specs.Node.{tree_at}
use Rattle.trees.specs.Sorts.{sort_of}
use Rattle.evidence.specs.Laws.{Extends_trans, AddsTrees_extends}
use Rattle.evidence.proofs.Formulas.{formula_later}
use Rattle.congruence.proofs.Later.{held_later, tree_later, closed_later, pair_later, node_later, shows_at}
use Rattle.walking.proofs.PlacesLater.{place_later}
use Rattle.walking.proofs.Places.{place_closed}
use Rattle.congruence.proofs.CaseParts.{closed_formula}
use Rattle.walking.proofs.Binders.{quantified_sort, formula_pair, quantified_pair, place_above, made_link}
use Rattle.walking.proofs.quantified.link_quantified.Goals as goal

pub alike_quantified-requires-clause-left : goal.alike_quantified-requires-clause-left
alike_quantified-requires-clause-left c =
    let d = c.args.draft.now in
    let d1 = c.quantified_trees.new.draft in
    formula_later d d1 (AddsTrees_extends d d1 c.in_ok-m.ensures.grows) c.args.left
    (closed_formula d c.args.left (place_closed d c.args.env.now c.args.e c.args.left c.args.number c.requires.place) (ap sort_of c.requires.left_is ∙ quantified_sort c.args.universal (tree_at d.trees c.args.ty) (tree_at d.trees c.args.under)))

pub alike_quantified-requires-clause-right : goal.alike_quantified-requires-clause-right
alike_quantified-requires-clause-right c =
    let d = c.args.draft.now in
    let d1 = c.quantified_trees.new.draft in
    let m = c.in_ok-m.m in
    closed_formula d1 m.right (place_closed d1 c.args.env.now m.image m.right c.args.number c.in_ok-m.ensures.place) (ap sort_of c.in_ok-m.ensures.right ∙ quantified_sort c.args.universal (tree_at d.trees c.args.ty) (tree_at d1.trees m.under))

pub alike_quantified-requires-clause-pair : goal.alike_quantified-requires-clause-pair
alike_quantified-requires-clause-pair c =
    let d = c.args.draft.now in
    let d1 = c.quantified_trees.new.draft in
    pair_later d d1 (AddsTrees_extends d d1 c.in_ok-m.ensures.grows) c.args.inner c.args.part.right
    (formula_pair d (c.args.env.now ++ c.args.term ∷ []) c.args.inner (c.args.number + 1) (tree_at d.trees c.args.part.image) c.args.part c.requires.inner c.requires.part)

pub alike_quantified-requires-clause-at_b : goal.alike_quantified-requires-clause-at_b
alike_quantified-requires-clause-at_b c =
    let d = c.args.draft.now in
    let d1 = c.quantified_trees.new.draft in
    let q = formula_pair d (c.args.env.now ++ c.args.term ∷ []) c.args.inner (c.args.number + 1) (tree_at d.trees c.args.part.image) c.args.part c.requires.inner c.requires.part in
    formula_later d d1 (AddsTrees_extends d d1 c.in_ok-m.ensures.grows) c.args.part.right (closed_formula d c.args.part.right q.right (q.sort ∙ c.requires.inner.ground.sort))

pub alike_quantified-requires-clause-left_above : goal.alike_quantified-requires-clause-left_above
alike_quantified-requires-clause-left_above c =
    let d = c.args.draft.now in
    let d1 = c.quantified_trees.new.draft in
    place_above d1 c.args.env.now c.args.e c.args.left c.args.number (place_later d d1 (AddsTrees_extends d d1 c.in_ok-m.ensures.grows) c.args.env.now c.args.e c.args.left c.args.number c.requires.place)

pub alike_quantified-requires-clause-right_above : goal.alike_quantified-requires-clause-right_above
alike_quantified-requires-clause-right_above c =
    let m = c.in_ok-m.m in
    place_above c.quantified_trees.new.draft c.args.env.now m.image m.right c.args.number c.in_ok-m.ensures.place

pub returns-clause-link : goal.returns-clause-link
returns-clause-link c =
    let d = c.args.draft.now in
    let d1 = c.quantified_trees.new.draft in
    let d2 = c.alike_quantified.new.draft in
    let m = c.in_ok-m.m in
    let x = AddsTrees_extends d d1 c.in_ok-m.ensures.grows in
    let T = tree_at d.trees c.args.ty in
    let p = place_later d d1 x c.args.env.now c.args.e c.args.left c.args.number c.requires.place in
    let q = quantified_pair c.args.universal d1 c.args.left m.right T (tree_at d.trees c.args.under) (tree_at d1.trees m.under)
    (place_closed d1 c.args.env.now c.args.e c.args.left c.args.number p) (place_closed d1 c.args.env.now m.image m.right c.args.number c.in_ok-m.ensures.place) (tree_later d d1 x c.args.left c.requires.place.left_held ∙ c.requires.left_is) c.in_ok-m.ensures.right in
    made_link d1 d2 c.in_ok-alike.ensures.grows c.args.env.now c.args.left c.args.number _ (record { image = m.image; right = m.right; alike = c.in_ok-alike.alike }) c.in_ok-m.ensures.place c.in_ok-m.ensures.image q c.in_ok-alike.ensures.shows

pub quantified_trees-requires-clause-place : goal.quantified_trees-requires-clause-place
quantified_trees-requires-clause-place c = c.requires.place

pub quantified_trees-requires-clause-e_is : goal.quantified_trees-requires-clause-e_is
quantified_trees-requires-clause-e_is c = c.requires.e_is

pub quantified_trees-requires-clause-ty_held : goal.quantified_trees-requires-clause-ty_held
quantified_trees-requires-clause-ty_held c = c.requires.ty_held

pub quantified_trees-requires-clause-term_is : goal.quantified_trees-requires-clause-term_is
quantified_trees-requires-clause-term_is c = c.requires.term_is

pub quantified_trees-requires-clause-inner : goal.quantified_trees-requires-clause-inner
quantified_trees-requires-clause-inner c = c.requires.inner

pub quantified_trees-requires-clause-part : goal.quantified_trees-requires-clause-part
quantified_trees-requires-clause-part c = c.requires.part

pub alike_quantified-requires-clause-at_a : goal.alike_quantified-requires-clause-at_a
alike_quantified-requires-clause-at_a c =
    let d = c.args.draft.now in
    let d1 = c.quantified_trees.new.draft in
    let x = AddsTrees_extends d d1 c.in_ok-m.ensures.grows in
    formula_later d d1 x c.args.inner c.requires.inner

pub alike_quantified-requires-clause-term : goal.alike_quantified-requires-clause-term
alike_quantified-requires-clause-term c =
    let d = c.args.draft.now in
    let d1 = c.quantified_trees.new.draft in
    let x = AddsTrees_extends d d1 c.in_ok-m.ensures.grows in
    closed_later d d1 x c.args.term c.requires.term

pub alike_quantified-requires-clause-ty_held : goal.alike_quantified-requires-clause-ty_held
alike_quantified-requires-clause-ty_held c =
    let d = c.args.draft.now in
    let d1 = c.quantified_trees.new.draft in
    let x = AddsTrees_extends d d1 c.in_ok-m.ensures.grows in
    held_later d d1 x c.args.ty c.requires.ty_held

pub alike_quantified-requires-clause-a_held : goal.alike_quantified-requires-clause-a_held
alike_quantified-requires-clause-a_held c =
    let d = c.args.draft.now in
    let d1 = c.quantified_trees.new.draft in
    let x = AddsTrees_extends d d1 c.in_ok-m.ensures.grows in
    held_later d d1 x c.args.under c.requires.under_held

pub alike_quantified-requires-clause-b_held : goal.alike_quantified-requires-clause-b_held
alike_quantified-requires-clause-b_held c = c.in_ok-m.ensures.under_held

pub alike_quantified-requires-clause-term_is : goal.alike_quantified-requires-clause-term_is
alike_quantified-requires-clause-term_is c =
    let d = c.args.draft.now in
    let d1 = c.quantified_trees.new.draft in
    let x = AddsTrees_extends d d1 c.in_ok-m.ensures.grows in
    let t = tree_later d d1 x c.args.ty c.requires.ty_held in
    tree_later d d1 x c.args.term c.requires.term.held ∙ c.requires.term_is ∙ ap (λ (z : Tree). Param c.args.number z) (sym t)

pub alike_quantified-requires-clause-left_is : goal.alike_quantified-requires-clause-left_is
alike_quantified-requires-clause-left_is c =
    let d = c.args.draft.now in
    let d1 = c.quantified_trees.new.draft in
    let x = AddsTrees_extends d d1 c.in_ok-m.ensures.grows in
    node_later d d1 x (quantifier_head c.args.universal) c.args.left c.args.ty c.args.under c.requires.place.left_held c.requires.ty_held c.requires.under_held c.requires.left_is

pub alike_quantified-requires-clause-right_is : goal.alike_quantified-requires-clause-right_is
alike_quantified-requires-clause-right_is c =
    let d = c.args.draft.now in
    let d1 = c.quantified_trees.new.draft in
    let x = AddsTrees_extends d d1 c.in_ok-m.ensures.grows in
    let t = tree_later d d1 x c.args.ty c.requires.ty_held in
    c.in_ok-m.ensures.right ∙ ap (λ (z : Tree). Two (quantifier_head c.args.universal) z (tree_at d1.trees c.in_ok-m.m.under)) (sym t)

pub alike_quantified-requires-clause-at_a_is : goal.alike_quantified-requires-clause-at_a_is
alike_quantified-requires-clause-at_a_is c =
    let d = c.args.draft.now in
    let d1 = c.quantified_trees.new.draft in
    let x = AddsTrees_extends d d1 c.in_ok-m.ensures.grows in
    let t = tree_later d d1 x c.args.ty c.requires.ty_held in
    let u = tree_later d d1 x c.args.under c.requires.under_held in
    tree_later d d1 x c.args.inner c.requires.inner.held ∙ c.requires.inner_is ∙ ap (λ (z : Tree). inst z (Param c.args.number (tree_at d.trees c.args.ty))) (sym u) ∙ ap (λ (z : Tree). inst (tree_at d1.trees c.args.under) (Param c.args.number z)) (sym t)

pub alike_quantified-requires-clause-at_b_is : goal.alike_quantified-requires-clause-at_b_is
alike_quantified-requires-clause-at_b_is c =
    let d = c.args.draft.now in
    let d1 = c.quantified_trees.new.draft in
    let x = AddsTrees_extends d d1 c.in_ok-m.ensures.grows in
    let t = tree_later d d1 x c.args.ty c.requires.ty_held in
    tree_later d d1 x c.args.part.right c.requires.part.place.left_held ∙ c.in_ok-m.ensures.at ∙ ap (λ (z : Tree). inst (tree_at d1.trees c.in_ok-m.m.under) (Param c.args.number z)) (sym t)

pub alike_quantified-requires-clause-shows : goal.alike_quantified-requires-clause-shows
alike_quantified-requires-clause-shows c =
    let d = c.args.draft.now in
    let d1 = c.quantified_trees.new.draft in
    let x = AddsTrees_extends d d1 c.in_ok-m.ensures.grows in
    shows_at d d1 x c.args.part.alike c.args.inner c.args.part.right c.requires.inner.held c.requires.part.place.left_held c.requires.part.shows

pub returns-in_err-m-clause-link : goal.returns-in_err-m-clause-link
returns-in_err-m-clause-link c = no_value _ _ c.from_residual.result c.from_residual.ensures.1

pub returns-in_err-alike-clause-link : goal.returns-in_err-alike-clause-link
returns-in_err-alike-clause-link c = no_value _ _ c.from_residual-in_err-alike.result c.from_residual-in_err-alike.ensures.1

pub returns-in_err-m-clause-grows : goal.returns-in_err-m-clause-grows
returns-in_err-m-clause-grows c = AddsTrees_extends _ _ c.in_err-m.ensures.grows

pub returns-in_err-alike-clause-grows : goal.returns-in_err-alike-clause-grows
returns-in_err-alike-clause-grows c = Extends_trans _ _ _ (AddsTrees_extends _ _ c.in_ok-m.ensures.grows) c.in_err-alike.ensures.grows

pub returns-clause-grows : goal.returns-clause-grows
returns-clause-grows c = Extends_trans _ _ _ (AddsTrees_extends _ _ c.in_ok-m.ensures.grows) c.in_ok-alike.ensures.grows
