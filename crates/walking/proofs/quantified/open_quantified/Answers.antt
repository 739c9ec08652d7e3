use Rattle.std.proofs.Common.{◌+◌, [], ◌∷◌, ◌++◌, refl, sym, ap, ◌∙◌}
use Rattle.trees.specs.Tree.{Tree, Two}
use Rattle.trees.specs.Node.{tree_at}
use Rattle.trees.specs.Binding.{inst}
use Rattle.trees.specs.Sorts.{sort_of}
use Rattle.evidence.specs.Laws.{Extends_trans, AddsTrees_extends}
use Rattle.congruence.specs.Quantifiers.{quantifier_head}
use Rattle.congruence.proofs.Later.{held_later, tree_later}
use Rattle.walking.proofs.Places.{place_closed, place_sort}
use Rattle.congruence.proofs.CaseParts.{closed_formula}
use Rattle.walking.proofs.Binders.{opened_left, opened_formula, opened_term, opened_place}
use Rattle.walking.proofs.quantified.open_quantified.Goals as goal

pub returns-clause-left_is : goal.returns-clause-left_is
returns-clause-left_is c =
    let d = c.args.draft.now in
    let d2 = c.instance.new.g in
    let u = c.args.universal in
    let x = Extends_trans d c.parameter.new.g d2 (AddsTrees_extends d c.parameter.new.g c.in_ok-term.ensures.grows) (AddsTrees_extends c.parameter.new.g d2 c.in_ok-inner.ensures.grows) in
    let under = c.under_quantified-under.result in
    let q = c.under_quantified-under.ensures.tree (tree_at d.trees c.args.ty) _ (opened_left u d c.args.env.now c.args.e c.args.left c.args.fresh (tree_at d.trees c.args.ty) (tree_at d.trees c.args.body) c.requires.place c.requires.e_is) in
    tree_later d d2 x c.args.left c.requires.place.left_held ∙ q ∙ ap (λ (z : Tree). Two (quantifier_head u) z (tree_at d.trees under)) (sym (tree_later d d2 x c.args.ty c.requires.ty_held))
    ∙ ap (Two (quantifier_head u) (tree_at d2.trees c.args.ty)) (sym (tree_later d d2 x under c.under_quantified-under.ensures.held))

pub returns-clause-term : goal.returns-clause-term
returns-clause-term c =
    let d = c.args.draft.now in
    let d1 = c.parameter.new.g in
    let d2 = c.instance.new.g in
    let y = AddsTrees_extends d1 d2 c.in_ok-inner.ensures.grows in
    let x = Extends_trans d d1 d2 (AddsTrees_extends d d1 c.in_ok-term.ensures.grows) y in
    let term = c.in_ok-term.term in
    opened_term c.args.universal d c.args.env.now c.args.e c.args.left c.args.fresh (tree_at d.trees c.args.ty) (tree_at d.trees c.args.body) c.requires.place c.requires.e_is d2 x term (held_later d1 d2 y term c.in_ok-term.ensures.held) (tree_later d1 d2 y term c.in_ok-term.ensures.held ∙ c.in_ok-term.ensures.tree)

pub returns-clause-place : goal.returns-clause-place
returns-clause-place c =
    let d = c.args.draft.now in
    let d1 = c.parameter.new.g in
    let d2 = c.instance.new.g in
    let y = AddsTrees_extends d1 d2 c.in_ok-inner.ensures.grows in
    let x1 = AddsTrees_extends d d1 c.in_ok-term.ensures.grows in
    let x = Extends_trans d d1 d2 x1 y in
    let term = c.in_ok-term.term in
    let under = c.under_quantified-under.result in
    let T : Tree = tree_at d.trees c.args.ty in
    let n = c.args.fresh in
    let q = c.under_quantified-under.ensures.tree T _ (opened_left c.args.universal d c.args.env.now c.args.e c.args.left n T (tree_at d.trees c.args.body) c.requires.place c.requires.e_is) in
    opened_place c.args.universal d c.args.env.now c.args.e c.args.left n T (tree_at d.trees c.args.body) c.requires.place c.requires.e_is d2 x c.args.body term c.in_ok-inner.inner (tree_at d.trees under) c.requires.body_held refl q (held_later d1 d2 y term c.in_ok-term.ensures.held)
    (tree_later d1 d2 y term c.in_ok-term.ensures.held ∙ c.in_ok-term.ensures.tree) c.in_ok-inner.ensures.held
    (c.in_ok-inner.ensures.tree ∙ ap (λ (z : Tree). inst z (tree_at d1.trees term)) (tree_later d d1 x1 under c.under_quantified-under.ensures.held) ∙ ap (inst (tree_at d.trees under)) c.in_ok-term.ensures.tree)

pub returns-clause-inner : goal.returns-clause-inner
returns-clause-inner c =
    let d = c.args.draft.now in
    let d1 = c.parameter.new.g in
    let d2 = c.instance.new.g in
    let x = Extends_trans d d1 d2 (AddsTrees_extends d d1 c.in_ok-term.ensures.grows) (AddsTrees_extends d1 d2 c.in_ok-inner.ensures.grows) in
    let longer = c.args.env.now ++ c.in_ok-term.term ∷ [] in
    let n = c.args.fresh + 1 in
    let p = returns-clause-place c in
    closed_formula d2 c.in_ok-inner.inner (place_closed d2 longer c.args.body c.in_ok-inner.inner n p)
    (place_sort d2 longer c.args.body c.in_ok-inner.inner n p ∙ ap sort_of (tree_later d d2 x c.args.body c.requires.body_held)
    ∙ opened_formula c.args.universal d c.args.env.now c.args.e c.args.left c.args.fresh (tree_at d.trees c.args.ty) (tree_at d.trees c.args.body) c.requires.place c.requires.e_is)
