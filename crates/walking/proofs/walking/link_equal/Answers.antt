use Rattle.std.proofs.Common.{subst, sym, ap, ◌∙◌}
use Rattle.trees.specs.Tree.{Two, HEq}
use Rattle.trees.specs.Node.{tree_at}
use Rattle.tasks.specs.Valid.{IsGroundFormula}
use Rattle.evidence.specs.Laws.{Extends_trans, AddsTrees_extends}
use Rattle.walking.proofs.EqualPlaces.{link_term, equal_link}
use Rattle.tasks.proofs.outside.Passed.{no_value}
use Rattle.evidence.proofs.Formulas.{formula_later}
use Rattle.congruence.proofs.Later.{held_later, tree_later, closed_later, node_later}
use Rattle.walking.proofs.PlacesLater.{link_later}
use Rattle.walking.proofs.LinkedSides.{equal_formula, link_sides, right_sort, two_again, sort_again}
use Rattle.trees.specs.declared.Sort.TheVariants.{Term}
use Rattle.trees.specs.Sorts.{type_of}
use Rattle.walking.proofs.walking.link_equal.Goals as goal

pub add-requires-clause-fits : goal.add-requires-clause-fits
add-requires-clause-fits c =
    let d = c.args.draft.now in
    let g : IsGroundFormula d.task (Two HEq (tree_at d.trees c.args.first) (tree_at d.trees c.args.second)) = subst (IsGroundFormula d.task) c.requires.left_is c.requires.left.ground in (
      (
        link_term d c.args.env.now c.args.first c.args.fresh (tree_at d.trees c.args.one.image) c.args.one c.requires.one g.typed.0.0.0,
        link_term d c.args.env.now c.args.second c.args.fresh (tree_at d.trees c.args.two.image) c.args.two c.requires.two g.typed.0.0.1,
      ),
      tt,
    )

pub returns-in_err-right-clause-grows : goal.returns-in_err-right-clause-grows
returns-in_err-right-clause-grows c = Extends_trans _ _ _ (AddsTrees_extends _ _ c.in_ok-image.ensures.grows) (AddsTrees_extends _ _ c.in_err-right.ensures.grows)

pub returns-clause-link : goal.returns-clause-link
returns-clause-link c =
    let d = c.args.draft.now in
    let d1 = c.add.new.self in
    let d2 = c.add-2.new.self in
    equal_link d d1 d2 c.alike_equal.new.draft (AddsTrees_extends d d1 c.in_ok-image.ensures.grows) (AddsTrees_extends d1 d2 c.in_ok-right.ensures.grows) c.in_ok-alike.ensures.grows c.args.env.now c.args.left c.args.first c.args.second c.args.fresh c.args.one c.args.two _
    c.requires.one c.requires.two c.requires.left c.requires.left_is c.in_ok-image.ensures.held c.in_ok-image.ensures.tree c.in_ok-right.ensures.held c.in_ok-right.ensures.tree c.in_ok-alike.ensures.shows

pub add-requires-clause-held : goal.add-requires-clause-held
add-requires-clause-held c = (c.requires.one.place.open_held, c.requires.two.place.open_held)

pub add-requires-2-clause-held : goal.add-requires-2-clause-held
add-requires-2-clause-held c =
    let d = c.args.draft.now in
    let d1 = c.add.new.self in
    let x = AddsTrees_extends d d1 c.in_ok-image.ensures.grows in
    (held_later d d1 x c.args.one.right c.requires.one_right.held, held_later d d1 x c.args.two.right c.requires.two_right.held)

pub add-requires-2-clause-fits : goal.add-requires-2-clause-fits
add-requires-2-clause-fits c =
    let d = c.args.draft.now in
    let d1 = c.add.new.self in
    let x = AddsTrees_extends d d1 c.in_ok-image.ensures.grows in
    let g : IsGroundFormula d.task (Two HEq (tree_at d.trees c.args.first) (tree_at d.trees c.args.second)) = subst (IsGroundFormula d.task) c.requires.left_is c.requires.left.ground in
    ((right_sort d d1 x c.args.env.now c.args.first c.args.fresh _ c.args.one Term (link_later d d1 x c.args.env.now c.args.first c.args.fresh (tree_at d.trees c.args.one.image) c.args.one c.requires.first.held c.requires.one) c.requires.first.held g.typed.0.0.0, right_sort d d1 x c.args.env.now c.args.second c.args.fresh _ c.args.two Term (link_later d d1 x c.args.env.now c.args.second c.args.fresh (tree_at d.trees c.args.two.image) c.args.two c.requires.second.held c.requires.two) c.requires.second.held g.typed.0.0.1), tt)

pub alike_equal-requires-clause-left : goal.alike_equal-requires-clause-left
alike_equal-requires-clause-left c =
    let d = c.args.draft.now in
    let d1 = c.add.new.self in
    let x = AddsTrees_extends d d1 c.in_ok-image.ensures.grows in
    let d2 = c.add-2.new.self in
    let y = AddsTrees_extends d1 d2 c.in_ok-right.ensures.grows in
    let xy = Extends_trans d d1 d2 x y in
    formula_later d d2 xy c.args.left c.requires.left

pub alike_equal-requires-clause-right : goal.alike_equal-requires-clause-right
alike_equal-requires-clause-right c =
    let d = c.args.draft.now in
    let d1 = c.add.new.self in
    let x = AddsTrees_extends d d1 c.in_ok-image.ensures.grows in
    let d2 = c.add-2.new.self in
    let y = AddsTrees_extends d1 d2 c.in_ok-right.ensures.grows in
    let xy = Extends_trans d d1 d2 x y in
    let g : IsGroundFormula d.task (Two HEq (tree_at d.trees c.args.first) (tree_at d.trees c.args.second)) = subst (IsGroundFormula d.task) c.requires.left_is c.requires.left.ground in
    let k = link_later d d2 xy c.args.env.now c.args.first c.args.fresh (tree_at d.trees c.args.one.image) c.args.one c.requires.first.held c.requires.one in
    let m = link_later d d2 xy c.args.env.now c.args.second c.args.fresh (tree_at d.trees c.args.two.image) c.args.two c.requires.second.held c.requires.two in
    let w = k.type ∙ ap type_of (tree_later d d2 xy c.args.first c.requires.first.held) ∙ g.typed.1 ∙ sym (ap type_of (tree_later d d2 xy c.args.second c.requires.second.held)) ∙ sym m.type in
    equal_formula d2 c.in_ok-right.right c.args.one.right c.args.two.right c.in_ok-right.ensures.held (two_again d1 d2 y HEq (tree_at d2.trees c.in_ok-right.right) c.args.one.right c.args.two.right (held_later d d1 x c.args.one.right c.requires.one_right.held) (held_later d d1 x c.args.two.right c.requires.two_right.held) c.in_ok-right.ensures.tree) (closed_later d d2 xy c.args.one.right c.requires.one_right) (closed_later d d2 xy c.args.two.right c.requires.two_right) (right_sort d d2 xy c.args.env.now c.args.first c.args.fresh _ c.args.one Term (link_later d d2 xy c.args.env.now c.args.first c.args.fresh (tree_at d.trees c.args.one.image) c.args.one c.requires.first.held c.requires.one) c.requires.first.held g.typed.0.0.0) (right_sort d d2 xy c.args.env.now c.args.second c.args.fresh _ c.args.two Term (link_later d d2 xy c.args.env.now c.args.second c.args.fresh (tree_at d.trees c.args.two.image) c.args.two c.requires.second.held c.requires.two) c.requires.second.held g.typed.0.0.1) w

pub alike_equal-requires-clause-first_pair : goal.alike_equal-requires-clause-first_pair
alike_equal-requires-clause-first_pair c =
    let d = c.args.draft.now in
    let d1 = c.add.new.self in
    let x = AddsTrees_extends d d1 c.in_ok-image.ensures.grows in
    let d2 = c.add-2.new.self in
    let y = AddsTrees_extends d1 d2 c.in_ok-right.ensures.grows in
    let xy = Extends_trans d d1 d2 x y in
    link_sides d2 c.args.env.now c.args.first c.args.fresh _ c.args.one (link_later d d2 xy c.args.env.now c.args.first c.args.fresh (tree_at d.trees c.args.one.image) c.args.one c.requires.first.held c.requires.one) (closed_later d d2 xy c.args.first c.requires.first) (closed_later d d2 xy c.args.one.right c.requires.one_right)

pub alike_equal-requires-clause-first_term : goal.alike_equal-requires-clause-first_term
alike_equal-requires-clause-first_term c =
    let d = c.args.draft.now in
    let d1 = c.add.new.self in
    let x = AddsTrees_extends d d1 c.in_ok-image.ensures.grows in
    let d2 = c.add-2.new.self in
    let y = AddsTrees_extends d1 d2 c.in_ok-right.ensures.grows in
    let xy = Extends_trans d d1 d2 x y in
    let g : IsGroundFormula d.task (Two HEq (tree_at d.trees c.args.first) (tree_at d.trees c.args.second)) = subst (IsGroundFormula d.task) c.requires.left_is c.requires.left.ground in
    sort_again d d2 xy c.args.first Term c.requires.first.held g.typed.0.0.0

pub alike_equal-requires-clause-first : goal.alike_equal-requires-clause-first
alike_equal-requires-clause-first c =
    let d = c.args.draft.now in
    let d1 = c.add.new.self in
    let x = AddsTrees_extends d d1 c.in_ok-image.ensures.grows in
    let d2 = c.add-2.new.self in
    let y = AddsTrees_extends d1 d2 c.in_ok-right.ensures.grows in
    let xy = Extends_trans d d1 d2 x y in
    (link_later d d2 xy c.args.env.now c.args.first c.args.fresh (tree_at d.trees c.args.one.image) c.args.one c.requires.first.held c.requires.one).shows

pub alike_equal-requires-clause-second_pair : goal.alike_equal-requires-clause-second_pair
alike_equal-requires-clause-second_pair c =
    let d = c.args.draft.now in
    let d1 = c.add.new.self in
    let x = AddsTrees_extends d d1 c.in_ok-image.ensures.grows in
    let d2 = c.add-2.new.self in
    let y = AddsTrees_extends d1 d2 c.in_ok-right.ensures.grows in
    let xy = Extends_trans d d1 d2 x y in
    link_sides d2 c.args.env.now c.args.second c.args.fresh _ c.args.two (link_later d d2 xy c.args.env.now c.args.second c.args.fresh (tree_at d.trees c.args.two.image) c.args.two c.requires.second.held c.requires.two) (closed_later d d2 xy c.args.second c.requires.second) (closed_later d d2 xy c.args.two.right c.requires.two_right)

pub alike_equal-requires-clause-second_term : goal.alike_equal-requires-clause-second_term
alike_equal-requires-clause-second_term c =
    let d = c.args.draft.now in
    let d1 = c.add.new.self in
    let x = AddsTrees_extends d d1 c.in_ok-image.ensures.grows in
    let d2 = c.add-2.new.self in
    let y = AddsTrees_extends d1 d2 c.in_ok-right.ensures.grows in
    let xy = Extends_trans d d1 d2 x y in
    let g : IsGroundFormula d.task (Two HEq (tree_at d.trees c.args.first) (tree_at d.trees c.args.second)) = subst (IsGroundFormula d.task) c.requires.left_is c.requires.left.ground in
    sort_again d d2 xy c.args.second Term c.requires.second.held g.typed.0.0.1

pub alike_equal-requires-clause-second : goal.alike_equal-requires-clause-second
alike_equal-requires-clause-second c =
    let d = c.args.draft.now in
    let d1 = c.add.new.self in
    let x = AddsTrees_extends d d1 c.in_ok-image.ensures.grows in
    let d2 = c.add-2.new.self in
    let y = AddsTrees_extends d1 d2 c.in_ok-right.ensures.grows in
    let xy = Extends_trans d d1 d2 x y in
    (link_later d d2 xy c.args.env.now c.args.second c.args.fresh (tree_at d.trees c.args.two.image) c.args.two c.requires.second.held c.requires.two).shows

pub alike_equal-requires-clause-left_is : goal.alike_equal-requires-clause-left_is
alike_equal-requires-clause-left_is c =
    let d = c.args.draft.now in
    let d1 = c.add.new.self in
    let x = AddsTrees_extends d d1 c.in_ok-image.ensures.grows in
    let d2 = c.add-2.new.self in
    let y = AddsTrees_extends d1 d2 c.in_ok-right.ensures.grows in
    let xy = Extends_trans d d1 d2 x y in
    node_later d d2 xy HEq c.args.left c.args.first c.args.second c.requires.left.held c.requires.first.held c.requires.second.held c.requires.left_is

pub alike_equal-requires-clause-right_is : goal.alike_equal-requires-clause-right_is
alike_equal-requires-clause-right_is c =
    let d = c.args.draft.now in
    let d1 = c.add.new.self in
    let x = AddsTrees_extends d d1 c.in_ok-image.ensures.grows in
    let d2 = c.add-2.new.self in
    let y = AddsTrees_extends d1 d2 c.in_ok-right.ensures.grows in
    let xy = Extends_trans d d1 d2 x y in
    two_again d1 d2 y HEq (tree_at d2.trees c.in_ok-right.right) c.args.one.right c.args.two.right (held_later d d1 x c.args.one.right c.requires.one_right.held) (held_later d d1 x c.args.two.right c.requires.two_right.held) c.in_ok-right.ensures.tree

pub returns-in_err-image-clause-grows : goal.returns-in_err-image-clause-grows
returns-in_err-image-clause-grows c = AddsTrees_extends _ _ c.in_err-image.ensures.grows

pub returns-in_err-alike-clause-grows : goal.returns-in_err-alike-clause-grows
returns-in_err-alike-clause-grows c = Extends_trans _ _ _ (Extends_trans _ _ _ (AddsTrees_extends _ _ c.in_ok-image.ensures.grows) (AddsTrees_extends _ _ c.in_ok-right.ensures.grows)) c.in_err-alike.ensures.grows

pub returns-clause-grows : goal.returns-clause-grows
returns-clause-grows c = Extends_trans _ _ _ (Extends_trans _ _ _ (AddsTrees_extends _ _ c.in_ok-image.ensures.grows) (AddsTrees_extends _ _ c.in_ok-right.ensures.grows)) c.in_ok-alike.ensures.grows

pub returns-in_err-image-clause-link : goal.returns-in_err-image-clause-link
returns-in_err-image-clause-link c = no_value _ _ c.from_residual.result c.from_residual.ensures.1

pub returns-in_err-right-clause-link : goal.returns-in_err-right-clause-link
returns-in_err-right-clause-link c = no_value _ _ c.from_residual-in_err-right.result c.from_residual-in_err-right.ensures.1

pub returns-in_err-alike-clause-link : goal.returns-in_err-alike-clause-link
returns-in_err-alike-clause-link c = no_value _ _ c.from_residual-in_err-alike.result c.from_residual-in_err-alike.ensures.1
