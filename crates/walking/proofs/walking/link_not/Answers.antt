use Rattle.std.proofs.Common.{◌∙◌}
use Rattle.trees.specs.Tree.{HNot}
use Rattle.trees.specs.Node.{tree_at}
use Rattle.evidence.specs.Laws.{Extends_trans, AddsTrees_extends}
use Rattle.walking.proofs.Places.{under_formula, link_formula, not_link}
use Rattle.tasks.proofs.outside.Passed.{no_value}
use Rattle.evidence.proofs.Formulas.{formula_later}
use Rattle.congruence.proofs.Later.{held_later, tree_later, closed_later}
use Rattle.walking.proofs.PlacesLater.{link_later}
use Rattle.walking.proofs.LinkedSides.{not_formula, link_sides, right_sort, one_again, sort_again}
use Rattle.trees.specs.declared.Sort.TheVariants.{Formula}
use Rattle.walking.proofs.walking.link_not.Goals as goal

pub add-requires-clause-fits : goal.add-requires-clause-fits
add-requires-clause-fits c =
    let d = c.args.draft.now in
    link_formula d c.args.env.now c.args.under c.args.fresh (tree_at d.trees c.args.part.image) c.args.part c.requires.part (under_formula d c.args.left c.args.under c.requires.left c.requires.left_is)

pub returns-in_err-right-clause-grows : goal.returns-in_err-right-clause-grows
returns-in_err-right-clause-grows c = Extends_trans _ _ _ (AddsTrees_extends _ _ c.in_ok-image.ensures.grows) (AddsTrees_extends _ _ c.in_err-right.ensures.grows)

pub returns-clause-link : goal.returns-clause-link
returns-clause-link c =
    let d = c.args.draft.now in
    let d1 = c.add.new.self in
    let d2 = c.add-2.new.self in
    not_link d d1 d2 c.alike_not.new.draft (AddsTrees_extends d d1 c.in_ok-image.ensures.grows) (AddsTrees_extends d1 d2 c.in_ok-right.ensures.grows) c.in_ok-alike.ensures.grows c.args.env.now c.args.left c.args.under c.args.fresh c.args.part _
    c.requires.part c.requires.left c.requires.left_is c.in_ok-image.ensures.held c.in_ok-image.ensures.tree c.in_ok-right.ensures.held c.in_ok-right.ensures.tree c.in_ok-alike.ensures.shows

pub add-requires-clause-held : goal.add-requires-clause-held
add-requires-clause-held c = c.requires.part.place.open_held

pub add-requires-2-clause-held : goal.add-requires-2-clause-held
add-requires-2-clause-held c =
    let d = c.args.draft.now in
    let d1 = c.add.new.self in
    let x = AddsTrees_extends d d1 c.in_ok-image.ensures.grows in
    held_later d d1 x c.args.part.right c.requires.right.held

pub add-requires-2-clause-fits : goal.add-requires-2-clause-fits
add-requires-2-clause-fits c =
    let d = c.args.draft.now in
    let d1 = c.add.new.self in
    let x = AddsTrees_extends d d1 c.in_ok-image.ensures.grows in
    let s = under_formula d c.args.left c.args.under c.requires.left c.requires.left_is in
    right_sort d d1 x c.args.env.now c.args.under c.args.fresh _ c.args.part Formula (link_later d d1 x c.args.env.now c.args.under c.args.fresh (tree_at d.trees c.args.part.image) c.args.part c.requires.under.held c.requires.part) c.requires.under.held s

pub alike_not-requires-clause-left : goal.alike_not-requires-clause-left
alike_not-requires-clause-left c =
    let d = c.args.draft.now in
    let d1 = c.add.new.self in
    let x = AddsTrees_extends d d1 c.in_ok-image.ensures.grows in
    let d2 = c.add-2.new.self in
    let y = AddsTrees_extends d1 d2 c.in_ok-right.ensures.grows in
    let xy = Extends_trans d d1 d2 x y in
    formula_later d d2 xy c.args.left c.requires.left

pub alike_not-requires-clause-right : goal.alike_not-requires-clause-right
alike_not-requires-clause-right c =
    let d = c.args.draft.now in
    let d1 = c.add.new.self in
    let x = AddsTrees_extends d d1 c.in_ok-image.ensures.grows in
    let d2 = c.add-2.new.self in
    let y = AddsTrees_extends d1 d2 c.in_ok-right.ensures.grows in
    let xy = Extends_trans d d1 d2 x y in
    let s = under_formula d c.args.left c.args.under c.requires.left c.requires.left_is in
    not_formula d2 c.in_ok-right.right c.args.part.right c.in_ok-right.ensures.held (one_again d1 d2 y HNot (tree_at d2.trees c.in_ok-right.right) c.args.part.right (held_later d d1 x c.args.part.right c.requires.right.held) c.in_ok-right.ensures.tree) (closed_later d d2 xy c.args.part.right c.requires.right) (right_sort d d2 xy c.args.env.now c.args.under c.args.fresh _ c.args.part Formula (link_later d d2 xy c.args.env.now c.args.under c.args.fresh (tree_at d.trees c.args.part.image) c.args.part c.requires.under.held c.requires.part) c.requires.under.held s)

pub alike_not-requires-clause-pair : goal.alike_not-requires-clause-pair
alike_not-requires-clause-pair c =
    let d = c.args.draft.now in
    let d1 = c.add.new.self in
    let x = AddsTrees_extends d d1 c.in_ok-image.ensures.grows in
    let d2 = c.add-2.new.self in
    let y = AddsTrees_extends d1 d2 c.in_ok-right.ensures.grows in
    let xy = Extends_trans d d1 d2 x y in
    link_sides d2 c.args.env.now c.args.under c.args.fresh _ c.args.part (link_later d d2 xy c.args.env.now c.args.under c.args.fresh (tree_at d.trees c.args.part.image) c.args.part c.requires.under.held c.requires.part) (closed_later d d2 xy c.args.under c.requires.under) (closed_later d d2 xy c.args.part.right c.requires.right)

pub alike_not-requires-clause-formula : goal.alike_not-requires-clause-formula
alike_not-requires-clause-formula c =
    let d = c.args.draft.now in
    let d1 = c.add.new.self in
    let x = AddsTrees_extends d d1 c.in_ok-image.ensures.grows in
    let d2 = c.add-2.new.self in
    let y = AddsTrees_extends d1 d2 c.in_ok-right.ensures.grows in
    let xy = Extends_trans d d1 d2 x y in
    let s = under_formula d c.args.left c.args.under c.requires.left c.requires.left_is in
    sort_again d d2 xy c.args.under Formula c.requires.under.held s

pub alike_not-requires-clause-shows : goal.alike_not-requires-clause-shows
alike_not-requires-clause-shows c =
    let d = c.args.draft.now in
    let d1 = c.add.new.self in
    let x = AddsTrees_extends d d1 c.in_ok-image.ensures.grows in
    let d2 = c.add-2.new.self in
    let y = AddsTrees_extends d1 d2 c.in_ok-right.ensures.grows in
    let xy = Extends_trans d d1 d2 x y in
    (link_later d d2 xy c.args.env.now c.args.under c.args.fresh (tree_at d.trees c.args.part.image) c.args.part c.requires.under.held c.requires.part).shows

pub alike_not-requires-clause-left_is : goal.alike_not-requires-clause-left_is
alike_not-requires-clause-left_is c =
    let d = c.args.draft.now in
    let d1 = c.add.new.self in
    let x = AddsTrees_extends d d1 c.in_ok-image.ensures.grows in
    let d2 = c.add-2.new.self in
    let y = AddsTrees_extends d1 d2 c.in_ok-right.ensures.grows in
    let xy = Extends_trans d d1 d2 x y in
    one_again d d2 xy HNot (tree_at d2.trees c.args.left) c.args.under c.requires.under.held (tree_later d d2 xy c.args.left c.requires.left.held ∙ c.requires.left_is)

pub alike_not-requires-clause-right_is : goal.alike_not-requires-clause-right_is
alike_not-requires-clause-right_is c =
    let d = c.args.draft.now in
    let d1 = c.add.new.self in
    let x = AddsTrees_extends d d1 c.in_ok-image.ensures.grows in
    let d2 = c.add-2.new.self in
    let y = AddsTrees_extends d1 d2 c.in_ok-right.ensures.grows in
    let xy = Extends_trans d d1 d2 x y in
    one_again d1 d2 y HNot (tree_at d2.trees c.in_ok-right.right) c.args.part.right (held_later d d1 x c.args.part.right c.requires.right.held) c.in_ok-right.ensures.tree

pub returns-in_err-image-clause-grows : goal.returns-in_err-image-clause-grows
returns-in_err-image-clause-grows c = AddsTrees_extends _ _ c.in_err-image.ensures.grows

pub returns-in_err-alike-clause-grows : goal.returns-in_err-alike-clause-grows
returns-in_err-alike-clause-grows c = Extends_trans _ _ _ (Extends_trans _ _ _ (AddsTrees_extends _ _ c.in_ok-image.ensures.grows) (AddsTrees_extends _ _ c.in_ok-right.ensures.grows)) c.in_err-alike.ensures.grows

pub returns-clause-grows : goal.returns-clause-grows
returns-clause-grows c = Extends_trans _ _ _ (Extends_trans _ _ _ (AddsTrees_extends _ _ c.in_ok-image.ensures.grows) (AddsTrees_extends _ _ c.in_ok-right.ensures.grows)) c.in_ok-alike.ensures.grows

pub returns-in_err-image-clause-link : goal.returns-in_err-image-clause-link
returns-in_err-image-clause-link c = no_value _ _ c.from_residual.result c.from_residual.ensures.1

pub returns-in_err-right-clause-link : goal.returns-in_err-right-clause-link
returns-in_err-right-clause-link c = no_value _ _ c.from_residual-in_err-right.result c.from_residual-in_err-right.ensures.1

pub returns-in_err-alike-clause-link : goal.returns-in_err-alike-clause-link
returns-in_err-alike-clause-link c = no_value _ _ c.from_residual-in_err-alike.result c.from_residual-in_err-alike.ensures.1
