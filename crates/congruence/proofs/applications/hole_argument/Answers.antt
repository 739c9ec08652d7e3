use Rattle.std.proofs.Common.{[], refl, sym, ap, subst}
use Rattle.trees.specs.declared.Sort.TheVariants.{Term}
use Rattle.trees.specs.Node.{tree_at}
use Rattle.trees.specs.Sorts.{sort_of, IsList}
use Rattle.trees.specs.laws.Sorts.{IsList_cell}
use Rattle.tasks.specs.Vocabulary.{of_task}
use Rattle.images.proofs.Templates.{term_has_type}
use Rattle.evidence.specs.Laws.{Extends_trans, AddsTrees_extends}
use Rattle.congruence.proofs.Later.{tree_later}
use Rattle.tasks.proofs.Growth.{all_held_later}
use Rattle.congruence.proofs.Lists.{cell_of_terms}
use Rattle.congruence.proofs.ApplicationHoles.{holed_terms, terms_later, symbol_later, hole_made, fills_made}
use Rattle.congruence.proofs.applications.hole_argument.Goals as goal

pub open_hole-requires-clause-pair : goal.open_hole-requires-clause-pair
open_hole-requires-clause-pair c = record { left = c.requires.a; right = c.requires.a; sort = refl; type = refl }

pub add-requires-clause-fits : goal.add-requires-clause-fits
add-requires-clause-fits c =
    let d = c.args.draft.now in
    let d1 = c.open_hole.new.draft in
    let x = AddsTrees_extends d d1 c.in_ok-variable.ensures.grows in
    let r = c.requires in
    let p = term_has_type (of_task d.task) [] (tree_at d.trees c.args.a) r.term r.a.ground.typed in
    let l = (holed_terms d c.args.symbol c.args.before.now c.args.left c.args.a c.args.rest r.left r.left_is).1 in
    let m = subst (IsList Term) (sym (tree_later d d1 x c.args.rest r.rest_held)) l in
    (cell_of_terms (tree_at d1.trees c.in_ok-variable.variable) (tree_at d1.trees c.args.rest) (ap sort_of (c.in_ok-variable.ensures.tree p.0 p.1)) m).0

pub list_after-requires-clause-before_held : goal.list_after-requires-clause-before_held
list_after-requires-clause-before_held c =
    let d = c.args.draft.now in
    let d1 = c.open_hole.new.draft in
    let d2 = c.add.new.self in
    all_held_later d.trees d2.trees (Extends_trans d d1 d2 (AddsTrees_extends d d1 c.in_ok-variable.ensures.grows) (AddsTrees_extends d1 d2 c.in_ok-cell.ensures.grows)).trees c.args.before.now c.requires.before_held

pub list_after-requires-clause-before_terms : goal.list_after-requires-clause-before_terms
list_after-requires-clause-before_terms c =
    let d = c.args.draft.now in
    let d1 = c.open_hole.new.draft in
    let d2 = c.add.new.self in
    let r = c.requires in
    terms_later d d2 (Extends_trans d d1 d2 (AddsTrees_extends d d1 c.in_ok-variable.ensures.grows) (AddsTrees_extends d1 d2 c.in_ok-cell.ensures.grows)) c.args.before.now r.before_held
    (holed_terms d c.args.symbol c.args.before.now c.args.left c.args.a c.args.rest r.left r.left_is).0

pub list_after-requires-clause-terms : goal.list_after-requires-clause-terms
list_after-requires-clause-terms c =
    let d = c.args.draft.now in
    let d1 = c.open_hole.new.draft in
    let r = c.requires in
    let p = term_has_type (of_task d.task) [] (tree_at d.trees c.args.a) r.term r.a.ground.typed in
    IsList_cell Term (tree_at d1.trees c.in_ok-variable.variable) (tree_at d1.trees c.args.rest) _ c.in_ok-cell.ensures.tree (ap sort_of (c.in_ok-variable.ensures.tree p.0 p.1))

pub apply-requires-clause-symbol_held : goal.apply-requires-clause-symbol_held
apply-requires-clause-symbol_held c =
    let d = c.args.draft.now in
    let d1 = c.open_hole.new.draft in
    let d2 = c.add.new.self in
    let d3 = c.list_after.new.draft in
    let x = Extends_trans d d1 d2 (AddsTrees_extends d d1 c.in_ok-variable.ensures.grows) (AddsTrees_extends d1 d2 c.in_ok-cell.ensures.grows) in
    symbol_later d d3 (Extends_trans d d2 d3 x (AddsTrees_extends d2 d3 c.in_ok-list.ensures.grows)) c.args.symbol c.requires.symbol_held

pub returns-clause-hole : goal.returns-clause-hole
returns-clause-hole c =
    let d = c.args.draft.now in
    let d1 = c.open_hole.new.draft in
    let d2 = c.add.new.self in
    let d3 = c.list_after.new.draft in
    let d4 = c.apply.new.draft in
    let r = c.requires in
    hole_made d d1 d2 d3 d4 (AddsTrees_extends d d1 c.in_ok-variable.ensures.grows) (AddsTrees_extends d1 d2 c.in_ok-cell.ensures.grows) (AddsTrees_extends d2 d3 c.in_ok-list.ensures.grows) (AddsTrees_extends d3 d4 c.in_ok-hole.ensures.grows)
    c.args.symbol c.args.before.now c.args.left c.args.a c.args.rest c.in_ok-variable.variable c.in_ok-cell.cell c.in_ok-list.list c.in_ok-hole.hole c.task-task.ensures.valid r.left r.symbol_held r.before_held r.rest_held r.a r.term r.left_is
    c.in_ok-variable.ensures.tree c.in_ok-cell.ensures.tree c.in_ok-list.ensures.tree c.in_ok-hole.ensures.held c.in_ok-hole.ensures.tree

pub returns-clause-fills : goal.returns-clause-fills
returns-clause-fills c =
    let d = c.args.draft.now in
    let d1 = c.open_hole.new.draft in
    let d2 = c.add.new.self in
    let d3 = c.list_after.new.draft in
    let d4 = c.apply.new.draft in
    let r = c.requires in
    fills_made d d1 d2 d3 d4 (AddsTrees_extends d d1 c.in_ok-variable.ensures.grows) (AddsTrees_extends d1 d2 c.in_ok-cell.ensures.grows) (AddsTrees_extends d2 d3 c.in_ok-list.ensures.grows) (AddsTrees_extends d3 d4 c.in_ok-hole.ensures.grows)
    c.args.symbol c.args.before.now c.args.left c.args.a c.args.rest c.in_ok-variable.variable c.in_ok-cell.cell c.in_ok-list.list c.in_ok-hole.hole c.task-task.ensures.valid r.left r.symbol_held r.before_held r.rest_held r.a r.term r.left_is
    c.in_ok-variable.ensures.tree c.in_ok-cell.ensures.tree c.in_ok-list.ensures.tree c.in_ok-hole.ensures.held c.in_ok-hole.ensures.tree
