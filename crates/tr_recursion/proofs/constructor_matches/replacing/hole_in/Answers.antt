use Rattle.std.proofs.Common.{refl, sym, subst, ◌∙◌}
use Rattle.trees.specs.binders.Visits.{HoldTerms}
use Rattle.evidence.specs.Laws.{Extends_trans, AddsTrees_trans, AddsTrees_extends}
use Rattle.congruence.proofs.Later.{held_later}
use Rattle.tr_recursion.proofs.constructor_matches.Replaced.{hold_all, list_is, hole_made, hole_filled}
use Rattle.tr_recursion.proofs.constructor_matches.replacing.hole_in.Goals as goal

pub open_hole-requires-clause-pair : goal.open_hole-requires-clause-pair
open_hole-requires-clause-pair c = record { left = c.requires.a; right = c.requires.a; sort = refl; type = refl }

pub put_terms-requires-clause-body_held : goal.put_terms-requires-clause-body_held
put_terms-requires-clause-body_held c = held_later c.args.draft.now c.open_hole.new.draft (AddsTrees_extends _ _ c.in_ok-variable.ensures.grows) c.args.e c.requires.open.held

pub put_terms-requires-clause-terms : goal.put_terms-requires-clause-terms
put_terms-requires-clause-terms c =
    let d1 = c.open_hole.new.draft in
    let are = list_is c.args.before.now c.in_ok-variable.variable c.args.following.now c.in_ok-terms.terms.items c.push.new.self.items c.extend_from_slice.new.self.items c.in_ok-terms.ensures.items c.in_ok-push.ensures.items c.in_ok-extend_from_slice.ensures.items in
    subst (HoldTerms d1.trees) (sym (c.deref.ensures.value ∙ are)) (hold_all c.args.draft.now d1 (AddsTrees_extends _ _ c.in_ok-variable.ensures.grows) c.args.before.now c.args.following.now c.args.a c.in_ok-variable.variable c.requires.before c.requires.following c.requires.a c.requires.term c.in_ok-variable.ensures.hole.1.1.held c.in_ok-variable.ensures.tree)

pub returns-clause-hole : goal.returns-clause-hole
returns-clause-hole c =
    let d = c.args.draft.now in
    let d1 = c.open_hole.new.draft in
    let d2 = c.put_terms.new.g in
    let x = AddsTrees_extends d d1 c.in_ok-variable.ensures.grows in
    let y = AddsTrees_extends d1 d2 c.in_ok-made.ensures.grows in
    let r = c.requires in
    let are = list_is c.args.before.now c.in_ok-variable.variable c.args.following.now c.in_ok-terms.terms.items c.push.new.self.items c.extend_from_slice.new.self.items c.in_ok-terms.ensures.items c.in_ok-push.ensures.items c.in_ok-extend_from_slice.ensures.items in
    hole_made d d1 d2 x y (Extends_trans d d1 d2 x y) c.task-task.ensures.valid c.args.e c.args.before.now c.args.following.now c.args.left c.args.a c.in_ok-variable.variable c.in_ok-made.made r.open r.before r.following r.left r.a r.term r.left_is
    c.in_ok-variable.ensures.tree _ (c.deref.ensures.value ∙ are) c.in_ok-made.ensures.held c.in_ok-made.ensures.tree c.in_ok-made.ensures.sorted

pub returns-clause-fills : goal.returns-clause-fills
returns-clause-fills c =
    let d = c.args.draft.now in
    let d1 = c.open_hole.new.draft in
    let d2 = c.put_terms.new.g in
    let x = AddsTrees_extends d d1 c.in_ok-variable.ensures.grows in
    let y = AddsTrees_extends d1 d2 c.in_ok-made.ensures.grows in
    let r = c.requires in
    let are = list_is c.args.before.now c.in_ok-variable.variable c.args.following.now c.in_ok-terms.terms.items c.push.new.self.items c.extend_from_slice.new.self.items c.in_ok-terms.ensures.items c.in_ok-push.ensures.items c.in_ok-extend_from_slice.ensures.items in
    hole_filled d d1 d2 x y (Extends_trans d d1 d2 x y) c.task-task.ensures.valid c.args.e c.args.before.now c.args.following.now c.args.left c.args.a c.in_ok-variable.variable c.in_ok-made.made r.open r.before r.following r.left r.a r.term r.left_is
    c.in_ok-variable.ensures.tree _ (c.deref.ensures.value ∙ are) c.in_ok-made.ensures.held c.in_ok-made.ensures.tree c.in_ok-made.ensures.sorted

pub returns-in_err-made-clause-grows : goal.returns-in_err-made-clause-grows
returns-in_err-made-clause-grows c = AddsTrees_trans _ _ _ c.in_ok-variable.ensures.grows c.put_terms.ensures.grows

pub returns-clause-grows : goal.returns-clause-grows
returns-clause-grows c = AddsTrees_trans _ _ _ c.in_ok-variable.ensures.grows c.in_ok-made.ensures.grows
