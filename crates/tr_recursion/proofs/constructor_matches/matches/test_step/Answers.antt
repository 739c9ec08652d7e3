use Rattle.std.proofs.Common.{[], ◌∷◌, sym, ap, subst, ◌∙◌}
use Rattle.trees.specs.Tree.{Tree}
use Rattle.trees.specs.Node.{tree_at}
use Rattle.tasks.specs.Task.{neg}
use Rattle.congruence.specs.kernel.rules.Forms.{alike}
use Rattle.evidence.specs.Drafts.{Refutes}
use Rattle.evidence.specs.Laws.{Extends_trans}
use Rattle.congruence.specs.Alike.{Shows}
use Rattle.congruence.proofs.Later.{tree_later, pair_later}
use Rattle.congruence.proofs.CaseParts.{pair_turned}
use Rattle.tr_recursion.proofs.constructor_matches.Moved.{shows_there}
use Rattle.tr_recursion.proofs.constructor_matches.OwnFields.{has_sides, rebuilt, test_claim}
use Rattle.tr_recursion.proofs.constructor_matches.matches.test_step.Goals as goal

pub right_side-built-requires-clause-held : goal.right_side-built-requires-clause-held
right_side-built-requires-clause-held c = c.requires.opened.test.held

pub right_side-built-requires-clause-equation : goal.right_side-built-requires-clause-equation
right_side-built-requires-clause-equation c =
    let d = c.args.draft.now in
    has_sides d c.task-task.ensures.valid c.args.whole c.args.scrutinee c.args.first c.args.opened c.requires.opened (tree_at d.trees c.args.right) c.requires.here

pub replace_built-requires : goal.replace_built-requires
replace_built-requires c =
    let d = c.args.draft.now in
    let b = c.right_side-built in
    record { rebuilt = rebuilt d c.task-task.ensures.valid c.args.whole c.args.scrutinee c.args.first c.args.opened c.requires.opened (tree_at d.trees c.args.right) c.requires.here b.result b.ensures.held b.ensures.tree.0 b.ensures.tree.1 }

pub flip-requires-clause-shows : goal.flip-requires-clause-shows
flip-requires-clause-shows c =
    let d = c.args.draft.now in
    let d1 = c.replace_built.new.draft in
    let r = c.in_ok-replaced in
    subst (λ (z : Tree). Shows d1 r.replaced.alike z (tree_at d1.trees r.replaced.right)) (sym (tree_later d d1 r.ensures.grows c.right_side-built.result c.right_side-built.ensures.held)) r.ensures.shows

pub step_of_alike-requires-clause-pair : goal.step_of_alike-requires-clause-pair
step_of_alike-requires-clause-pair c =
    let d2 = c.flip.new.draft in
    let r = c.in_ok-replaced in
    pair_turned d2 c.right_side-built.result r.replaced.right (pair_later c.replace_built.new.draft d2 c.in_ok-back.ensures.grows c.right_side-built.result r.replaced.right r.ensures.pair)

pub step_of_alike-requires-clause-shows : goal.step_of_alike-requires-clause-shows
step_of_alike-requires-clause-shows c =
    let r = c.in_ok-replaced in
    shows_there c.replace_built.new.draft c.flip.new.draft c.flip.new.draft c.in_ok-back.ensures.grows c.in_ok-back.back r.replaced.right c.right_side-built.result r.ensures.pair.right.held r.ensures.pair.left.held c.in_ok-back.ensures.shows

pub returns-clause-refutes : goal.returns-clause-refutes
returns-clause-refutes c =
    let d = c.args.draft.now in
    let d1 = c.replace_built.new.draft in
    let d2 = c.flip.new.draft in
    let b = c.right_side-built in
    let r = c.in_ok-replaced in
    let y = c.in_ok-back.ensures.grows in
    let e = tree_later d1 d2 y r.replaced.right r.ensures.pair.right.held ∙ r.ensures.right_is in
    let f = tree_later d1 d2 y b.result r.ensures.pair.left.held ∙ tree_later d d1 r.ensures.grows b.result b.ensures.held in
    let q = test_claim d c.task-task.ensures.valid c.args.whole c.args.scrutinee c.args.first c.args.opened c.requires.opened (tree_at d.trees c.args.right) c.requires.here b.result b.ensures.held b.ensures.tree.0 b.ensures.tree.1 in
    subst (λ (z : Tree). Refutes c.step_of_alike.new.draft c.in_ok-step.step (neg z ∷ []))
    (ap (λ (z : Tree). alike z (tree_at d2.trees b.result)) e ∙ ap (alike (tree_at d.trees c.args.scrutinee)) f ∙ sym q) c.in_ok-step.ensures.refutes

pub returns-in_err-back-clause-grows : goal.returns-in_err-back-clause-grows
returns-in_err-back-clause-grows c = Extends_trans _ _ _ c.in_ok-replaced.ensures.grows c.flip.ensures.grows

pub returns-in_err-step-clause-grows : goal.returns-in_err-step-clause-grows
returns-in_err-step-clause-grows c = Extends_trans _ _ _ (Extends_trans _ _ _ c.in_ok-replaced.ensures.grows c.in_ok-back.ensures.grows) c.step_of_alike.ensures.grows

pub returns-clause-grows : goal.returns-clause-grows
returns-clause-grows c = Extends_trans _ _ _ (Extends_trans _ _ _ c.in_ok-replaced.ensures.grows c.in_ok-back.ensures.grows) c.in_ok-step.ensures.grows
