use Rattle.std.proofs.Common.{sym, subst, ◌∙◌}
use Rattle.trees.specs.Tree.{Tree}
use Rattle.trees.specs.Node.{tree_at}
use Rattle.tasks.specs.Valid.{IsValid}
use Rattle.evidence.specs.Laws.{Extends_trans, AddsTrees_extends}
use Rattle.congruence.specs.Alike.{Shows}
use Rattle.congruence.proofs.Later.{held_later, tree_later}
use Rattle.tr_recursion.proofs.constructor_matches.Asked.{pattern_typed, scrutinee_term, bind_same, opened_later, here_later}
use Rattle.tr_recursion.proofs.constructor_matches.OwnFields.{bound_can, bound_right}
use Rattle.tr_recursion.proofs.constructor_matches.matches.alike_fields.Goals as goal

pub ask_pattern-requires-clause-pattern : goal.ask_pattern-requires-clause-pattern
ask_pattern-requires-clause-pattern c = pattern_typed c.args.draft.now c.task-task.ensures.valid c.args.whole c.args.scrutinee c.args.first c.requires.opened.asked

pub ask_pattern-requires-clause-term : goal.ask_pattern-requires-clause-term
ask_pattern-requires-clause-term c = scrutinee_term c.args.draft.now c.task-task.ensures.valid c.args.whole c.args.scrutinee c.args.first c.requires.opened.asked

pub own_fields-requires-clause-pattern_held : goal.own_fields-requires-clause-pattern_held
own_fields-requires-clause-pattern_held c = held_later c.args.draft.now c.ask_pattern.new.draft (AddsTrees_extends _ _ c.in_ok-asked.ensures.grows) c.args.first.pattern c.requires.opened.asked.pattern_held

pub own_fields-requires-clause-pattern : goal.own_fields-requires-clause-pattern
own_fields-requires-clause-pattern c =
    (_, (_, (_, (_, tree_later c.args.draft.now c.ask_pattern.new.draft (AddsTrees_extends _ _ c.in_ok-asked.ensures.grows) c.args.first.pattern c.requires.opened.asked.pattern_held ∙ c.requires.here.pattern))))

pub own_fields-requires-clause-scrutinee_held : goal.own_fields-requires-clause-scrutinee_held
own_fields-requires-clause-scrutinee_held c = held_later c.args.draft.now c.ask_pattern.new.draft (AddsTrees_extends _ _ c.in_ok-asked.ensures.grows) c.args.scrutinee c.requires.opened.asked.scrutinee_held

pub own_fields-requires-clause-application : goal.own_fields-requires-clause-application
own_fields-requires-clause-application c =
    (_, (_, (_, (_, tree_later c.args.draft.now c.ask_pattern.new.draft (AddsTrees_extends _ _ c.in_ok-asked.ensures.grows) c.args.scrutinee c.requires.opened.asked.scrutinee_held ∙ c.requires.here.application))))

pub replace_fields-requires : goal.replace_fields-requires
replace_fields-requires c =
    let d = c.args.draft.now in
    let d1 = c.ask_pattern.new.draft in
    let x = AddsTrees_extends d d1 c.in_ok-asked.ensures.grows in
    let a = c.in_ok-asked in
    let f = c.in_ok-fields in
    let n = c.requires.opened in
    record {
      can = rw (c.new-before.ensures.items, c.deref.ensures.value, c.deref-2.ensures.value) (bound_can d1 (subst IsValid (sym x.task) c.task-task.ensures.valid) c.args.whole c.args.scrutinee c.args.first c.args.opened (opened_later d d1 x c.args.whole c.args.scrutinee c.args.first c.args.opened n) (tree_at d1.trees c.args.right)
          (here_later d d1 x c.args.whole c.args.scrutinee c.args.first n.asked c.args.right c.requires.right_held c.requires.here) a.asked.terms.items f.fields.items a.ensures.terms_held (a.ensures.terms ∙ bind_same d d1 x c.args.whole c.args.scrutinee c.args.first n.asked) f.ensures.held f.ensures.trees);
    }

pub returns-clause-shows : goal.returns-clause-shows
returns-clause-shows c =
    let d = c.args.draft.now in
    let d1 = c.ask_pattern.new.draft in
    let d2 = c.replace_fields.new.draft in
    let x = AddsTrees_extends d d1 c.in_ok-asked.ensures.grows in
    let a = c.in_ok-asked in
    let f = c.in_ok-fields in
    let n = c.requires.opened in
    let m = c.in_ok-made in
    let q = bound_right d1 (subst IsValid (sym x.task) c.task-task.ensures.valid) c.args.whole c.args.scrutinee c.args.first c.args.opened (opened_later d d1 x c.args.whole c.args.scrutinee c.args.first c.args.opened n) (tree_at d1.trees c.args.right)
    (here_later d d1 x c.args.whole c.args.scrutinee c.args.first n.asked c.args.right c.requires.right_held c.requires.here) a.asked.terms.items f.fields.items a.ensures.terms_held (a.ensures.terms ∙ bind_same d d1 x c.args.whole c.args.scrutinee c.args.first n.asked) f.ensures.held f.ensures.trees in
    subst (λ (z : Tree). Shows d2 m.made.alike z (tree_at d.trees c.args.right)) (tree_later d d1 x c.args.opened.inner n.inner.right.held)
    (subst (λ (z : Tree). Shows d2 m.made.alike (tree_at d1.trees c.args.opened.inner) z) ((rw (c.new-before.ensures.items, c.deref-2.ensures.value) at m.ensures.right_is) ∙ q ∙ tree_later d d1 x c.args.right c.requires.right_held) m.ensures.shows)

pub returns-in_err-fields-clause-grows : goal.returns-in_err-fields-clause-grows
returns-in_err-fields-clause-grows c = AddsTrees_extends _ _ c.in_ok-asked.ensures.grows

pub returns-in_err-made-clause-grows : goal.returns-in_err-made-clause-grows
returns-in_err-made-clause-grows c = Extends_trans _ _ _ (AddsTrees_extends _ _ c.in_ok-asked.ensures.grows) c.replace_fields.ensures.grows

pub returns-in_err-asked-clause-grows : goal.returns-in_err-asked-clause-grows
returns-in_err-asked-clause-grows c = AddsTrees_extends _ _ c.ask_pattern.ensures.grows

pub returns-clause-grows : goal.returns-clause-grows
returns-clause-grows c = Extends_trans _ _ _ (AddsTrees_extends _ _ c.in_ok-asked.ensures.grows) c.in_ok-made.ensures.grows
