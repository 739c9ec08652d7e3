use Rattle.std.proofs.Common.{List, sym, ap, subst, ◌∙◌}
use Rattle.trees.specs.declared.TermId.{TermId}
use Rattle.trees.specs.Node.{tree_at, trees_at}
use Rattle.trees.specs.Binding.{inst_many}
use Rattle.trees.specs.binders.Visits.{HoldTerms}
use Rattle.evidence.specs.Laws.{Extends_trans, AddsTrees_trans, AddsTrees_extends}
use Rattle.congruence.proofs.Later.{held_later}
use Rattle.tr_recursion.proofs.constructor_matches.Asked.{pattern_typed, scrutinee_term, opened_made}
use Rattle.tr_recursion.proofs.constructor_matches.branches.open_branch.Goals as goal

pub ask_pattern-requires-clause-pattern : goal.ask_pattern-requires-clause-pattern
ask_pattern-requires-clause-pattern c = pattern_typed c.args.draft.now c.task-task.ensures.valid c.args.whole c.args.scrutinee c.args.first c.requires.asked

pub ask_pattern-requires-clause-term : goal.ask_pattern-requires-clause-term
ask_pattern-requires-clause-term c = scrutinee_term c.args.draft.now c.task-task.ensures.valid c.args.whole c.args.scrutinee c.args.first c.requires.asked

pub put_terms-requires-clause-body_held : goal.put_terms-requires-clause-body_held
put_terms-requires-clause-body_held c = held_later c.args.draft.now c.ask_pattern.new.draft (AddsTrees_extends _ _ c.in_ok-asked.ensures.grows) c.args.first.body c.requires.asked.body_held

pub put_terms-requires-clause-terms : goal.put_terms-requires-clause-terms
put_terms-requires-clause-terms c = subst (HoldTerms c.ask_pattern.new.draft.trees) (sym c.deref.ensures.value) c.in_ok-asked.ensures.terms_held

pub returns-clause-opened : goal.returns-clause-opened
returns-clause-opened c =
    let d = c.args.draft.now in
    let d1 = c.ask_pattern.new.draft in
    let d2 = c.put_terms.new.g in
    let x = AddsTrees_extends d d1 c.in_ok-asked.ensures.grows in
    let y = AddsTrees_extends d1 d2 c.in_ok-inner.ensures.grows in
    let a = c.in_ok-asked.asked in
    let n = c.in_ok-asked.ensures in
    opened_made d c.task-task.ensures.valid c.args.whole c.args.scrutinee c.args.first c.requires.asked d1 d2 x y (Extends_trans d d1 d2 x y) a.test c.in_ok-inner.inner n.test_held n.test a.terms.items n.terms c.in_ok-inner.ensures.held
    (c.in_ok-inner.ensures.tree ∙ ap (λ (z : List TermId). inst_many (tree_at d1.trees c.args.first.body) (trees_at d1.trees z)) c.deref.ensures.value)

pub returns-in_err-inner-clause-grows : goal.returns-in_err-inner-clause-grows
returns-in_err-inner-clause-grows c = AddsTrees_trans _ _ _ c.in_ok-asked.ensures.grows c.put_terms.ensures.grows

pub returns-clause-grows : goal.returns-clause-grows
returns-clause-grows c = AddsTrees_trans _ _ _ c.in_ok-asked.ensures.grows c.in_ok-inner.ensures.grows
