use Rattle.std.proofs.Common.{◌≡◌, List, sym, ap, subst, ◌∙◌}
use Rattle.trees.specs.declared.TermId.{TermId}
use Rattle.trees.specs.Tree.{Tree, Two, HCase}
use Rattle.trees.specs.Node.{tree_at, trees_at}
use Rattle.trees.specs.Binding.{inst_many}
use Rattle.trees.specs.Facts.{IndicesFit}
use Rattle.tasks.specs.Task.{TaskTree}
use Rattle.tasks.specs.Vocabulary.{of_task}
use Rattle.tasks.specs.Typing.{pattern_types}
use Rattle.tasks.specs.MatchTests.{test, bind}
use Rattle.tasks.specs.Valid.{IsValid}
use Rattle.evidence.specs.Laws.{Extends_trans, AddsTrees_extends}
use Rattle.congruence.proofs.Later.{held_later, tree_later}
use Rattle.walking.proofs.PlacesLater.{place_later, all_later, trees_later}
use Rattle.walking.proofs.Instances.{instance_fits}
use Rattle.walking.proofs.OpenedBranches.{typed_pattern, by_term, terms_for, under_sorted, opened_branch, terms_held_all, branch_later, case_left, case_named}
use Rattle.walking.proofs.matching.open_branch.Goals as goal

pub case_parts-parts-requires-clause-case_node : goal.case_parts-parts-requires-clause-case_node
case_parts-parts-requires-clause-case_node c = (_, (_, case_left c.args.draft.now c.args.env.now c.args.e c.args.left c.args.fresh _ _ _ _ c.requires.place c.requires.node))

pub first_branch-first-requires-clause-branches : goal.first_branch-first-requires-clause-branches
first_branch-first-requires-clause-branches c =
    let q = case_left c.args.draft.now c.args.env.now c.args.e c.args.left c.args.fresh _ _ _ _ c.requires.place c.requires.node in
    (_, (_, (_, case_named _ _ _ _ _ c.case_parts-parts.ensures.tree q)))

pub ask_pattern-requires-clause-pattern : goal.ask_pattern-requires-clause-pattern
ask_pattern-requires-clause-pattern c =
    let d = c.args.draft.now in
    let o = c.args.open in
    let s = c.case_parts-parts.result in
    let w = c.first_branch-first.result in
    let ql = c.case_parts-parts.ensures.tree ∙ ap (λ (z : Tree). Two HCase (tree_at d.trees s.scrutinee) z) c.first_branch-first.ensures.tree in
    typed_pattern d c.args.env.now c.args.e c.args.left c.args.fresh c.requires.place c.task-task.ensures.valid c.args.scrutinee o.pattern o.body o.others s.scrutinee w.pattern w.body w.others c.requires.node ql

pub ask_pattern-requires-clause-term : goal.ask_pattern-requires-clause-term
ask_pattern-requires-clause-term c =
    let d = c.args.draft.now in
    let o = c.args.open in
    let s = c.case_parts-parts.result in
    let w = c.first_branch-first.result in
    let ql = c.case_parts-parts.ensures.tree ∙ ap (λ (z : Tree). Two HCase (tree_at d.trees s.scrutinee) z) c.first_branch-first.ensures.tree in
    by_term d c.args.env.now c.args.e c.args.left c.args.fresh c.requires.place c.task-task.ensures.valid c.args.scrutinee o.pattern o.body o.others s.scrutinee w.pattern w.body w.others c.requires.node ql

pub inst_many-requires-clause-fits : goal.inst_many-requires-clause-fits
inst_many-requires-clause-fits c =
    let d = c.args.draft.now in
    let d1 = c.ask_pattern.new.draft in
    let x = AddsTrees_extends d d1 c.in_ok-asked.ensures.grows in
    let o = c.args.open in
    let s = c.case_parts-parts.result in
    let w = c.first_branch-first.result in
    let ql = c.case_parts-parts.ensures.tree ∙ ap (λ (z : Tree). Two HCase (tree_at d.trees s.scrutinee) z) c.first_branch-first.ensures.tree in
    let f = terms_for d c.args.env.now c.args.e c.args.left c.args.fresh c.requires.place c.task-task.ensures.valid c.args.scrutinee o.pattern o.body o.others s.scrutinee w.pattern w.body w.others c.requires.node ql in
    let u = under_sorted d c.args.env.now c.args.e c.args.left c.args.fresh c.requires.place c.task-task.ensures.valid c.args.scrutinee o.pattern o.body o.others s.scrutinee w.pattern w.body w.others c.requires.node ql in
    let P = tree_at d.trees o.pattern in
    let S = tree_at d.trees s.scrutinee in
    let i = instance_fits (of_task d.task) (pattern_types P) (bind d.task P S) (tree_at d.trees w.body) f u in
    subst (λ (z : List Tree). IndicesFit (inst_many (tree_at d1.trees w.body) z)) (sym (ap (trees_at d1.trees) c.deref.ensures.value ∙ c.in_ok-asked.ensures.terms)) (subst (λ (z : Tree). IndicesFit (inst_many z (bind d.task P S))) (sym (tree_later d d1 x w.body c.first_branch-first.ensures.body_held)) i)

pub returns-clause-opened : goal.returns-clause-opened
returns-clause-opened c =
    let d = c.args.draft.now in
    let d1 = c.ask_pattern.new.draft in
    let d2 = c.inst_many.new.g in
    let x = AddsTrees_extends d d1 c.in_ok-asked.ensures.grows in
    let y = AddsTrees_extends d1 d2 c.in_ok-inner.ensures.grows in
    let xy = Extends_trans d d1 d2 x y in
    let env = c.args.env.now in
    let n = c.args.fresh in
    let o = c.args.open in
    let s = c.case_parts-parts.result in
    let w = c.first_branch-first.result in
    let k = c.first_branch-first.ensures in
    let r = c.requires in
    let a = c.in_ok-asked.asked in
    let e = c.in_ok-asked.ensures in
    let ql = c.case_parts-parts.ensures.tree ∙ ap (λ (z : Tree). Two HCase (tree_at d.trees s.scrutinee) z) k.tree in
    let hs = c.case_parts-parts.ensures.scrutinee_held in
    let ht1 = terms_held_all d1.trees a.terms.items e.terms_held in
    let b : bind d2.task (tree_at d2.trees o.pattern) (tree_at d2.trees s.scrutinee) ≡ bind d.task (tree_at d.trees o.pattern) (tree_at d.trees s.scrutinee) =
    ap (λ (t : TaskTree). bind t (tree_at d2.trees o.pattern) (tree_at d2.trees s.scrutinee)) xy.task ∙ ap (λ (z : Tree). bind d.task z (tree_at d2.trees s.scrutinee)) (tree_later d d2 xy o.pattern r.pattern_held) ∙ ap (bind d.task (tree_at d.trees o.pattern)) (tree_later d d2 xy s.scrutinee hs) in
    let q : test d2.task (tree_at d2.trees o.pattern) (tree_at d2.trees s.scrutinee) ≡ test d.task (tree_at d.trees o.pattern) (tree_at d.trees s.scrutinee) =
    ap (λ (t : TaskTree). test t (tree_at d2.trees o.pattern) (tree_at d2.trees s.scrutinee)) xy.task ∙ ap (λ (z : Tree). test d.task z (tree_at d2.trees s.scrutinee)) (tree_later d d2 xy o.pattern r.pattern_held) ∙ ap (test d.task (tree_at d.trees o.pattern)) (tree_later d d2 xy s.scrutinee hs) in
    opened_branch d2 env c.args.e c.args.left n (place_later d d2 xy env c.args.e c.args.left n r.place) (subst IsValid (sym xy.task) c.task-task.ensures.valid) c.args.scrutinee o.pattern o.body o.others
    (record { by = s.scrutinee; under = w.body; others = w.others; test = a.test; terms = a.terms; inner = c.in_ok-inner.inner }) w.pattern
    (branch_later d d2 xy c.args.e c.args.scrutinee o.pattern o.body o.others r.place.open_held r.scrutinee_held r.pattern_held r.body_held r.others_held r.node) (branch_later d d2 xy c.args.left s.scrutinee w.pattern w.body w.others r.place.left_held hs k.pattern_held k.body_held k.others_held ql)
    (held_later d d2 xy o.body r.body_held) (held_later d d2 xy s.scrutinee hs) (held_later d d2 xy w.body k.body_held) (held_later d d2 xy w.others k.others_held) (held_later d1 d2 y a.test e.test_held) (tree_later d1 d2 y a.test e.test_held ∙ e.test ∙ sym q)
    (all_later d1 d2 y a.terms.items ht1) (trees_later d1 d2 y a.terms.items ht1 ∙ e.terms ∙ sym b) c.in_ok-inner.ensures.held
    (c.in_ok-inner.ensures.tree ∙ ap (λ (z : List TermId). inst_many (tree_at d1.trees w.body) (trees_at d1.trees z)) c.deref.ensures.value ∙ ap (λ (z : Tree). inst_many z (trees_at d1.trees a.terms.items)) (sym (tree_later d1 d2 y w.body (held_later d d1 x w.body k.body_held))) ∙ ap (inst_many (tree_at d2.trees w.body)) (sym (trees_later d1 d2 y a.terms.items ht1)))
