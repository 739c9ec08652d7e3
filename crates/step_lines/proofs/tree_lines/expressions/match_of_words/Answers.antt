use Rattle.std.proofs.Common.{Option, List, Some, IfOk, IfSome, drop, sym, ap, subst, ◌∙◌}
use Rattle.std.proofs.lemmas.Option.{none-some}
use Rattle.std.specs.Option.{option_map}
use Rattle.std.specs.Borrow.{Bor}
use Rattle.step_lines.proofs.tree_lines.Making.{slice_left}
use Rattle.trees.specs.declared.TermId.{TermId}
use Rattle.trees.specs.Tree.{Tree}
use Rattle.trees.specs.Node.{tree_at}
use Rattle.tasks.specs.Meaning.{task_at}
use Rattle.step_lines.specs.tree_lines.Words.{LineWord, texts, at_number, pairs}
use Rattle.step_lines.specs.tree_lines.Lines.{match_tree}
use Rattle.step_lines.specs.tree_lines.Made.{IsTreeMade, PairsHeld, pairs_in, earlier_at}
use Rattle.step_lines.proofs.tree_lines.Branches.{pairs_trees, pairs_held, match_made, match_missing}
use Rattle.step_lines.proofs.tree_lines.expressions.match_of_words.Goals as goal

pub case_of_branches-requires-clause-branches : goal.case_of_branches-requires-clause-branches
case_of_branches-requires-clause-branches c =
    let s = c.args.store.now in
    let ids = (rw c.in-Some-2.is at c.in_ok-branches.ensures) ∙ ap (λ (l : List (Bor LineWord)). pairs (at_number c.args.x.now.patterns.now) (at_number c.args.x.now.expressions.now) (texts l)) (slice_left 1 c.args.words.now) in
    let held : PairsHeld s c.in-Some-2.branches.items = subst (λ (o : Option (List (TermId × TermId))). IfSome o (PairsHeld s)) (sym ids) (pairs_held s c.args.x.now.patterns.now c.args.x.now.expressions.now c.requires.patterns c.requires.expressions (texts (drop 1 c.args.words.now))) in
    subst (PairsHeld s) (sym c.deref.ensures.value) held

pub returns-in-Some-2-clause-made : goal.returns-in-Some-2-clause-made
returns-in-Some-2-clause-made c =
    let s = c.args.store.now in
    let x = c.args.x.now in
    let ids = (rw c.in-Some-2.is at c.in_ok-branches.ensures) ∙ ap (λ (l : List (Bor LineWord)). pairs (at_number c.args.x.now.patterns.now) (at_number c.args.x.now.expressions.now) (texts l)) (slice_left 1 c.args.words.now) in
    let trees = ap (option_map (pairs_in s)) ids ∙ sym (pairs_trees s x.patterns.now x.expressions.now (texts (drop 1 c.args.words.now))) in
    let e = ap (λ (l : List (TermId × TermId)). Some (match_tree (tree_at s c.in-Some.scrutinee) (pairs_in s l))) c.deref.ensures.value
    ∙ match_made (task_at s x.task.now) x.table.now (earlier_at s x) c.args.words.now _ (tree_at s c.in-Some.scrutinee) (pairs_in s c.in-Some-2.branches.items) c.in-len1-up.len_at_least c.in-Some.ensures.tree trees in
    subst (λ (m : Option Tree). IfOk c.case_of_branches.result (IsTreeMade c.case_of_branches.new.store m)) e c.case_of_branches.ensures.made

pub returns-in-None-clause-made : goal.returns-in-None-clause-made
returns-in-None-clause-made c = λ e is w.
    let s = c.args.store.now in
    let x = c.args.x.now in
    let ids = (rw c.in-None.is at c.in_ok-branches.ensures) ∙ ap (λ (l : List (Bor LineWord)). pairs (at_number c.args.x.now.patterns.now) (at_number c.args.x.now.expressions.now) (texts l)) (slice_left 1 c.args.words.now) in
    let trees = ap (option_map (pairs_in s)) ids ∙ sym (pairs_trees s x.patterns.now x.expressions.now (texts (drop 1 c.args.words.now))) in
    none-some e (match_missing (task_at s x.task.now) x.table.now (earlier_at s x) c.args.words.now _ (tree_at s c.in-Some.scrutinee) c.in-len1-up.len_at_least c.in-Some.ensures.tree trees ∙ is)
