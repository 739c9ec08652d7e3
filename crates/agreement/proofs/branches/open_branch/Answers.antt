use Rattle.std.proofs.Common.{List, sym, ap, subst, ◌∙◌}
use Rattle.trees.specs.Tree.{Tree, Two, HCase}
use Rattle.trees.specs.Node.{tree_at, trees_at}
use Rattle.trees.specs.Binding.{inst_many}
use Rattle.trees.specs.Facts.{IndicesFit}
use Rattle.tasks.specs.MatchTests.{bind}
use Rattle.congruence.specs.kernel.Right.{IsGroundExpression}
use Rattle.evidence.specs.Laws.{AddsTrees_extends}
use Rattle.congruence.proofs.Later.{held_later, tree_later}
use Rattle.agreement.proofs.CaseTrees.{typed_pattern, scrutinee_term, body_fits}
use Rattle.agreement.proofs.branches.open_branch.Goals as goal

pub ask_pattern-requires-clause-pattern : goal.ask_pattern-requires-clause-pattern
ask_pattern-requires-clause-pattern c =
    let d = c.args.draft.now in
    let o = c.args.first in
    let g = subst (λ (z : Tree). IsGroundExpression d.task (Two HCase (tree_at d.trees c.args.term) z)) c.requires.arms c.requires.closed in
    typed_pattern d.task c.task-task.ensures.valid (tree_at d.trees c.args.term) (tree_at d.trees o.pattern) (tree_at d.trees o.body) (tree_at d.trees o.others) g

pub ask_pattern-requires-clause-term : goal.ask_pattern-requires-clause-term
ask_pattern-requires-clause-term c =
    let d = c.args.draft.now in
    let o = c.args.first in
    let g = subst (λ (z : Tree). IsGroundExpression d.task (Two HCase (tree_at d.trees c.args.term) z)) c.requires.arms c.requires.closed in
    scrutinee_term d.task c.task-task.ensures.valid (tree_at d.trees c.args.term) (tree_at d.trees o.pattern) (tree_at d.trees o.body) (tree_at d.trees o.others) g

pub inst_many-requires-clause-fits : goal.inst_many-requires-clause-fits
inst_many-requires-clause-fits c =
    let d = c.args.draft.now in
    let d1 = c.ask_pattern.new.draft in
    let x = AddsTrees_extends d d1 c.in_ok-asked.ensures.grows in
    let o = c.args.first in
    let S = tree_at d.trees c.args.term in
    let P = tree_at d.trees o.pattern in
    let A = tree_at d.trees o.body in
    let g = subst (λ (z : Tree). IsGroundExpression d.task (Two HCase S z)) c.requires.arms c.requires.closed in
    let i = body_fits d.task c.task-task.ensures.valid S P A (tree_at d.trees o.others) g in
    subst (λ (z : List Tree). IndicesFit (inst_many (tree_at d1.trees o.body) z)) (sym (ap (trees_at d1.trees) c.deref.ensures.value ∙ c.in_ok-asked.ensures.terms)) (subst (λ (z : Tree). IndicesFit (inst_many z (bind d.task P S))) (sym (tree_later d d1 x o.body c.requires.body_held)) i)

pub returns-clause-inner : goal.returns-clause-inner
returns-clause-inner c =
    let d = c.args.draft.now in
    let d1 = c.ask_pattern.new.draft in
    let x = AddsTrees_extends d d1 c.in_ok-asked.ensures.grows in
    let o = c.args.first in
    c.in_ok-inner.ensures.tree ∙ ap (λ (z : Tree). inst_many z (trees_at d1.trees c.deref.result.now)) (tree_later d d1 x o.body c.requires.body_held) ∙ ap (inst_many (tree_at d.trees o.body)) (ap (trees_at d1.trees) c.deref.ensures.value ∙ c.in_ok-asked.ensures.terms)

pub returns-clause-test : goal.returns-clause-test
returns-clause-test c =
    let d1 = c.ask_pattern.new.draft in
    let d2 = c.inst_many.new.g in
    tree_later d1 d2 (AddsTrees_extends d1 d2 c.in_ok-inner.ensures.grows) c.in_ok-asked.asked.test c.in_ok-asked.ensures.test_held ∙ c.in_ok-asked.ensures.test

pub returns-clause-test_held : goal.returns-clause-test_held
returns-clause-test_held c =
    let d1 = c.ask_pattern.new.draft in
    let d2 = c.inst_many.new.g in
    held_later d1 d2 (AddsTrees_extends d1 d2 c.in_ok-inner.ensures.grows) c.in_ok-asked.asked.test c.in_ok-asked.ensures.test_held
