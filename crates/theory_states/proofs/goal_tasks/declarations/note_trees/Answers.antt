use Rattle.std.proofs.Common.{List, subst}
use Rattle.std.proofs.lemmas.List.{take_all}
use Rattle.trees.specs.declared.TermId.{TermId}
use Rattle.trees.specs.Node.{tree_at, trees_at}
use Rattle.theory_states.specs.goal_tasks.Named.{named, all_named}
use Rattle.theory_states.specs.goal_tasks.Gathered.{Walks}
use Rattle.theory_states.proofs.goal_tasks.Lists.{walks_step}
use Rattle.theory_states.proofs.goal_tasks.Steps.{walks_none}
use Rattle.theory_states.proofs.goal_tasks.declarations.note_trees.Goals as goal
use Rattle.tasks.proofs.plain_laws.Lists.{flat_more}
use Rattle.tasks.proofs.outside.Passed.{no_ok}

abbrev no_id : TermId
no_id = record { 0 = 0 }

pub loop-tree-init : goal.loop-tree-init
loop-tree-init c = walks_none c.args.store.now _ _ c.requires.walk

pub loop-tree-preserved : goal.loop-tree-preserved
loop-tree-preserved c = walks_step c.args.store.now _ _ _ _ _ _ _ _ (flat_more named (tree_at c.args.store.now) c.args.trees.now c.loop-tree.tree-index no_id c.loop-tree-test.true) c.loop-tree.invariant c.in_ok-note_tree.ensures

pub note_tree-requires-clause-walk : goal.note_tree-requires-clause-walk
note_tree-requires-clause-walk c = c.loop-tree.invariant.is_done

pub note_tree-requires-clause-held : goal.note_tree-requires-clause-held
note_tree-requires-clause-held c = c.requires.held c.loop-tree.tree-index _ c.loop-tree-test.true

pub returns-in_err-note_tree : goal.returns-in_err-note_tree
returns-in_err-note_tree c = no_ok _ _ c.from_residual.result c.from_residual.ensures.1

pub returns : goal.returns
returns c =
    let s = c.args.store.now in
    let l = c.loop-tree in
    subst (λ (es : List TermId). Walks s c.args.found.now.keys l.found.keys l.done.keys (all_named (trees_at s es))) (take_all l.tree-index c.args.trees.now c.loop-tree-test.false) l.invariant
