use Rattle.std.proofs.Common.{List, subst}
use Rattle.std.proofs.lemmas.List.{take_all}
use Rattle.tasks.specs.Task.{DefinitionTree, Defines}
use Rattle.tasks.specs.Meaning.{definition_at, definitions_at}
use Rattle.tasks.specs.declared.declaration.Def.{Def}
use Rattle.theory_states.specs.goal_tasks.Named.{named, all_named, formulas_of}
use Rattle.theory_states.specs.goal_tasks.Gathered.{Walks}
use Rattle.theory_states.proofs.goal_tasks.Lists.{walks_step, flat_more_each}
use Rattle.theory_states.proofs.goal_tasks.Steps.{walks_none}
use Rattle.theory_states.proofs.goal_tasks.declarations.note_equations.Goals as goal
use Rattle.tasks.proofs.outside.Passed.{no_ok}

pub loop-def-init : goal.loop-def-init
loop-def-init c = walks_none c.args.store.now _ _ c.requires.walk

pub loop-def-preserved : goal.loop-def-preserved
loop-def-preserved c = walks_step c.args.store.now _ _ _ _ _ _ _ _ (flat_more_each named (λ (d : DefinitionTree). d.equation) (definition_at c.args.store.now) c.args.defs.now c.loop-def.def-index _ c.loop-def-test.true) c.loop-def.invariant c.in_ok-note_tree.ensures

pub note_tree-requires-clause-walk : goal.note_tree-requires-clause-walk
note_tree-requires-clause-walk c = c.loop-def.invariant.is_done

pub note_tree-requires-clause-held : goal.note_tree-requires-clause-held
note_tree-requires-clause-held c = c.requires.held c.loop-def.def-index _ c.loop-def-test.true

pub returns-in_err-note_tree : goal.returns-in_err-note_tree
returns-in_err-note_tree c = no_ok _ _ c.from_residual.result c.from_residual.ensures.1

pub returns : goal.returns
returns c =
    let s = c.args.store.now in
    let l = c.loop-def in
    subst (λ (ds : List Def). Walks s c.args.found.now.keys l.found.keys l.done.keys (all_named (formulas_of (Defines (definitions_at s ds))))) (take_all l.def-index c.args.defs.now c.loop-def-test.false) l.invariant
