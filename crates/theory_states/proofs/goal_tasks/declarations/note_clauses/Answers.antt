use Rattle.std.proofs.Common.{List, All, sym, ap, subst, ◌∙◌}
use Rattle.std.proofs.lemmas.List.{take_all}
use Rattle.trees.specs.declared.TermId.{TermId}
use Rattle.trees.specs.Node.{Holds}
use Rattle.tasks.specs.declared.declaration.Ind.{Ind}
use Rattle.tasks.specs.Task.{InductiveTree, Induces}
use Rattle.tasks.specs.Meaning.{trees_at, inductive_at, InductiveHeld, inductives_at}
use Rattle.theory_states.specs.goal_tasks.Named.{named, all_named, formulas_of}
use Rattle.theory_states.specs.goal_tasks.Gathered.{Walks}
use Rattle.theory_states.proofs.goal_tasks.Lists.{walks_step, flat_more_all}
use Rattle.theory_states.proofs.goal_tasks.Steps.{walks_none}
use Rattle.theory_states.proofs.goal_tasks.declarations.note_clauses.Goals as goal
use Rattle.tasks.proofs.outside.Passed.{no_ok}

pub loop-inductive-init : goal.loop-inductive-init
loop-inductive-init c = walks_none c.args.store.now _ _ c.requires.walk

pub note_trees-requires-clause-held : goal.note_trees-requires-clause-held
note_trees-requires-clause-held c =
    let s = c.args.store.now in
    let h : InductiveHeld s c.inductive-item.result = subst (InductiveHeld s) (sym c.inductive-item.is) (c.requires.held c.loop-inductive.inductive-index c.inductive-item.result c.loop-inductive-test.true) in
    subst (λ (z : List TermId). All (Holds s) z) (sym c.as_slice.ensures) h.clauses

pub loop-inductive-preserved : goal.loop-inductive-preserved
loop-inductive-preserved c =
    let s = c.args.store.now in
    let q = c.as_slice.ensures ∙ ap (λ (i : Ind). i.clauses) c.inductive-item.is in
    walks_step s _ _ _ _ _ _ _ _ (flat_more_all named (λ (i : InductiveTree). i.clauses) (inductive_at s) c.args.inductives.now c.loop-inductive.inductive-index c.inductive-item.result c.loop-inductive-test.true) c.loop-inductive.invariant
    (subst (λ (z : List TermId). Walks s c.loop-inductive.found.keys c.note_trees.new.found.keys c.note_trees.new.done.keys (all_named (trees_at s z))) q c.in_ok-note_trees.ensures)

pub note_trees-requires-clause-walk : goal.note_trees-requires-clause-walk
note_trees-requires-clause-walk c = c.loop-inductive.invariant.is_done

pub returns-in_err-note_trees : goal.returns-in_err-note_trees
returns-in_err-note_trees c = no_ok _ _ c.from_residual.result c.from_residual.ensures.1

pub returns : goal.returns
returns c =
    let s = c.args.store.now in
    let l = c.loop-inductive in
    subst (λ (is : List Ind). Walks s c.args.found.now.keys l.found.keys l.done.keys (all_named (formulas_of (Induces (inductives_at s is))))) (take_all l.inductive-index c.args.inductives.now c.loop-inductive-test.false) l.invariant
