use Rattle.std.proofs.Common.{◌≡◌, List, All, subst, sym, ap, ◌∙◌}
use Rattle.tasks.specs.declared.declaration.Def.{Def}
use Rattle.tasks.specs.Task.{DefinitionTree}
use Rattle.tasks.specs.Meaning.{definitions_at, task_at}
use Rattle.tasks.specs.Vocabulary.{of_task}
use Rattle.tasks.specs.Valid.{IsDefinition}
use Rattle.inlining.specs.FullBodies.{full_rule}
use Rattle.inlining.proofs.Inlined.{inlined_defined}
use Rattle.tr_inline.specs.full_bodies.Listed.{AreDefsHeld}
use Rattle.tr_inline.proofs.full_bodies.making.full_bodies.Goals as goal

pub make_bodies-requires-clause-defs_held : goal.make_bodies-requires-clause-defs_held
make_bodies-requires-clause-defs_held c = subst (AreDefsHeld c.args.store.now) (sym c.deref.ensures.value) c.in_ok-defs.ensures.held

pub make_bodies-requires-clause-defined : goal.make_bodies-requires-clause-defined
make_bodies-requires-clause-defined c =
    let s = c.args.store.now in
    let t = task_at s c.args.task.now in
    let here : All (IsDefinition (of_task t)) (definitions_at s c.in_ok-defs.defs.items) = subst (λ (z : List DefinitionTree). All (IsDefinition (of_task t)) z) (sym c.in_ok-defs.ensures.are) (inlined_defined (of_task t) c.args.mode t.decls c.requires.valid.decls) in
    subst (λ (z : List Def). All (IsDefinition (of_task t)) (definitions_at s z)) (sym c.deref.ensures.value) here

pub returns-clause-rule : goal.returns-clause-rule
returns-clause-rule c =
    let s = c.args.store.now in
    c.in_ok-made.ensures.rule ∙ ap (λ (z : List Def). full_rule (definitions_at s z)) c.deref.ensures.value ∙ ap full_rule c.in_ok-defs.ensures.are
