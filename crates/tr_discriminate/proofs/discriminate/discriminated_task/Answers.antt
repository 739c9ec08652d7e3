use Rattle.tasks.specs.Meaning.{task_at}
use Rattle.tasks.proofs.Growth.{task_held_later}
use Rattle.tr_discriminate.proofs.Making.{made_is, made_parts}
use Rattle.tr_discriminate.proofs.discriminate.discriminated_task.Goals as goal

pub returns-clause-task : goal.returns-clause-task
returns-clause-task c =
    let s = c.args.store.now in
    let s1 = c.discriminated_declarations.new.store in
    made_is s s1 c.in_ok-decls.ensures.grows c.args.task.now c.requires.held c.in_ok-decls.decls c.in_ok-decls.ensures.decls c.in_ok-params.params c.in_ok-locals.locals c.in_ok-params.ensures.cases c.in_ok-locals.ensures.cases (task_at s1 c.in_ok-made.made) (c.in_ok-made.ensures.tree s1)

pub returns-clause-held : goal.returns-clause-held
returns-clause-held c =
    let s = c.args.store.now in
    let s1 = c.discriminated_declarations.new.store in
    c.in_ok-made.ensures.held s1 (task_held_later s s1 c.in_ok-decls.ensures.grows c.args.task.now c.requires.held)
    (made_parts s s1 c.in_ok-decls.ensures.grows c.args.task.now c.requires.held c.in_ok-decls.decls c.in_ok-decls.ensures.held c.in_ok-params.params c.in_ok-locals.locals c.in_ok-params.ensures.cases c.in_ok-locals.ensures.cases)
