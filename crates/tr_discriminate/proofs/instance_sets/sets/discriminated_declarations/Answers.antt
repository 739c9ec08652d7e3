use Rattle.std.proofs.Common.{List, sym, subst, ap, ◌∙◌}
use Rattle.tasks.specs.Valid.{IsValid}
use Rattle.tasks.specs.Task.{TaskTree}
use Rattle.tasks.specs.Meaning.{task_at}
use Rattle.tasks.proofs.Growth.{task_held_later, task_later}
use Rattle.name_tables.specs.Occurrences.{Occurrence}
use Rattle.name_tables.specs.Seen.{seen_occurrences}
use Rattle.tr_discriminate.specs.wanted_instances.Discriminated.{last_set, discriminated_decls}
use Rattle.tr_discriminate.proofs.instance_sets.Puts.{fault_passed}
use Rattle.tr_discriminate.proofs.instance_sets.Ready.{goes_itself, fault_there, fault_later}
use Rattle.tr_discriminate.proofs.instance_sets.sets.discriminated_declarations.Goals as goal

pub declarations_at_set-requires-clause-held : goal.declarations_at_set-requires-clause-held
declarations_at_set-requires-clause-held c = task_held_later c.args.store.now c.last_set.new.store c.in_ok-keys.ensures.grows c.args.task.now c.requires.held

pub declarations_at_set-requires-clause-valid : goal.declarations_at_set-requires-clause-valid
declarations_at_set-requires-clause-valid c = subst IsValid (sym (task_later c.args.store.now c.last_set.new.store c.in_ok-keys.ensures.grows c.args.task.now c.requires.held)) c.requires.valid

pub declarations_at_set-requires-clause-set_held : goal.declarations_at_set-requires-clause-set_held
declarations_at_set-requires-clause-set_held c = rw (c.as_slice.ensures.keys) c.in_ok-keys.ensures.set.held

pub declarations_at_set-requires-clause-goes : goal.declarations_at_set-requires-clause-goes
declarations_at_set-requires-clause-goes c =
    let s = c.args.store.now in
    let s1 = c.last_set.new.store in
    let t = c.args.task.now in
    rw (c.as_slice.ensures.keys) (goes_itself (seen_occurrences s1 c.in_ok-keys.keys.keys) (last_set (task_at s1 t)) (c.in_ok-keys.ensures.set.is ∙ ap last_set (sym (task_later s s1 c.in_ok-keys.ensures.grows t c.requires.held))))

pub returns-in_err-decls-clause-fault : goal.returns-in_err-decls-clause-fault
returns-in_err-decls-clause-fault c =
    let s = c.args.store.now in
    let s1 = c.last_set.new.store in
    let t = c.args.task.now in
    let e = task_later s s1 c.in_ok-keys.ensures.grows t c.requires.held in
    let o = seen_occurrences s1 c.in_ok-keys.keys.keys in
    fault_passed c.from_residual-in_err-decls.result c.in_err-decls.field-0.0 _ c.from_residual-in_err-decls.ensures.1
    (fault_later (task_at s t) (task_at s1 t) e c.in_err-decls.field-0.0
    (fault_there (task_at s1 t) o (goes_itself o (last_set (task_at s1 t)) (c.in_ok-keys.ensures.set.is ∙ ap last_set (sym e))) c.in_err-decls.field-0.0 (rw c.as_slice.ensures.keys at c.in_err-decls.ensures.fault)))

pub returns-clause-decls : goal.returns-clause-decls
returns-clause-decls c =
    let s = c.args.store.now in
    let s1 = c.last_set.new.store in
    let t = c.args.task.now in
    (rw c.as_slice.ensures.keys at c.in_ok-decls.ensures.decls) ∙ ap (λ (z : List Occurrence). discriminated_decls z (task_at s1 t).decls) c.in_ok-keys.ensures.set.is
    ∙ ap (λ (z : TaskTree). discriminated_decls (last_set (task_at s t)) z.decls) (task_later s s1 c.in_ok-keys.ensures.grows t c.requires.held)
