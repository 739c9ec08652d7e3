use Rattle.std.proofs.Common.{sym, subst}
use Rattle.tasks.specs.Valid.{IsValid}
use Rattle.tasks.specs.Meaning.{task_at}
use Rattle.tasks.proofs.Growth.{task_held_later, task_later}
use Rattle.tr_discriminate.proofs.instance_sets.Puts.{fault_passed}
use Rattle.tr_discriminate.proofs.instance_sets.Ready.{early_first, early_second, last_is, fault_later}
use Rattle.tr_discriminate.proofs.instance_sets.sets.last_set.Goals as goal

pub add_wanted-requires-clause-early : goal.add_wanted-requires-clause-early
add_wanted-requires-clause-early c = early_first c.args.store.now (task_at c.args.store.now c.args.task.now) c.in_ok-keys.keys.keys c.in_ok-keys.ensures

pub add_wanted-requires-2-clause-held : goal.add_wanted-requires-2-clause-held
add_wanted-requires-2-clause-held c = task_held_later c.args.store.now c.add_wanted.new.store c.in_ok-add_wanted.ensures.grows c.args.task.now c.requires.held

pub add_wanted-requires-2-clause-valid : goal.add_wanted-requires-2-clause-valid
add_wanted-requires-2-clause-valid c = subst IsValid (sym (task_later c.args.store.now c.add_wanted.new.store c.in_ok-add_wanted.ensures.grows c.args.task.now c.requires.held)) c.requires.valid

pub add_wanted-requires-2-clause-early : goal.add_wanted-requires-2-clause-early
add_wanted-requires-2-clause-early c =
    let s = c.args.store.now in
    let s1 = c.add_wanted.new.store in
    let t = c.args.task.now in
    early_second s s1 (task_at s t) (task_at s1 t) c.in_ok-keys.keys.keys c.add_wanted.new.keys.keys (task_later s s1 c.in_ok-add_wanted.ensures.grows t c.requires.held) c.in_ok-keys.ensures c.in_ok-add_wanted.ensures.set

pub returns-in_err-add_wanted-2-clause-fault : goal.returns-in_err-add_wanted-2-clause-fault
returns-in_err-add_wanted-2-clause-fault c =
    let s = c.args.store.now in
    let s1 = c.add_wanted.new.store in
    let t = c.args.task.now in
    fault_passed c.from_residual-in_err-add_wanted-2.result c.in_err-add_wanted-2.field-0.0 _ c.from_residual-in_err-add_wanted-2.ensures.1
    (fault_later (task_at s t) (task_at s1 t) (task_later s s1 c.in_ok-add_wanted.ensures.grows t c.requires.held) c.in_err-add_wanted-2.field-0.0 c.in_err-add_wanted-2.ensures.fault)

pub returns-clause-set : goal.returns-clause-set
returns-clause-set c =
    let s = c.args.store.now in
    let s1 = c.add_wanted.new.store in
    let s2 = c.add_wanted-2.new.store in
    let t = c.args.task.now in
    last_is s s1 s2 (task_at s t) (task_at s1 t) c.in_ok-keys.keys.keys c.add_wanted.new.keys.keys c.add_wanted-2.new.keys.keys (task_later s s1 c.in_ok-add_wanted.ensures.grows t c.requires.held) c.in_ok-keys.ensures c.in_ok-add_wanted.ensures.set c.in_ok-add_wanted-2.ensures.set
