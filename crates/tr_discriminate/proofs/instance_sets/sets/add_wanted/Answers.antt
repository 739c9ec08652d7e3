use Rattle.tasks.specs.Meaning.{task_at, declarations_at}
use Rattle.name_tables.specs.Seen.{seen_occurrences}
use Rattle.tr_discriminate.proofs.instance_sets.Puts.{fault_passed}
use Rattle.tr_discriminate.proofs.instance_sets.Ready.{fault_there, keys_later, added_set}
use Rattle.tr_discriminate.proofs.instance_sets.sets.add_wanted.Goals as goal

pub declarations_at_set-requires-clause-set_held : goal.declarations_at_set-requires-clause-set_held
declarations_at_set-requires-clause-set_held c = rw (c.as_slice.ensures.keys) c.requires.keys_held

pub declarations_at_set-requires-clause-goes : goal.declarations_at_set-requires-clause-goes
declarations_at_set-requires-clause-goes c = rw (c.as_slice.ensures.keys) c.requires.early.goes

pub returns-in_err-decls-clause-fault : goal.returns-in_err-decls-clause-fault
returns-in_err-decls-clause-fault c =
    let s = c.args.store.now in
    fault_passed c.from_residual.result c.in_err-decls.field-0.0 _ c.from_residual.ensures.1
    (fault_there (task_at s c.args.task.now) (seen_occurrences s c.args.keys.now.keys) c.requires.early.goes c.in_err-decls.field-0.0 (rw c.as_slice.ensures.keys at c.in_err-decls.ensures.fault))

pub add_said-requires-clause-keys_held : goal.add_said-requires-clause-keys_held
add_said-requires-clause-keys_held c = keys_later c.args.store.now c.declarations_at_set.new.store c.in_ok-decls.ensures.grows c.args.keys.now.keys c.requires.keys_held

pub add_said-requires-clause-held : goal.add_said-requires-clause-held
add_said-requires-clause-held c = rw c.as_slice-2.ensures c.in_ok-decls.ensures.held

pub returns-clause-set : goal.returns-clause-set
returns-clause-set c =
    let s = c.args.store.now in
    let s1 = c.declarations_at_set.new.store in
    let e = rw c.as_slice.ensures.keys at c.in_ok-decls.ensures.decls in
    added_set s s1 c.in_ok-decls.ensures.grows (task_at s c.args.task.now) c.requires.valid c.args.keys.now.keys c.add_said.new.keys.keys c.requires.keys_held c.requires.early (declarations_at s1 c.in_ok-decls.decls) e (rw c.as_slice-2.ensures at c.in_ok-add_said.ensures)
