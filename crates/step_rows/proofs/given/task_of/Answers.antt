use Rattle.step_rows.proofs.given.task_of.Goals as goal

pub gather-requires-clause-signature : goal.gather-requires-clause-signature
gather-requires-clause-signature c = c.in_ok-sig.ensures.kept c.args.store.now
