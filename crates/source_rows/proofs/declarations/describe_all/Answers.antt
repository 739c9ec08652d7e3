use Rattle.source_rows.proofs.declarations.describe_all.Goals as goal

pub put_answer-requires-clause-signature : goal.put_answer-requires-clause-signature
put_answer-requires-clause-signature c = c.in_ok-sig.ensures.kept c.in_ok-store.store
