use Rattle.declarations.proofs.spelled_groups.Sought.{defs_at}
use Rattle.declarations.proofs.spelled_groups.definitions.origin_in_defs.Goals as goal

pub returns-then-k-defs : goal.returns-then-k-defs
returns-then-k-defs c = λ symbols. defs_at c.args.store.now symbols c.args.defs.now c.args.k _ c.if-k-defs.true
