use Rattle.std.proofs.Common.{sym}
use Rattle.checks.proofs.match_cover.Tables.{none_args}
use Rattle.checks.proofs.match_cover.exhaustive.arity_of.Goals as goal

pub returns-in-None : goal.returns-in-None
returns-in-None c = none_args c.args.store.now c.args.sig.now.symbols c.args.con (sym c.in-None.ensures.value)
