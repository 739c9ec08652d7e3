use Rattle.std.proofs.Common.{ap, sym}
use Rattle.tasks.specs.Task.{SymbolTree}
use Rattle.checks.proofs.decl_checks.Learning.{absent}
use Rattle.checks.proofs.decl_checks.checks.vars_of.Goals as goal

pub returns-in-None : goal.returns-in-None
returns-in-None c =
    ap (λ (e : SymbolTree). e.vars) (sym (absent c.args.store.now c.args.sig.now.symbols c.args.symbol (sym c.in-None.ensures.value)))
