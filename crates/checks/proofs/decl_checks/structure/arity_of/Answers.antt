use Rattle.std.proofs.Common.{length, ap, sym}
use Rattle.tasks.specs.Task.{SymbolTree}
use Rattle.checks.proofs.decl_checks.Learning.{absent}
use Rattle.checks.proofs.decl_checks.structure.arity_of.Goals as goal

pub returns-in-None : goal.returns-in-None
returns-in-None c =
    ap (λ (e : SymbolTree). length e.args) (sym (absent c.args.store.now c.args.sig.now.symbols c.args.symbol (sym c.in-None.ensures.value)))
