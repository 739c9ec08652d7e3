use Rattle.std.proofs.Common.{ap, sym}
use Rattle.tasks.specs.Task.{SymbolTree, int_symbol}
use Rattle.tasks.specs.Meaning.{symbol_at}
use Rattle.tasks.proofs.plain_laws.Lists.{got_none}
use Rattle.tr_algebraic.proofs.algebraic_forms.decls.vars_of.Goals as goal

pub returns-in-None : goal.returns-in-None
returns-in-None c = ap (λ (e : SymbolTree). e.vars) (sym (got_none (symbol_at c.args.store.now) c.args.sig.now.symbols c.args.symbol int_symbol (sym c.in-None.ensures.value)))
