use Rattle.std.proofs.Common.{sym, ap}
use Rattle.tasks.specs.Task.{SymbolTree, int_symbol}
use Rattle.tasks.specs.Meaning.{symbol_at}
use Rattle.clones.proofs.clone_elements.replacements.vars_of.Goals as goal
use Rattle.tasks.proofs.plain_laws.Lists.{got_none}

pub returns-in-None : goal.returns-in-None
returns-in-None c = λ s. ap (λ (e : SymbolTree). e.vars) (sym (got_none (symbol_at s) c.args.sig.now.symbols c.args.symbol int_symbol (sym c.in-None.ensures.value)))
