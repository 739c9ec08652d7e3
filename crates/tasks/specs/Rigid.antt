-- The entries for the type variables of a goal.
use Rattle.std.specs.Prelude.{ℕ, List, [], None}
use Rattle.tasks.specs.declared.signature.SymbolKind.TheVariants.{Kind}
use Rattle.tasks.specs.Task.{SymbolTree}

-- it has the variable's name, with its quote, and nothing else
abbrev pub rigid_symbol : List ℕ → SymbolTree
rigid_symbol name =
    record { theory = []; name = name; kind = Kind; vars = 0; args = []; result = None }
