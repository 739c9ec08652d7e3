-- Names of symbols and of type variables, of bytes of names with no digit first in a part, while
-- the theories of a source are typed.
use Rattle.std.specs.Prelude.{List, All}
use Rattle.tasks.specs.Task.{SymbolTree}
use Rattle.theory_states.specs.declared.states.AxiomAt.{AxiomAt}
use Rattle.theory_states.specs.States.{KnownTree, StateTree}
use Rattle.tasks.specs.Words.{IsScopedName}

abbrev pub HaveWords : List SymbolTree → Type 0
HaveWords symbols = All (λ (e : SymbolTree). IsScopedName e.name) symbols

-- the type variables of axioms, which a clone makes those of goals
abbrev pub HaveWordVariables : List AxiomAt → Type 0
HaveWordVariables axioms = All (λ (a : AxiomAt). All IsScopedName a.vars) axioms

-- of all symbols, of all axioms, and of the open scopes, each followed by a dot
pub record HasWordNames (c : StateTree) : Type 0 where
  pub symbols : HaveWords c.symbols
  pub within : IsScopedName c.opened.within
  pub axioms : HaveWordVariables c.opened.axioms
  pub known : All (λ (t : KnownTree). HaveWordVariables t.axioms) c.known
