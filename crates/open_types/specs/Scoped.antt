-- Signatures and aliases whose types name only their own type variables.
use Rattle.std.specs.Prelude.{ℕ, ◌≤◌, List, All, IfSome}
use Rattle.trees.specs.Facts.{TyVarsBelow}
use Rattle.tasks.specs.Task.{SymbolTree}
use Rattle.surface.specs.Lexeme.{Word}
use Rattle.name_resolution.specs.Where.{Where, MeaningTree}
use Rattle.scopes.specs.declared.Referent.TheVariants as stands
use Rattle.open_types.specs.Patterns.{entry_of}

pub record IsScopedEntry (e : SymbolTree) : Type 0 where
  pub args : All (TyVarsBelow e.vars) e.args
  pub result : IfSome e.result (TyVarsBelow e.vars)

abbrev pub IsScopedMeaning : MeaningTree → Type 0
IsScopedMeaning (stands.Entry k) = Unit {0}
IsScopedMeaning (stands.Alias vars t) = TyVarsBelow vars t

-- a tuple's constructor has no more type variables than its width
pub record IsScoped (w : Where) : Type 0 where
  pub symbols : All IsScopedEntry w.symbols
  pub types : (qs : List Word) (x : Word) → IfSome (w.types qs x) IsScopedMeaning
  pub tuples : (n : ℕ) → (entry_of w.symbols (w.tuples n)).symbol.vars ≤ n
