-- What typing may name: the entries of a signature, and which of them are type variables of a goal,
-- which may be used, and which are constructors of patterns. A task gives one, and so does a
-- signature.
use Rattle.std.specs.Prelude.{ℕ, ◌==◌, ◌||◌, not, Bool, true, false, List, [], slice_get, Option, Some, None}
use Rattle.std.specs.List.{list_any}
use Rattle.std.specs.Option.{is_some}
use Rattle.tasks.specs.declared.signature.SymbolKind.{SymbolKind}
use Rattle.tasks.specs.declared.signature.SymbolKind.TheVariants.{Constructor}
use Rattle.tasks.specs.Task.{SymbolTree, TaskTree}
use Rattle.tasks.specs.Roles.{maker, role, is_constructor}

pub record Vocabulary : Type 0 where
  pub symbols : List SymbolTree
  -- a type variable of a goal
  pub rigid : ℕ → Bool
  -- what types, terms and formulas may name
  pub usable : ℕ → Bool
  -- what a pattern may name
  pub matched : ℕ → Bool

-- `int` and what the declarations make may be used; a pattern names a constructor of an algebraic
-- declaration
abbrev pub of_task : TaskTree → Vocabulary
of_task t = record {
  symbols = t.symbols;
  rigid = λ k. list_any (λ j. j == k) t.rigid;
  usable = λ k. k == 0 || is_some (maker t.decls k);
  matched = λ k. is_constructor (role t k);
}

abbrev pub passes : (SymbolTree → Bool) → Option SymbolTree → Bool
passes test None = false
passes test (Some e) = test e

abbrev pub is_empty : List ℕ → Bool
is_empty [] = true
is_empty _ = false

abbrev pub is_constructor_kind : SymbolKind → Bool
is_constructor_kind Constructor = true
is_constructor_kind _ = false

-- an entry without a theory is a type variable of a goal; all others may be used
abbrev pub of_signature : List SymbolTree → Vocabulary
of_signature symbols = record {
  symbols = symbols;
  rigid = λ k. passes (λ e. is_empty e.theory) (slice_get symbols k);
  usable = λ k. passes (λ e. not (is_empty e.theory)) (slice_get symbols k);
  matched = λ k. passes (λ e. is_constructor_kind e.kind) (slice_get symbols k);
}
