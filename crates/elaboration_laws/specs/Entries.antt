-- Entries that a clone adds to a signature (Why3 manual, "theory cloning").
use Rattle.std.specs.Prelude.{◌≡◌, ℕ, ◌<◌, false, List, map, length, IsTrue}
use Rattle.elab_groups.specs.tasks.Task.{SymbolTree, symbol_or}
use Rattle.elab_groups.specs.tasks.Vocabulary.{is_empty, is_constructor_kind}
use Rattle.clones.specs.Mapped.{Map}
use Rattle.clones.specs.Copies.{entry_copied}

-- the copies of these entries
abbrev pub copied_entries : List SymbolTree → Map → List ℕ → List ℕ → List ℕ → List SymbolTree
copied_entries xs m theory within ks = map (λ k. entry_copied m theory within (symbol_or xs k)) ks

-- an entry of a theory
pub record IsStanding (xs : List SymbolTree) (k : ℕ) : Type 0 where
  pub there : k < length xs
  pub stands : is_empty (symbol_or xs k).theory ≡ false

-- a constructor has a theory
abbrev pub IsGrounded : SymbolTree → Type 0
IsGrounded e = IsTrue (is_constructor_kind e.kind) → is_empty e.theory ≡ false
