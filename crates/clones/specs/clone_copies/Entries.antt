-- The entries of the symbols of copies (Why3 manual, "theory cloning").
use Rattle.std.specs.Prelude.{ℕ, List, map}
use Rattle.tasks.specs.Task.{SymbolTree, symbol_or}
use Rattle.elab_groups.specs.surface.Lexeme.{Word}
use Rattle.clones.specs.Mapped.{Map}
use Rattle.clones.specs.Copies.{entry_copied}

abbrev pub entries_copied : List SymbolTree → Map → Word → Word → List ℕ → List SymbolTree
entries_copied symbols m theory within ks =
    map (λ k. entry_copied m theory within (symbol_or symbols k)) ks
