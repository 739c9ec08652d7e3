-- Entries that have no theory are type variables of goals.
use Rattle.std.specs.Prelude.{◌≡◌, true, List, All}
use Rattle.elab_groups.specs.tasks.Task.{SymbolTree}
use Rattle.elab_groups.specs.tasks.Vocabulary.{is_empty}
use Rattle.elab_groups.specs.tasks.Rigid.{rigid_symbol}

abbrev pub IsPlacedEntry : SymbolTree → Type 0
IsPlacedEntry e = is_empty e.theory ≡ true → e ≡ rigid_symbol e.name

abbrev pub ArePlaced : List SymbolTree → Type 0
ArePlaced symbols = All IsPlacedEntry symbols
