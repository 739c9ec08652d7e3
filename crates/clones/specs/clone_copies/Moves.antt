-- The names that a clone passes on: what each stands for is mapped (Why3 manual, "theory cloning").
use Rattle.std.specs.Prelude.{ℕ, List, map, Option, Some, None}
use Rattle.tasks.specs.trees.Tree.{Tree}
use Rattle.tasks.specs.Task.{SymbolTree, symbol_or}
use Rattle.elab_groups.specs.scopes.declared.Table.{Table}
use Rattle.elab_groups.specs.scopes.declared.Table.TheVariants.{Types, Symbols, Propositions, Scopes}
use Rattle.elab_groups.specs.scopes.declared.Referent.TheVariants as stands
use Rattle.name_resolution.specs.Where.{MeaningTree}
use Rattle.theory_states.specs.declared.moves.Move.TheVariants.{Brings, Opens, Closes}
use Rattle.theory_states.specs.Moves.{MoveTree}
use Rattle.clones.specs.Mapped.{Map, mapped}

-- a type symbol with so many type variables becomes a type or another symbol
abbrev pub type_symbol_mapped : ℕ → Option Tree → ℕ → MeaningTree
type_symbol_mapped vars None j = stands.Entry j
type_symbol_mapped vars (Some e) j = stands.Alias vars e

abbrev pub thing_mapped : List SymbolTree → Map → Table → MeaningTree → MeaningTree
thing_mapped symbols m Types (stands.Entry k) =
    type_symbol_mapped (symbol_or symbols k).vars (m.types k) (m.symbols k)
thing_mapped symbols m Types (stands.Alias vars e) = stands.Alias vars (mapped m e)
thing_mapped symbols m Symbols (stands.Entry k) = stands.Entry (m.symbols k)
thing_mapped symbols m Symbols (stands.Alias vars e) = stands.Alias vars e
thing_mapped symbols m Propositions t = t
thing_mapped symbols m Scopes t = t

abbrev pub move_mapped : List SymbolTree → Map → MoveTree → MoveTree
move_mapped symbols m (Brings table x t) = Brings table x (thing_mapped symbols m table t)
move_mapped symbols m (Opens x) = Opens x
move_mapped symbols m Closes = Closes

-- each move is mapped, in order
abbrev pub moves_mapped : List SymbolTree → Map → List MoveTree → List MoveTree
moves_mapped symbols m ms = map (move_mapped symbols m) ms
