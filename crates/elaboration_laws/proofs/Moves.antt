-- The names that a clone brings stand for things of their tables under a map that takes types to types and symbols to symbols, as a
-- morphism does.
use Rattle.std.proofs.Common.{◌≡◌, ℕ, List, get_or, Option, Some, None, refl}
use Rattle.std.proofs.lemmas.List.Elements.{All-map}
use Rattle.elab_groups.specs.trees.Tree.{Tree}
use Rattle.elab_groups.specs.tasks.Task.{symbol_or}
use Rattle.elab_groups.specs.tasks.Vocabulary.{Vocabulary}
use Rattle.elab_groups.specs.scopes.declared.Table.{Table}
use Rattle.elab_groups.specs.scopes.declared.Table.TheVariants.{Types, Symbols, Propositions, Scopes}
use Rattle.elab_groups.specs.scopes.declared.Referent.TheVariants as stands
use Rattle.elab_groups.specs.name_resolution.Where.{MeaningTree}
use Rattle.theory_states.specs.declared.moves.Move.TheVariants.{Brings, Opens, Closes}
use Rattle.theory_states.specs.Moves.{MoveTree}
use Rattle.clones.specs.Mapped.{Map}
use Rattle.clones.specs.clone_copies.Moves.{type_symbol_mapped, thing_mapped, move_mapped, moves_mapped}
use Rattle.elaboration_laws.specs.Scopes.{IsTypeName, IsTypeNumber, IsSymbolNumber, IsTypedThing}
use Rattle.elaboration_laws.specs.Moves.{IsTypedMove, AreTypedMoves}
use Rattle.elaboration_laws.specs.Morphisms.{MapsTypes, IsMorphism}
use Rattle.elaboration_laws.proofs.CopiedTypes.{type_in_mapped}
use Rattle.elaboration_laws.proofs.ClonedNames.{type_kept, type_replaced}
use Rattle.elaboration_laws.proofs.StateNames.{symbol_becomes}

module _ (v w : Vocabulary) (m : Map) (types : MapsTypes v w m) (symbols : (k : ℕ) → IsSymbolNumber v k → IsSymbolNumber w (m.symbols k)) where
  type_becomes : (k : ℕ) (o : Option Tree) → m.types k ≡ o → IsTypeNumber v k → IsTypeName w (type_symbol_mapped (symbol_or v.symbols k).vars o (m.symbols k))
  type_becomes k None q t = type_kept v w m types k t q
  type_becomes k (Some e) q t = type_replaced v w m types k t e q

  thing_becomes : (table : Table) (t : MeaningTree) → IsTypedThing v table t → IsTypedThing w table (thing_mapped v.symbols m table t)
  thing_becomes Types (stands.Entry k) t = type_becomes k (m.types k) refl t
  thing_becomes Types (stands.Alias vars e) t = type_in_mapped v w m types vars e t
  thing_becomes Symbols (stands.Entry k) t = symbols k t
  thing_becomes Symbols (stands.Alias vars e) t = absurd t
  thing_becomes Propositions x t = t
  thing_becomes Scopes x t = t

  move_becomes : (a : MoveTree) → IsTypedMove v a → IsTypedMove w (move_mapped v.symbols m a)
  move_becomes (Brings table x thing) t = thing_becomes table thing t
  move_becomes (Opens x) t = tt
  move_becomes Closes t = tt

  pub moves_under : (xs : List MoveTree) → AreTypedMoves v xs → AreTypedMoves w (moves_mapped v.symbols m xs)
  moves_under xs t = All-map (IsTypedMove w) (move_mapped v.symbols m) xs (λ k d l. move_becomes (get_or xs k d) (t k d l))

pub moves_become : (v w : Vocabulary) (m : Map) → IsMorphism v w m → (xs : List MoveTree) → AreTypedMoves v xs → AreTypedMoves w (moves_mapped v.symbols m xs)
moves_become v w m h xs t = moves_under v w m h.types (λ k i. symbol_becomes v w m k h i) xs t
