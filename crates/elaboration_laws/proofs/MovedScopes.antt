-- Scopes after moves: each name stands for a thing of its table.
use Rattle.std.proofs.Common.{ℕ, Bool, true, false, nat_lt, if◌then◌else◌, List, [], ◌∷◌, length, get_or, All, Option, Some, None}
use Rattle.std.proofs.lemmas.List.Elements.{All-nil, All-cons, All-head, All-tail, All-append}
use Rattle.elab_groups.specs.trees.Tree.{Tree}
use Rattle.elab_groups.specs.tasks.Vocabulary.{Vocabulary}
use Rattle.elab_groups.specs.scopes.Names.{EntryOf, with_name, with_entry, with_scope, closed}
use Rattle.elab_groups.specs.scopes.declared.Table.{Table}
use Rattle.elab_groups.specs.scopes.declared.Table.TheVariants.{Scopes}
use Rattle.elab_groups.specs.scopes.declared.Referent.TheVariants as stands
use Rattle.elab_groups.specs.name_resolution.Where.{MeaningTree, NamesTree}
use Rattle.elab_groups.specs.surface.declared.declarations.Link.{Link}
use Rattle.elab_groups.specs.surface.declared.declarations.Link.TheVariants.{Bare, Import, Export}
use Rattle.theory_states.specs.declared.moves.Move.TheVariants.{Brings, Opens, Closes}
use Rattle.theory_states.specs.Moves.{MoveTree, left, moved, replayed, name_or, in_scope, brought, handed}
use Rattle.elaboration_laws.specs.Scopes.{IsSubvocabulary, IsTypedThing, AreTypedScopes}
use Rattle.elaboration_laws.proofs.Scopes.{scopes_more}
use Rattle.elaboration_laws.proofs.Extended.{thing_more}
use Rattle.elaboration_laws.specs.Moves.{IsTypedMove, AreTypedMoves}

module _ (v : Vocabulary) where
  pub named_typed : (table : Table) (x : List ℕ) (t : MeaningTree) (d : Bool) (names : NamesTree) → IsTypedThing v table t → AreTypedScopes v names → AreTypedScopes v (with_name table x t d names)
  named_typed table x t d names h k = scopes_more (IsTypedThing v) names table x t d h k

  abbrev AreTypedEntries : List (EntryOf Tree) → Type 0
  AreTypedEntries es = All (λ (e : EntryOf Tree). IsTypedThing v e.table e.thing) es

  pub opened_typed : (x : List ℕ) (d : Bool) (names : NamesTree) → AreTypedScopes v names → AreTypedScopes v (with_scope x d names)
  opened_typed x d names h =
      let named : NamesTree = with_entry Scopes x (length names.entries) d names in
      All-append AreTypedEntries named.entries ([] ∷ []) (named_typed Scopes x (stands.Entry (length names.entries)) d names tt h)
      (All-cons AreTypedEntries [] [] (All-nil (λ (e : EntryOf Tree). IsTypedThing v e.table e.thing)) (All-nil AreTypedEntries))

  pub left_typed : (names : NamesTree) → AreTypedScopes v names → AreTypedScopes v (left names)
  left_typed names h = of (nat_lt 1 (length names.nested))
    where
      of : (b : Bool) → AreTypedScopes v (if b then closed names else names)
      of true = h
      of false = h

  moved_typed : (m : MoveTree) (names : NamesTree) → IsTypedMove v m → AreTypedScopes v names → AreTypedScopes v (moved m names)
  moved_typed (Brings table x thing) names t h = named_typed table x thing false names t h
  moved_typed (Opens x) names t h = opened_typed x false names h
  moved_typed Closes names t h = left_typed names h

  pub replayed_typed : (ms : List MoveTree) (names : NamesTree) → AreTypedMoves v ms → AreTypedScopes v names → AreTypedScopes v (replayed ms names)
  replayed_typed [] names t h = h
  replayed_typed (m ∷ ms) names t h = replayed_typed ms (moved m names) (All-tail (IsTypedMove v) m ms t) (moved_typed m names (All-head (IsTypedMove v) m ms t) h)

  in_scope_typed : (x : List ℕ) (ms : List MoveTree) (names : NamesTree) → AreTypedMoves v ms → AreTypedScopes v names → AreTypedScopes v (in_scope x ms names)
  in_scope_typed x ms names t h = left_typed (replayed ms (with_scope x false names)) (replayed_typed ms (with_scope x false names) t (opened_typed x false names h))

  pub brought_typed : (link : Link) (last : List ℕ) (alias : Option (List ℕ)) (ms : List MoveTree) (names : NamesTree) → AreTypedMoves v ms → AreTypedScopes v names → AreTypedScopes v (brought link last alias ms names)
  brought_typed Export last alias ms names t h = replayed_typed ms names t h
  brought_typed Import last alias ms names t h = replayed_typed ms (in_scope (name_or last alias) ms names) t (in_scope_typed (name_or last alias) ms names t h)
  brought_typed Bare last (Some x) ms names t h = in_scope_typed x ms names t h
  brought_typed Bare last None ms names t h = replayed_typed ms (in_scope last ms names) t (in_scope_typed last ms names t h)

  pub handed_typed : (link : Link) (ms : List MoveTree) → AreTypedMoves v ms → AreTypedMoves v (handed link ms)
  handed_typed Export ms t = t
  handed_typed Import ms t = All-nil (IsTypedMove v)
  handed_typed Bare ms t = All-nil (IsTypedMove v)

module _ (v w : Vocabulary) (part : IsSubvocabulary v w) where
  move_more : (m : MoveTree) → IsTypedMove v m → IsTypedMove w m
  move_more (Brings table x thing) h = thing_more v w part table thing h
  move_more (Opens x) h = tt
  move_more Closes h = tt

  pub moves_more : (ms : List MoveTree) → AreTypedMoves v ms → AreTypedMoves w ms
  moves_more ms h = λ k d l. move_more (get_or ms k d) (h k d l)
