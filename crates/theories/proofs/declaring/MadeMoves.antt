-- The names that a declaration made, as moves of definitions, and whose types are held.
use Rattle.std.proofs.Common.{◌≡◌, ℕ, List, [], ◌∷◌, ◌++◌, map, All, Option, Some, None, IfSome, option_map, refl, sym, ap, ◌∙◌}
use Rattle.std.proofs.lemmas.List.{map-append}
use Rattle.std.proofs.lemmas.List.Elements.{All-nil, All-cons, All-append}
use Rattle.tasks.specs.trees.Tree.{Tree}
use Rattle.elab_groups.specs.scopes.Names.{NamesOf, ScopeNames, TypeName, find_name, find_number, referent_with, names_with}
use Rattle.elab_groups.specs.scopes.declared.Referent.{Referent}
use Rattle.elab_groups.specs.scopes.declared.Referent.TheVariants as stands
use Rattle.elab_groups.specs.scopes.declared.Table.{Table}
use Rattle.elab_groups.specs.scopes.declared.Table.TheVariants.{Types, Symbols, Propositions, Scopes}
use Rattle.elab_groups.proofs.scopes.Mapped.{found_with, number_found_with}
use Rattle.elab_groups.proofs.parts.Scopes.{found_thing}
use Rattle.elab_groups.specs.open_types.Drafts.{MeaningHeld}
use Rattle.elab_groups.specs.parts.Declarations.{Declaration, declaration, Made, makes, binds_names, made_names}
use Rattle.elab_groups.specs.parts.Entries.{IsThing, AreScopes}
use Rattle.surface.specs.Lexeme.{Word}
use Rattle.surface.specs.Declarations as source
use Rattle.theory_states.specs.declared.moves.Move.{Move}
use Rattle.theory_states.specs.declared.moves.Move.TheVariants.{Brings}
use Rattle.theory_states.specs.Moves.{move_with}
use Rattle.theory_states.specs.Meaning.{MoveHeld}
use Rattle.theories.specs.declaring.Made.{thing_named, brought_as, moves_made, moves_of, moves_declared}

-- ---- they commute with a map of types
module _ {A B : Type 0} (f : A → B) (names : NamesOf A) where
  numbers_same : (m : Option ℕ) → option_map stands.Entry m ≡ option_map (referent_with f) (option_map stands.Entry m)
  numbers_same None = refl
  numbers_same (Some k) = refl

  number_with : (table : Table) (x : Word) → option_map stands.Entry (find_number (names_with f names) table (x ∷ [])) ≡ option_map (referent_with f) (option_map stands.Entry (find_number names table (x ∷ [])))
  number_with table x = ap (option_map stands.Entry) (number_found_with f names table (x ∷ [])) ∙ numbers_same (find_number names table (x ∷ []))

  thing_with : (table : Table) (x : Word) → thing_named (names_with f names) table x ≡ option_map (referent_with f) (thing_named names table x)
  thing_with Types x = found_with f names Types (x ∷ [])
  thing_with Symbols x = number_with Symbols x
  thing_with Propositions x = number_with Propositions x
  thing_with Scopes x = number_with Scopes x

  as_with : (table : Table) (x : Word) (m : Option (Referent A)) → brought_as table x (option_map (referent_with f) m) ≡ map (move_with f) (brought_as table x m)
  as_with table x None = refl
  as_with table x (Some t) = refl

  made_with : (ms : List Made) → moves_made (names_with f names) ms ≡ map (move_with f) (moves_made names ms)
  made_with [] = refl
  made_with (makes table c ∷ ms) =
      let first = brought_as table c.name (thing_named names table c.name) in
      ap (λ (zs : List (Move B)). zs ++ moves_made (names_with f names) ms) (ap (brought_as table c.name) (thing_with table c.name) ∙ as_with table c.name (thing_named names table c.name))
      ∙ ap (λ (zs : List (Move B)). map (move_with f) first ++ zs) (made_with ms)
      ∙ sym (map-append (move_with f) first (moves_made names ms))
  made_with (binds_names cs ∷ ms) = made_with ms

  of_with : (d : Option Declaration) → moves_of (names_with f names) d ≡ map (move_with f) (moves_of names d)
  of_with None = refl
  of_with (Some d) = made_with (made_names d)

  pub declared_with : (d : source.SyntaxDeclaration) → moves_declared (names_with f names) d ≡ map (move_with f) (moves_declared names d)
  declared_with d = of_with (declaration d)

-- ---- their types are held
module _ (s : List Tree) (n : ℕ) (names : ScopeNames) (h : AreScopes s n names) where
  type_held : (m : Option TypeName) → IfSome m (IsThing s n Types) → IfSome m (MeaningHeld s)
  type_held None k = tt
  type_held (Some (stands.Entry i)) k = tt
  type_held (Some (stands.Alias vars ty)) k = k.0

  number_held : (m : Option ℕ) → IfSome (option_map stands.Entry m) (MeaningHeld s)
  number_held None = tt
  number_held (Some k) = tt

  thing_held : (table : Table) (x : Word) → IfSome (thing_named names table x) (MeaningHeld s)
  thing_held Types x = type_held (find_name names Types (x ∷ [])) (found_thing s n names h Types (x ∷ []))
  thing_held Symbols x = number_held (find_number names Symbols (x ∷ []))
  thing_held Propositions x = number_held (find_number names Propositions (x ∷ []))
  thing_held Scopes x = number_held (find_number names Scopes (x ∷ []))

  as_held : (table : Table) (x : Word) (m : Option TypeName) → IfSome m (MeaningHeld s) → All (MoveHeld s) (brought_as table x m)
  as_held table x None k = All-nil (MoveHeld s)
  as_held table x (Some t) k = All-cons (MoveHeld s) (Brings table x t) [] k (All-nil (MoveHeld s))

  made_held : (ms : List Made) → All (MoveHeld s) (moves_made names ms)
  made_held [] = All-nil (MoveHeld s)
  made_held (makes table c ∷ ms) =
      All-append (MoveHeld s) (brought_as table c.name (thing_named names table c.name)) (moves_made names ms) (as_held table c.name (thing_named names table c.name) (thing_held table c.name)) (made_held ms)
  made_held (binds_names cs ∷ ms) = made_held ms

  of_held : (d : Option Declaration) → All (MoveHeld s) (moves_of names d)
  of_held None = All-nil (MoveHeld s)
  of_held (Some d) = made_held (made_names d)

  pub declared_held : (d : source.SyntaxDeclaration) → All (MoveHeld s) (moves_declared names d)
  declared_held d = of_held (declaration d)
