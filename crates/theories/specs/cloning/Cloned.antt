-- A theory that is cloned, or the first fault of a clone: a type variable that occurs twice in an
-- element, the path, the names on the right of the elements, and an element that is wrong (Why3
-- manual, "theory cloning").
use Rattle.std.specs.Prelude.{◌≡◌, ℕ, List, ◌++◌, Option, Some, None, codes}
use Rattle.tasks.specs.Task.{SymbolTree}
use Rattle.elab_groups.specs.name_resolution.Where.{NamesTree}
use Rattle.theory_states.specs.Moves.{MoveTree, brought, handed, name_or}
use Rattle.surface.specs.Lexeme.{Word}
use Rattle.surface.specs.Declarations.{Element}
use Rattle.surface.specs.declared.names.Name.{Name}
use Rattle.surface.specs.declared.names.Path.{Path}
use Rattle.surface.specs.declared.declarations.Link.{Link}
use Rattle.surface.specs.declared.declarations.Link.TheVariants as link
use Rattle.elab_groups.specs.name_resolution.declared.NamingFault.{NamingFault}
use Rattle.elab_groups.specs.name_resolution.declared.NamingFault.TheVariants as names
use Rattle.clones.specs.Mapped.{Map}
use Rattle.theory_states.specs.declared.fault.SourceFault.{SourceFault}
use Rattle.theory_states.specs.declared.fault.SourceFault.TheVariants as fault
use Rattle.theory_states.specs.States.{KnownTree, StateTree, known_named}
use Rattle.theory_states.specs.Uses.{path_text, last_part, alias_text, IsUnknownTheory}
use Rattle.clones.specs.clone_elements.Left.{Origin, last_place}
use Rattle.clones.specs.clone_elements.Rights.{all_variables_fault, rights_fault, rights_tuples}
use Rattle.clones.specs.clone_elements.Replacements.{SideTree, sides_made, effects_of, has_all, no_effects, kept, clone_map, tried_map}
use Rattle.clones.specs.clone_elements.Elements.{SidesTold}
use Rattle.clones.specs.clone_copies.Origins.{axioms_at, origin_of}
use Rattle.clones.specs.clone_copies.Entries.{entries_copied}
use Rattle.clones.specs.clone_copies.Places.{Copying, with_places}
use Rattle.clones.specs.clone_copies.Moves.{moves_mapped}

-- ---- what the elements stand for
-- the signature with the tuples of the types on the right
abbrev pub symbols_tupled : StateTree → List Element → List SymbolTree
symbols_tupled c es = c.symbols ++ rights_tuples c.symbols es

abbrev pub sides_over : Origin → List SymbolTree → NamesTree → List Element → List SideTree
sides_over o symbols names es =
    sides_made (λ x. last_place symbols o x None o.own) symbols names es

abbrev pub sides_in : StateTree → KnownTree → List Element → List SideTree
sides_in c t es = sides_over (origin_of c.decls t) c.symbols c.opened.scope es

abbrev pub tried_in : StateTree → KnownTree → List Element → Map
tried_in c t es = tried_map (symbols_tupled c es) (origin_of c.decls t) (sides_in c t es)

abbrev pub map_in : StateTree → KnownTree → List Element → Map
map_in c t es = clone_map (symbols_tupled c es) (origin_of c.decls t) (sides_in c t es)

-- the elements are right, or are refused at a token
abbrev pub AreTold : StateTree → KnownTree → List Element → Option ℕ → Type 0
AreTold c t es o =
    SidesTold (symbols_tupled c es) (origin_of c.decls t) (tried_in c t es) no_effects
    (sides_in c t es) o

-- ---- the clone
-- the names of the scopes of the copies
abbrev pub within_of : Link → Word → Option Word → Word → Word
within_of link.Export last alias within = within
within_of link.Import last alias within = within ++ (name_or last alias ++ codes ".")
within_of link.Bare last alias within = within ++ (name_or last alias ++ codes ".")

abbrev pub copying_in : StateTree → KnownTree → List Element → Word → Copying
copying_in c t es within = record {
  path = t.path;
  axioms = axioms_at t.axioms;
  effects = effects_of (sides_in c t es);
  all = has_all (sides_in c t es);
  mapping = map_in c t es;
  within = within;
}

-- with the entries of the copies
abbrev pub with_copied_entries : StateTree → KnownTree → List Element → Word → StateTree
with_copied_entries c t es within = record c {
  symbols = symbols_tupled c es
      ++ entries_copied (symbols_tupled c es) (map_in c t es) c.opened.path within
      (kept (origin_of c.decls t) (effects_of (sides_in c t es)));
}

-- names come into scopes as by `use`
abbrev pub with_names : Link → Word → Option Word → List MoveTree → StateTree → StateTree
with_names l last alias ms c =
    record c {
      opened = record c.opened
          { scope = brought l last alias ms c.opened.scope; moves = c.opened.moves ++ handed l ms };
    }

abbrev pub state_cloned : Link → Word → Option Word → List Element → KnownTree → StateTree
    → StateTree
state_cloned l last alias es t c =
    with_names l last alias (moves_mapped (symbols_tupled c es) (map_in c t es) t.moves)
    (with_places (copying_in c t es (within_of l last alias c.opened.within)) t.visible
    (with_copied_entries c t es (within_of l last alias c.opened.within)))

pub record IsCloned (l : Link) (p : Path) (alias : Option Name) (es : List Element)
    (c c' : StateTree) : Type 0 where
  pub variables : all_variables_fault es ≡ None
  pub theory : KnownTree
  pub found : known_named c.known (path_text p.parts) ≡ Some theory
  pub names : rights_fault c.symbols c.opened.scope es ≡ None
  pub right : AreTold c theory es None
  pub is : c' ≡ state_cloned l (last_part p.parts) (alias_text alias) es theory c

-- ---- its faults
abbrev pub naming : ℕ → NamingFault → SourceFault
naming number names.Memory = fault.Memory
naming number (names.Unknown token) = fault.Unknown number token
naming number (names.Duplicate token) = fault.Duplicate number token
naming number (names.WrongKind token) = fault.WrongKind number token
naming number (names.Arity token) = fault.Arity number token

-- the fault of a name, where there is one
pub record IsNamesFault (number : ℕ) (found : Option NamingFault) (f : SourceFault) : Type 0 where
  pub fault : NamingFault
  pub first : found ≡ Some fault
  pub is : f ≡ naming number fault

-- the first wrong element
pub record IsElementFault (number : ℕ) (symbols : List SymbolTree) (o : Origin) (xs : List SideTree)
    (f : SourceFault) : Type 0 where
  pub token : ℕ
  pub told : SidesTold symbols o (tried_map symbols o xs) no_effects xs (Some token)
  pub is : f ≡ fault.BadSubstitution number token

pub data IsCloneFault (p : Path) (es : List Element) (c : StateTree)
    (f : SourceFault) : Type 0 where
  of_variables : IsNamesFault c.number (all_variables_fault es) f → IsCloneFault p es c f
  of_path : all_variables_fault es ≡ None → IsUnknownTheory p c.known c.number f
      → IsCloneFault p es c f
  of_clone_names : (t : KnownTree) → all_variables_fault es ≡ None
      → known_named c.known (path_text p.parts) ≡ Some t
      → IsNamesFault c.number (rights_fault c.symbols c.opened.scope es) f
      → IsCloneFault p es c f
  of_elements : (t : KnownTree) → all_variables_fault es ≡ None
      → known_named c.known (path_text p.parts) ≡ Some t
      → rights_fault c.symbols c.opened.scope es ≡ None
      → IsElementFault c.number (symbols_tupled c es) (origin_of c.decls t) (sides_in c t es) f
      → IsCloneFault p es c f
