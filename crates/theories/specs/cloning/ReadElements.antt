-- What the elements of a clone are read as: what they replace, or their first fault; and what the
-- theory is copied by.
use Rattle.std.specs.Prelude.{◌≡◌, ℕ, List, ◌++◌, length, None}
use Rattle.tasks.specs.trees.Tree.{Tree}
use Rattle.tasks.specs.Task.{SymbolTree}
use Rattle.elab_groups.specs.name_resolution.Where.{NamesTree}
use Rattle.surface.specs.Lexeme.{Word}
use Rattle.surface.specs.Declarations.{Element}
use Rattle.clones.specs.Mapped.{Map}
use Rattle.theory_states.specs.declared.fault.SourceFault.{SourceFault}
use Rattle.theory_states.specs.States.{KnownTree, StateTree}
use Rattle.clones.specs.declared.clone_elements.elements.Replacement.{Replacement}
use Rattle.clones.specs.clone_elements.Left.{Origin}
use Rattle.clones.specs.clone_elements.Rights.{rights_fault, rights_tuples}
use Rattle.clones.specs.clone_elements.Replacements.{no_effects, kept, map_of, tried_map}
use Rattle.clones.specs.clone_elements.Elements.{SidesTold}
use Rattle.clones.specs.clone_elements.Meaning.{IsReplacement, effects_at, type_pairs_at, symbol_pairs}
use Rattle.clones.specs.clone_copies.Origins.{axioms_at, origin_of}
use Rattle.clones.specs.clone_copies.Places.{Copying}
use Rattle.theories.specs.cloning.Cloned.{sides_over, IsNamesFault, IsElementFault}

-- all are right over a signature, and replace this in a later store
pub record AreElementsRead (symbols : List SymbolTree) (scope : NamesTree) (o : Origin)
    (es : List Element) (s' : List Tree) (p : Replacement) : Type 0 where
  pub names : rights_fault symbols scope es ≡ None
  pub right : SidesTold (symbols ++ rights_tuples symbols es) o
      (tried_map (symbols ++ rights_tuples symbols es) o (sides_over o symbols scope es)) no_effects
      (sides_over o symbols scope es) None
  pub replacement : IsReplacement s' (symbols ++ rights_tuples symbols es) o
      (sides_over o symbols scope es) p

-- the names on the right have a fault, or else an element is wrong
pub data IsElementsFault (number : ℕ) (symbols : List SymbolTree) (scope : NamesTree)
    (o : Origin) (es : List Element) (f : SourceFault) : Type 0 where
  in_names : IsNamesFault number (rights_fault symbols scope es) f
      → IsElementsFault number symbols scope o es f
  in_elements : rights_fault symbols scope es ≡ None
      → IsElementFault number (symbols ++ rights_tuples symbols es) o
      (sides_over o symbols scope es) f → IsElementsFault number symbols scope o es f

-- the symbols of the copies, and the map
abbrev pub kept_by : Origin → Replacement → List ℕ
kept_by o p = kept o (effects_at p.effects)

abbrev pub map_by : List Tree → List SymbolTree → Origin → Replacement → Map
map_by s symbols o p = map_of (type_pairs_at s p.types.items) (symbol_pairs p.symbols.items)
    (length symbols) (kept_by o p)

-- a theory is copied by what elements replace, into scopes of these names
abbrev pub copying_by : List Tree → StateTree → KnownTree → Replacement → Word → Copying
copying_by s c t p within = record {
  path = t.path;
  axioms = axioms_at t.axioms;
  effects = effects_at p.effects;
  all = p.all_axioms;
  mapping = map_by s c.symbols (origin_of c.decls t) p;
  within = within;
}
