-- A theory that is used: its declarations are joined, and its names come into scopes (Why3 manual,
-- "use").
use Rattle.std.specs.Prelude.{◌≡◌, ℕ, ◌-◌, List, [], ◌∷◌, ◌++◌, length, slice_get, unwrap_or, Option, Some, None, option_map, codes}
use Rattle.theory_states.specs.Moves.{brought, handed}
use Rattle.surface.specs.declared.names.Name.{Name}
use Rattle.surface.specs.declared.names.Path.{Path}
use Rattle.surface.specs.declared.declarations.Link.{Link}
use Rattle.theory_states.specs.declared.fault.SourceFault.{SourceFault}
use Rattle.theory_states.specs.declared.fault.SourceFault.TheVariants.{Memory, Unknown}
use Rattle.theory_states.specs.States.{KnownTree, OpenedTree, StateTree, joined_places, known_named}

-- the parts of a path, joined by dots, and the last one
abbrev pub parts_after : List (List ℕ) → List ℕ
parts_after [] = []
parts_after (p ∷ ps) = codes "." ++ (p ++ parts_after ps)

abbrev pub path_text : List (List ℕ) → List ℕ
path_text [] = []
path_text (p ∷ ps) = p ++ parts_after ps

abbrev pub last_part : List (List ℕ) → List ℕ
last_part ps = unwrap_or (slice_get ps (length ps - 1)) []

-- the name after `as`
abbrev pub alias_text : Option Name → Option (List ℕ)
alias_text alias = option_map (λ (n : Name). n.text) alias

-- a fault of the source, of which want of memory tells nothing
abbrev pub OrMemory : (SourceFault → Type 0) → SourceFault → Type 0
OrMemory Is Memory = Unit {0}
OrMemory Is f = Is f

abbrev pub theory_used : Link → List ℕ → Option (List ℕ) → KnownTree → OpenedTree → OpenedTree
theory_used link last alias t o = record o {
  scope = brought link last alias t.moves o.scope;
  moves = o.moves ++ handed link t.moves;
  visible = joined_places o.visible t.visible;
}

-- the theory of a path is used
pub record IsTheoryUsed (link : Link) (p : Path) (alias : Option Name)
    (c c' : StateTree) : Type 0 where
  pub theory : KnownTree
  pub found : known_named c.known (path_text p.parts) ≡ Some theory
  pub is : c' ≡ record c {
    opened =
        theory_used link (last_part p.parts) (alias_text alias) theory c.opened;
  }

-- no theory before has the path
pub record IsUnknownTheory (p : Path) (known : List KnownTree) (number : ℕ)
    (f : SourceFault) : Type 0 where
  pub unknown : known_named known (path_text p.parts) ≡ None
  pub is : f ≡ Unknown number p.at
