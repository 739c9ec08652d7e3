-- Type equations of a declaration: when they determine its trees, and their first fault (rank-1
-- polymorphism; most general types).
use Rattle.std.specs.Prelude.{◌≡◌, ℕ, ◌+◌, ◌<◌, List, [], take, map, length, slice_get, Some}
use Rattle.tasks.specs.trees.Tree.{Tree}
use Rattle.open_types.specs.unify_types.Assigned.{assign}
use Rattle.open_types.specs.unify_types.Pairs.{IsSolution, IsSolvable, IsUnsolvable, IsLeftOpen}
use Rattle.name_resolution.specs.declared.NamingFault.{NamingFault}
use Rattle.name_resolution.specs.declared.NamingFault.TheVariants as names
use Rattle.name_resolution.specs.variables.Seen.{SeenTree}
use Rattle.open_types.specs.Patterns.{Notes, taken}
use Rattle.open_types.specs.Pieces.{NotedTree}
use Rattle.elab_groups.specs.declared.parts.ElabFault.{ElabFault}
use Rattle.elab_groups.specs.declared.parts.ElabFault.TheVariants as elab
use Rattle.elab_groups.specs.declared.parts.solution.TypingFault.{TypingFault}
use Rattle.elab_groups.specs.declared.parts.solution.TypingFault.TheVariants as types

-- all solutions by types agree at an unknown
abbrev pub IsFixedUnknown : ℕ → List (Tree × Tree) → ℕ → Type 0
IsFixedUnknown rigid es u =
    (f g : ℕ → Tree) → IsSolution rigid f es → IsSolution rigid g es → f u ≡ g u

-- there is a solution, and all agree at each unknown that is taken
pub record IsDetermined (rigid : ℕ) (ns : Notes) : Type 0 where
  pub solvable : IsSolvable rigid ns.equations
  pub fixed : (i : ℕ) → i < taken ns → IsFixedUnknown rigid ns.equations (rigid + i)

-- the patterns of matches at assigned unknowns
abbrev pub matches_assigned : ℕ → (ℕ → Tree) → List (ℕ × List Tree) → List (ℕ × List Tree)
matches_assigned rigid f ms = map (λ (m : ℕ × List Tree). (m.0, map (assign rigid f) m.1)) ms

-- the matches at every solution
abbrev pub AreMatches : ℕ → Notes → List (ℕ × List Tree) → Type 0
AreMatches rigid ns ms =
    (f : ℕ → Tree) → IsSolution rigid f ns.equations → matches_assigned rigid f ns.matches ≡ ms

-- the tree and the matches of a piece at every solution of its equations, of which there is one in
-- effect
pub record IsSolved (rigid : ℕ) (p : NotedTree) (e : Tree)
    (ms : List (ℕ × List Tree)) : Type 0 where
  pub determined : IsDetermined rigid p.notes
  pub tree : (f : ℕ → Tree) → IsSolution rigid f p.notes.equations → assign rigid f p.tree ≡ e
  pub matches : AreMatches rigid p.notes ms

-- the least prefix without a solution; the node that takes the first unknown at which solutions
-- differ
abbrev pub IsTypingFault : ℕ → Notes → TypingFault → Type 0
IsTypingFault rigid ns types.Memory = Unit {0}
IsTypingFault rigid ns (types.Clash k) =
    (k < length ns.equations) × IsUnsolvable rigid (take (k + 1) ns.equations)
    × IsSolvable rigid (take k ns.equations)
IsTypingFault rigid ns (types.Undetermined token) =
    (i : ℕ) × (slice_get ns.takers i ≡ Some token) × IsLeftOpen rigid ns.equations (rigid + i)
    × ((j : ℕ) → j < i → IsFixedUnknown rigid ns.equations (rigid + j))

-- ---- names and faults
-- before anything is seen
abbrev pub unseen : SeenTree
unseen = record { vars = []; widths = [] }

-- a fault of names, in the declaration of a number
abbrev pub elab_naming_fault : ℕ → NamingFault → ElabFault
elab_naming_fault decl names.Memory = elab.Memory
elab_naming_fault decl (names.Unknown t) = elab.Unknown decl t
elab_naming_fault decl (names.Duplicate t) = elab.Duplicate decl t
elab_naming_fault decl (names.WrongKind t) = elab.WrongKind decl t
elab_naming_fault decl (names.Arity t) = elab.Arity decl t

abbrev pub elab_typing_fault : ℕ → TypingFault → ElabFault
elab_typing_fault decl types.Memory = elab.Memory
elab_typing_fault decl (types.Clash k) = elab.Clash decl k
elab_typing_fault decl (types.Undetermined t) = elab.Undetermined decl t
