-- The bodies of members in code, and what is made of them.
use Rattle.std.specs.Prelude.{◌≡◌, ℕ, ◌+◌, true, List, [], ◌∷◌, ◌++◌, map, length, All, Option}
use Rattle.std.specs.Option.{is_some}
use Rattle.std.specs.List.{AllByRecursion}
use Rattle.tasks.specs.trees.declared.Sort.{Sort}
use Rattle.tasks.specs.trees.declared.TermId.{TermId}
use Rattle.tasks.specs.trees.Tree.{Tree}
use Rattle.tasks.specs.trees.Node.{tree_at, Holds}
use Rattle.tasks.specs.trees.Sorts.{sort_of}
use Rattle.tasks.specs.trees.Facts.{TyVarsBelow}
use Rattle.tasks.specs.Meaning.{trees_at, declarations_at, DeclHeld}
use Rattle.name_resolution.specs.surface.Lexeme.{Word}
use Rattle.name_resolution.specs.Where.{Where}
use Rattle.open_types.specs.declared.draft.Constraints.{Constraints}
use Rattle.open_types.specs.Patterns.{Notes, taken}
use Rattle.open_types.specs.Pieces.{NotedTree}
use Rattle.open_types.specs.Drafts.{IsNoted, MatchHeld, match_at, due}
use Rattle.elab_groups.specs.declared.parts.made.Elaborated.{Elaborated}
use Rattle.elab_groups.specs.parts.Declarations.{GroupMember}
use Rattle.elab_groups.specs.declared.members.signing.Signed.{Signed}
use Rattle.elab_groups.specs.members.Members.{SignatureTree}
use Rattle.elab_groups.specs.declared.solving.Bodies.{Bodies}
use Rattle.elab_groups.specs.Groups.{pieces_notes, pieces_trees, BodiesSolved, group_decls}

-- the sorts that signatures demand of bodies
abbrev pub sorts_due : List Signed → List Sort
sorts_due its = map (λ (it : Signed). due it.result) its

-- a body is held, of the sort that is due
pub record IsBody (s : List Tree) (t : Option TermId) (id : TermId) : Type 0 where
  pub held : Holds s id
  pub sort : sort_of (tree_at s id) ≡ due t

pub record AreBodies (s : List Tree) (its : List Signed) (ids : List TermId) : Type 0 where
  pub held : All (Holds s) ids
  pub sorts : map sort_of (trees_at s ids) ≡ sorts_due its

-- each member has a body
abbrev pub AreDefined : List GroupMember → Type 0
AreDefined [] = Unit {0}
AreDefined (m ∷ ms) = (is_some m.body ≡ true) × AreDefined ms

-- each has one where the first one has one
abbrev pub AllHaveBodies : List GroupMember → Type 0
AllHaveBodies [] = Unit {0}
AllHaveBodies (m ∷ ms) = is_some m.body ≡ true → AreDefined ms

-- the number of the piece's tree, and its notes after those that were there
pub record IsBodyWalked (p : NotedTree) (s : List Tree) (d : Constraints) (s' : List Tree)
    (d' : Constraints) (id : TermId) : Type 0 where
  pub held : Holds s' id
  pub tree : tree_at s' id ≡ p.tree
  pub noted : IsNoted s d s' d' p.notes

-- of pieces in order, after those that are there
pub record AreBodiesWalked (ps : List NotedTree) (ms : List GroupMember) (its : List Signed)
    (s : List Tree) (d : Constraints) (ids : List TermId) (s' : List Tree) (d' : Constraints)
    (ids' : List TermId) : Type 0 where
  pub held : All (Holds s') ids'
  pub trees : trees_at s' ids' ≡ trees_at s ids ++ pieces_trees ps
  pub sorts : length ms ≡ length its → AreDefined ms → map sort_of (pieces_trees ps) ≡ sorts_due its
  pub noted : IsNoted s d s' d' (pieces_notes ps)

-- ---- solved bodies
pub record BodiesHeld (s : List Tree) (it : Bodies) : Type 0 where
  pub trees : All (Holds s) it.trees.items
  pub matches : All (MatchHeld s) it.matches

-- the type variables of trees and matches are below those of the notes
pub record AreBounded (rigid : ℕ) (ns : Notes) (es : List Tree) : Type 0 where
  pub trees : AllByRecursion (TyVarsBelow (rigid + taken ns)) es
  pub matches : AllByRecursion
      (λ (m : ℕ × List Tree). AllByRecursion (TyVarsBelow (rigid + taken ns)) m.1) ns.matches

-- a group whose names are there and whose entries stand from a number on
pub record IsGroupMade (w : Where) (theory within : Word) (ms : List GroupMember) (k : ℕ)
    (gs : List SignatureTree) (s' : List Tree) (made : Elaborated) : Type 0 where
  pub bodies : List Tree
  pub solved : BodiesSolved w ms gs bodies (map (match_at s') made.matches)
  pub decls : declarations_at s' made.decls ≡ group_decls theory within ms k gs bodies
  pub rigid : made.rigid ≡ []
  pub decls_held : All (DeclHeld s') made.decls
  pub matches_held : All (MatchHeld s') made.matches
