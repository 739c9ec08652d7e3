-- The type variables of the pieces of bodies are those of the members and the unknowns that they take.
use Rattle.std.proofs.Common.{◌≡◌, ℕ, ◌+◌, ◌≤◌, List, [], ◌∷◌, ◌++◌, reverse, length, Option, None, Some, IfSome, arith, length-append}
use Rattle.std.specs.Option.{is_none}
use Rattle.std.specs.List.{AllByRecursion}
use Rattle.tasks.specs.trees.Tree.{Tree}
use Rattle.tasks.specs.trees.Facts.{TyVarsBelow}
use Rattle.name_resolution.specs.surface.Lexeme.{Word}
use Rattle.name_resolution.specs.Abstract.{Expression}
use Rattle.name_resolution.specs.Where.{Where}
use Rattle.open_types.specs.Patterns.{taken, LocalTree}
use Rattle.open_types.specs.Pieces.{unknown_after}
use Rattle.open_types.specs.Scoped.{IsScoped}
use Rattle.open_types.proofs.Below.{AreBelow, LocalsBelow, below_more, list_more, wanted_more, reversed}
use Rattle.open_types.proofs.Bounded.{IsBelow, bounded}
use Rattle.elab_groups.specs.parts.Declarations.{GroupMember, with_vars}
use Rattle.elab_groups.proofs.parts.MatchesBelow.{NotesBelow, followed, matches_bounded}
use Rattle.elab_groups.specs.members.Members.{SignatureTree, words_of_parameters, body_fault}
use Rattle.elab_groups.specs.members.Sources.{IsScopedSignature, AreResolved}
use Rattle.elab_groups.specs.Groups.{most_variables, typed_locals, body_piece, member_piece, member_pieces, bodies_pieces, pieces_notes, pieces_trees}
use Rattle.elab_groups.specs.Bodies.{AreBounded}

typed_below : (n : ℕ) (xs : List Word) (ts : List Tree) → AreBelow n ts → LocalsBelow n (typed_locals xs ts)
typed_below n [] ts h = tt
typed_below n (x ∷ xs) [] h = tt
typed_below n (x ∷ xs) (t ∷ ts) h = (h.0, typed_below n xs ts h.1)

-- other type variables
vars_scoped : (w : Where) (vs : List Word) → IsScoped w → IsScoped (with_vars w vs)
vars_scoped w vs h = record { symbols = h.symbols; types = h.types; tuples = h.tuples }

module _ (w : Where) (sc : IsScoped w) where
  body_below : (m : GroupMember) (vars : List Word) (b : Option Expression) (ls : List LocalTree) (n : ℕ) (t : Option Tree) → body_fault w m vars b ≡ None → LocalsBelow n ls → IfSome t (TyVarsBelow n) → length vars ≤ n
      → IsBelow n (body_piece (with_vars w vars) ls n t b)
  body_below m vars None ls n t h k r l = tt
  body_below m vars (Some e) ls n t h k r l = bounded (with_vars w vars) (vars_scoped w vars sc) e ls n t (reverse (words_of_parameters m.params)) (is_none m.result) k r l h

  body_matches : (vars : List Word) (b : Option Expression) (ls : List LocalTree) (n : ℕ) (t : Option Tree) → NotesBelow n (body_piece (with_vars w vars) ls n t b).notes
  body_matches vars None ls n t = tt
  body_matches vars (Some e) ls n t = matches_bounded (with_vars w vars) (vars_scoped w vars sc) e ls n t

  pieces_below : (ms : List GroupMember) (gs : List SignatureTree) (n : ℕ) → most_variables gs ≤ n → AreResolved w ms gs → AllByRecursion IsScopedSignature gs
      → AreBelow (n + taken (pieces_notes (member_pieces w n ms gs))) (pieces_trees (member_pieces w n ms gs))
  pieces_below [] gs n f h k = tt
  pieces_below (m ∷ ms) [] n f h k = tt
  pieces_below (m ∷ ms) (g ∷ gs) n f h k =
      let a : length g.vars ≤ n = omega arith in
      let b : most_variables gs ≤ unknown_after n (member_piece w n m g) = omega arith in
      let p = member_piece w n m g in
      let j = unknown_after n p in
      let ps = member_pieces w j ms gs in
      let i = n + length (p.notes.takers ++ (pieces_notes ps).takers) in
      let l : i ≡ j + taken (pieces_notes ps) = omega (arith, length-append p.notes.takers (pieces_notes ps).takers) in
      let args : AreBelow n g.args = list_more g.args (length g.vars) n a k.0.args in
      let o : IsBelow n p = body_below m g.vars m.body (reverse (typed_locals (words_of_parameters m.params) g.args)) n g.result h.0.right (reversed n (typed_locals (words_of_parameters m.params) g.args) (typed_below n (words_of_parameters m.params) g.args args)) (wanted_more g.result (length g.vars) n a k.0.result) a in
      (below_more p.tree j i (omega (arith, l)) o, list_more (pieces_trees ps) (j + taken (pieces_notes ps)) i (omega (arith, l)) (pieces_below ms gs j b h.1 k.1))

  pieces_matches : (ms : List GroupMember) (gs : List SignatureTree) (n : ℕ) → NotesBelow n (pieces_notes (member_pieces w n ms gs))
  pieces_matches [] gs n = tt
  pieces_matches (m ∷ ms) [] n = tt
  pieces_matches (m ∷ ms) (g ∷ gs) n =
      let p = member_piece w n m g in
      followed n p.notes (pieces_notes (member_pieces w (unknown_after n p) ms gs)) (body_matches g.vars m.body (reverse (typed_locals (words_of_parameters m.params) g.args)) n g.result) (pieces_matches ms gs (unknown_after n p))

  pub bodies_bounded : (ms : List GroupMember) (gs : List SignatureTree) → AreResolved w ms gs → AllByRecursion IsScopedSignature gs → AreBounded (most_variables gs) (pieces_notes (bodies_pieces w ms gs)) (pieces_trees (bodies_pieces w ms gs))
  bodies_bounded ms gs h k = record { trees = pieces_below ms gs (most_variables gs) (omega arith) h k; matches = pieces_matches ms gs (most_variables gs) }
