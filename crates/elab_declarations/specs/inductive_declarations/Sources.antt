-- Inductive predicates in code, and what is made of them.
use Rattle.std.specs.Prelude.{◌≡◌, ℕ, List, [], map, All}
use Rattle.tasks.specs.trees.Tree.{Tree}
use Rattle.tasks.specs.Meaning.{declarations_at, DeclHeld}
use Rattle.surface.specs.SurfaceDeclarations.{clause_of, inductive_of}
use Rattle.surface.specs.declared.declarations.ClauseTree.{ClauseTree}
use Rattle.surface.specs.declared.declarations.IndTree.{IndTree}
use Rattle.surface.specs.Lexeme.{Word}
use Rattle.name_resolution.specs.Where.{Where}
use Rattle.open_types.specs.Drafts.{MatchHeld, match_at}
use Rattle.elab_groups.specs.declared.parts.made.Elaborated.{Elaborated}
use Rattle.elab_groups.specs.parts.Declarations.{InductiveClause, InductivePredicate, clause, inductive_predicate}
use Rattle.elab_groups.specs.Groups.{BodiesSolved}
use Rattle.elab_declarations.specs.inductive_declarations.Inductives.{formula_members, clause_signatures, inductive_decls}

abbrev pub predicate_at : IndTree → InductivePredicate
predicate_at d = inductive_predicate (inductive_of d)

abbrev pub predicates_at : List IndTree → List InductivePredicate
predicates_at ds = map inductive_predicate (map inductive_of ds)

abbrev pub clauses_at : List ClauseTree → List InductiveClause
clauses_at cs = map clause (map clause_of cs)

-- a group whose names are there and whose entries stand from a number on
pub record AreInductivesMade (w : Where) (theory within : Word) (ds : List InductivePredicate)
    (k : ℕ) (s' : List Tree) (made : Elaborated) : Type 0 where
  pub clauses : List Tree
  pub solved : BodiesSolved w (formula_members ds) (clause_signatures ds) clauses
      (map (match_at s') made.matches)
  pub decls : declarations_at s' made.decls ≡ inductive_decls theory within ds k clauses
  pub rigid : made.rigid ≡ []
  pub decls_held : All (DeclHeld s') made.decls
  pub matches_held : All (MatchHeld s') made.matches
