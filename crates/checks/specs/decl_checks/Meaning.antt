-- What clauses and definitions are in code.
use Rattle.std.specs.Prelude.{ℕ, Bool, true, false, List, map, All}
use Rattle.trees.specs.declared.TermId.{TermId}
use Rattle.trees.specs.Tree.{Tree}
use Rattle.trees.specs.Node.{tree_at, Holds}
use Rattle.tasks.specs.declared.declaration.Def.{Def}
use Rattle.tasks.specs.Task.{SymbolTree}
use Rattle.checks.specs.decl_checks.Checks.{OwnClause, ClauseHasForm, ClauseIsPositive}

-- a clause with its predicate
abbrev pub clause_at : List Tree → ℕ × TermId → OwnClause
clause_at s q = record { predicate = q.0; formula = tree_at s q.1 }

abbrev pub own_clauses_at : List Tree → List (ℕ × TermId) → List OwnClause
own_clauses_at s qs = map (clause_at s) qs

abbrev pub ClausesHeld : List Tree → List (ℕ × TermId) → Type 0
ClausesHeld s qs = All (λ (q : ℕ × TermId). Holds s q.1) qs

-- the first check of a clause, or the second
abbrev pub PassesAs : List SymbolTree → List ℕ → Bool → OwnClause → Type 0
PassesAs symbols group false c = ClauseHasForm symbols group c
PassesAs symbols group true c = ClauseIsPositive group c

abbrev pub DefinitionHeld : List Tree → Def → Type 0
DefinitionHeld s d = Holds s d.equation
