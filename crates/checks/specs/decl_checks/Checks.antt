-- What is wrong with a declaration: the clauses of inductive predicates, then recursive
-- definitions, then algebraic types.
use Rattle.std.specs.Prelude.{◌≡◌, ℕ, zero, suc, ◌<◌, ◌≤◌, List, [], ◌∷◌, ◌++◌, map, All, Result, Ok, Err}
use Rattle.trees.specs.Tree.{Tree}
use Rattle.tasks.specs.Task.{SymbolTree, symbol_or, DefinitionTree, InductiveTree, AlgebraicTree, BodyTree, Defines, Induces, Constructs}
use Rattle.tasks.specs.Equations.{cells, type_variables}
use Rattle.checks.specs.decl_checks.Clauses.{HasClauseForm, IsPositiveClause}
use Rattle.checks.specs.decl_checks.Structure.{IsStructural, IsRecursive, choices}
use Rattle.checks.specs.decl_checks.Values.{AreInhabited}
use Rattle.checks.specs.declared.decl_checks.fault.CheckFault.{CheckFault}
use Rattle.checks.specs.declared.decl_checks.fault.CheckFault.TheVariants.{Memory, BadClause, NotPositive, NotStructural, GroupTooWide, Uninhabited}

abbrev pub group_of : List InductiveTree → List ℕ
group_of is = map (λ (i : InductiveTree). i.symbol) is

-- a clause with its predicate
pub record OwnClause : Type 0 where
  pub predicate : ℕ
  pub formula : Tree

abbrev pub own_clauses : ℕ → List Tree → List OwnClause
own_clauses k [] = []
own_clauses k (c ∷ cs) = record { predicate = k; formula = c } ∷ own_clauses k cs

-- the clauses of a group, counted through
abbrev pub all_clauses : List InductiveTree → List OwnClause
all_clauses [] = []
all_clauses (i ∷ is) = own_clauses i.symbol i.clauses ++ all_clauses is

abbrev pub ClauseHasForm : List SymbolTree → List ℕ → OwnClause → Type 0
ClauseHasForm symbols group c =
    HasClauseForm group c.predicate (symbol_or symbols c.predicate).vars
    (cells (type_variables 0 (symbol_or symbols c.predicate).vars)) c.formula

abbrev pub ClauseIsPositive : List ℕ → OwnClause → Type 0
ClauseIsPositive group c = IsPositiveClause group c.formula

-- the number is the place of the first member of a list for which a fact fails
abbrev pub IsFirstWithout : {X : Type 0} → (X → Type 0) → List X → ℕ → Type 0
IsFirstWithout P [] n = ⊥
IsFirstWithout P (x ∷ xs) zero = P x → ⊥
IsFirstWithout P (x ∷ xs) (suc n) = P x × IsFirstWithout P xs n

-- the clauses have their form, and the group stands positively in them
pub record AreRightClauses (symbols : List SymbolTree) (group : List ℕ)
    (clauses : List OwnClause) : Type 0 where
  pub form : All (ClauseHasForm symbols group) clauses
  pub positive : All (ClauseIsPositive group) clauses

abbrev pub ClausesHaveFault : List SymbolTree → List ℕ → List OwnClause → CheckFault → Type 0
ClausesHaveFault symbols group clauses (BadClause n) =
    IsFirstWithout (ClauseHasForm symbols group) clauses n
ClausesHaveFault symbols group clauses (NotPositive n) =
    All (ClauseHasForm symbols group) clauses × IsFirstWithout (ClauseIsPositive group) clauses n
ClausesHaveFault symbols group clauses _ = ⊥

-- a recursive group has at most 4,096 choices of places, and one at which each body passes
pub record AreRightDefinitions (symbols : List SymbolTree) (ds : List DefinitionTree) : Type 0 where
  pub narrow : IsRecursive ds → choices symbols ds ≤ 4096
  pub structural : IsRecursive ds → IsStructural symbols ds

abbrev pub DefinitionsHaveFault : List SymbolTree → List DefinitionTree → CheckFault → Type 0
DefinitionsHaveFault symbols ds GroupTooWide = IsRecursive ds × (4096 < choices symbols ds)
DefinitionsHaveFault symbols ds NotStructural =
    IsRecursive ds × (choices symbols ds ≤ 4096) × (IsStructural symbols ds → ⊥)
DefinitionsHaveFault symbols ds _ = ⊥

abbrev pub TypesHaveFault : List AlgebraicTree → CheckFault → Type 0
TypesHaveFault ts Uninhabited = AreInhabited ts → ⊥
TypesHaveFault ts _ = ⊥

-- nothing is wrong with a declaration
abbrev pub HasNoFault : List SymbolTree → BodyTree → Type 0
HasNoFault symbols (Induces is) = AreRightClauses symbols (group_of is) (all_clauses is)
HasNoFault symbols (Defines ds) = AreRightDefinitions symbols ds
HasNoFault symbols (Constructs ts) = AreInhabited ts
HasNoFault symbols _ = Unit {0}

-- it is the first thing that is wrong with a declaration
abbrev pub HasFault : List SymbolTree → BodyTree → CheckFault → Type 0
HasFault symbols (Induces is) f = ClausesHaveFault symbols (group_of is) (all_clauses is) f
HasFault symbols (Defines ds) f = DefinitionsHaveFault symbols ds f
HasFault symbols (Constructs ts) f = TypesHaveFault ts f
HasFault symbols _ f = ⊥

-- what the check of a declaration takes memory for: lists of a group's members, and places chosen
-- for them
abbrev pub TakesMemory : List SymbolTree → BodyTree → Type 0
TakesMemory symbols (Induces is) = Unit {0}
TakesMemory symbols (Defines ds) = IsRecursive ds × (choices symbols ds ≤ 4096)
TakesMemory symbols (Constructs ts) = Unit {0}
TakesMemory symbols _ = ⊥

-- An answer: nothing where all is right, a fault where it is the first one, and want of memory only
-- where memory is taken.
abbrev pub IsAnswer : Type 0 → (CheckFault → Type 0) → Type 0 → Result Unit CheckFault → Type 0
IsAnswer right refused memory (Ok u) = right
IsAnswer right refused memory (Err Memory) = memory
IsAnswer right refused memory (Err f) = refused f

abbrev pub ClausesAnswer : List SymbolTree → List ℕ → List OwnClause
    → Result Unit CheckFault → Type 0
ClausesAnswer symbols group clauses r =
    IsAnswer (AreRightClauses symbols group clauses) (ClausesHaveFault symbols group clauses)
    (Unit {0}) r

abbrev pub IsAnswerTo : List SymbolTree → BodyTree → Result Unit CheckFault → Type 0
IsAnswerTo symbols body r =
    IsAnswer (HasNoFault symbols body) (HasFault symbols body) (TakesMemory symbols body) r

-- memory wasn't wanting
abbrev pub HasMemory : Result Unit CheckFault → Type 0
HasMemory r = r ≡ Err Memory → ⊥
