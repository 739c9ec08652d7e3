-- The facts of a task by the names by which steps cite them: its propositions, the equations of its
-- definitions, and the clauses and inversion formulas of its inductive predicates.
use Rattle.std.specs.Prelude.{◌≡◌, ℕ, List, length, slice_get, All, Contains, Option, Some, IfSome, IsSomeAnd}
use Rattle.std.specs.Option.{option_map, option_and_then}
use Rattle.trees.specs.Tree.{Tree}
use Rattle.trees.specs.Binding.{inst_types}
use Rattle.tasks.specs.declared.facts.Fact.{Fact}
use Rattle.tasks.specs.declared.facts.Fact.TheVariants as fact
use Rattle.tasks.specs.Task.{TaskTree, PropositionTree, props, symbol_or}
use Rattle.tasks.specs.Roles.{role}
use Rattle.tasks.specs.Facts.{FactTree, facts}
use Rattle.tasks.specs.Inversion.{inversion}
use Rattle.tasks.specs.Valid.{IsTypeOver}
use Rattle.rules.specs.Trees.{RuleTree, RFact, RDef, RClause, RInv}
use Rattle.rules.specs.Rows.{equation, clauses}

-- a formula with as many type variables as a symbol has
abbrev pub at_symbol : TaskTree → ℕ → Tree → PropositionTree
at_symbol t k e = record { vars = (symbol_or t.symbols k).vars; formula = e }

-- the fact of a name, with the number of its type variables
abbrev pub fact_named : TaskTree → Fact → Option PropositionTree
fact_named t (fact.Proposition k) = slice_get (props t) k
fact_named t (fact.Equation k) = option_map (at_symbol t k) (equation (role t k))
fact_named t (fact.Clause k c) =
    option_map (at_symbol t k) (option_and_then (λ cs. slice_get cs c) (clauses (role t k)))
fact_named t (fact.Inversion k) =
    option_map (λ cs. at_symbol t k (inversion k (symbol_or t.symbols k) cs)) (clauses (role t k))

-- a fact of the task's list is that of its name
abbrev pub IsFoundByName : TaskTree → FactTree → Type 0
IsFoundByName t f = fact_named t f.name ≡ Some (record { vars = f.vars; formula = f.formula })

-- and the fact of a name is in the list
abbrev pub fact_of : Fact → PropositionTree → FactTree
fact_of name p = record { name = name; vars = p.vars; formula = p.formula }

abbrev pub IsListed : TaskTree → Fact → Type 0
IsListed t name = IfSome (fact_named t name) (λ p. Contains (facts t) (fact_of name p))

-- the rule that cites it
abbrev pub citing : Fact → List Tree → RuleTree
citing (fact.Proposition k) types = RFact k types
citing (fact.Equation k) types = RDef k types
citing (fact.Clause k c) types = RClause k c types
citing (fact.Inversion k) types = RInv k types

-- the formula is a fact of one task at ground types of the other, as many as the fact has type
-- variables
pub record IsFact (from t : TaskTree) (name : Fact) (types : List Tree)
    (formula : Tree) : Type 0 where
  pub said : IsSomeAnd (fact_named t name)
      (λ p. (length types ≡ p.vars) × (formula ≡ inst_types p.formula types))
  pub ground : All (IsTypeOver from 0) types

-- a rule that cites no fact
abbrev pub CitesNone : RuleTree → Type 0
CitesNone (RFact k types) = ⊥
CitesNone (RDef k types) = ⊥
CitesNone (RClause k c types) = ⊥
CitesNone (RInv k types) = ⊥
CitesNone _ = Unit {0}
