-- Facts of the spelled-out task, by the facts of the old one from which they follow: as the same
-- fact, or by a branch of a definition.
use Rattle.std.specs.Prelude.{◌≡◌, ◌⊎◌, ℕ, List, Some}
use Rattle.tasks.specs.trees.Tree.{Tree}
use Rattle.tasks.specs.declared.facts.Fact.{Fact}
use Rattle.tasks.specs.declared.facts.Fact.TheVariants as fact
use Rattle.tasks.specs.Task.{TaskTree, DefinitionTree}
use Rattle.tasks.specs.Vocabulary.{of_task}
use Rattle.tasks.specs.Valid.{IsDefinition}
use Rattle.evidence.specs.Facts.{IsFact, at_symbol, fact_named}
use Rattle.tr_recursion.specs.branch_steps.Instances.{IsBranchAt}

-- a branch's equation at ground types, of a definition that has this name
pub record IsBranchFact (t : TaskTree) (name : Fact) (types : List Tree)
    (formula : Tree) : Type 0 where
  pub member : DefinitionTree
  pub name_is : name ≡ fact.Equation member.symbol
  pub defined : IsDefinition (of_task t) member
  pub named : fact_named t (fact.Equation member.symbol)
      ≡ Some (at_symbol t member.symbol member.equation)
  pub branch : IsBranchAt t member types formula

abbrev pub FollowsFrom : TaskTree → Fact → List Tree → Tree → Type 0
FollowsFrom t name types formula = IsFact t t name types formula ⊎ IsBranchFact t name types formula

abbrev pub FollowsFromEquation : TaskTree → ℕ → List Tree → Tree → Type 0
FollowsFromEquation t k types formula = FollowsFrom t (fact.Equation k) types formula
