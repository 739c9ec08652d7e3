-- From which fact of a task what is spelled out of its recursive definitions follows.
use Rattle.std.specs.Prelude.{◌≡◌, ◌⊎◌, ℕ, List, slice_get, Some}
use Rattle.tasks.specs.declared.facts.Fact.{Fact}
use Rattle.tasks.specs.Task.{DefinitionTree, TaskTree, PropositionTree}
use Rattle.tasks.specs.Facts.{FactTree, equation_fact}
use Rattle.tasks.specs.Vocabulary.{Vocabulary, of_task}
use Rattle.tasks.specs.Valid.{IsDefinition}
use Rattle.evidence.specs.Facts.{fact_named}
use Rattle.declarations.specs.Said.{content}
use Rattle.checks.specs.decl_checks.Structure.{defining_body}
use Rattle.tr_inline.specs.inlining.branch_equations.Branches.{ConstructorBranch, matched_parameter, quantifiers, branch_fact}

-- what a branch of a definition says, and the definition's equation
pub record IsBranchOf (v : Vocabulary) (x y : FactTree) : Type 0 where
  pub member : DefinitionTree
  pub equation : y ≡ equation_fact v.symbols member
  pub defined : IsDefinition v member
  pub index : ℕ
  pub branches : List ConstructorBranch
  pub matched : matched_parameter (quantifiers member.equation) (defining_body member.equation)
      ≡ Some (index, branches)
  pub place : ℕ
  pub branch : ConstructorBranch
  pub there : slice_get branches place ≡ Some branch
  pub is : x ≡ branch_fact v.symbols member index branch

-- it is a fact, or what one of the branches says whose definition's equation the fact is
abbrev pub IsFrom : Vocabulary → FactTree → FactTree → Type 0
IsFrom v x y = (x ≡ y) ⊎ IsBranchOf v x y

-- the fact of a name of the old task, and what the new task says that follows from it
pub record IsOldFact (t : TaskTree) (old : Fact) (p : PropositionTree) : Type 0 where
  pub said : FactTree
  pub fact : FactTree
  pub named : fact_named t old ≡ Some (record { vars = fact.vars; formula = fact.formula })
  pub name : fact.name ≡ old
  pub from : IsFrom (of_task t) said fact
  pub content_is : content said ≡ p
