-- Conditionals by their numbers in a store, and formulas that grow too large.
use Rattle.std.specs.Prelude.{◌≡◌, ℕ, ◌<◌, List, Option, Some, None, IfSome}
use Rattle.trees.specs.declared.TermId.{TermId}
use Rattle.trees.specs.declared.Sort.TheVariants.{Formula}
use Rattle.trees.specs.Tree.{Tree, Three, HIf}
use Rattle.trees.specs.Node.{tree_at, Holds}
use Rattle.trees.specs.Sorts.{Fits, sort_of, IsExpression}
use Rattle.tasks.specs.Vocabulary.{Vocabulary}
use Rattle.evidence.specs.images.typing_laws.HasTyping.{HasTyping, over_parts}
use Rattle.tr_if.specs.conditionals.Conditionals.{first_if, replace_first, cases_over, if_rule, without_ifs}
use Rattle.tr_if.specs.declared.conditionals.growth.GrowthFault.{GrowthFault}
use Rattle.tr_if.specs.declared.conditionals.growth.GrowthFault.TheVariants as fault
use Rattle.tr_if.specs.declared.conditionals.firsts.IfParts.{IfParts}

-- a number for an optional tree
abbrev pub IsNumberOf : List Tree → Option TermId → Option Tree → Type 0
IsNumberOf s (Some id) o = Holds s id × (o ≡ Some (tree_at s id))
IsNumberOf s None o = o ≡ None

-- numbers of the parts of a conditional
pub record AreIfParts (s : List Tree) (w : Tree) (k : IfParts) : Type 0 where
  pub condition : Holds s k.condition
  pub then_part : Holds s k.then_part
  pub else_part : Holds s k.else_part
  pub is : w ≡ Three HIf (tree_at s k.condition) (tree_at s k.then_part) (tree_at s k.else_part)
  pub fits : Fits (Three HIf (tree_at s k.condition) (tree_at s k.then_part)
      (tree_at s k.else_part))

-- an expression of the sort of the first conditional, if there is one
pub record CanPlace (s : List Tree) (e x : TermId) : Type 0 where
  pub held : Holds s e
  pub other_held : Holds s x
  pub expression : IsExpression (sort_of (tree_at s x))
  pub sort : IfSome (first_if (tree_at s e)) (λ w. sort_of w ≡ sort_of (tree_at s x))

pub record IsMadeInPlace (e x : Tree) (s : List Tree) (made : TermId) : Type 0 where
  pub held : Holds s made
  pub is : tree_at s made ≡ replace_first e x

-- the number of a formula
pub record IsFormulaNumber (s : List Tree) (e : TermId) : Type 0 where
  pub held : Holds s e
  pub sort : sort_of (tree_at s e) ≡ Formula

-- what is made of an atom, by cases
pub record IsByCases (e : Tree) (s : List Tree) (made : TermId) : Type 0 where
  pub formula : IsFormulaNumber s made
  pub is : tree_at s made ≡ cases_over e (λ u. u)

-- what the rule makes of a node
pub record IsRuled (e : Tree) (s : List Tree) (made : TermId) : Type 0 where
  pub held : Holds s made
  pub is : tree_at s made ≡ if_rule e

-- a tree that is typed somewhere
pub record CanEliminate (s : List Tree) (e : TermId) : Type 0 where
  pub held : Holds s e
  pub vocabulary : Vocabulary
  pub types : List Tree
  pub typed : HasTyping vocabulary types (tree_at s e)

pub record IsEliminated (e : Tree) (s : List Tree) (made : TermId) : Type 0 where
  pub held : Holds s made
  pub is : tree_at s made ≡ without_ifs e

-- the node over its parts without their conditionals
pub record IsOver (e : Tree) (s : List Tree) (made : TermId) : Type 0 where
  pub held : Holds s made
  pub is : tree_at s made ≡ over_parts if_rule e

-- want of memory, or more nodes than a stage allows
abbrev pub IsGrowthFault : ℕ → GrowthFault → Type 0
IsGrowthFault n fault.Memory = Unit {0}
IsGrowthFault n fault.TooLarge = 1048576 < n
