-- A step whose trees are typed as far as they go. A line of a step file makes such a tree from
-- earlier ones, and where no variable is open it is well typed.
use Rattle.std.specs.Prelude.{◌≡◌, List, All}
use Rattle.trees.specs.declared.TermId.{TermId}
use Rattle.trees.specs.Tree.{Tree, loose}
use Rattle.trees.specs.Node.{tree_at}
use Rattle.trees.specs.Facts.{Each}
use Rattle.tasks.specs.Task.{TaskTree}
use Rattle.tasks.specs.Vocabulary.{of_task}
use Rattle.tasks.specs.Valid.{IsGround}
use Rattle.tasks.specs.Typing.{IsTyped}
use Rattle.tasks.specs.Open.{OpenTyped}
use Rattle.rules.specs.declared.rule.Step.{Step}
use Rattle.rules.specs.Trees.{RuleTree, RReplace, rule_trees}
use Rattle.rules.specs.Meaning.{rule_at, types_in}

-- a tree is typed as far as it goes; the tree of a number is
abbrev pub OpenIn : TaskTree → Tree → Type 0
OpenIn t e = OpenTyped (of_task t) e

abbrev pub IsOpen : TaskTree → List Tree → TermId → Type 0
IsOpen t s a = OpenIn t (tree_at s a)

-- so is the template of a replacement
abbrev pub TemplateIsOpen : TaskTree → RuleTree → Type 0
TemplateIsOpen t (RReplace i j e) = OpenIn t e
TemplateIsOpen t _ = Unit {0}

-- so are all trees of a step
pub record StepIsOpen (t : TaskTree) (s : List Tree) (step : Step) : Type 0 where
  pub sequent : All (IsOpen t s) step.sequent
  pub trees : Each (OpenIn t) (rule_trees (rule_at s step.rule))
  pub template : TemplateIsOpen t (rule_at s step.rule)
  pub types : All (IsOpen t s) (types_in step.rule)

-- well typed, and free of schematic types
abbrev pub IsComplete : TaskTree → Tree → Type 0
IsComplete t e = IsTyped t e × IsGround e

-- each is closed
abbrev pub EachClosed : List Tree → Type 0
EachClosed es = Each (λ e. loose e ≡ 0) es
