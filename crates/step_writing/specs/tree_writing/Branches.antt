-- Lines of matches: a term, and a pattern and a body for each branch.
use Rattle.std.specs.Prelude.{◌≡◌, ℕ, List, [], ◌∷◌, ◌++◌, Option, Some}
use Rattle.tasks.specs.trees.Tree.{Tree, Two, Head, HCell, HArm}
use Rattle.step_lines.specs.tree_lines.Words.{LineWord, pairs, at_number}
use Rattle.step_lines.specs.tree_lines.Lines.{Earlier}
use Rattle.step_writing.specs.tree_writing.Referring.{AreLines, HasLine}

-- the pattern and the body of each branch of a list
abbrev pub branch_list : Tree → List (Tree × Tree)
branch_list (Two HCell (Two HArm p b) rest) = (p, b) ∷ branch_list rest
branch_list _ = []

-- the words of a list's branches come at the end
pub record PushesBranches (s : List Tree) (lines : List (Option ℕ)) (list : Tree)
    (old new : List LineWord) : Type 0 where
  pub more : List LineWord
  pub is : new ≡ old ++ more
  pub refer : (r : Earlier) → AreLines s lines r
      → pairs (at_number r.patterns) (at_number r.expressions) more ≡ Some (branch_list list)

-- the patterns and bodies of a list's branches have lines
abbrev pub BranchLines : List Tree → List (Option ℕ) → Tree → Type 0
BranchLines s lines (Two HCell (Two HArm p b) rest) =
    HasLine s lines p × HasLine s lines b × BranchLines s lines rest
BranchLines s lines _ = Unit {0}

abbrev pub two_arm : Head → Type 0
two_arm HArm = Unit {0}
two_arm _ = ⊥

-- a branch
abbrev pub IsArm : Tree → Type 0
IsArm (Two h a b) = two_arm h
IsArm _ = ⊥

-- a list whose members up to its end are branches
abbrev pub IsBranchList : Tree → Type 0
IsBranchList (Two HCell a b) = IsArm a × IsBranchList b
IsBranchList _ = Unit {0}
