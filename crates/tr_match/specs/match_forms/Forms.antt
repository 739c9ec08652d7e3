-- The `if` form of a `match`: its branches' bodies at the terms for their patterns' variables,
-- under the patterns' tests; the last branch has no test (Why3 manual, "eliminate_match").
use Rattle.trees.specs.Tree.{Tree, Leaf, Two, Three, HEnd, HCell, HArm, HCase, HIf}
use Rattle.trees.specs.Binding.{inst_many}
use Rattle.tasks.specs.Task.{TaskTree}
use Rattle.tasks.specs.MatchTests.{test, bind}
use Rattle.images.specs.Images.{image}

-- a branch by its test, its body, the list of the branches after it, and their form
abbrev pub branch_form : (test body others rest : Tree) → Tree
branch_form c x (Leaf HEnd) f = x
branch_form c x others f = Three HIf c x f

-- the form of a list of branches, asked of a term
abbrev pub if_form : TaskTree → Tree → Tree → Tree
if_form t s (Two HCell (Two HArm p a) others) =
    branch_form (test t p s) (inst_many a (bind t p s)) others (if_form t s others)
if_form t s _ = Leaf HEnd

-- what a `match` becomes once the trees in it have none
abbrev pub match_rule : TaskTree → Tree → Tree
match_rule t (Two HCase s branches) = if_form t s branches
match_rule t e = e

-- a tree without its `match`es
abbrev pub without_matches : TaskTree → Tree → Tree
without_matches t e = image (match_rule t) e
