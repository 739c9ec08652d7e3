-- Worked rows by computation: tasks.
use Rattle.std.proofs.Common.{◌≡◌, ℕ, List, [], ◌∷◌, None, Ok, Err, pos, refl}
use Rattle.tasks.specs.trees.Tree.{Tree, Leaf, Two, Three, HEnd, HNum, HPred, HEq, HTrue, HLet, HIf}
use Rattle.tasks.specs.trees.Binding.{Bound}
use Rattle.tasks.specs.trees.Sorts.{int_type}
use Rattle.tasks.specs.Task.{BodyTree, Defines, Says, DeclarationTree, TaskTree}
use Rattle.tasks.specs.Equations.{cells}
use Rattle.tr_if.specs.conditionals.Conditionals.{implications}
use Rattle.tr_if.specs.Eliminated.{if_equation}

abbrev number : ℕ → Tree
number n = Leaf (HNum (pos n))

abbrev predicate : ℕ → List Tree → Tree
predicate p args = Two (HPred p) (Leaf HEnd) (cells args)

abbrev conditional : Tree → Tree → Tree → Tree
conditional c a b = Three HIf c a b

abbrev q : Tree
q = predicate 5 []

-- `let x = 1 in x = 1`
abbrev let_formula : Tree
let_formula = Two HLet (number 1) (Two HEq (Bound 0 int_type) (number 1))

abbrev declares : BodyTree → DeclarationTree
declares b = record { theory = []; name = []; vars = 0; body = b }

abbrev task : List DeclarationTree → Tree → Tree → TaskTree
task decls local goal = record { symbols = []; ints = None; rigid = []; decls = decls; params = []; locals = local ∷ []; goal = goal }

-- propositions, locals and goal; a definition keeps its equation, `let` and all
all-row : if_equation (task (declares (Defines (record { symbol = 10; equation = let_formula } ∷ [])) ∷ declares (Says (conditional q (predicate 6 []) (predicate 7 []))) ∷ []) (conditional q (predicate 6 []) (predicate 7 [])) (predicate 9 (conditional q (number 1) (number 2) ∷ [])))
    ≡ Ok (task (declares (Defines (record { symbol = 10; equation = let_formula } ∷ [])) ∷ declares (Says (implications q (predicate 6 []) (predicate 7 []))) ∷ []) (implications q (predicate 6 []) (predicate 7 [])) (implications q (predicate 9 (number 1 ∷ [])) (predicate 9 (number 2 ∷ []))) ∷ [])
all-row = refl

-- the first proposition with a `let`, else the number of declarations for a local or the goal
proposition-row : if_equation (task (declares (Says (Leaf HTrue)) ∷ declares (Says let_formula) ∷ declares (Says let_formula) ∷ []) let_formula let_formula) ≡ Err 1
proposition-row = refl

local-row : if_equation (task (declares (Says (Leaf HTrue)) ∷ declares (Says (Leaf HTrue)) ∷ []) let_formula (Leaf HTrue)) ≡ Err 2
local-row = refl

goal-row : if_equation (task [] (Leaf HTrue) let_formula) ≡ Err 0
goal-row = refl
