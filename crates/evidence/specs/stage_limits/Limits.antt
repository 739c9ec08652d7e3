-- How large the tasks of a stage may be: each has at most 2^20 tree nodes and no tree that is
-- higher than 2,000, and all together have at most 2^23 nodes.
use Rattle.std.specs.Prelude.{ℕ, max, Bool, ◌&&◌, nat_le, if◌then◌else◌, List, [], ◌∷◌, sum_by, Result, Ok, Err}
use Rattle.std.specs.List.{list_all}
use Rattle.trees.specs.Tree.{Tree, height}
use Rattle.tasks.specs.Task.{TaskTree, DefinitionTree, InductiveTree, BodyTree, Defines, Induces, Says, DeclarationTree, nodes}

-- why a stage gives no tasks: a declaration that it doesn't take, or a task that would be too large
pub data Refusal : Type 0 where
  Misplaced : (decl : ℕ) → Refusal
  TooLarge : Refusal

-- the greatest of these numbers of a list's members, or 0
abbrev pub greatest_by : {A : Type 0} → (A → ℕ) → List A → ℕ
greatest_by f [] = 0
greatest_by f (x ∷ xs) = max (f x) (greatest_by f xs)

abbrev pub formula_height : List Tree → ℕ
formula_height es = greatest_by height es

abbrev pub equation_height : List DefinitionTree → ℕ
equation_height ds = greatest_by (λ (d : DefinitionTree). height d.equation) ds

abbrev pub clause_height : List InductiveTree → ℕ
clause_height is = greatest_by (λ (i : InductiveTree). formula_height i.clauses) is

abbrev pub body_height : BodyTree → ℕ
body_height (Defines ds) = equation_height ds
body_height (Induces is) = clause_height is
body_height (Says a) = height a
body_height _ = 0

abbrev pub declaration_height : List DeclarationTree → ℕ
declaration_height ds = greatest_by (λ (d : DeclarationTree). body_height d.body) ds

-- the greatest height of a task's propositions, equations of definitions, clauses, locals and goal
abbrev pub task_height : TaskTree → ℕ
task_height t = max (declaration_height t.decls) (max (formula_height t.locals) (height t.goal))

abbrev pub is_small : TaskTree → Bool
is_small t = nat_le (nodes t) 1048576 && nat_le (task_height t) 2000

abbrev pub are_small : List TaskTree → Bool
are_small ts = list_all is_small ts && nat_le (sum_by nodes ts) 8388608

-- these tasks, or the refusal of tasks that are too large
abbrev pub limited : List TaskTree → Result (List TaskTree) Refusal
limited ts = if are_small ts then Ok ts else Err TooLarge
