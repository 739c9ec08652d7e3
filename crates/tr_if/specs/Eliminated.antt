-- Tasks without conditionals: propositions, locals and goal, where none of these has a `let` or
-- `match` (Why3 manual, "eliminate_if").
use Rattle.std.specs.Prelude.{ℕ, ◌+◌, Bool, false, ◌||◌, nat_lt, if◌then◌else◌, List, [], ◌∷◌, length, Option, Some, None, Err}
use Rattle.std.specs.List.{list_any}
use Rattle.tasks.specs.trees.Tree.{Tree}
use Rattle.tasks.specs.Task.{BodyTree, Says, DeclarationTree, TaskTree}
use Rattle.evidence.specs.Stages.{TaskEquation}
use Rattle.walking.specs.declared.rewriting.formulas.FormulaScope.TheVariants as scope
use Rattle.walking.specs.rewriting.Rewritten.{formulas_equation}
use Rattle.tr_if.specs.conditionals.Conditionals.{without_ifs, has_let_or_match}

-- ---- what isn't taken
-- a proposition with one; definitions and clauses may have them
abbrev pub says_let_or_match : BodyTree → Bool
says_let_or_match (Says a) = has_let_or_match a
says_let_or_match _ = false

-- how many declarations come before the first such proposition
abbrev pub before_refused : List DeclarationTree → ℕ
before_refused [] = 0
before_refused (d ∷ ds) = if says_let_or_match d.body then 0 else before_refused ds + 1

-- the place of the first such proposition, or the number of declarations where a local or the goal
-- has one
abbrev pub refused_place : TaskTree → Option ℕ
refused_place t = if nat_lt (before_refused t.decls) (length t.decls)
    || (list_any has_let_or_match t.locals || has_let_or_match t.goal) then Some
    (before_refused t.decls) else None

-- ---- what is made
-- what a formula of a task becomes
abbrev pub eliminated_formula : TaskTree → Tree → Tree
eliminated_formula t e = without_ifs e

abbrev pub taken_or_refused : Option ℕ → TaskEquation
taken_or_refused (Some decl) t = Err decl
taken_or_refused None t = formulas_equation scope.Everywhere eliminated_formula t

-- one task, however large it is, where no proposition, local or goal has a `let` or `match`
abbrev pub if_equation : TaskEquation
if_equation t = taken_or_refused (refused_place t) t
