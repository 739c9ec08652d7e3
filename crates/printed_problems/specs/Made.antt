-- What the calls promise that put a problem together.
use Rattle.std.specs.Prelude.{◌≡◌, ℕ, Bool, true, false, if◌then◌else◌, List, [], ◌∷◌, ◌++◌, map, All, Option}
use Rattle.std.specs.List.{list_any}
use Rattle.trees.specs.declared.TermId.{TermId}
use Rattle.trees.specs.Tree.{Tree}
use Rattle.trees.specs.Node.{tree_at, Holds}
use Rattle.tasks.specs.Task.{BodyTree, DeclarationTree, Says, props_of}
use Rattle.tasks.specs.Meaning.{trees_at, declarations_at, task_at}
use Rattle.tasks.specs.declared.declaration.Decl.{Decl}
use Rattle.tasks.specs.declared.task.Task.{Task}
use Rattle.drivers.specs.declared.driver_parts.driver.Driver.{Driver}
use Rattle.printed_problems.specs.declared.printed.Problem.{Problem}
use Rattle.printed_problems.specs.Problems.{is_of_theory, general, of_theories, texts_where, formula_of, preludes, ProblemTree}

-- whatever the store
abbrev pub HasTheory : List Decl → List ℕ → Bool → Type 0
HasTheory ds path told =
    (s : List Tree) → told ≡ list_any (is_of_theory path) (declarations_at s ds)

abbrev pub text_if : List ℕ → Bool → List (List ℕ)
text_if text told = if told then text ∷ [] else []

-- which preludes are asked for
abbrev pub is_told : Bool → List DeclarationTree → Option (List ℕ) → Bool
is_told true ds = of_theories ds
is_told false ds = general

abbrev pub IsPreludeTold : List Decl → Bool → Option (List ℕ) → Bool → Type 0
IsPreludeTold ds special path told =
    (s : List Tree) → told ≡ is_told special (declarations_at s ds) path

abbrev pub PushesTold : List Decl → Bool → List (Option (List ℕ) × List ℕ) → List (List ℕ)
    → List (List ℕ) → Type 0
PushesTold ds special from old new =
    (s : List Tree) → new ≡ old ++ texts_where (is_told special (declarations_at s ds)) from

abbrev pub ArePreludes : Driver → Task → List (List ℕ) → Type 0
ArePreludes d t made = (s : List Tree) → made ≡ preludes d (task_at s t)

abbrev pub said_formulas : BodyTree → List Tree
said_formulas (Says e) = e ∷ []
said_formulas _ = []

pub record AreNumberedFacts (s : List Tree) (ds : List Decl) (ids : List TermId) : Type 0 where
  pub held : All (Holds s) ids
  pub are : trees_at s ids ≡ map formula_of (props_of (declarations_at s ds))

-- what a problem in a store stands for
abbrev pub problem_at : List Tree → Problem → ProblemTree
problem_at s p = record {
  names = p.names;
  preludes = p.preludes;
  sorts = p.sorts;
  symbols = p.symbols;
  facts = trees_at s p.facts;
  locals = trees_at s p.locals;
  goal = tree_at s p.goal;
}

pub record ProblemHeld (s : List Tree) (p : Problem) : Type 0 where
  pub facts : All (Holds s) p.facts
  pub locals : All (Holds s) p.locals
  pub goal : Holds s p.goal

pub record IsProblem (s : List Tree) (due : ProblemTree) (p : Problem) : Type 0 where
  pub held : ProblemHeld s p
  pub is : problem_at s p ≡ due
