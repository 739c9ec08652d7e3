-- What a transformation and a lifted stage promise, in trees.
use Rattle.std.specs.Prelude.{◌≡◌, ◌↔◌, ℕ, ◌<◌, List, [], ◌∷◌, ◌++◌, length, map, get_or, None, All, Contains, Result, Ok, Err}
use Rattle.trees.specs.Tree.{Tree, Leaf, HEnd}
use Rattle.tasks.specs.declared.task.Task.{Task}
use Rattle.tasks.specs.declared.facts.Fact.{Fact}
use Rattle.tasks.specs.Task.{TaskTree, made, start}
use Rattle.tasks.specs.Roles.{RoleTree, InductiveRole, AlgebraicRole, ConstructorRole, ProjectionRole, role}
use Rattle.tasks.specs.Valid.{IsValid}
use Rattle.tasks.specs.Meaning.{task_at, TaskHeld}
use Rattle.rules.specs.declared.rule.Step.{Step}
use Rattle.rules.specs.Trees.{StepTree, step_or}
use Rattle.kernel.specs.Right.{Closes}
use Rattle.rules.specs.Meaning.{steps_at, StepsHeld}
use Rattle.evidence.specs.Drafts.{DraftTree, Refutes}
use Rattle.evidence.specs.Facts.{IsFact}
pub use Rattle.evidence.specs.stage_limits.Limits.{Refusal, Misplaced, TooLarge}
use Rattle.evidence.specs.stage_limits.Limits.{limited}
pub use Rattle.evidence.specs.stage_limits.Laws.{limited_gives, limited_small}
use Rattle.evidence.specs.declared.stage.StageFault.{StageFault}
use Rattle.evidence.specs.declared.stage.StageFault.TheVariants as fault

-- what a task becomes, however large that is, or the place of a declaration for which it becomes
-- nothing
abbrev pub TaskEquation : Type 0
TaskEquation = TaskTree → Result (List TaskTree) ℕ

-- what a task becomes by a stage, or why it becomes nothing
abbrev pub StageEquation : Type 0
StageEquation = TaskTree → Result (List TaskTree) Refusal

-- what an equation says, where its tasks aren't too large
abbrev pub stage_answer : Result (List TaskTree) ℕ → Result (List TaskTree) Refusal
stage_answer (Ok ts) = limited ts
stage_answer (Err decl) = Err (Misplaced decl)

abbrev pub stage_equation : TaskEquation → StageEquation
stage_equation equation t = stage_answer (equation t)

-- a stage by this equation gives these tasks
abbrev pub Gives : TaskEquation → TaskTree → List TaskTree → Type 0
Gives equation t ts = stage_equation equation t ≡ Ok ts

-- want of memory, or what the stage says
abbrev pub IsStageFault : Result (List TaskTree) Refusal → StageFault → Type 0
IsStageFault said fault.Memory = Unit {0}
IsStageFault said (fault.Misplaced decl) = said ≡ Err (Misplaced decl)
IsStageFault said fault.TooLarge = said ≡ Err TooLarge

abbrev pub no_task : TaskTree
no_task = record {
  symbols = [];
  ints = None;
  rigid = [];
  decls = [];
  params = [];
  locals =
      [];
  goal = Leaf HEnd;
}

abbrev pub task_or : List TaskTree → ℕ → TaskTree
task_or ts i = get_or ts i no_task

-- an algebraic or inductive group makes it
abbrev pub IsGrouped : RoleTree → Type 0
IsGrouped (InductiveRole clauses) = Unit {0}
IsGrouped (AlgebraicRole cons) = Unit {0}
IsGrouped (ConstructorRole con) = Unit {0}
IsGrouped (ProjectionRole con field) = Unit {0}
IsGrouped _ = ⊥

-- The task has the symbols of the other and declares the same ones; what an algebraic or inductive
-- group of it makes, the other's makes as the same.
pub record KeepsDeclared (from t : TaskTree) : Type 0 where
  pub symbols : t.symbols ≡ from.symbols
  pub ints : t.ints ≡ from.ints
  pub rigid : t.rigid ≡ from.rigid
  pub made : (k : ℕ) → Contains (made t.decls) k ↔ Contains (made from.decls) k
  pub groups : (k : ℕ) → IsGrouped (role t k) → role from k ≡ role t k

-- what is declared stays, and so does validity
pub record Keeps (from t : TaskTree) : Type 0 where
  pub declared : KeepsDeclared from t
  pub valid : IsValid t

-- a task is one of those of an equation
pub record IsAmong (is_stage : List TaskTree → Type 0) (t : TaskTree) : Type 0 where
  pub tasks : List TaskTree
  pub is : is_stage tasks
  pub place : ℕ
  pub within : place < length tasks
  pub there : task_or tasks place ≡ t

-- steps of a draft, by number, have these sequents, one for each place below n
pub record HaveSequents (d : DraftTree) (numbers : List ℕ) (q : ℕ → List Tree)
    (n : ℕ) : Type 0 where
  pub as_many : length numbers ≡ n
  pub each : (i : ℕ) → i < n → Refutes d (get_or numbers i 0) (q i)

abbrev pub sequent_of_step : List StepTree → ℕ → List Tree
sequent_of_step steps i = (step_or steps i).sequent

-- steps of a draft, by number, have the sequents of a list of steps
abbrev pub StandFor : DraftTree → List ℕ → List StepTree → Type 0
StandFor d numbers steps = HaveSequents d numbers (sequent_of_step steps) (length steps)

abbrev pub start_of : List TaskTree → ℕ → List Tree
start_of tasks i = start (task_or tasks i)

-- steps of a draft, by number, have the starts of a list of tasks
abbrev pub EndIn : DraftTree → List ℕ → List TaskTree → Type 0
EndIn d ends tasks = HaveSequents d ends (start_of tasks) (length tasks)

-- a draft has the sequent of each of these steps
abbrev pub HasSequents : DraftTree → List StepTree → Type 0
HasSequents d steps = (j : ℕ) → j < length steps → (k : ℕ) × Refutes d k (step_or steps j).sequent

-- the task is that of the draft
pub record IsOwnTask (d : DraftTree) (from : Task) : Type 0 where
  pub held : TaskHeld d.trees from
  pub is : task_at d.trees from ≡ d.task
  pub valid : IsValid d.task

-- a task, and one that it becomes, in a draft of the first
pub record InStage (equation : TaskEquation) (d : DraftTree) (from to : Task) : Type 0 where
  pub own : IsOwnTask d from
  pub held : TaskHeld d.trees to
  pub among : IsAmong (Gives equation d.task) (task_at d.trees to)

-- a step of a task cites a fact at types, and a step of the draft refutes its sequent with the fact
-- after
pub record Cites (d : DraftTree) (t : TaskTree) (sequent : List Tree) (name : Fact)
    (types : List Tree) (premise : ℕ) : Type 0 where
  pub formula : Tree
  pub fact : IsFact d.task t name types formula
  pub taken : Refutes d premise (sequent ++ formula ∷ [])

abbrev pub parts_at : List Tree → List (List Step) → List (List StepTree)
parts_at s parts = map (steps_at s) parts

abbrev pub PartsHeld : List Tree → List (List Step) → Type 0
PartsHeld s parts = All (StepsHeld s) parts

abbrev pub part_or : List (List StepTree) → ℕ → List StepTree
part_or parts i = get_or parts i []

-- each part derives its task
pub record PartsClose (tasks : List TaskTree) (parts : List (List StepTree)) : Type 0 where
  pub as_many : length parts ≡ length tasks
  pub each : (i : ℕ) → i < length tasks → Closes (task_or tasks i) (part_or parts i)
