-- Tasks without `match`es, and the task in which symbols and laws are in the place of algebraic
-- types.
use Rattle.std.specs.Prelude.{List, All}
use Rattle.tasks.specs.Task.{BodyTree, Defines, Induces, Says, DeclarationTree, TaskTree}
use Rattle.declarations.specs.Rewritten.{rewritten_task}
use Rattle.tr_algebraic.specs.algebraic_forms.Groups.{algebraic_rule}
use Rattle.tr_algebraic.specs.algebraic_forms.NoMatch.{HasNoMatch}

-- a proposition has none, and there is no definition or inductive predicate
abbrev pub IsBodyWithoutMatches : BodyTree → Type 0
IsBodyWithoutMatches (Says a) = HasNoMatch a
IsBodyWithoutMatches (Defines ds) = ⊥
IsBodyWithoutMatches (Induces is) = ⊥
IsBodyWithoutMatches _ = Unit {0}

abbrev pub AreDeclsWithoutMatches : List DeclarationTree → Type 0
AreDeclsWithoutMatches ds = All (λ (d : DeclarationTree). IsBodyWithoutMatches d.body) ds

pub record IsTaskWithoutMatches (t : TaskTree) : Type 0 where
  pub decls : AreDeclsWithoutMatches t.decls
  pub locals : All HasNoMatch t.locals
  pub goal : HasNoMatch t.goal

abbrev pub task_with_laws : TaskTree → TaskTree
task_with_laws t = rewritten_task algebraic_rule t
