-- What a task becomes where algebraic types are nothing more than symbols with their laws (Why3
-- manual, "eliminate_algebraic"): it has no `match`, and in the place of each algebraic group are
-- its symbols and its laws.
use Rattle.std.specs.Prelude.{ℕ, List, [], ◌∷◌, Option, Some, None, Result, Ok, Err}
use Rattle.tasks.specs.Task.{TaskTree}
use Rattle.tr_match.specs.match_forms.Forms.{without_matches}
use Rattle.walking.specs.evidence.changed_tasks.Changed.{changed_task}
use Rattle.tr_algebraic.specs.algebraic_tasks.Plain.{task_with_laws}
use Rattle.tr_algebraic.specs.algebraic_tasks.Refused.{refused_from}

-- the task without its `match`es
abbrev pub plain_task : TaskTree → TaskTree
plain_task t = changed_task (without_matches t) t

abbrev pub algebraic_task : TaskTree → TaskTree
algebraic_task t = task_with_laws (plain_task t)

-- one task, unless a declaration of it may not be there
abbrev pub unless_refused : Option ℕ → TaskTree → Result (List TaskTree) ℕ
unless_refused (Some decl) u = Err decl
unless_refused None u = Ok (u ∷ [])

abbrev pub algebraic_equation : TaskTree → Result (List TaskTree) ℕ
algebraic_equation t = unless_refused (refused_from 0 t.decls) (algebraic_task t)
