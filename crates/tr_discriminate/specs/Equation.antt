-- What a task becomes where polymorphic propositions are replaced by their wanted instances (Why3
-- manual, "discriminate").
use Rattle.std.specs.Prelude.{ℕ, List, [], ◌∷◌, Option, Some, None, Result, Ok, Err}
use Rattle.tasks.specs.Task.{TaskTree}
use Rattle.name_tables.specs.Occurrences.{Occurrence}
use Rattle.tr_discriminate.specs.wanted_instances.Discriminated.{put_in_place, discriminated_task, misplaced_from}
use Rattle.declarations.specs.Rewritten.{DeclarationRule}

-- what is put in the place of a declaration, where the instances that are wanted are those at a set
abbrev pub discriminate_rule : List Occurrence → DeclarationRule
discriminate_rule s symbols d = put_in_place s d d.body

-- the task, unless a declaration of it may not be there
abbrev pub unless_misplaced : Option ℕ → TaskTree → Result (List TaskTree) ℕ
unless_misplaced (Some decl) u = Err decl
unless_misplaced None u = Ok (u ∷ [])

abbrev pub discriminate_equation : TaskTree → Result (List TaskTree) ℕ
discriminate_equation t = unless_misplaced (misplaced_from 0 t.decls) (discriminated_task t)
