-- The stages of a driver for a task (Why3 manual, "Drivers"): the removal of propositions, then its
-- transformations by their names.
use Rattle.std.specs.Prelude.{ℕ, Bool, ◌&&◌, if◌then◌else◌, List, [], ◌∷◌, ◌++◌, map}
use Rattle.std.specs.List.{list_any}
use Rattle.std.specs.Str.{bytes_eq}
use Rattle.tasks.specs.Task.{TaskTree, DeclarationTree}
use Rattle.drivers.specs.declared.driver_parts.driver.Driver.{Driver}
use Rattle.tr_remove.specs.Remove.{is_proposition}
use Rattle.stages.specs.declared.transformations.transformation.Transformation.{Transformation}
use Rattle.stages.specs.declared.transformations.transformation.Transformation.TheVariants.{Remove}
use Rattle.stages.specs.transformations.Words.{transformation_of}

-- a proposition of one of these theories
abbrev pub is_removed_of : List (List ℕ) → DeclarationTree → Bool
is_removed_of paths d = is_proposition d.body && list_any (bytes_eq d.theory) paths

abbrev pub name_if : List (List ℕ) → DeclarationTree → List (List ℕ × List ℕ)
name_if paths d = if is_removed_of paths d then (d.theory, d.name) ∷ [] else []

-- the propositions of these theories
abbrev pub removed_of : List (List ℕ) → List DeclarationTree → List (List ℕ × List ℕ)
removed_of paths [] = []
removed_of paths (d ∷ ds) = name_if paths d ++ removed_of paths ds

-- the propositions that a driver removes from a task, by their theories and names: those that it
-- names, and all of the theories that it names
abbrev pub removed_names : Driver → TaskTree → List (List ℕ × List ℕ)
removed_names d t = d.removed ++ removed_of d.all_removed t.decls

-- the stages of a driver for a task
abbrev pub stages_of : Driver → TaskTree → List Transformation
stages_of d t = Remove (record { props = removed_names d t }) ∷ map transformation_of d.stages
