-- Propositions removed from a task: a driver names them by theory and name (Why3 manual, "remove
-- prop").
use Rattle.std.specs.Prelude.{ℕ, Bool, true, false, ◌&&◌, if◌then◌else◌, List, [], ◌∷◌, Result}
use Rattle.std.specs.List.{list_any}
use Rattle.std.specs.Str.{bytes_eq}
use Rattle.tasks.specs.Task.{TaskTree, DeclarationTree, BodyTree, Says}
use Rattle.declarations.specs.Rewritten.{DeclarationRule, rewritten_task}
use Rattle.declarations.specs.Said.{Sayings, own_said}
use Rattle.declarations.specs.Equation.{rewrite_equation}

abbrev pub is_proposition : BodyTree → Bool
is_proposition (Says a) = true
is_proposition _ = false

-- a declaration of this theory and name
abbrev pub is_declaration_named : DeclarationTree → List ℕ × List ℕ → Bool
is_declaration_named d p = bytes_eq d.theory p.0 && bytes_eq d.name p.1

-- a proposition whose theory and name are among these
abbrev pub is_removed : List (List ℕ × List ℕ) → DeclarationTree → Bool
is_removed props d = is_proposition d.body && list_any (is_declaration_named d) props

-- what is left of a declaration, and what it says
abbrev pub removal_rule : List (List ℕ × List ℕ) → DeclarationRule
removal_rule props symbols d = if is_removed props d then [] else d ∷ []

abbrev pub left_said : List (List ℕ × List ℕ) → Sayings
left_said props symbols n d = if is_removed props d then [] else own_said n d d.body

abbrev pub removed_task : List (List ℕ × List ℕ) → TaskTree → TaskTree
removed_task props t = rewritten_task (removal_rule props) t

-- one task
abbrev pub remove_equation : List (List ℕ × List ℕ) → TaskTree → Result (List TaskTree) ℕ
remove_equation props t = rewrite_equation (removal_rule props) t
