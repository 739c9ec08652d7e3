-- Which definitions are inlined, by their bodies as they are written.
use Rattle.std.specs.Prelude.{◌≡◌, ℕ, ◌==◌, Bool, true, ◌&&◌, if◌then◌else◌, List, [], ◌∷◌}
use Rattle.std.specs.List.{list_any}
use Rattle.trees.specs.Tree.{Tree}
use Rattle.tasks.specs.Task.{DefinitionTree}
use Rattle.inlining.specs.declared.modes.InlineMode.{InlineMode}
use Rattle.inlining.specs.declared.modes.InlineMode.TheVariants as mode
use Rattle.inlining.specs.Inlining.{is_other_parameter, with_parameter, is_trivial}
use Rattle.checks.specs.decl_checks.Structure.{defining_body}

-- the same numbers are among them
abbrev pub AreTheSame : List ℕ → List ℕ → Type 0
AreTheSame before seen = (i : ℕ) → list_any (λ j. j == i) before ≡ list_any (λ j. j == i) seen

abbrev pub are_two_parameters : Tree → Tree → Bool
are_two_parameters a b = is_other_parameter [] a && is_other_parameter (with_parameter a []) b

abbrev pub is_chosen : InlineMode → Tree → Bool
is_chosen mode.Trivial e = is_trivial e
is_chosen mode.Goal e = true
is_chosen mode.All e = true

abbrev pub chosen : InlineMode → List DefinitionTree → List DefinitionTree
chosen m [] = []
chosen m (d ∷ ds) = if is_chosen m (defining_body d.equation) then d ∷ chosen m ds else chosen m ds
