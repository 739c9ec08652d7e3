-- The steps of a clone by the places of a theory's declarations (Why3 manual, "theory cloning").
use Rattle.std.specs.Prelude.{ℕ, if◌then◌else◌, List, [], ◌∷◌, Option, Some, None}
use Rattle.elab_groups.specs.tasks.Task.{DeclarationTree}
use Rattle.elab_groups.specs.surface.declared.declarations.PropKind.{PropKind}
use Rattle.elab_groups.specs.surface.declared.declarations.PropKind.TheVariants as kind
use Rattle.clones.specs.clone_elements.Left.{decl_or}
use Rattle.clones.specs.clone_elements.Replacements.{is_replaced, kind_or}
use Rattle.clones.specs.clone_copies.Origins.{is_own}
use Rattle.clones.specs.clone_copies.Places.{Copying}
use Rattle.elaboration_laws.specs.Steps.{CopyStep, copies, leaves, joins}

-- an axiom that becomes a goal leaves no declaration
abbrev pub step_as : PropKind → DeclarationTree → CopyStep
step_as kind.Goal d = leaves d
step_as kind.Axiom d = copies d
step_as kind.Lemma d = copies d

abbrev pub step_of : Copying → ℕ → Option (List (List ℕ)) → DeclarationTree → CopyStep
step_of x k None d = copies d
step_of x k (Some vars) d = step_as (kind_or (x.effects k) x.all) d

abbrev pub copy_step_at : Copying → List DeclarationTree → ℕ → CopyStep
copy_step_at x ds k = if is_own ds x.path k
    then (if is_replaced (x.effects k) then leaves (decl_or ds k) else step_of x k (x.axioms k)
    (decl_or ds k)) else joins (decl_or ds k)

abbrev pub copy_steps_at : Copying → List DeclarationTree → List ℕ → List CopyStep
copy_steps_at x ds [] = []
copy_steps_at x ds (k ∷ ks) = copy_step_at x ds k ∷ copy_steps_at x ds ks
