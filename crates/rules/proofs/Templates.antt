-- The template of a replacement, told by its sort, its open variables and their type.
use Rattle.std.proofs.Common.{◌≡◌, ◌≤◌, [], ◌∷◌, refl, arith}
use Rattle.trees.specs.declared.Sort.TheVariants.{Formula}
use Rattle.trees.specs.Tree.{Tree, loose}
use Rattle.trees.specs.Sorts.{sort_of}
use Rattle.tasks.specs.Task.{TaskTree}
use Rattle.tasks.specs.Vocabulary.{of_task}
use Rattle.tasks.specs.Valid.{IsGround}
use Rattle.tasks.specs.Open.{VariableHas, OpenTyped}
use Rattle.tasks.proofs.Closing.{closed_typed, typed_closed, typed_has}
use Rattle.rules.specs.Rows.{IsTemplate}

pub template_is : (t : TaskTree) (ty e : Tree) → OpenTyped (of_task t) e → sort_of e ≡ Formula → loose e ≤ 1 → IsGround e → VariableHas 0 ty e → IsTemplate t ty e
template_is t ty e o s l g v = record { sort = s; typed = closed_typed (of_task t) (ty ∷ []) e o (v, tt) (omega (arith, l)); ground = g }

pub template_can : (t : TaskTree) (ty e : Tree) → IsTemplate t ty e → (loose e ≤ 1) × VariableHas 0 ty e
template_can t ty e x = let l = typed_closed (of_task t) (ty ∷ []) e x.typed in (omega (arith, l), typed_has (of_task t) (ty ∷ []) 0 ty e x.typed refl)
