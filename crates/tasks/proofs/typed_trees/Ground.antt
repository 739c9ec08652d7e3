-- A tree without schematic type variables, told by the number that the store keeps.
use Rattle.std.proofs.Common.{◌≡◌, ◌↔◌, ◌==◌, ℕ, IsTrue, min, arith}
use Rattle.std.proofs.lemmas.Bool.Decides.{nat_tests}
use Rattle.trees.specs.Tree.{Tree, above_ty_vars}
use Rattle.tasks.specs.Valid.{IsGround}
use Rattle.tasks.proofs.Ground.{ground, above_ground}

is_zero : (told : ℕ) → IsTrue (told == 0) ↔ (told ≡ 0)
is_zero told = (λ h. grind (arith, nat_tests), λ h. grind (arith, nat_tests))

pub told_ground : (e : Tree) (told : ℕ) → told ≡ min (above_ty_vars e) 18446744073709551615 → IsTrue (told == 0) ↔ IsGround e
told_ground e told is = (
  λ h. let z : told ≡ 0 = (is_zero told).0 h in ground e (omega arith),
  λ g. let n : above_ty_vars e ≡ 0 = above_ground e g in (is_zero told).1 (omega arith),
)
