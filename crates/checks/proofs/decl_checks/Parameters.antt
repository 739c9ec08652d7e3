-- How parameters stand.
use Rattle.std.proofs.Common.{◌≡◌, ℕ, zero, suc, ◌-◌, ◌==◌, if◌then◌else◌, List, [], ◌∷◌, ◌++◌, refl, ap, arith}
use Rattle.std.proofs.lemmas.Bool.Decides.{nat_tests}
use Rattle.checks.specs.declared.decl_checks.standing.Standing.{Standing}
use Rattle.checks.specs.declared.decl_checks.standing.Standing.TheVariants.{Other, Whole}
use Rattle.checks.specs.decl_checks.Structure.{parameter_standings}

pub is_whole : (n place : ℕ) → n ≡ place → Whole ≡ (if n == place then Whole else Other)
is_whole n place e = grind (arith, nat_tests)

pub is_other : (n place : ℕ) → (n ≡ place → ⊥) → Other ≡ (if n == place then Whole else Other)
is_other n place e = grind (arith, nat_tests)

push_append : (xs : List Standing) (y : Standing) (ys : List Standing) → (xs ++ y ∷ []) ++ ys ≡ xs ++ y ∷ ys
push_append [] y ys = refl
push_append (x ∷ xs) y ys = ap (λ l. x ∷ l) (push_append xs y ys)

pub parameters_next : (xs : List Standing) (count place : ℕ) → (count ≡ 0 → ⊥)
    → (xs ++ (if count - 1 == place then Whole else Other) ∷ []) ++ parameter_standings (count - 1) place ≡ xs ++ parameter_standings count place
parameters_next xs zero place n = absurd (n refl)
parameters_next xs (suc k) place n = (let e : suc k - 1 ≡ k = omega arith in rw e (push_append xs (if k == place then Whole else Other) (parameter_standings k place)))
