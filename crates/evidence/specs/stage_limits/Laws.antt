-- Which tasks a bound stage gives, and that they are small.
use Rattle.std.specs.Prelude.{◌≡◌, Bool, true, false, if◌then◌else◌, List, Ok, Err, refl}
use Rattle.std.proofs.Common.{sym, subst}
use Rattle.tasks.specs.Task.{TaskTree}
use Rattle.evidence.specs.stage_limits.Limits.{TooLarge, are_small, limited}

-- the tasks are those that were small enough
pub limited_gives : (us ts : List TaskTree) → limited us ≡ Ok ts → ts ≡ us
limited_gives us ts e = by (are_small us) e
  where
    by : (b : Bool) → (if b then Ok us else Err TooLarge) ≡ Ok ts → ts ≡ us
    by true q = cc
    by false q = absurd (cc)

pub limited_small : (us ts : List TaskTree) → limited us ≡ Ok ts → are_small ts ≡ true
limited_small us ts e = by (are_small us) refl e
  where
    by : (b : Bool) → are_small us ≡ b → (if b then Ok us else Err TooLarge) ≡ Ok ts
        → are_small ts ≡ true
    by true p q = let e : ts ≡ us =
        cc in subst (λ (zs : List TaskTree). are_small zs ≡ true) (sym e) p
    by false p q = absurd (cc)
