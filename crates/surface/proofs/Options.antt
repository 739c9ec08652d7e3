-- An option of which a test says whether it is some.
use Rattle.std.proofs.Common.{◌≡◌, true, Option, Some, None, is_some, refl}

pub some_is : {A : Type 0} (o : Option A) → is_some o ≡ true → (a : A) × (o ≡ Some a)
some_is (Some a) e = (a, refl)
some_is None e = cc
