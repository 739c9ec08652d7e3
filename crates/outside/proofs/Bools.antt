-- Laws of `&&`, `||` and `not`: those of std under their names there, and those that std doesn't have.
use Rattle.std.proofs.Common.{◌≡◌, Bool, true, false, ◌&&◌, ◌||◌, refl}
pub use Rattle.std.proofs.lemmas.Bool.{cases_Bool, not-false, and_from, and_parts, and_right, or_left, or_right, or_cases, or_parts}

pub and_true : (b : Bool) → (b && true) ≡ b
and_true true = refl
and_true false = refl

pub or_false : (b : Bool) → b ≡ (b || false)
or_false true = refl
or_false false = refl

pub or_grouped : (a b c : Bool) → ((a || b) || c) ≡ (a || (b || c))
or_grouped true b c = refl
or_grouped false b c = refl
