-- A list's value past its end, and that it has one.
use Rattle.std.proofs.Common.{◌≡◌, ◌==◌, ℕ, Bool, false, sym, ◌∙◌, arith}
use Rattle.std.proofs.lemmas.Bool.Decides.{nat_tests}
pub use Rattle.tasks.proofs.plain_laws.Lists.{got_none as none_mapped}

pub not_empty : (n : ℕ) (r : Bool) → r ≡ (n == 0) → r ≡ false → n ≡ 0 → ⊥
not_empty n r e f z = let g : (n == 0) ≡ false = sym e ∙ f in grind (arith, nat_tests)
