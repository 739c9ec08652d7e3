-- Lists and pairs of tests that are compared.
use Rattle.std.specs.Prelude.{OnOk, IfOk, IfErr}
use Rattle.std.specs.Result.{IsErrAnd}
use Rattle.std.proofs.Common.{Result, Ok, Err, ◌≡◌, ◌↔◌, Bool, IsTrue, List, ◌∷◌, sym, subst}

module _ {X : Type 0} where
  pub cons_same : (a b : X) (as_ bs : List X) → a ≡ b → as_ ≡ bs → a ∷ as_ ≡ b ∷ bs
  cons_same a b as_ bs p q = cc

  pub cons_rest : (a b : X) (as_ bs : List X) → a ∷ as_ ≡ b ∷ bs → as_ ≡ bs
  cons_rest a b as_ bs p = cc

  pub cons_first : (a b : X) (as_ bs : List X) → a ∷ as_ ≡ b ∷ bs → a ≡ b
  cons_first a b as_ bs p = cc

  -- where the first members are equal, the rest tells
  pub cons_tells : (r : Bool) (a b : X) (as_ bs : List X) → a ≡ b → IsTrue r ↔ (as_ ≡ bs) → IsTrue r ↔ (a ∷ as_ ≡ b ∷ bs)
  cons_tells r a b as_ bs p h = (λ t. cons_same a b as_ bs p (h.0 t), λ q. h.1 (cons_rest a b as_ bs q))

pub on_both : {T E P Q R : Type 0} (r : Result T E) → (P → Q → R) → OnOk r P → OnOk r Q → OnOk r R
on_both (Ok x) f p q = f p q
on_both (Err e) f p q = tt

-- a fault that is passed on
pub err_passed : {T E : Type 0} (P : E → Type 0) (r : Result T E) (g : E) → IsErrAnd r (λ (e : E). e ≡ g) → P g → IfErr r P
err_passed P (Ok v) g h p = tt
err_passed P (Err e) g h p = subst P (sym h) p
