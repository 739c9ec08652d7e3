-- A type that is put for a type variable, told without making the instance.
use Rattle.std.proofs.Common.{◌≡◌, ◌↔◌, ℕ, List, Bool, IsTrue, Option, Some, None, get_or, slice_get, sym, ap, ◌∙◌}
use Rattle.std.specs.Option.{unwrap_or}
use Rattle.std.proofs.lemmas.Option.{unwrap_or-slice_get, get_or_from_slice_get}
use Rattle.trees.specs.Tree.{Tree, Leaf, HTyVar}
use Rattle.trees.specs.Binding.{Change, change, TyVar, typing}
use Rattle.trees.specs.binders.Depth.{IsChanged, CanBe, IsTold}

pub told_by : (f : Change) (e : Tree) (depth : ℕ) (x : Tree) → ((d : ℕ) → change f d e ≡ x) → (made : Tree) (r : Bool) → IsTrue r ↔ (made ≡ x) → IsTold f depth e made (Some r)
told_by f e depth x becomes made r q = (λ t. record { is = λ d i. q.0 t ∙ sym (becomes d) }, λ k. q.1 (k.is ∙ becomes k.d))

pub variable_put : (tys : List Tree) (e x : Tree) (j : ℕ) → e ≡ Leaf (HTyVar j) → slice_get tys j ≡ Some x → (d : ℕ) → change (typing tys) d e ≡ x
variable_put tys e x j p q d = ap (change (typing tys) d) p ∙ get_or_from_slice_get tys j x (TyVar j) q

pub variable_left : (tys : List Tree) (e : Tree) (j : ℕ) → e ≡ Leaf (HTyVar j) → slice_get tys j ≡ None → (d : ℕ) → change (typing tys) d e ≡ e
variable_left tys e j p q d =
    let past : get_or tys j (TyVar j) ≡ TyVar j = sym (unwrap_or-slice_get tys j (TyVar j)) ∙ ap (λ (o : Option Tree). unwrap_or o (TyVar j)) q in
    ap (change (typing tys) d) p ∙ past ∙ sym p
