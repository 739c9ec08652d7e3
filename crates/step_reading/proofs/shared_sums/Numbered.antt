-- What is known of a term, from what is known of its parts.
use Rattle.std.proofs.Common.{◌≡◌, ℕ, ◌≤◌, ◌<◌, Bool, true, false, cond, nat_eq, List, [], ◌∷◌, length, Option, Some, refl, sym, subst, ◌∙◌, arith}
use Rattle.std.specs.HashMap.{HashMap, get}
use Rattle.std.proofs.lemmas.Bool.Decides.{Decides-eqb}
use Rattle.std.proofs.Math.IntN.{ℤ}
use Rattle.trees.specs.Tree.{Tree}
use Rattle.trees.specs.Facts.{Each}
use Rattle.trees.specs.declared.ints.Ints.{Ints}
use Rattle.linear_leaf.specs.Linear.{Sum, sum, negated_sum, constant_sum, atom, product_by, both_have, reading, zeros}
use Rattle.linear_leaf.proofs.Closing.{each_append}
use Rattle.step_reading.specs.declared.shared_sums.known.Known.{Known}
use Rattle.step_reading.specs.shared_sums.Known.{TellsSum, numbered_term, HasNumber, IsKnown, AreKnownTerms}

more_numbers : (s : List Tree) (j k : ℕ) → j ≤ k → (ps : List Tree) → Each (HasNumber s j) ps → Each (HasNumber s k) ps
more_numbers s j k l [] h = tt
more_numbers s j k l (p ∷ ps) h = (record { number = h.0.number; held = h.0.held; below = omega (arith, h.0.below); is = h.0.is }, more_numbers s j k l ps h.1)

own_number : (s : List Tree) (k : ℕ) → k < length s → HasNumber s k (numbered_term s k)
own_number s k h = record { number = k; held = h; below = omega arith; is = refl }

product_numbers : (s : List Tree) (k : ℕ) (c : Bool) (e : Tree) (a b : Sum) → HasNumber s k e → Each (HasNumber s k) a.atoms → Each (HasNumber s k) b.atoms → Each (HasNumber s k) (product_by zeros c e a b).atoms
product_numbers s k true e a b o h g = (o, tt)
product_numbers s k false e a b o h g = (each_append (HasNumber s k) a.atoms b.atoms).1 (h, g)

module _ (z : Ints) (s : List Tree) (k : ℕ) (held : k < length s) where
  known_as : (x : Known) (r : Sum) → reading z zeros (numbered_term s k) ≡ r → TellsSum r x → Each (HasNumber s k) r.atoms → IsKnown z s k x
  known_as x r e t h = record { told = subst (λ (a : Sum). TellsSum a x) (sym e) t; numbered = subst (λ (a : Sum). Each (HasNumber s k) a.atoms) (sym e) h }

  pub known_number : (x : Known) (n : ℤ) → reading z zeros (numbered_term s k) ≡ constant_sum n → TellsSum (constant_sum n) x → IsKnown z s k x
  known_number x n e t = known_as x (constant_sum n) e t tt

  pub known_atom : (x : Known) → reading z zeros (numbered_term s k) ≡ atom zeros (numbered_term s k) → TellsSum (atom zeros (numbered_term s k)) x → IsKnown z s k x
  known_atom x e t = known_as x (atom zeros (numbered_term s k)) e t (own_number s k held, tt)

  pub known_negated : (x y : Known) (i : ℕ) → i < k → IsKnown z s i y → reading z zeros (numbered_term s k) ≡ negated_sum (reading z zeros (numbered_term s i))
      → TellsSum (negated_sum (reading z zeros (numbered_term s i))) x → IsKnown z s k x
  known_negated x y i l h e t = known_as x (negated_sum (reading z zeros (numbered_term s i))) e t (more_numbers s i k (omega arith) (reading z zeros (numbered_term s i)).atoms h.numbered)

  pub known_plus : (x y w : Known) (i j : ℕ) → i < k → j < k → IsKnown z s i y → IsKnown z s j w → reading z zeros (numbered_term s k) ≡ sum (reading z zeros (numbered_term s i)) (reading z zeros (numbered_term s j))
      → TellsSum (sum (reading z zeros (numbered_term s i)) (reading z zeros (numbered_term s j))) x → IsKnown z s k x
  known_plus x y w i j l m h g e t = known_as x (sum (reading z zeros (numbered_term s i)) (reading z zeros (numbered_term s j))) e t
      ((each_append (HasNumber s k) (reading z zeros (numbered_term s i)).atoms (reading z zeros (numbered_term s j)).atoms).1
      (more_numbers s i k (omega arith) (reading z zeros (numbered_term s i)).atoms h.numbered, more_numbers s j k (omega arith) (reading z zeros (numbered_term s j)).atoms g.numbered))

  pub known_minus : (x y w : Known) (i j : ℕ) → i < k → j < k → IsKnown z s i y → IsKnown z s j w → reading z zeros (numbered_term s k) ≡ sum (reading z zeros (numbered_term s i)) (negated_sum (reading z zeros (numbered_term s j)))
      → TellsSum (sum (reading z zeros (numbered_term s i)) (negated_sum (reading z zeros (numbered_term s j)))) x → IsKnown z s k x
  known_minus x y w i j l m h g e t = known_as x (sum (reading z zeros (numbered_term s i)) (negated_sum (reading z zeros (numbered_term s j)))) e t
      ((each_append (HasNumber s k) (reading z zeros (numbered_term s i)).atoms (reading z zeros (numbered_term s j)).atoms).1
      (more_numbers s i k (omega arith) (reading z zeros (numbered_term s i)).atoms h.numbered, more_numbers s j k (omega arith) (reading z zeros (numbered_term s j)).atoms g.numbered))

  pub known_times : (x y w : Known) (i j : ℕ) → i < k → j < k → IsKnown z s i y → IsKnown z s j w
      → reading z zeros (numbered_term s k) ≡ product_by zeros (both_have (reading z zeros (numbered_term s i)).atoms (reading z zeros (numbered_term s j)).atoms) (numbered_term s k) (reading z zeros (numbered_term s i)) (reading z zeros (numbered_term s j))
      → TellsSum (product_by zeros (both_have (reading z zeros (numbered_term s i)).atoms (reading z zeros (numbered_term s j)).atoms) (numbered_term s k) (reading z zeros (numbered_term s i)) (reading z zeros (numbered_term s j))) x → IsKnown z s k x
  known_times x y w i j l m h g e t = known_as x _ e t
      (product_numbers s k (both_have (reading z zeros (numbered_term s i)).atoms (reading z zeros (numbered_term s j)).atoms) (numbered_term s k) (reading z zeros (numbered_term s i)) (reading z zeros (numbered_term s j)) (own_number s k held)
      (more_numbers s i k (omega arith) (reading z zeros (numbered_term s i)).atoms h.numbered) (more_numbers s j k (omega arith) (reading z zeros (numbered_term s j)).atoms g.numbered))

pub atom_told : (x y r : Known) (e : Tree) (a b : Sum) → ((t : Tree) → TellsSum (atom zeros t) r) → x.has_atom ≡ true → y.has_atom ≡ true → TellsSum a x → TellsSum b y → TellsSum (product_by zeros (both_have a.atoms b.atoms) e a b) r
atom_told x y r e a b t p q h g =
    let i = sym h.has_atom ∙ p in let j = sym g.has_atom ∙ q in
    let m : both_have a.atoms b.atoms ≡ true = rw (i, j) refl in subst (λ (c : Bool). TellsSum (product_by zeros c e a b) r) (sym m) (t e)

more_at : (z : Ints) (s : List Tree) (k q : ℕ) (x y : Known) (c : Bool) (o : Option Known) → nat_eq k q ≡ c → IsKnown z s k x → (o ≡ Some y → IsKnown z s q y) → cond c (Some x) o ≡ Some y → IsKnown z s q y
more_at z s k q x y true o e h a w = let p = (Decides-eqb k q).0 e in let r : x ≡ y = cc w in rw (← p, ← r) h
more_at z s k q x y false o e h a w = a w

-- what is known of one term more
pub known_more : {S S' : Type 0} (z : Ints) (s : List Tree) (m : HashMap ℕ Known S) (n : HashMap ℕ Known S') (k : ℕ) (x : Known) → AreKnownTerms z s m → IsKnown z s k x
    → ((q : ℕ) → get nat_eq n q ≡ cond (nat_eq k q) (Some x) (get nat_eq m q)) → AreKnownTerms z s n
known_more z s m n k x a h u q y e = more_at z s k q x y (nat_eq k q) (get nat_eq m q) refl h (a q y) (sym (u q) ∙ e)
