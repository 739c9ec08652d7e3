-- The choices of places are those of the numbers below their count.
use Rattle.std.proofs.Common.{◌≡◌, ℕ, zero, suc, ◌+◌, ◌*◌, ◌/◌, ◌%◌, ◌<◌, ◌≤◌, ◌⊎◌, inl, inr, List, [], ◌∷◌, min, refl, sym, subst, ap, ◌∙◌, arith}
use Rattle.std.proofs.lemmas.Nat.{mod-mul-add, div-mul-add, mul-add-lt}
use Rattle.std.proofs.Math.Nat.{le-mul_of_pos_right, mul_comm}
use Rattle.tasks.specs.Task.{SymbolTree, DefinitionTree}
use Rattle.checks.specs.decl_checks.Structure.{symbol_arity, AllPass, IsStructural, choices, choice_of, PassesAt}

-- ---- the number of a choice
-- a number below the count that has this choice
record IsNumbered (symbols : List SymbolTree) (ds : List DefinitionTree) (ms : List (ℕ × ℕ)) : Type 0 where
  number : ℕ
  below : number < choices symbols ds
  is : choice_of symbols ds number ≡ ms

digits : (a n place rest : ℕ) (k : ℕ) (others : ℕ → List (ℕ × ℕ)) → place < a → n ≡ rest * a + place → (k, n % a) ∷ others (n / a) ≡ (k, place) ∷ others rest
digits a n place rest k others l e =
    let m : n % a ≡ place = ap (λ x. x % a) e ∙ mod-mul-add rest a place l in
    let d : n / a ≡ rest = ap (λ x. x / a) e ∙ div-mul-add rest a place l in
    ap (λ x. (k, x) ∷ others (n / a)) m ∙ ap (λ x. (k, place) ∷ others x) d

numbered : (symbols : List SymbolTree) (chosen : List (ℕ × ℕ)) (ds : List DefinitionTree) (ms : List (ℕ × ℕ)) → AllPass symbols chosen ds ms → IsNumbered symbols ds ms
numbered symbols chosen [] [] h = record { number = 0; below = omega arith; is = refl }
numbered symbols chosen [] (m ∷ ms) h = absurd h
numbered symbols chosen (d ∷ ds) [] h = absurd h
numbered symbols chosen (d ∷ ds) (m ∷ ms) h =
    let rest = numbered symbols chosen ds ms h.1 in
    let a = symbol_arity symbols d.symbol in
    record {
      number = rest.number * a + m.1;
      below = (let l = mul-add-lt rest.number a m.1 (choices symbols ds) rest.below h.0.1 in l);
      is = digits a (rest.number * a + m.1) m.1 rest.number d.symbol (choice_of symbols ds) h.0.1 refl
          ∙ ap (λ x. (d.symbol, m.1) ∷ x) rest.is ∙ ap (λ x. (x, m.1) ∷ ms) (sym h.0.0);
    }

-- ---- where no number has a choice that passes, none passes
module _ (symbols : List SymbolTree) (ds : List DefinitionTree) where
  pub passes_none : (count : ℕ) → count ≡ choices symbols ds → ((n : ℕ) → n < count → PassesAt symbols ds n → ⊥) → IsStructural symbols ds → ⊥
  passes_none count e none s =
      let k = numbered symbols s.chosen ds s.chosen s.pass in
      let l : k.number < count = (let b = k.below in omega (arith, e)) in
      none k.number l (subst (λ c. AllPass symbols c ds c) (sym k.is) s.pass)

  pub passes_one : (n : ℕ) → PassesAt symbols ds n → IsStructural symbols ds
  passes_one n p = record { chosen = choice_of symbols ds n; pass = p }

-- ---- counts
pub left_positive : (a b : ℕ) → 0 < a * b → 0 < a
left_positive zero b l = absurd (omega arith)
left_positive (suc a) b l = omega arith

pub right_positive : (a b : ℕ) → 0 < a * b → 0 < b
right_positive a zero l = absurd (omega arith)
right_positive a (suc b) l = omega arith

-- the least of a number and a product is that of the product with what is at most that number
more_product : (a b m : ℕ) → m ≤ b → m ≤ suc a * b
more_product a b m l = (let k = le-mul_of_pos_right {m = suc a} b (omega arith) in omega (arith, k, mul_comm (suc a) b))

saturated_by : (a b m : ℕ) → (b ≤ m) ⊎ (m < b) → min (a * min b m) m ≡ min (a * b) m
saturated_by a b m (inl l) = (let e : min b m ≡ b = omega arith in ap (λ x. min (a * x) m) e)
saturated_by zero b m (inr l) = (let p : 0 * min b m ≡ 0 = omega arith in let q : 0 * b ≡ 0 = omega arith in ap (λ x. min x m) (p ∙ sym q))
saturated_by (suc a) b m (inr l) =
    let e : min b m ≡ m = omega arith in
    let p : m ≤ suc a * min b m = subst (λ x. m ≤ suc a * x) (sym e) (more_product a m m (omega arith)) in
    let q : m ≤ suc a * b = more_product a b m (omega arith) in
    omega (arith, p, q)

order_next : (b m : ℕ) → (b ≤ m) ⊎ (m < b) → (suc b ≤ suc m) ⊎ (suc m < suc b)
order_next b m (inl l) = inl (omega arith)
order_next b m (inr l) = inr (omega arith)

order : (b m : ℕ) → (b ≤ m) ⊎ (m < b)
order zero m = inl (omega arith)
order (suc b) zero = inr (omega arith)
order (suc b) (suc m) = order_next b m (order b m)

pub saturated : (a b m : ℕ) → min (a * min b m) m ≡ min (a * b) m
saturated a b m = saturated_by a b m (order b m)
