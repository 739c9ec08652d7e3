-- What is typed as far as it goes is well typed under binders of the types that its open variables have, and the other way
-- round.
use Rattle.std.proofs.Common.{◌≡◌, ◌↔◌, ℕ, zero, suc, ◌+◌, ◌<◌, ◌≤◌, List, [], ◌∷◌, ◌++◌, length, slice_get, Some, refl, sym, ap, ◌∙◌, subst, arith, append_assoc}
use Rattle.std.proofs.lemmas.List.{length-append}
use Rattle.trees.specs.Tree.{Tree, Leaf, One, Two, Three, Head, HTyApp, HBound, binders_over, loose}
use Rattle.trees.specs.Sorts.{Fits, WellSorted}
use Rattle.trees.specs.laws.Changes.{one_loose_le}
use Rattle.tasks.specs.Vocabulary.{Vocabulary}
use Rattle.tasks.specs.Typing.{OneTyped, TypedUnder, bound_types}
use Rattle.tasks.specs.Open.{VariableHas, VariablesHave, one_has, OneOpen, TopOpen, OpenTyped, PartsAreOpen}
use Rattle.tasks.proofs.Counts.{bound_count}

-- the variables of a tree's parts
one_part : (d : ℕ) (types : List Tree) (h : Head) (a : Tree) → VariablesHave d types (One h a) → VariablesHave d types a
one_part d [] h a v = tt
one_part d (ty ∷ types) h a v = (v.0.1, one_part (d + 1) types h a v.1)

first_of_two : (d : ℕ) (types : List Tree) (h : Head) (a b : Tree) → VariablesHave d types (Two h a b) → VariablesHave d types a
first_of_two d [] h a b v = tt
first_of_two d (ty ∷ types) h a b v = (v.0.0, first_of_two (d + 1) types h a b v.1)

second_of_two : (d e : ℕ) (types : List Tree) (h : Head) (a b : Tree) → e ≡ d + binders_over h a → VariablesHave d types (Two h a b) → VariablesHave e types b
second_of_two d e [] h a b q v = tt
second_of_two d e (ty ∷ types) h a b q v = (subst (λ (n : ℕ). VariableHas n ty b) (sym q) v.0.1, second_of_two (d + 1) (e + 1) types h a b (omega arith) v.1)

first_of_three : (d : ℕ) (types : List Tree) (h : Head) (a b c : Tree) → VariablesHave d types (Three h a b c) → VariablesHave d types a
first_of_three d [] h a b c v = tt
first_of_three d (ty ∷ types) h a b c v = (v.0.0, first_of_three (d + 1) types h a b c v.1)

second_of_three : (d : ℕ) (types : List Tree) (h : Head) (a b c : Tree) → VariablesHave d types (Three h a b c) → VariablesHave d types b
second_of_three d [] h a b c v = tt
second_of_three d (ty ∷ types) h a b c v = (v.0.1, second_of_three (d + 1) types h a b c v.1)

third_of_three : (d : ℕ) (types : List Tree) (h : Head) (a b c : Tree) → VariablesHave d types (Three h a b c) → VariablesHave d types c
third_of_three d [] h a b c v = tt
third_of_three d (ty ∷ types) h a b c v = (v.0.2, third_of_three (d + 1) types h a b c v.1)

following : (d e : ℕ) (xs ys : List Tree) (b : Tree) → e ≡ d + length xs → VariablesHave d xs b → VariablesHave e ys b → VariablesHave d (xs ++ ys) b
following d e [] ys b q v w = subst (λ (n : ℕ). VariablesHave n ys b) (omega (arith, q)) w
following d e (x ∷ xs) ys b q v w = (v.0, following (d + 1) e xs ys b (omega (arith, q)) v.1 w)

-- a variable's type is that at its place
at_place : (d i : ℕ) (types : List Tree) (a : Tree) → i < length types → VariablesHave d types (One (HBound (d + i)) a) → slice_get types i ≡ Some a
at_place d i [] a l v = absurd (omega arith)
at_place d zero (ty ∷ types) a l v = ap (λ (z : Tree). Some z) (sym (v.0.0 (omega arith)))
at_place d (suc i) (ty ∷ types) a l v =
    let q : d + suc i ≡ (d + 1) + i = omega arith in
    at_place (d + 1) i types a (omega arith) (subst (λ (n : ℕ). VariablesHave (d + 1) types (One (HBound n) a)) q v.1)

-- what is typed is well-sorted
pub typed_sorted : (v : Vocabulary) (types : List Tree) (e : Tree) → TypedUnder v types e → WellSorted e
typed_sorted v types (Leaf h) x = x.0
typed_sorted v types (One h a) x = (x.0, typed_sorted v types a x.2)
typed_sorted v types (Two h a b) x = (x.0, typed_sorted v types a x.2, typed_sorted v (bound_types h a ++ types) b x.3)
typed_sorted v types (Three h a b c) x = (x.0, typed_sorted v types a x.2, typed_sorted v types b x.3, typed_sorted v types c x.4)

pub open_sorted : (v : Vocabulary) (e : Tree) → OpenTyped v e → WellSorted e
open_sorted v (Leaf h) o = o.0
open_sorted v (One h a) o = (o.0, open_sorted v a o.2)
open_sorted v (Two h a b) o = (o.0, open_sorted v a o.2, open_sorted v b o.3)
open_sorted v (Three h a b c) o = (o.0, open_sorted v a o.2, open_sorted v b o.3, open_sorted v c o.4)

module _ (t : Vocabulary) where
  one_typed : (types : List Tree) (h : Head) (a : Tree) → OneOpen t h a → VariablesHave 0 types (One h a) → loose (One h a) ≤ length types → OneTyped t types h a
  one_typed types (HBound i) a o v l =
      let q : i ≡ 0 + i = omega arith in
      at_place 0 i types a (omega arith) (subst (λ (n : ℕ). VariablesHave 0 types (One (HBound n) a)) q v)
  one_typed types (HTyApp k) a o v l = o
  one_typed types _ a o v l = tt

  pub closed_typed : (types : List Tree) (e : Tree) → OpenTyped t e → VariablesHave 0 types e → loose e ≤ length types → TypedUnder t types e
  closed_typed types (Leaf h) o v l = o
  closed_typed types (One h a) o v l = (o.0, one_typed types h a o.1 v l, closed_typed types a o.2 (one_part 0 types h a v) (one_loose_le h (loose a) (length types) l))
  closed_typed types (Two h a b) o v l =
      let n = bound_count h a b o.0 (open_sorted t a o.2) in
      let w : VariablesHave (binders_over h a) types b = second_of_two 0 (binders_over h a) types h a b (omega arith) v in (
        o.0,
        o.1.0,
        closed_typed types a o.2 (first_of_two 0 types h a b v) (omega arith),
        closed_typed (bound_types h a ++ types) b o.3 (following 0 (binders_over h a) (bound_types h a) types b (omega (arith, n)) o.1.1 w) (omega (arith, n, length-append (bound_types h a) types)),
      )
  closed_typed types (Three h a b c) o v l =
      (o.0, o.1, closed_typed types a o.2 (first_of_three 0 types h a b c v) (omega arith), closed_typed types b o.3 (second_of_three 0 types h a b c v) (omega arith), closed_typed types c o.4 (third_of_three 0 types h a b c v) (omega arith))

  -- what is well typed is closed
  slots : (types : List Tree) (i : ℕ) (a : Tree) → slice_get types i ≡ Some a → i < length types
  slots [] i a h = absurd (cc)
  slots (x ∷ xs) zero a h = omega arith
  slots (x ∷ xs) (suc i) a h = omega (arith, slots xs i a h)

  one_closed : (types : List Tree) (h : Head) (a : Tree) → OneTyped t types h a → loose a ≤ length types → loose (One h a) ≤ length types
  one_closed types (HBound i) a o l = omega (arith, slots types i a o)
  one_closed types _ a o l = l

  pub typed_closed : (types : List Tree) (e : Tree) → TypedUnder t types e → loose e ≤ length types
  typed_closed types (Leaf h) o = omega arith
  typed_closed types (One h a) o = one_closed types h a o.1 (typed_closed types a o.2)
  typed_closed types (Two h a b) o =
      let n = bound_count h a b o.0 (typed_sorted t types a o.2) in
      omega (arith, n, length-append (bound_types h a) types, typed_closed types a o.2, typed_closed (bound_types h a ++ types) b o.3)
  typed_closed types (Three h a b c) o = omega (arith, typed_closed types a o.2, typed_closed types b o.3, typed_closed types c o.4)

  -- where no variable is open
  pub closed_iff : (e : Tree) → OpenTyped t e → (loose e ≡ 0) ↔ TypedUnder t [] e
  closed_iff e o = (λ h. closed_typed [] e o tt (omega (arith, h)), λ x. let l = typed_closed [] e x in omega (arith, l))

  -- a variable of a typed tree has the type that its binder gives it
  slot : (types more : List Tree) (d e : ℕ) (ty : Tree) → e ≡ d + length types → slice_get more d ≡ Some ty → slice_get (types ++ more) e ≡ Some ty
  slot [] more d e ty q h = subst (λ (n : ℕ). slice_get more n ≡ Some ty) (omega (arith, q)) h
  slot (x ∷ xs) more d zero ty q h = absurd (omega (arith, q))
  slot (x ∷ xs) more d (suc e) ty q h = slot xs more d e ty (omega (arith, q)) h

  same_some : (a b : Tree) → Some a ≡ Some b → a ≡ b
  same_some a b h = cc

  one_typed_has : (types : List Tree) (d : ℕ) (ty : Tree) (h : Head) (a : Tree) → OneTyped t types h a → slice_get types d ≡ Some ty → one_has d ty h a
  one_typed_has types d ty (HBound i) a o s = λ q. same_some a ty (sym o ∙ ap (slice_get types) q ∙ s)
  one_typed_has types d ty _ a o s = tt

  pub typed_has : (types : List Tree) (d : ℕ) (ty e : Tree) → TypedUnder t types e → slice_get types d ≡ Some ty → VariableHas d ty e
  typed_has types d ty (Leaf h) o s = tt
  typed_has types d ty (One h a) o s = (one_typed_has types d ty h a o.1 s, typed_has types d ty a o.2 s)
  typed_has types d ty (Two h a b) o s =
      let n = bound_count h a b o.0 (typed_sorted t types a o.2) in
      (typed_has types d ty a o.2 s, typed_has (bound_types h a ++ types) (d + binders_over h a) ty b o.3 (slot (bound_types h a) types d (d + binders_over h a) ty (omega (arith, n)) s))
  typed_has types d ty (Three h a b c) o s = (typed_has types d ty a o.2 s, typed_has types d ty b o.3 s, typed_has types d ty c o.4 s)

  all_have : (d : ℕ) (before xs more : List Tree) (e : Tree) → d ≡ length before → TypedUnder t (before ++ (xs ++ more)) e → VariablesHave d xs e
  all_have d before [] more e q x = tt
  all_have d before (ty ∷ xs) more e q x =
      let here : slice_get (before ++ (ty ∷ (xs ++ more))) d ≡ Some ty = slot before (ty ∷ (xs ++ more)) 0 d ty (omega (arith, q)) refl in (
        typed_has (before ++ (ty ∷ (xs ++ more))) d ty e x here,
        all_have (d + 1) (before ++ ty ∷ []) xs more e (omega (arith, q, length-append before (ty ∷ []))) (subst (λ (z : List Tree). TypedUnder t z e) (sym (append_assoc before (ty ∷ []) (xs ++ more))) x),
      )

  one_open : (types : List Tree) (h : Head) (a : Tree) → OneTyped t types h a → OneOpen t h a
  one_open types (HBound i) a x = tt
  one_open types (HTyApp k) a x = x
  one_open types _ a x = tt

  -- the converse: what is typed under binders is typed as far as it goes
  pub typed_open : (types : List Tree) (e : Tree) → TypedUnder t types e → OpenTyped t e
  typed_open types (Leaf h) x = x
  typed_open types (One h a) x = (x.0, one_open types h a x.1, typed_open types a x.2)
  typed_open types (Two h a b) x =
      (x.0, (x.1, all_have 0 [] (bound_types h a) types b refl x.3), typed_open types a x.2, typed_open (bound_types h a ++ types) b x.3)
  typed_open types (Three h a b c) x = (x.0, x.1, typed_open types a x.2, typed_open types b x.3, typed_open types c x.4)

-- a tree by its children
pub by_parts : (v : Vocabulary) (e : Tree) → PartsAreOpen v e → (Fits e × TopOpen v e) ↔ OpenTyped v e
by_parts v (Leaf h) p = (λ x. x, λ x. x)
by_parts v (One h a) p = (λ x. (x.0, x.1, p), λ x. (x.0, x.1))
by_parts v (Two h a b) p = (λ x. (x.0, x.1, p.0, p.1), λ x. (x.0, x.1))
by_parts v (Three h a b c) p = (λ x. (x.0, x.1, p.0, p.1, p.2), λ x. (x.0, x.1))
