-- Open variables and a list of their types, by the parts of a tree.
use Rattle.std.proofs.Common.{◌≡◌, ◌↔◌, ℕ, zero, suc, ◌+◌, ◌-◌, ◌<◌, ◌≤◌, Bool, true, false, IsTrue, cond, nat_eq, min, List, [], ◌∷◌, ◌++◌, length, get_or, slice_get, Some, None, refl, sym, subst, ap, ◌∙◌, arith}
use Rattle.std.proofs.lemmas.Bool.Decides.{nat_tests}
use Rattle.std.specs.HashSet.{HashSet, contains}
use Rattle.tasks.specs.trees.declared.TermId.{TermId}
use Rattle.tasks.specs.trees.Tree.{Tree, Leaf, One, Two, Three, Head, HEnd, HBound, HCell, loose, pat_vars, binders_over}
use Rattle.tasks.specs.trees.declared.Node.{Node}
use Rattle.tasks.specs.trees.declared.Node.TheVariants as node
use Rattle.tasks.specs.trees.Node.{tree_at, head_of_node}
use Rattle.tasks.specs.trees.Sorts.{WellSorted, Fits}
use Rattle.trees.specs.binders.Known.{same_pair}
use Rattle.trees.specs.binders.Depth.{IsDepth, IsUnder}
use Rattle.trees.proofs.binders.Rebuilt.{both_true, deeper}
use Rattle.tasks.specs.Vocabulary.{Vocabulary}
use Rattle.tasks.specs.Typing.{pattern_types, bound_types, TwoTyped}
use Rattle.tasks.proofs.Counts.{pattern_count}
use Rattle.tasks.specs.Open.{VariableHas, VariablesHave, one_has, OpenTyped, PartsAreOpen}
use Rattle.tasks.specs.typed_trees.Variables.{HaveAt, CanHaveAll}
use Rattle.tasks.proofs.typed_trees.Variables.{closed_at, bound_at}
use Rattle.step_reading.specs.quick_steps.Variables.{AreSeen, ToldOfTree}
use Rattle.tasks.proofs.plain_laws.Lists.{got_left as get_left}

-- the greatest depth that the code keeps
abbrev kept : ℕ → ℕ
kept d = min d 18446744073709551615

closed_have : (d : ℕ) (types : List Tree) (e : Tree) → loose e ≤ kept d → VariablesHave d types e
closed_have d [] e l = tt
closed_have d (ty ∷ types) e l = ((closed_at (kept d) ty e l).is d refl, closed_have (d + 1) types e (omega (arith, l)))

-- of a tree that no variable is open in
pub closed_told : (depth : ℕ) (types : List Tree) (e : Tree) → loose e ≤ depth → ToldOfTree depth types e true
closed_told depth types e l = record { is = λ t. record { is = λ d k. closed_have d types e (omega (arith, l, k)) }; can = λ c. refl }

-- of a variable
module _ (i : ℕ) (a e : Tree) (w : WellSorted e) (q : e ≡ One (HBound i) a) where
  small : i < 18446744073709551615
  small = let v : WellSorted (One (HBound i) a) = rw q at w in v.0.1

  leaf_have : (d : ℕ) (types : List Tree) → ((k : ℕ) (ty : Tree) → slice_get types k ≡ Some ty → i ≡ d + k → a ≡ ty) → VariablesHave d types e
  leaf_have d [] f = tt
  leaf_have d (ty ∷ types) f = (
    (bound_at (kept d) i ty a e w q (λ m. f 0 ty refl (omega (arith, m, small)))).is d refl,
    leaf_have (d + 1) types (λ k y h m. f (suc k) y h (omega (arith, m))),
  )

  has_leaf : (d : ℕ) (ty : Tree) → VariableHas d ty e → i ≡ d → a ≡ ty
  has_leaf d ty v m = let u : VariableHas d ty (One (HBound i) a) = rw q at v in u.0 m

  leaf_has : (d k : ℕ) (types : List Tree) (ty : Tree) → VariablesHave d types e → slice_get types k ≡ Some ty → i ≡ d + k → a ≡ ty
  leaf_has d k [] ty v h m = absurd (cc)
  leaf_has d zero (x ∷ types) ty v h m = let s : x ≡ ty = cc in has_leaf d x v.0 (omega (arith, m)) ∙ s
  leaf_has d (suc k) (x ∷ types) ty v h m = leaf_has (d + 1) k types ty v.1 h (omega (arith, m))

  module _ (depth : ℕ) (types : List Tree) (above : depth ≤ i) where
    same_depth : (d : ℕ) → IsDepth depth d → depth ≡ d
    same_depth d k = omega (arith, k, above, small)

    -- by the type that its binder gives it, if it gives one
    pub some_told : (ty : Tree) (r : Bool) → slice_get types (i - depth) ≡ Some ty → IsTrue r ↔ (a ≡ ty) → ToldOfTree depth types e r
    some_told ty r h t = record {
      is = λ y. record {
        is = λ d k. leaf_have d types (λ j z g m.
            let n : i - depth ≡ j = let s = same_depth d k in omega (arith, m, s, above) in
            let o : Some ty ≡ Some z = sym h ∙ ap (slice_get types) n ∙ g in
            t.0 y ∙ cc);
      };
      can = λ c. t.1 (leaf_has c.d (i - depth) types ty c.is h (let s = same_depth c.d c.is_depth in omega (arith, s, above)));
    }

    pub none_told : slice_get types (i - depth) ≡ None → ToldOfTree depth types e true
    none_told h = record {
      is = λ y. record {
        is = λ d k. leaf_have d types (λ j z g m.
            let n : i - depth ≡ j = let s = same_depth d k in omega (arith, m, s, above) in
            let o : None ≡ Some z = sym h ∙ ap (slice_get types) n ∙ g in
            absurd (cc));
      };
      can = λ c. refl;
    }

-- of a tree by its parts
leaf_all : (d : ℕ) (h : Head) (types : List Tree) → VariablesHave d types (Leaf h)
leaf_all d h [] = tt
leaf_all d h (ty ∷ types) = (tt, leaf_all (d + 1) h types)

two_have : (d : ℕ) (h : Head) (a b : Tree) (types : List Tree) → VariablesHave d types a → VariablesHave (d + binders_over h a) types b → VariablesHave d types (Two h a b)
two_have d h a b [] x y = tt
two_have d h a b (ty ∷ types) x y =
    ((x.0, y.0), two_have (d + 1) h a b types x.1 (subst (λ (n : ℕ). VariablesHave n types b) (let q : (d + binders_over h a) + 1 ≡ (d + 1) + binders_over h a = omega arith in q) y.1))

have_two : (d : ℕ) (h : Head) (a b : Tree) (types : List Tree) → VariablesHave d types (Two h a b) → VariablesHave d types a × VariablesHave (d + binders_over h a) types b
have_two d h a b [] v = (tt, tt)
have_two d h a b (ty ∷ types) v =
    let r = have_two (d + 1) h a b types v.1 in
    ((v.0.0, r.0), (v.0.1, subst (λ (n : ℕ). VariablesHave n types b) (let q : (d + 1) + binders_over h a ≡ (d + binders_over h a) + 1 = omega arith in q) r.1))

three_have : (d : ℕ) (h : Head) (a b c : Tree) (types : List Tree) → VariablesHave d types a → VariablesHave d types b → VariablesHave d types c → VariablesHave d types (Three h a b c)
three_have d h a b c [] x y z = tt
three_have d h a b c (ty ∷ types) x y z = ((x.0, y.0, z.0), three_have (d + 1) h a b c types x.1 y.1 z.1)

have_three : (d : ℕ) (h : Head) (a b c : Tree) (types : List Tree) → VariablesHave d types (Three h a b c) → VariablesHave d types a × VariablesHave d types b × VariablesHave d types c
have_three d h a b c [] v = (tt, tt, tt)
have_three d h a b c (ty ∷ types) v = let r = have_three (d + 1) h a b c types v.1 in ((v.0.0, r.0), (v.0.1, r.1), (v.0.2, r.2))

-- an operator that isn't a variable, as that of a node that isn't one
abbrev pub IsNoVariable : Head → Type 0
IsNoVariable (HBound i) = ⊥
IsNoVariable _ = Unit {0}

pub no_variable : (n : Node) → ((i : ℕ) (ty : TermId) → n ≡ node.Bound i ty → ⊥) → IsNoVariable (head_of_node n)
no_variable (node.Bound i ty) f = absurd (f i ty refl)
no_variable _ f = tt

one_free : (h : Head) → IsNoVariable h → (d : ℕ) (ty a : Tree) → one_has d ty h a
one_free (HBound i) n d ty a = absurd n
one_free _ n d ty a = tt

one_have : (d : ℕ) (h : Head) (a : Tree) (types : List Tree) → IsNoVariable h → VariablesHave d types a → VariablesHave d types (One h a)
one_have d h a [] n x = tt
one_have d h a (ty ∷ types) n x = ((one_free h n d ty a, x.0), one_have (d + 1) h a types n x.1)

have_one : (d : ℕ) (h : Head) (a : Tree) (types : List Tree) → VariablesHave d types (One h a) → VariablesHave d types a
have_one d h a [] v = tt
have_one d h a (ty ∷ types) v = (v.0.1, have_one (d + 1) h a types v.1)

module _ (depth : ℕ) (types : List Tree) (e : Tree) (h : Head) where
  pub none_told_at : e ≡ Leaf h → ToldOfTree depth types e true
  none_told_at q = record { is = λ t. record { is = λ d k. rw q (leaf_all d h types) }; can = λ c. refl }

  pub one_told : (a : Tree) (r : Bool) → e ≡ One h a → IsNoVariable h → ToldOfTree depth types a r → ToldOfTree depth types e r
  one_told a r q n x = record {
    is = λ t. record { is = λ d k. rw q (one_have d h a types n ((x.is t).is d k)) };
    can = λ c. x.can (record { d = c.d; is_depth = c.is_depth; is = have_one c.d h a types (rw q at c.is) });
  }

  module _ (a b : Tree) (under : ℕ) (q : e ≡ Two h a b) (u : IsUnder depth under h a) where
    can_two : CanHaveAll depth types e → CanHaveAll depth types a × CanHaveAll under types b
    can_two c =
        let r = have_two c.d h a b types (rw q at c.is) in
        (record { d = c.d; is_depth = c.is_depth; is = r.0 }, record { d = c.d + binders_over h a; is_depth = deeper depth under c.d h a u c.is_depth; is = r.1 })

    pub two_first : ToldOfTree depth types a false → ToldOfTree depth types e false
    two_first x = record { is = λ t. absurd (cc); can = λ c. x.can (can_two c).0 }

    pub two_told : (r : Bool) → ToldOfTree depth types a true → ToldOfTree under types b r → ToldOfTree depth types e r
    two_told r x y = record {
      is = λ t. record { is = λ d k. rw q (two_have d h a b types ((x.is refl).is d k) ((y.is t).is (d + binders_over h a) (deeper depth under d h a u k))) };
      can = λ c. y.can (can_two c).1;
    }

  module _ (a b c : Tree) (q : e ≡ Three h a b c) where
    can_three : CanHaveAll depth types e → CanHaveAll depth types a × CanHaveAll depth types b × CanHaveAll depth types c
    can_three x =
        let r = have_three x.d h a b c types (rw q at x.is) in
        (record { d = x.d; is_depth = x.is_depth; is = r.0 }, record { d = x.d; is_depth = x.is_depth; is = r.1 }, record { d = x.d; is_depth = x.is_depth; is = r.2 })

    pub three_first : ToldOfTree depth types a false → ToldOfTree depth types e false
    three_first x = record { is = λ t. absurd (cc); can = λ k. x.can (can_three k).0 }

    pub three_second : ToldOfTree depth types b false → ToldOfTree depth types e false
    three_second x = record { is = λ t. absurd (cc); can = λ k. x.can (can_three k).1 }

    pub three_told : (r : Bool) → ToldOfTree depth types a true → ToldOfTree depth types b true → ToldOfTree depth types c r → ToldOfTree depth types e r
    three_told r x y z = record {
      is = λ t. record { is = λ d k. rw q (three_have d h a b c types ((x.is refl).is d k) ((y.is refl).is d k) ((z.is t).is d k)) };
      can = λ k. z.can (can_three k).2;
    }

get_right : (xs ys : List Tree) (k : ℕ) → length xs ≤ k → slice_get (xs ++ ys) k ≡ slice_get ys (k - length xs)
get_right [] ys k l = ap (slice_get ys) (let q : k ≡ k - 0 = omega arith in q)
get_right (x ∷ xs) ys zero l = absurd (omega arith)
get_right (x ∷ xs) ys (suc k) l = get_right xs ys k (omega arith) ∙ ap (slice_get ys) (let q : k - length xs ≡ suc k - suc (length xs) = omega arith in q)

module _ (a b p : Tree) (count back : ℕ) (q : p ≡ Two HCell a b) (w : WellSorted p) (n : count ≡ min (pat_vars b) 18446744073709551615) where
  counted : length (pattern_types b) ≡ pat_vars b
  counted = let s : WellSorted (Two HCell a b) = rw q at w in pattern_count b s.2

  pub cell_more : back < count → slice_get (pattern_types p) back ≡ slice_get (pattern_types b) back
  cell_more l = ap (λ z. slice_get (pattern_types z) back) q ∙ get_left (pattern_types b) (pattern_types a) back (omega (arith, counted, n, l))

  pub cell_first : count ≤ back → back < 18446744073709551615 → slice_get (pattern_types p) back ≡ slice_get (pattern_types a) (back - count)
  cell_first l m =
      let k : length (pattern_types b) ≡ count = omega (arith, counted, n, l, m) in
      ap (λ z. slice_get (pattern_types z) back) q ∙ get_right (pattern_types b) (pattern_types a) back (omega (arith, k, l)) ∙ ap (λ z. slice_get (pattern_types a) (back - z)) k

-- of a whole body
pub whole_told : (types : List Tree) (e : Tree) (r : Bool) → ToldOfTree 0 types e r → IsTrue r ↔ VariablesHave 0 types e
whole_told types e r x = (λ t. (x.is t).is 0 refl, λ v. x.can (record { d = 0; is_depth = refl; is = v }))

-- a tree more
pub seen_more : {S : Type 0} → (types : List Tree) (s : List Tree) (m n : HashSet (ℕ × ℕ) S) (e : TermId) (depth : ℕ) → AreSeen types s m → HaveAt depth types (tree_at s e)
    → ((q : ℕ × ℕ) → contains same_pair n q ≡ cond (same_pair (e.0, depth) q) true (contains same_pair m q)) → AreSeen types s n
seen_more types s m n e depth h is up k d found = at (same_pair (e.0, depth) (k, d)) refl (sym (up (k, d)) ∙ found)
  where
    at : (c : Bool) → same_pair (e.0, depth) (k, d) ≡ c → cond c true (contains same_pair m (k, d)) ≡ true → HaveAt d types (get_or s k (Leaf HEnd))
    at true same there =
        let p = both_true (nat_eq e.0 k) (nat_eq depth d) same in
        let number : e.0 ≡ k = grind (arith, nat_tests, p.0) in
        let binders : depth ≡ d = grind (arith, nat_tests, p.1) in
        rw (← number, ← binders) is
    at false same there = h k d there

-- a binder is typed as far as it goes where its parts are, and its variables have their types
module _ (v : Vocabulary) (h : Head) (a b e : Tree) (q : e ≡ Two h a b) (f : Fits e) (p : PartsAreOpen v e) (t : TwoTyped v h a b) where
  pub binder_open : (r : Bool) → IsTrue r ↔ VariablesHave 0 (bound_types h a) b → IsTrue r ↔ OpenTyped v e
  binder_open r k =
      let parts : OpenTyped v a × OpenTyped v b = rw q at p in
      let fits : Fits (Two h a b) = rw q at f in
      (λ x. rw q (fits, (t, k.0 x), parts.0, parts.1), λ o. let w : OpenTyped v (Two h a b) = rw q at o in k.1 w.1.1)
