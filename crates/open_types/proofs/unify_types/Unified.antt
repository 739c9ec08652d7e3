-- What a further binding does, and the steps of solving an equation.
use Rattle.std.proofs.Common.{◌≡◌, ◌≤◌, ◌↔◌, ℕ, Bool, true, false, nat_eq, ◌||◌, ◌⊎◌, inl, inr, List, ◌∷◌, Some, None, sym, refl, ap, ◌∙◌, subst, arith}
use Rattle.trees.proofs.Nodes.{Grows_refl, Grows_trans}
use Rattle.trees.specs.declared.TermId.{TermId}
use Rattle.trees.specs.Tree.{Tree, Leaf, One, Two, Three, HTyVar}
use Rattle.trees.specs.Node.{tree_at, Holds, Grows}
use Rattle.open_types.specs.declared.unify_types.bindings.Bound.{Bound}
use Rattle.open_types.specs.declared.unify_types.Equation.{Equation}
use Rattle.open_types.specs.unify_types.Assigned.{Variable, assign, Has, IsTypeOrTypes, IsType, MeetsEquation}
use Rattle.open_types.specs.unify_types.Bound.{Binding, resolve, IsTriangular, Agrees, type_bound, bound_over, BindingsHeld, has_sought}
use Rattle.open_types.specs.unify_types.Solution.{IsEquation}
use Rattle.open_types.specs.unify_types.Further.{IsListEquation, IsDecomposed, Narrows, Unifies, Fails}
use Rattle.open_types.proofs.unify_types.Assigning.{assign-unknown, assign-resolve, resolve-twice, resolve-types, typed-assign, occurs_fails}
use Rattle.open_types.proofs.unify_types.Resolved.{tree_grown, held_grown, over_grown, are_held_grown, resolve-free}
use Rattle.std.proofs.lemmas.Bool.{or_parts as or_false}

pub or_true : (a b : Bool) → (a || b) ≡ true → (a ≡ true) ⊎ (b ≡ true)
or_true true b e = inl refl
or_true false b e = inr e

pub has_sought-false : (r u : ℕ) (t : Tree) → has_sought r (Some u) t ≡ false → Has u t → ⊥
has_sought-false r u (Leaf (HTyVar j)) e h = let same : nat_eq u u ≡ true = grind arith in let at : nat_eq u u ≡ false = ap (nat_eq u) (sym h) ∙ e in cc
has_sought-false r u (Leaf h') e h = absurd h
has_sought-false r u (One h' a) e h = has_sought-false r u a e h
has_sought-false r u (Two h' a b) e (inl h) = has_sought-false r u a (or_false (has_sought r (Some u) a) (has_sought r (Some u) b) e).0 h
has_sought-false r u (Two h' a b) e (inr h) = has_sought-false r u b (or_false (has_sought r (Some u) a) (has_sought r (Some u) b) e).1 h
has_sought-false r u (Three h' a b c) e (inl h) = has_sought-false r u a (or_false (has_sought r (Some u) a) (has_sought r (Some u) b || has_sought r (Some u) c) e).0 h
has_sought-false r u (Three h' a b c) e (inr (inl h)) = has_sought-false r u b (or_false (has_sought r (Some u) b) (has_sought r (Some u) c) (or_false (has_sought r (Some u) a) (has_sought r (Some u) b || has_sought r (Some u) c) e).1).0 h
has_sought-false r u (Three h' a b c) e (inr (inr h)) = has_sought-false r u c (or_false (has_sought r (Some u) b) (has_sought r (Some u) c) (or_false (has_sought r (Some u) a) (has_sought r (Some u) b || has_sought r (Some u) c) e).1).1 h

pub either : {A B C : Type 0} → (A → C) → (B → C) → A ⊎ B → C
either f g (inl a) = f a
either f g (inr b) = g b

pub has_sought-true : (r u : ℕ) (t : Tree) → has_sought r (Some u) t ≡ true → Has u t
has_sought-true r u (Leaf (HTyVar j)) e = let same : u ≡ j = grind arith in sym same
has_sought-true r u (Leaf h') e = cc
has_sought-true r u (One h' a) e = has_sought-true r u a e
has_sought-true r u (Two h' a b) e = either (λ p. inl (has_sought-true r u a p)) (λ p. inr (has_sought-true r u b p)) (or_true (has_sought r (Some u) a) (has_sought r (Some u) b) e)
has_sought-true r u (Three h' a b c) e =
    either (λ p. inl (has_sought-true r u a p)) (λ p. inr (either (λ q. inl (has_sought-true r u b q)) (λ q. inr (has_sought-true r u c q)) (or_true (has_sought r (Some u) b) (has_sought r (Some u) c) p)))
    (or_true (has_sought r (Some u) a) (has_sought r (Some u) b || has_sought r (Some u) c) e)

pub narrows_first : (r : ℕ) (s : List Tree) (bs : List Bound) (e : Equation) → BindingsHeld s bs → IsTriangular r (bound_over s bs) → Narrows r s bs e s bs
narrows_first r s bs e bound triangular = record {
  grows = Grows_refl s;
  bound = bound;
  triangular = triangular;
  forth = λ f h m. h;
  back = λ f h. h;
}

pub narrows_grown : (r : ℕ) (s : List Tree) (bs : List Bound) (e : Equation) (s' s'' : List Tree) (bs' : List Bound) → Narrows r s bs e s' bs' → Grows s' s'' → Narrows r s bs e s'' bs'
narrows_grown r s bs e s' s'' bs' n g =
    let same : bound_over s'' bs' ≡ bound_over s' bs' = over_grown s' s'' bs' g n.bound in
    record {
      grows = Grows_trans s s' s'' n.grows g;
      bound = are_held_grown s' s'' bs' g n.bound;
      triangular = subst (λ (l : List Binding). IsTriangular r l) (sym same) n.triangular;
      forth = λ f h m. subst (λ (l : List Binding). Agrees r f l) (sym same) (n.forth f h m);
      back = λ f h. n.back f (subst (λ (l : List Binding). Agrees r f l) same h);
    }

side_agrees : (r : ℕ) (f : ℕ → Tree) (bs : List Binding) (x made : Tree) → Agrees r f bs → made ≡ assign r (resolve r bs) x → assign r f made ≡ assign r f x
side_agrees r f bs x made h e = ap (assign r f) e ∙ assign-resolve r f bs h x

-- a side under the bindings is a type, and the bindings leave it
pub side_type : (r : ℕ) (bs : List Binding) (x made : Tree) → IsTriangular r bs → IsType x → made ≡ assign r (resolve r bs) x → IsType made
side_type r bs x made h typed e = subst (λ (t : Tree). IsType t) (sym e) (typed-assign true r (resolve r bs) (resolve-types r bs h) x typed)

pub side_left : (r : ℕ) (bs bs' : List Binding) (x made : Tree) → IsTriangular r bs → bs' ≡ bs → made ≡ assign r (resolve r bs) x → assign r (resolve r bs') made ≡ made
side_left r bs bs' x made h same e =
    ap (λ (l : List Binding). assign r (resolve r l) made) same ∙ ap (assign r (resolve r bs)) e ∙ resolve-twice r bs h x ∙ sym e

-- an equation means the same over the grown store
pub meets_grown : (r : ℕ) (f : ℕ → Tree) (s s' : List Tree) (e : Equation) → Grows s s' → Holds s e.left → Holds s e.right → MeetsEquation r f s e → MeetsEquation r f s' e
meets_grown r f s s' e g hl hr m = ap (assign r f) (tree_grown s s' e.left g hl) ∙ m ∙ sym (ap (assign r f) (tree_grown s s' e.right g hr))

pub meets_before : (r : ℕ) (f : ℕ → Tree) (s s' : List Tree) (e : Equation) → Grows s s' → Holds s e.left → Holds s e.right → MeetsEquation r f s' e → MeetsEquation r f s e
meets_before r f s s' e g hl hr m = sym (ap (assign r f) (tree_grown s s' e.left g hl)) ∙ m ∙ ap (assign r f) (tree_grown s s' e.right g hr)

-- ---- an unknown without a binding is eliminated; x is the right side under the bindings
module _ (r : ℕ) (s : List Tree) (bs : List Bound) (u : ℕ) (e : Equation) (s' : List Tree) (ty : TermId) (equation : IsEquation s e) (above : r ≤ u) (is : tree_at s e.left ≡ Variable u)
    (unbound : type_bound u bs ≡ None) (bound : BindingsHeld s bs) (triangular : IsTriangular r (bound_over s bs)) (g : Grows s s') (held : Holds s' ty) (built : tree_at s' ty ≡ assign r (resolve r (bound_over s bs)) (tree_at s e.right)) where
  over : bound_over s' bs ≡ bound_over s bs
  over = over_grown s s' bs g bound

  start : Narrows r s bs e s' bs
  start = narrows_grown r s bs e s s' bs (narrows_first r s bs e bound triangular) g

  right_same : (f : ℕ → Tree) → Agrees r f (bound_over s bs) → assign r f (tree_at s' ty) ≡ assign r f (tree_at s e.right)
  right_same f h = side_agrees r f (bound_over s bs) (tree_at s e.right) (tree_at s' ty) h built

  left_same : (f : ℕ → Tree) → assign r f (tree_at s e.left) ≡ f u
  left_same f = ap (assign r f) is ∙ assign-unknown r f u above

  pub eliminated_same : tree_at s' e.left ≡ tree_at s' ty → Unifies r s bs e s' bs
  eliminated_same same = record {
    narrows = start;
    solved = λ f h. ap (assign r f) (sym (tree_grown s s' e.left g equation.left_held) ∙ same) ∙ right_same f (subst (λ (l : List Binding). Agrees r f l) over h);
  }

  pub eliminated_fails : (tree_at s' e.left ≡ tree_at s' ty → ⊥) → has_sought r (Some u) (tree_at s' ty) ≡ true → Fails r s bs e
  eliminated_fails differ present f h m =
      occurs_fails r f u (tree_at s' ty) above (has_sought-true r u (tree_at s' ty) present) (λ q. differ (tree_grown s s' e.left g equation.left_held ∙ is ∙ sym q))
      (sym (left_same f) ∙ m ∙ sym (right_same f h))

  pub eliminated_bound : (bs' : List Bound) → has_sought r (Some u) (tree_at s' ty) ≡ false → bs' ≡ record { unknown = u; ty = ty } ∷ bs → Unifies r s bs e s' bs'
  eliminated_bound bs' absent so = subst (λ (l : List Bound). Unifies r s bs e s' l) (sym so) (record {
    narrows = record {
      grows = g;
      bound = (held, start.bound);
      triangular = (
        above,
        resolve-free r s' u bs unbound,
        has_sought-false r u (tree_at s' ty) absent,
        side_left r (bound_over s bs) (bound_over s' bs) (tree_at s e.right) (tree_at s' ty) triangular over built,
        side_type r (bound_over s bs) (tree_at s e.right) (tree_at s' ty) triangular equation.right_type built,
        start.triangular,
      );
      forth = λ f h m. (sym (left_same f) ∙ m ∙ sym (right_same f h), start.forth f h m);
      back = λ f h. start.back f h.1;
    };
    solved = λ f h. left_same f ∙ h.0 ∙ right_same f (start.back f h.1);
  })

-- ---- an equation that means the same under the bindings
pub unifies_as : (r : ℕ) (s : List Tree) (bs : List Bound) (e e' : Equation) (s' : List Tree) (bs' : List Bound) → ((f : ℕ → Tree) → Agrees r f (bound_over s bs) → MeetsEquation r f s e ↔ MeetsEquation r f s e') → Unifies r s bs e' s' bs' → Unifies r s bs e s' bs'
unifies_as r s bs e e' s' bs' so u = record {
  narrows = record {
    grows = u.narrows.grows;
    bound = u.narrows.bound;
    triangular = u.narrows.triangular;
    forth = λ f h m. u.narrows.forth f h ((so f h).0 m);
    back = u.narrows.back;
  };
  solved = λ f h. (so f (u.narrows.back f h)).1 (u.solved f h);
}

pub fails_as : (r : ℕ) (s : List Tree) (bs : List Bound) (e e' : Equation) → ((f : ℕ → Tree) → Agrees r f (bound_over s bs) → MeetsEquation r f s e ↔ MeetsEquation r f s e') → Fails r s bs e' → Fails r s bs e
fails_as r s bs e e' so fails f h m = fails f h ((so f h).0 m)

-- both sides are the same
pub unifies_same : (r : ℕ) (s : List Tree) (bs : List Bound) (e : Equation) → BindingsHeld s bs → IsTriangular r (bound_over s bs) → tree_at s e.left ≡ tree_at s e.right → Unifies r s bs e s bs
unifies_same r s bs e bound triangular same = record {
  narrows = narrows_first r s bs e bound triangular;
  solved = λ f h. ap (assign r f) same;
}

-- ---- the first members of two lists, and then the rest
pub list_grown : (s s' : List Tree) (e : Equation) → Grows s s' → IsListEquation s e → IsListEquation s' e
list_grown s s' e g p = record {
  left_held = held_grown s s' e.left g p.left_held;
  right_held = held_grown s s' e.right g p.right_held;
  left_list = subst (λ (t : Tree). IsTypeOrTypes false t) (sym (tree_grown s s' e.left g p.left_held)) p.left_list;
  right_list = subst (λ (t : Tree). IsTypeOrTypes false t) (sym (tree_grown s s' e.right g p.right_held)) p.right_list;
}

pub fails_first : (r : ℕ) (s : List Tree) (bs : List Bound) (e first rest : Equation) → IsDecomposed r s e first rest → Fails r s bs first → Fails r s bs e
fails_first r s bs e first rest p fails f h m = fails f h ((p.both f).0 m).0

module _ (r : ℕ) (s : List Tree) (bs : List Bound) (e first rest : Equation) (s1 : List Tree) (bs1 : List Bound) (p : IsDecomposed r s e first rest) (u : Unifies r s bs first s1 bs1) where
  pub fails_rest : Fails r s1 bs1 rest → Fails r s bs e
  fails_rest fails f h m =
      let q = (p.both f).0 m in
      fails f (u.narrows.forth f h q.0) (meets_grown r f s s1 rest u.narrows.grows p.rest_lists.left_held p.rest_lists.right_held q.1)

  pub unifies_rest : (s2 : List Tree) (bs2 : List Bound) → Unifies r s1 bs1 rest s2 bs2 → Unifies r s bs e s2 bs2
  unifies_rest s2 bs2 v = record {
    narrows = record {
      grows = Grows_trans s s1 s2 u.narrows.grows v.narrows.grows;
      bound = v.narrows.bound;
      triangular = v.narrows.triangular;
      forth = λ f h m.
          let q = (p.both f).0 m in
          v.narrows.forth f (u.narrows.forth f h q.0) (meets_grown r f s s1 rest u.narrows.grows p.rest_lists.left_held p.rest_lists.right_held q.1);
      back = λ f h. u.narrows.back f (v.narrows.back f h);
    };
    solved = λ f h. (p.both f).1 (u.solved f (v.narrows.back f h), meets_before r f s s1 rest u.narrows.grows p.rest_lists.left_held p.rest_lists.right_held (v.solved f h));
  }
