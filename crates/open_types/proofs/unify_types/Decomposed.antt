-- Equations that are taken apart.
use Rattle.std.proofs.Common.{◌≡◌, ◌≢◌, ◌<◌, ◌≤◌, ℕ, Bool, true, false, nat_lt, List, refl, sym, ap, ◌∙◌, subst, arith}
use Rattle.trees.specs.declared.TermId.{TermId}
use Rattle.trees.specs.Tree.{Tree, Leaf, One, Two, Three, HTyVar, HTyRigid, HTyApp, HEnd, HCell}
use Rattle.trees.specs.Node.{tree_at, Holds}
use Rattle.open_types.specs.declared.unify_types.Equation.{Equation}
use Rattle.open_types.specs.unify_types.Assigned.{Variable, assign, IsTypeOrTypes, IsType}
use Rattle.open_types.specs.unify_types.Solution.{IsEquation}
use Rattle.open_types.specs.unify_types.Further.{NoUnknown, IsNoApplication, IsNoCell, IsListEquation, IsNeverMet, MeansSame, IsDecomposed}
use Rattle.open_types.proofs.unify_types.Assigning.{assign-rigid}

-- a type that is no unknown and no application stands for itself
constant : (r : ℕ) (f : ℕ → Tree) (t : Tree) → IsType t → NoUnknown r t → IsNoApplication t → assign r f t ≡ t
constant r f (Leaf (HTyVar j)) typed known none = at (nat_lt j r) refl where
  at : (b : Bool) → nat_lt j r ≡ b → assign r f (Variable j) ≡ Variable j
  at true e = let below : j < r = grind arith in assign-rigid r f j below
  at false e = let above : r ≤ j = grind arith in absurd (known j above refl)
constant r f (Leaf (HTyRigid k)) typed known none = refl
constant r f (Leaf _) typed known none = absurd typed
constant r f (One (HTyApp k) a) typed known none = absurd (none k a refl)
constant r f (One _ a) typed known none = absurd typed.0
constant r f (Two h a b) typed known none = absurd typed.0
constant r f (Three h a b c) typed known none = absurd typed

-- a constant is made the same as another type by nothing
never : (r : ℕ) (f : ℕ → Tree) (x y : Tree) → IsType x → IsType y → NoUnknown r x → NoUnknown r y → x ≢ y → IsNoApplication x → assign r f x ≡ assign r f y → ⊥
never r f x (Leaf h) tx ty kx ky differ none e =
    differ (sym (constant r f x tx kx none) ∙ e ∙ constant r f (Leaf h) ty ky (λ k a q. cc))
never r f x (One (HTyApp k) a) tx ty kx ky differ none e = none k (assign r f a) (sym (constant r f x tx kx none) ∙ e)
never r f x (One _ a) tx ty kx ky differ none e = absurd ty.0
never r f x (Two h a b) tx ty kx ky differ none e = absurd ty.0
never r f x (Three h a b c) tx ty kx ky differ none e = absurd ty

module _ (r : ℕ) (s : List Tree) (e : Equation) where
  pub left_constant : IsEquation s e → NoUnknown r (tree_at s e.left) → NoUnknown r (tree_at s e.right) → tree_at s e.left ≢ tree_at s e.right → IsNoApplication (tree_at s e.left) → IsNeverMet r s e
  left_constant p kx ky differ none f m = never r f (tree_at s e.left) (tree_at s e.right) p.left_type p.right_type kx ky differ none m

  pub right_constant : IsEquation s e → NoUnknown r (tree_at s e.left) → NoUnknown r (tree_at s e.right) → tree_at s e.left ≢ tree_at s e.right → IsNoApplication (tree_at s e.right) → IsNeverMet r s e
  right_constant p kx ky differ none f m = never r f (tree_at s e.right) (tree_at s e.left) p.right_type p.left_type ky kx (λ q. differ (sym q)) none (sym m)

  pub other_symbol : (k l : ℕ) (a b : TermId) → tree_at s e.left ≡ One (HTyApp k) (tree_at s a) → tree_at s e.right ≡ One (HTyApp l) (tree_at s b) → k ≢ l → IsNeverMet r s e
  other_symbol k l a b x y differ f m =
      let q : One (HTyApp k) (assign r f (tree_at s a)) ≡ One (HTyApp l) (assign r f (tree_at s b)) = sym (ap (assign r f) x) ∙ m ∙ ap (assign r f) y in
      differ (cc (q))

  arguments_of : (t : Tree) (k : ℕ) (a : Tree) → t ≡ One (HTyApp k) a → IsType t → IsTypeOrTypes false a
  arguments_of t k a is typed = let q : IsType (One (HTyApp k) a) = subst (λ (z : Tree). IsType z) is typed in q.1

  pub same_symbol : (k l : ℕ) (a b : TermId) → IsEquation s e → Holds s a → Holds s b → tree_at s e.left ≡ One (HTyApp k) (tree_at s a) → tree_at s e.right ≡ One (HTyApp l) (tree_at s b) → k ≡ l → IsListEquation s (record { left = a; right = b }) × MeansSame r s e (record { left = a; right = b })
  same_symbol k l a b p ha hb x y same = (
    record { left_held = ha; right_held = hb; left_list = arguments_of (tree_at s e.left) k (tree_at s a) x p.left_type; right_list = arguments_of (tree_at s e.right) l (tree_at s b) y p.right_type },
    λ f. (
      λ m.
          let q : One (HTyApp k) (assign r f (tree_at s a)) ≡ One (HTyApp l) (assign r f (tree_at s b)) = sym (ap (assign r f) x) ∙ m ∙ ap (assign r f) y in
          cc (q),
      λ m.
          let q : One (HTyApp k) (assign r f (tree_at s a)) ≡ One (HTyApp l) (assign r f (tree_at s b)) = cc (same, m) in
          ap (assign r f) x ∙ q ∙ sym (ap (assign r f) y),
    ),
  )

-- ---- lists
never_lists : (r : ℕ) (f : ℕ → Tree) (x y : Tree) → IsTypeOrTypes false x → IsTypeOrTypes false y → x ≢ y → IsNoCell x → assign r f x ≡ assign r f y → ⊥
never_lists r f (Leaf HEnd) (Leaf HEnd) tx ty differ none e = differ refl
never_lists r f (Leaf HEnd) (Two HCell a b) tx ty differ none e = cc
never_lists r f (Leaf HEnd) (Leaf _) tx ty differ none e = absurd ty
never_lists r f (Leaf HEnd) (One h a) tx ty differ none e = absurd ty.0
never_lists r f (Leaf HEnd) (Two _ a b) tx ty differ none e = absurd ty.0
never_lists r f (Leaf HEnd) (Three h a b c) tx ty differ none e = absurd ty
never_lists r f (Leaf _) y tx ty differ none e = absurd tx
never_lists r f (One h a) y tx ty differ none e = absurd tx.0
never_lists r f (Two HCell a b) y tx ty differ none e = absurd (none a b refl)
never_lists r f (Two _ a b) y tx ty differ none e = absurd tx.0
never_lists r f (Three h a b c) y tx ty differ none e = absurd tx

cell_typed : (t a b : Tree) → t ≡ Two HCell a b → IsTypeOrTypes false t → IsType a × IsTypeOrTypes false b
cell_typed t a b is typed = let q : IsTypeOrTypes false (Two HCell a b) = subst (λ (z : Tree). IsTypeOrTypes false z) is typed in (q.1, q.2)

module _ (r : ℕ) (s : List Tree) (e : Equation) where
  pub left_end : IsListEquation s e → tree_at s e.left ≢ tree_at s e.right → IsNoCell (tree_at s e.left) → IsNeverMet r s e
  left_end p differ none f m = never_lists r f (tree_at s e.left) (tree_at s e.right) p.left_list p.right_list differ none m

  pub right_end : IsListEquation s e → tree_at s e.left ≢ tree_at s e.right → IsNoCell (tree_at s e.right) → IsNeverMet r s e
  right_end p differ none f m = never_lists r f (tree_at s e.right) (tree_at s e.left) p.right_list p.left_list (λ q. differ (sym q)) none (sym m)

  pub both_cells : (a b c d : TermId) → IsListEquation s e → Holds s a → Holds s b → Holds s c → Holds s d → tree_at s e.left ≡ Two HCell (tree_at s a) (tree_at s b) → tree_at s e.right ≡ Two HCell (tree_at s c) (tree_at s d)
      → IsDecomposed r s e (record { left = a; right = c }) (record { left = b; right = d })
  both_cells a b c d p ha hb hc hd x y =
      let l = cell_typed (tree_at s e.left) (tree_at s a) (tree_at s b) x p.left_list in
      let m = cell_typed (tree_at s e.right) (tree_at s c) (tree_at s d) y p.right_list in
      record {
        first_types = record { left_held = ha; right_held = hc; left_type = l.0; right_type = m.0 };
        rest_lists = record { left_held = hb; right_held = hd; left_list = l.1; right_list = m.1 };
        both = λ f. (
          λ w.
              let q : Two HCell (assign r f (tree_at s a)) (assign r f (tree_at s b)) ≡ Two HCell (assign r f (tree_at s c)) (assign r f (tree_at s d)) = sym (ap (assign r f) x) ∙ w ∙ ap (assign r f) y in
              (cc (q), cc (q)),
          λ w.
              let q : Two HCell (assign r f (tree_at s a)) (assign r f (tree_at s b)) ≡ Two HCell (assign r f (tree_at s c)) (assign r f (tree_at s d)) = cc (w.0, w.1) in
              ap (assign r f) x ∙ q ∙ sym (ap (assign r f) y),
        );
      }
