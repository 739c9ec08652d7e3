-- Types that stand for others under the bindings.
use Rattle.std.proofs.Common.{◌≡◌, ◌<◌, ◌≤◌, ◌↔◌, ℕ, Bool, true, false, cond, nat_eq, List, length, get_or, Option, Some, None, MatchOption, refl, sym, ap, ◌∙◌, subst, arith}
use Rattle.std.specs.HashMap.{HashMap, get}
use Rattle.trees.specs.declared.TermId.{TermId}
use Rattle.trees.specs.Tree.{Tree, Leaf, HEnd}
use Rattle.trees.specs.Node.{tree_at, Holds, Grows}
use Rattle.open_types.specs.declared.unify_types.bindings.Bound.{Bound}
use Rattle.open_types.specs.declared.unify_types.Equation.{Equation}
use Rattle.open_types.specs.unify_types.Assigned.{Variable, assign, IsType, MeetsEquation}
use Rattle.open_types.specs.unify_types.Bound.{Binding, IsTriangular, Agrees, type_bound, bound_over, BindingsHeld}
use Rattle.open_types.specs.unify_types.Solution.{IsEquation}
use Rattle.open_types.specs.unify_types.Further.{IsUnbound, StandsFor, AreMerged, Unifies}
use Rattle.open_types.proofs.unify_types.Assigning.{assign-unknown}
use Rattle.open_types.proofs.unify_types.Resolved.{tree_grown, held_grown, bound_held, bound_type, bound_unknown, agrees_at, some_is}
use Rattle.open_types.proofs.unify_types.Unified.{meets_grown}

pub stands_itself : (r : ℕ) (bs : List Binding) (s : List Tree) (id : TermId) → Holds s id → IsType (tree_at s id) → StandsFor r bs s (tree_at s id) id
stands_itself r bs s id held typed = record { held = held; typed = typed; same = λ f h. refl }

pub stands_on : (r : ℕ) (bs : List Binding) (s : List Tree) (t : Tree) (id next : TermId) → StandsFor r bs s t id → StandsFor r bs s (tree_at s id) next → StandsFor r bs s t next
stands_on r bs s t id next p q = record { held = q.held; typed = q.typed; same = λ f h. p.same f h ∙ q.same f h }

-- what a variable is bound to stands for it
pub bound_stands : (r : ℕ) (s : List Tree) (bs : List Bound) (t : Tree) (j : ℕ) (o : Option TermId) → BindingsHeld s bs → IsTriangular r (bound_over s bs) → t ≡ Variable j → o ≡ type_bound j bs → MatchOption o (IsUnbound bs t) (StandsFor r (bound_over s bs) s t)
bound_stands r s bs t j None bound triangular is so = λ u q.
    let same : j ≡ u = cc (is, q) in
    ap (λ (n : ℕ). type_bound n bs) (sym same) ∙ sym so
bound_stands r s bs t j (Some ty) bound triangular is so = record {
  held = bound_held s j ty bs bound (sym so);
  typed = bound_type r s j ty bs triangular (sym so);
  same = λ f h. ap (assign r f) is ∙ assign-unknown r f j (bound_unknown r s j ty bs triangular (sym so)) ∙ agrees_at r f s j ty bs h (sym so);
}

module _ {S : Type 0} where
  -- what another type was merged with stands for it
  pub merged_stands : (r : ℕ) (s : List Tree) (bs : List Bound) (m : HashMap ℕ TermId S) (id : TermId) (o : Option TermId) → AreMerged r (bound_over s bs) s m → ((u : ℕ) → tree_at s id ≡ Variable u → ⊥) → o ≡ get nat_eq m id.0 → MatchOption o (IsUnbound bs (tree_at s id)) (StandsFor r (bound_over s bs) s (tree_at s id))
  merged_stands r s bs m id None merged other so = λ u q. absurd (other u q)
  merged_stands r s bs m id (Some ty) merged other so = (merged id.0 ty (sym so)).1

  -- later bindings keep what was merged
  pub merged_later : (r : ℕ) (s : List Tree) (bs : List Bound) (e : Equation) (s' : List Tree) (bs' : List Bound) (m : HashMap ℕ TermId S) → Unifies r s bs e s' bs' → AreMerged r (bound_over s bs) s m → AreMerged r (bound_over s' bs') s' m
  merged_later r s bs e s' bs' m u merged k v found =
      let p = merged k v found in
      let grown : k < length s = p.0 in
      let longer : length s ≤ length s' = u.narrows.grows.longer in (
        omega arith,
        record {
          held = held_grown s s' v u.narrows.grows p.1.held;
          typed = subst (λ (t : Tree). IsType t) (sym (tree_grown s s' v u.narrows.grows p.1.held)) p.1.typed;
          same = λ f h. ap (assign r f) (u.narrows.grows.same k p.0) ∙ p.1.same f (u.narrows.back f h) ∙ sym (ap (assign r f) (tree_grown s s' v u.narrows.grows p.1.held));
        },
      )

  -- both sides of a solved equation are merged
  pub merged_insert : (r : ℕ) (s : List Tree) (bs : List Bound) (e : Equation) (s' : List Tree) (bs' : List Bound) (old new : HashMap ℕ TermId S) → IsEquation s e → Unifies r s bs e s' bs' → AreMerged r (bound_over s' bs') s' old
      → ((q : ℕ) → get nat_eq new q ≡ cond (nat_eq e.left.0 q) (Some e.right) (get nat_eq old q)) → AreMerged r (bound_over s' bs') s' new
  merged_insert r s bs e s' bs' old new p u merged updates k v found = at (nat_eq e.left.0 k) refl (sym (updates k) ∙ found) where
    grows : Grows s s'
    grows = u.narrows.grows

    stands : StandsFor r (bound_over s' bs') s' (tree_at s' e.left) e.right
    stands = record {
      held = held_grown s s' e.right grows p.right_held;
      typed = subst (λ (t : Tree). IsType t) (sym (tree_grown s s' e.right grows p.right_held)) p.right_type;
      same = λ f h. meets_grown r f s s' e grows p.left_held p.right_held (u.solved f h);
    }

    at : (c : Bool) → nat_eq e.left.0 k ≡ c → cond c (Some e.right) (get nat_eq old k) ≡ Some v → (k < length s') × StandsFor r (bound_over s' bs') s' (get_or s' k (Leaf HEnd)) v
    at true same there =
        let number : e.left.0 ≡ k = grind arith in
        let value : e.right ≡ v = some_is e.right v there in (
          subst (λ (n : ℕ). n < length s') number (held_grown s s' e.left grows p.left_held),
          subst (λ (n : ℕ). StandsFor r (bound_over s' bs') s' (get_or s' n (Leaf HEnd)) v) number (subst (λ (x : TermId). StandsFor r (bound_over s' bs') s' (tree_at s' e.left) x) value stands),
        )
    at false same there = merged k v there

-- an equation and that of what stands for its sides
pub roots_meet : (r : ℕ) (s : List Tree) (bs : List Binding) (e : Equation) (left right : TermId) → StandsFor r bs s (tree_at s e.left) left → StandsFor r bs s (tree_at s e.right) right
    → (f : ℕ → Tree) → Agrees r f bs → MeetsEquation r f s e ↔ MeetsEquation r f s (record { left = left; right = right })
roots_meet r s bs e left right p q f h = (λ m. sym (p.same f h) ∙ m ∙ q.same f h, λ m. p.same f h ∙ m ∙ sym (q.same f h))

-- an equation and the same the other way round
pub turned_meets : (r : ℕ) (s : List Tree) (e : Equation) (f : ℕ → Tree) → MeetsEquation r f s e ↔ MeetsEquation r f s (record { left = e.right; right = e.left })
turned_meets r s e f = (λ m. sym m, λ m. sym m)
