-- Where the first conditional of a node of a store is, and the node with another child there.
use Rattle.std.proofs.Common.{◌≡◌, ℕ, ◌<◌, List, Option, Some, None, IfSome, subst, refl, sym, ap, ◌∙◌}
use Rattle.trees.specs.declared.TermId.{TermId}
use Rattle.trees.specs.declared.Node.{Node}
use Rattle.trees.specs.declared.Node.TheVariants as node
use Rattle.trees.specs.Tree.{Tree, Two, Three, HCell, HFun, HPred, HEq, HIf}
use Rattle.trees.specs.Node.{tree_at, node_tree, Holds, Grows}
use Rattle.trees.specs.Sorts.{Fits, sort_of}
use Rattle.tr_if.specs.conditionals.Conditionals.{earlier, first_if, one_changed, replace_first}
use Rattle.tr_if.specs.conditionals.Held.{CanPlace, IsMadeInPlace}
use Rattle.tr_if.specs.conditionals.Places.{with_first, HasFirstBelow}
use Rattle.tr_if.proofs.conditionals.Placing.{place_sorts, function_fits, predicate_fits, equation_fits, cell_fits}

-- ---- the place
module _ (s : List Tree) (e : TermId) where
  pub here : (c a b : Tree) → tree_at s e ≡ Three HIf c a b → (x : Tree) → replace_first (tree_at s e) x ≡ x
  here c a b q x = ap (λ (z : Tree). replace_first z x) q

  pub below_function : (f : ℕ) (types args ty : TermId) → tree_at s e ≡ Three (HFun f) (tree_at s types) (tree_at s args) (tree_at s ty) → Fits (tree_at s e) → Holds s args → args.0 < e.0 → HasFirstBelow s e args
  below_function f types args ty q w h l = record {
    held = h;
    below = l;
    first = ap first_if q;
    placed = λ x. ap (λ (z : Tree). replace_first z x) q ∙ ap (λ (z : Tree). with_first z (replace_first (tree_at s args) x)) (sym q);
    fits = λ m k r. subst (λ (z : Tree). Fits (with_first z m)) (sym q) (function_fits f (tree_at s types) (tree_at s args) m (tree_at s ty) k r (subst Fits q w));
  }

  pub below_predicate : (p : ℕ) (types args : TermId) → tree_at s e ≡ Two (HPred p) (tree_at s types) (tree_at s args) → Fits (tree_at s e) → Holds s args → args.0 < e.0 → HasFirstBelow s e args
  below_predicate p types args q w h l = record {
    held = h;
    below = l;
    first = ap first_if q;
    placed = λ x. ap (λ (z : Tree). replace_first z x) q ∙ ap (λ (z : Tree). with_first z (replace_first (tree_at s args) x)) (sym q);
    fits = λ m k r. subst (λ (z : Tree). Fits (with_first z m)) (sym q) (predicate_fits p (tree_at s types) (tree_at s args) m k r (subst Fits q w));
  }

  -- of two children
  module _ (a b : TermId) (w : Fits (tree_at s e)) where
    abbrev A : Tree
    A = tree_at s a

    abbrev B : Tree
    B = tree_at s b

    pub below_left : tree_at s e ≡ Two HEq A B → Holds s a → a.0 < e.0 → (v : Tree) → first_if A ≡ Some v → HasFirstBelow s e a
    below_left q h l v k = record {
      held = h;
      below = l;
      first = ap first_if q ∙ ap (λ (o : Option Tree). earlier o (first_if B)) k ∙ sym k;
      placed = λ x. ap (λ (z : Tree). replace_first z x) q ∙ ap (λ (o : Option Tree). one_changed o HEq A B (replace_first A x) (replace_first B x)) k ∙ ap (λ (o : Option Tree). one_changed o HEq A B (replace_first A x) (replace_first A x)) (sym k)
          ∙ ap (λ (z : Tree). with_first z (replace_first A x)) (sym q);
      fits = λ m t r. subst (λ (z : Tree). Fits (with_first z m)) (sym q) (subst (λ (o : Option Tree). Fits (one_changed o HEq A B m m)) (sym k) (equation_fits A B m B t refl (subst Fits q w)));
    }

    pub below_right : tree_at s e ≡ Two HEq A B → Holds s b → b.0 < e.0 → first_if A ≡ None → HasFirstBelow s e b
    below_right q h l k = record {
      held = h;
      below = l;
      first = ap first_if q ∙ ap (λ (o : Option Tree). earlier o (first_if B)) k;
      placed = λ x. ap (λ (z : Tree). replace_first z x) q ∙ ap (λ (o : Option Tree). one_changed o HEq A B (replace_first A x) (replace_first B x)) k ∙ ap (λ (o : Option Tree). one_changed o HEq A B (replace_first B x) (replace_first B x)) (sym k)
          ∙ ap (λ (z : Tree). with_first z (replace_first B x)) (sym q);
      fits = λ m t r. subst (λ (z : Tree). Fits (with_first z m)) (sym q) (subst (λ (o : Option Tree). Fits (one_changed o HEq A B m m)) (sym k) (equation_fits A B A m refl t (subst Fits q w)));
    }

    pub below_head : tree_at s e ≡ Two HCell A B → Holds s a → a.0 < e.0 → (v : Tree) → first_if A ≡ Some v → HasFirstBelow s e a
    below_head q h l v k = record {
      held = h;
      below = l;
      first = ap first_if q ∙ ap (λ (o : Option Tree). earlier o (first_if B)) k ∙ sym k;
      placed = λ x. ap (λ (z : Tree). replace_first z x) q ∙ ap (λ (o : Option Tree). one_changed o HCell A B (replace_first A x) (replace_first B x)) k ∙ ap (λ (o : Option Tree). one_changed o HCell A B (replace_first A x) (replace_first A x)) (sym k)
          ∙ ap (λ (z : Tree). with_first z (replace_first A x)) (sym q);
      fits = λ m t r. subst (λ (z : Tree). Fits (with_first z m)) (sym q) (subst (λ (o : Option Tree). Fits (one_changed o HCell A B m m)) (sym k) (cell_fits A B m B t refl refl (subst Fits q w)));
    }

    pub below_rest : tree_at s e ≡ Two HCell A B → Holds s b → b.0 < e.0 → first_if A ≡ None → HasFirstBelow s e b
    below_rest q h l k = record {
      held = h;
      below = l;
      first = ap first_if q ∙ ap (λ (o : Option Tree). earlier o (first_if B)) k;
      placed = λ x. ap (λ (z : Tree). replace_first z x) q ∙ ap (λ (o : Option Tree). one_changed o HCell A B (replace_first A x) (replace_first B x)) k ∙ ap (λ (o : Option Tree). one_changed o HCell A B (replace_first B x) (replace_first B x)) (sym k)
          ∙ ap (λ (z : Tree). with_first z (replace_first B x)) (sym q);
      fits = λ m t r. subst (λ (z : Tree). Fits (with_first z m)) (sym q) (subst (λ (o : Option Tree). Fits (one_changed o HCell A B m m)) (sym k) (cell_fits A B A m refl t r (subst Fits q w)));
    }

-- ---- the node with another child there
-- any other node has none
pub others_nowhere : (s : List Tree) (n : Node) → ((a b c : TermId) → n ≡ node.If a b c → ⊥) → ((f : ℕ) (a b c : TermId) → n ≡ node.Fun f a b c → ⊥) → ((p : ℕ) (a b : TermId) → n ≡ node.Pred p a b → ⊥) → ((a b : TermId) → n ≡ node.Eq a b → ⊥) → ((a b : TermId) → n ≡ node.Cell a b → ⊥)
    → (x : Tree) → (replace_first (node_tree s n) x ≡ node_tree s n) × (with_first (node_tree s n) x ≡ node_tree s n)
others_nowhere s (node.If a b c) i f p e l x = absurd (i a b c refl)
others_nowhere s (node.Fun k a b c) i f p e l x = absurd (f k a b c refl)
others_nowhere s (node.Pred k a b) i f p e l x = absurd (p k a b refl)
others_nowhere s (node.Eq a b) i f p e l x = absurd (e a b refl)
others_nowhere s (node.Cell a b) i f p e l x = absurd (l a b refl)
others_nowhere s _ i f p e l x = (refl, refl)

module _ (s : List Tree) (e x : TermId) (can : CanPlace s e x) (child : TermId) (h : HasFirstBelow s e child) where
  pub can_there : CanPlace s child x
  can_there = record { held = h.held; other_held = can.other_held; expression = can.expression; sort = subst (λ (o : Option Tree). IfSome o (λ w. sort_of w ≡ sort_of (tree_at s x))) h.first can.sort }

  module _ (s1 : List Tree) (w : Grows s s1) (made : TermId) (p : IsMadeInPlace (tree_at s child) (tree_at s x) s1 made) (n : Node) (q : node_tree s1 n ≡ with_first (tree_at s1 e) (tree_at s1 made)) where
    made_is : node_tree s1 n ≡ with_first (tree_at s e) (replace_first (tree_at s child) (tree_at s x))
    made_is = q ∙ ap (λ (z : Tree). with_first z (tree_at s1 made)) (w.same e.0 can.held) ∙ ap (with_first (tree_at s e)) p.is

    pub made_fits : Fits (node_tree s1 n)
    made_fits = let k = place_sorts (tree_at s x) can.expression (tree_at s child) can_there.sort in subst Fits (sym made_is) (h.fits (replace_first (tree_at s child) (tree_at s x)) k.sort k.first)

    pub made_placed : node_tree s1 n ≡ replace_first (tree_at s e) (tree_at s x)
    made_placed = made_is ∙ sym (h.placed (tree_at s x))
