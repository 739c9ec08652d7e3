-- What is so of the parts of an open tree is so of its first conditional, and of the tree with a term that it is so of in the place of
-- that.
use Rattle.std.proofs.Common.{◌≡◌, Option, Some, None, subst, ◌∙◌, refl}
use Rattle.tasks.specs.trees.Tree.{Tree, Leaf, One, Two, Three, Head, HCell, HFun, HPred, HEq, HIf}
use Rattle.tr_if.specs.conditionals.Conditionals.{earlier, first_if, one_changed, replace_first}
use Rattle.tr_if.specs.conditionals.lemmas.Cases.{IsByParts}

module _ (Q : Tree → Type 0) (r : IsByParts Q) where
  in_two : (a b w : Tree) (o : Option Tree) → first_if a ≡ o → (first_if a ≡ Some w → Q w) → (first_if b ≡ Some w → Q w) → earlier o (first_if b) ≡ Some w → Q w
  in_two a b w (Some e) m left right q = left (m ∙ q)
  in_two a b w None m left right q = right q

  pub first_has : (e w : Tree) → Q e → first_if e ≡ Some w → Q w
  first_has (Leaf h) w x q = absurd (cc)
  first_has (One h a) w x q = absurd (cc)
  first_has (Two (HPred p) a b) w x q = first_has b w (r.of_two (HPred p) a b x).1 q
  first_has (Two HEq a b) w x q = let m = r.of_two HEq a b x in in_two a b w (first_if a) refl (first_has a w m.0) (first_has b w m.1) q
  first_has (Two HCell a b) w x q = let m = r.of_two HCell a b x in in_two a b w (first_if a) refl (first_has a w m.0) (first_has b w m.1) q
  first_has (Two _ a b) w x q = absurd (cc)
  first_has (Three HIf c a b) w x q = let e : Three HIf c a b ≡ w = cc in subst Q e x
  first_has (Three (HFun f) a b c) w x q = first_has b w (r.of_three (HFun f) a b c x).1.0 q
  first_has (Three _ a b c) w x q = absurd (cc)

  module _ (z : Tree) (qz : Q z) where
    two_replaced : (h : Head) (a b : Tree) (o : Option Tree) → Q a × Q b → Q (replace_first a z) → Q (replace_first b z) → Q (one_changed o h a b (replace_first a z) (replace_first b z))
    two_replaced h a b (Some e) m left right = r.two h (replace_first a z) b left m.1
    two_replaced h a b None m left right = r.two h a (replace_first b z) m.0 right

    pub replaced_has : (e : Tree) → Q e → Q (replace_first e z)
    replaced_has (Leaf h) x = x
    replaced_has (One h a) x = x
    replaced_has (Two (HPred p) a b) x = let m = r.of_two (HPred p) a b x in r.two (HPred p) a (replace_first b z) m.0 (replaced_has b m.1)
    replaced_has (Two HEq a b) x = let m = r.of_two HEq a b x in two_replaced HEq a b (first_if a) m (replaced_has a m.0) (replaced_has b m.1)
    replaced_has (Two HCell a b) x = let m = r.of_two HCell a b x in two_replaced HCell a b (first_if a) m (replaced_has a m.0) (replaced_has b m.1)
    replaced_has (Two h a b) x = x
    replaced_has (Three HIf c a b) x = qz
    replaced_has (Three (HFun f) a b c) x = let m = r.of_three (HFun f) a b c x in r.three (HFun f) a (replace_first b z) c m.0 (replaced_has b m.1.0) m.1.1
    replaced_has (Three h a b c) x = x
