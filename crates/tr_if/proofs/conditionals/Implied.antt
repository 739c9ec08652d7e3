-- Two implications under a condition and its negation, made in a store node by node.
use Rattle.std.proofs.Common.{◌≡◌, List, ap, ◌∙◌}
use Rattle.trees.specs.declared.TermId.{TermId}
use Rattle.trees.specs.declared.Op.{Op}
use Rattle.trees.specs.declared.Op.TheVariants.{And, Imp}
use Rattle.trees.specs.Tree.{Tree, One, Two, HNot, HJoin}
use Rattle.trees.specs.Node.{tree_at, Holds, Grows}
use Rattle.trees.specs.Sorts.{sort_of}
use Rattle.tr_if.specs.conditionals.Conditionals.{implications}
use Rattle.tr_if.specs.conditionals.Held.{IsFormulaNumber}
use Rattle.tr_if.proofs.conditionals.ByFirst.{formula_later}

pub formula_made : (s : List Tree) (e : TermId) (t : Tree) → Holds s e → tree_at s e ≡ One HNot t → IsFormulaNumber s e
formula_made s e t h q = record { held = h; sort = ap sort_of q }

pub joined_made : (s : List Tree) (e : TermId) (op : Op) (t u : Tree) → Holds s e → tree_at s e ≡ Two (HJoin op) t u → IsFormulaNumber s e
joined_made s e op t u h q = record { held = h; sort = ap sort_of q }

module _ (s s1 s2 s3 s4 : List Tree) (w1 : Grows s s1) (w2 : Grows s1 s2) (w3 : Grows s2 s3) (c a b n t e m : TermId) (fc : IsFormulaNumber s c) (fa : IsFormulaNumber s a) (fb : IsFormulaNumber s b) (hn : Holds s1 n) (en : tree_at s1 n ≡ One HNot (tree_at s c)) (ht : Holds s2 t) where
  pub implied_made : tree_at s2 t ≡ Two (HJoin Imp) (tree_at s1 c) (tree_at s1 a) → tree_at s3 e ≡ Two (HJoin Imp) (tree_at s2 n) (tree_at s2 b) → tree_at s4 m ≡ Two (HJoin And) (tree_at s3 t) (tree_at s3 e) → tree_at s4 m ≡ implications (tree_at s c) (tree_at s a) (tree_at s b)
  implied_made et ee em =
      let l : tree_at s3 t ≡ Two (HJoin Imp) (tree_at s c) (tree_at s a) = w3.same t.0 ht ∙ et ∙ cc (w1.same c.0 fc.held, w1.same a.0 fa.held) in
      let nn : tree_at s2 n ≡ One HNot (tree_at s c) = w2.same n.0 hn ∙ en in
      let bb : tree_at s2 b ≡ tree_at s b = w2.same b.0 (formula_later s s1 w1 b fb).held ∙ w1.same b.0 fb.held in
      let r : tree_at s3 e ≡ Two (HJoin Imp) (One HNot (tree_at s c)) (tree_at s b) = ee ∙ cc (nn, bb) in
      em ∙ cc (l, r)
