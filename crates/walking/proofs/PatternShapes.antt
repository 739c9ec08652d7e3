-- Patterns are closed, and images of themselves by a rule that leaves them as they are.
use Rattle.std.proofs.Common.{◌≡◌, ℕ, inl, inr, List, refl, sym, ap, ◌∙◌, arith}
use Rattle.trees.specs.declared.Sort.TheVariants.{Term, Formula, Pattern}
use Rattle.trees.specs.declared.Sort.TheVariants as sort
use Rattle.trees.specs.Tree.{Tree, Leaf, One, Two, Three, HTyVar, HTyRigid, HTyApp, HEnd, HCell, HBound, HParam, HNum, HFun, HPred, HEq, HTrue, HFalse, HNot, HJoin, HForall, HExists, HLet, HIf, HCase, HArm, HPatAny, HPatVar, HPatCon, HPatAlias, head_of, loose}
use Rattle.trees.specs.Binding.{change, instantiating_many}
use Rattle.trees.specs.Sorts.{WellSorted, sort_of, IsExpression}
use Rattle.trees.proofs.Many.{inst_many_closed}
use Rattle.trees.proofs.Types.{AreKinds, expression_yield, one_no_cell, three_no_cell, loose_types, only_types}
use Rattle.tasks.specs.Vocabulary.{Vocabulary}
use Rattle.tasks.specs.Typing.{TypedUnder}
use Rattle.tasks.proofs.Closing.{typed_sorted}
use Rattle.images.specs.Images.{image, IsOtherHead}
use Rattle.images.proofs.Images.{ArePatterns, leaf_no_list, others_type}
use Rattle.congruence.proofs.Lists.{first_term, other_terms}

-- what is so of types and kept by the operators of patterns
pub record IsPatternLaw (P : Tree → Type 0) : Type 0 where
  pub types : (e : Tree) → WellSorted e → AreKinds e → P e
  pub ends : P (Leaf HEnd)
  pub any : (a : Tree) → P a → P (One HPatAny a)
  pub variable : (a : Tree) → P a → P (One HPatVar a)
  pub alias : (a : Tree) → P a → P (One HPatAlias a)
  pub cell : (a b : Tree) → P a → P b → P (Two HCell a b)
  pub con : (n : ℕ) (a b c : Tree) → P a → P b → P c → P (Three (HPatCon n) a b c)

not_one : (e : Tree) → (sort_of e ≡ Pattern → ⊥) × (sort_of e ≡ sort.List → ⊥) → ArePatterns e → ⊥
not_one e n (inl q) = n.0 q
not_one e n (inr l) = n.1 l.0

not_yielded : (e : Tree) → IsExpression (sort_of e) → ArePatterns e → ⊥
not_yielded e (inl t) k = not_one e ((λ q. let z : Term ≡ Pattern = sym t ∙ q in cc), λ q. let z : Term ≡ sort.List = sym t ∙ q in cc) k
not_yielded e (inr t) k = not_one e ((λ q. let z : Formula ≡ Pattern = sym t ∙ q in cc), λ q. let z : Formula ≡ sort.List = sym t ∙ q in cc) k

module _ (v : Vocabulary) (P : Tree → Type 0) (w : IsPatternLaw P) where
  pub by_patterns : (types : List Tree) (e : Tree) → TypedUnder v types e → ArePatterns e → P e
  by_patterns types (Leaf HEnd) x k = w.ends
  by_patterns types (Leaf (HTyVar j)) x k = absurd (not_one (Leaf (HTyVar j)) ((λ q. cc), λ q. cc) k)
  by_patterns types (Leaf (HTyRigid j)) x k = absurd (not_one (Leaf (HTyRigid j)) ((λ q. cc), λ q. cc) k)
  by_patterns types (Leaf (HNum z)) x k = absurd (not_one (Leaf (HNum z)) ((λ q. cc), λ q. cc) k)
  by_patterns types (Leaf HTrue) x k = absurd (not_one (Leaf HTrue) ((λ q. cc), λ q. cc) k)
  by_patterns types (Leaf HFalse) x k = absurd (not_one (Leaf HFalse) ((λ q. cc), λ q. cc) k)
  by_patterns types (Leaf _) x k = absurd x.0
  by_patterns types (One HPatAny a) x k = w.any a (w.types a (typed_sorted v types a x.2) (inl x.0))
  by_patterns types (One HPatVar a) x k = w.variable a (w.types a (typed_sorted v types a x.2) (inl x.0))
  by_patterns types (One HPatAlias a) x k = w.alias a (by_patterns types a x.2 (inl x.0))
  by_patterns types (One (HBound n) a) x k = absurd (not_one (One (HBound n) a) ((λ q. cc), λ q. cc) k)
  by_patterns types (One (HParam n) a) x k = absurd (not_one (One (HParam n) a) ((λ q. cc), λ q. cc) k)
  by_patterns types (One HNot a) x k = absurd (not_one (One HNot a) ((λ q. cc), λ q. cc) k)
  by_patterns types (One (HTyApp n) a) x k = absurd (not_one (One (HTyApp n) a) ((λ q. cc), λ q. cc) k)
  by_patterns types (One _ a) x k = absurd x.0
  by_patterns types (Two HCell a b) x (inl e) = absurd (cc)
  by_patterns types (Two HCell a b) x (inr l) = w.cell a b (by_patterns types a x.2 (inl (first_term Pattern a b l))) (by_patterns types b x.3 (inr (other_terms Pattern a b x.0 l)))
  by_patterns types (Two HLet a b) x k = absurd (not_yielded (Two HLet a b) (expression_yield b x.0.0.1) k)
  by_patterns types (Two HCase a (Two HCell (Two HArm p e) b)) x k = absurd (not_yielded (Two HCase a (Two HCell (Two HArm p e) b)) (expression_yield e x.3.2.0.0.1) k)
  by_patterns types (Two HCase a (Two HCell c b)) x k = absurd x.1.0
  by_patterns types (Two HCase a (Two _ c b)) x k = absurd (let q = x.0.1 in cc)
  by_patterns types (Two HCase a (Leaf h)) x k = absurd (leaf_no_list h x.3.0 x.0.1)
  by_patterns types (Two HCase a (One h b)) x k = absurd (one_no_cell h b x.3.0 x.0.1)
  by_patterns types (Two HCase a (Three h b c d)) x k = absurd (three_no_cell h b c d x.3.0 x.0.1)
  by_patterns types (Two HArm a b) x k = absurd (not_one (Two HArm a b) ((λ q. cc), λ q. cc) k)
  by_patterns types (Two (HPred p) a b) x k = absurd (not_one (Two (HPred p) a b) ((λ q. cc), λ q. cc) k)
  by_patterns types (Two HEq a b) x k = absurd (not_one (Two HEq a b) ((λ q. cc), λ q. cc) k)
  by_patterns types (Two (HJoin op) a b) x k = absurd (not_one (Two (HJoin op) a b) ((λ q. cc), λ q. cc) k)
  by_patterns types (Two HForall a b) x k = absurd (not_one (Two HForall a b) ((λ q. cc), λ q. cc) k)
  by_patterns types (Two HExists a b) x k = absurd (not_one (Two HExists a b) ((λ q. cc), λ q. cc) k)
  by_patterns types (Two _ a b) x k = absurd x.0.0
  by_patterns types (Three (HPatCon n) a b c) x k =
      w.con n a b c (w.types a (typed_sorted v types a x.2) (inr x.0.0)) (by_patterns types b x.3 (inr x.0.1)) (w.types c (typed_sorted v types c x.4) (inl x.0.2))
  by_patterns types (Three (HFun n) a b c) x k = absurd (not_one (Three (HFun n) a b c) ((λ q. cc), λ q. cc) k)
  by_patterns types (Three HIf a b c) x k = absurd (not_yielded (Three HIf a b c) (expression_yield b x.0.1) k)
  by_patterns types (Three _ a b c) x k = absurd x.0

-- ---- a pattern is closed
closed_law : IsPatternLaw (λ e. loose e ≡ 0)
closed_law = record {
  types = λ e w k. loose_types e (only_types e w k);
  ends = refl;
  any = λ a x. x;
  variable = λ a x. x;
  alias = λ a x. x;
  cell = λ a b x y. omega (arith, x, y);
  con = λ n a b c x y z. omega (arith, x, y, z);
}

pub pattern_closed : (v : Vocabulary) (types : List Tree) (p : Tree) → TypedUnder v types p → sort_of p ≡ Pattern → loose p ≡ 0
pattern_closed v types p x s = by_patterns v (λ e. loose e ≡ 0) closed_law types p x (inl s)

pub pattern_same : (v : Vocabulary) (types env : List Tree) (d : ℕ) (p : Tree) → TypedUnder v types p → sort_of p ≡ Pattern → change (instantiating_many env) d p ≡ p
pattern_same v types env d p x s = inst_many_closed env d p (pattern_closed v types p x s)

-- ---- and its own image
module _ (f : Tree → Tree) (others : (e : Tree) → IsOtherHead (head_of e) → f e ≡ e) where
  image_law : IsPatternLaw (λ e. image f e ≡ e)
  image_law = record {
    types = λ e w k. others_type f others e w k;
    ends = others (Leaf HEnd) tt;
    any = λ a x. ap (λ (z : Tree). f (One HPatAny z)) x ∙ others (One HPatAny a) tt;
    variable = λ a x. ap (λ (z : Tree). f (One HPatVar z)) x ∙ others (One HPatVar a) tt;
    alias = λ a x. ap (λ (z : Tree). f (One HPatAlias z)) x ∙ others (One HPatAlias a) tt;
    cell = λ a b x y. ap (λ (z : Tree). f (Two HCell z (image f b))) x ∙ ap (λ (z : Tree). f (Two HCell a z)) y ∙ others (Two HCell a b) tt;
    con = λ n a b c x y z. ap (λ (u : Tree). f (Three (HPatCon n) u (image f b) (image f c))) x ∙ ap (λ (u : Tree). f (Three (HPatCon n) a u (image f c))) y ∙ ap (λ (u : Tree). f (Three (HPatCon n) a b u)) z ∙ others (Three (HPatCon n) a b c) tt;
  }

  pub pattern_image : (v : Vocabulary) (types : List Tree) (p : Tree) → TypedUnder v types p → sort_of p ≡ Pattern → image f p ≡ p
  pattern_image v types p x s = by_patterns v (λ e. image f e ≡ e) image_law types p x (inl s)

  -- a list with a branch first
  pub arms_image : (v : Vocabulary) (types : List Tree) (p a r b s : Tree) → TypedUnder v types p → sort_of p ≡ Pattern → b ≡ image f a → s ≡ image f r → Two HCell (Two HArm p b) s ≡ image f (Two HCell (Two HArm p a) r)
  arms_image v types p a r b s x k q u =
      cc (q, u) ∙ sym (others (Two HCell (Two HArm p (image f a)) (image f r)) tt) ∙ ap (λ (z : Tree). f (Two HCell z (image f r))) (sym (others (Two HArm p (image f a)) tt))
      ∙ ap (λ (z : Tree). f (Two HCell (f (Two HArm z (image f a))) (image f r))) (sym (pattern_image v types p x k))
