-- The laws commute with types.
use Rattle.std.specs.Prelude.{◌≡◌, ℕ, ◌+◌, ◌≤◌, ◌||◌, Bool, true, false, List, [], get_or, refl}
use Rattle.std.proofs.Common.{subst, sym, ap, ◌∙◌, arith}
use Rattle.std.proofs.lemmas.Bool.Decides.{nat_tests}
use Rattle.trees.specs.declared.Op.{Op}
use Rattle.trees.specs.declared.Sort.TheVariants.{Kind, Formula}
use Rattle.trees.specs.Tree.{Tree, Leaf, One, Two, Three, Head, HTyVar, HBound, HParam, HNot, HJoin, HForall, HExists, HIf, binders_over, loose, one_loose}
use Rattle.trees.specs.Binding.{change, typing, one_by, inst, inst_types, TyVar}
use Rattle.trees.specs.Facts.{one_open, is_open}
use Rattle.trees.specs.Sorts.{sort_of}
use Rattle.trees.specs.laws.Changes.{binders_over-change}
use Rattle.trees.proofs.Instances.{typing_any, inst_two}
use Rattle.trees.proofs.Laws.{puts_typing, inst_types_inst}
use Rattle.tasks.specs.Vocabulary.{Vocabulary}
use Rattle.walking.specs.images.typing_laws.HasTyping.{HasTyping, IsTypeAt}
use Rattle.walking.proofs.OneTerm.{expression_sort, at_one, are_types, no_kind}
use Rattle.tr_simplify.specs.declared.laws.TruthValue.{TruthValue}
use Rattle.tr_simplify.specs.declared.laws.TruthValue.TheVariants as side
use Rattle.tr_simplify.specs.declared.laws.LawResult.{LawResult}
use Rattle.tr_simplify.specs.declared.laws.LawResult.TheVariants as outcome
use Rattle.tr_simplify.specs.Laws.{constant, negated_by, law_for, joined_by, if_by, zero_term, quantified_by, simplify_rule}

-- no variable of a closed tree is open
one_closed : (h : Head) (d n : ℕ) → one_loose h n ≤ d → one_open h d ≡ false
one_closed (HBound i) d n l = grind (arith, nat_tests, l)
one_closed _ d n l = refl

one_more : (h : Head) (n : ℕ) → n ≤ one_loose h n
one_more (HBound i) n = omega arith
one_more _ n = omega arith

pub closed_open : (d : ℕ) (e : Tree) → loose e ≤ d → is_open d e ≡ false
closed_open d (Leaf h) l = refl
closed_open d (One h a) l =
    cc (one_closed h d (loose a) l, closed_open d a (omega (arith, one_more h (loose a), l)))
closed_open d (Two h a b) l =
    cc (closed_open d a (omega arith), closed_open (d + binders_over h a) b (omega arith))
closed_open d (Three h a b c) l =
    cc (closed_open d a (omega arith), closed_open d b (omega arith), closed_open d c (omega arith))

module _ (v : Vocabulary) (ys : List Tree)
    (each : (j : ℕ) → IsTypeAt v (get_or ys j (TyVar j))) where
  constant_at : (a : Tree) → sort_of a ≡ Formula → constant (inst_types a ys) ≡ constant a
  constant_at (Leaf (HTyVar j)) s = absurd (cc)
  constant_at (Leaf _) s = refl
  constant_at (One h a) s = ap constant (at_one v ys each h a)
  constant_at (Two h a b) s = refl
  constant_at (Three h a b c) s = refl

  -- ---- which variables are open
  leaf_open : (d : ℕ) (h : Head) → is_open d (inst_types (Leaf h) ys) ≡ false
  leaf_open d (HTyVar j) = closed_open d (get_or ys j (TyVar j))
      (let l = (are_types v ys each).closed j in omega (arith, l))
  leaf_open d _ = refl

  open_at : (d : ℕ) (e : Tree) → is_open d (inst_types e ys) ≡ is_open d e
  open_at d (Leaf h) = leaf_open d h
  open_at d (One h a) =
      ap (is_open d) (at_one v ys each h a) ∙ ap (λ (u : Bool). one_open h d || u) (open_at d a)
  open_at d (Two h a b) =
      let n : binders_over h (inst_types a ys) ≡ binders_over h a =
      binders_over-change (typing ys) (puts_typing ys (are_types v ys each)) 0 h a in
      ap (is_open d) (inst_two ys h a b)
      ∙ ap (λ (u : Bool). u || is_open (d + binders_over h (inst_types a ys)) (inst_types b ys))
      (open_at d a)
      ∙ ap (λ (m : ℕ). is_open d a || is_open (d + m) (inst_types b ys)) n
      ∙ ap (λ (u : Bool). is_open d a || u) (open_at (d + binders_over h a) b)
  open_at d (Three h a b c) = cc (open_at d a, open_at d b, open_at d c)

  -- ---- each law
  negated_at : (k : TruthValue) (a : Tree)
      → negated_by k (inst_types a ys) ≡ inst_types (negated_by k a) ys
  negated_at side.True a = refl
  negated_at side.False a = refl
  negated_at side.Other a = refl

  joined_at : (o : LawResult) (op : Op) (k l : TruthValue) (a b : Tree)
      → joined_by o op k l (inst_types a ys) (inst_types b ys)
      ≡ inst_types (joined_by o op k l a b) ys
  joined_at outcome.Stays op k l a b = sym (inst_two ys (HJoin op) a b)
  joined_at outcome.First op k l a b = refl
  joined_at outcome.Second op k l a b = refl
  joined_at outcome.True op k l a b = refl
  joined_at outcome.False op k l a b = refl
  joined_at outcome.NotFirst op k l a b = negated_at k a
  joined_at outcome.NotSecond op k l a b = negated_at l b

  if_at : (k : TruthValue) (c a b : Tree)
      → if_by k (inst_types c ys) (inst_types a ys) (inst_types b ys)
      ≡ inst_types (if_by k c a b) ys
  if_at side.True c a b = refl
  if_at side.False c a b = refl
  if_at side.Other c a b = refl

  quantified_at : (u : Bool) (h : Head) (ty b : Tree)
      → quantified_by u h (inst_types ty ys) (inst_types b ys)
      ≡ inst_types (quantified_by u h ty b) ys
  quantified_at true h ty b = sym (inst_two ys h ty b)
  quantified_at false h ty b = sym (inst_types_inst b zero_term ys (are_types v ys each) refl)

  -- a type is left as it is
  kind_stays : (e : Tree) → HasTyping v [] e → sort_of e ≡ Kind → simplify_rule e ≡ e
  kind_stays (One HNot a) x q = absurd (cc)
  kind_stays (Two (HJoin op) a b) x q = absurd (cc)
  kind_stays (Two HForall a b) x q = absurd (cc)
  kind_stays (Two HExists a b) x q = absurd (cc)
  kind_stays (Three HIf a b c) x q =
      absurd (no_kind (sort_of b) x.0.1 (sym (expression_sort b x.0.1) ∙ q))
  kind_stays _ x q = refl

  pub simplify_at_types : (types : List Tree) (e : Tree) → HasTyping v types e
      → simplify_rule (inst_types e ys) ≡ inst_types (simplify_rule e) ys
  simplify_at_types types (Leaf (HTyVar j)) x =
      kind_stays (get_or ys j (TyVar j)) (each j).1 (each j).0
  simplify_at_types types (Leaf _) x = refl
  simplify_at_types types (One HNot a) x =
      ap (λ (k : TruthValue). negated_by k (inst_types a ys)) (constant_at a x.0)
      ∙ negated_at (constant a) a
  simplify_at_types types (One (HBound i) a) x = refl
  simplify_at_types types (One (HParam n) a) x = refl
  simplify_at_types types (One _ a) x = refl
  simplify_at_types types (Two (HJoin op) a b) x =
      let p = constant_at a x.0.0.0 in
      let q = constant_at b x.0.0.1 in
      ap simplify_rule (inst_two ys (HJoin op) a b)
      ∙ ap (λ (k : TruthValue).
      joined_by (law_for op k (constant (inst_types b ys))) op k (constant (inst_types b ys))
      (inst_types a ys) (inst_types b ys)) p
      ∙ ap (λ (l : TruthValue).
      joined_by (law_for op (constant a) l) op (constant a) l (inst_types a ys)
      (inst_types b ys)) q
      ∙ joined_at (law_for op (constant a) (constant b)) op (constant a) (constant b) a b
  simplify_at_types types (Two HForall ty b) x =
      ap simplify_rule (inst_two ys HForall ty b)
      ∙ ap (λ (u : Bool). quantified_by u HForall (inst_types ty ys) (inst_types b ys))
      (open_at 0 b) ∙ quantified_at (is_open 0 b) HForall ty b
  simplify_at_types types (Two HExists ty b) x =
      ap simplify_rule (inst_two ys HExists ty b)
      ∙ ap (λ (u : Bool). quantified_by u HExists (inst_types ty ys) (inst_types b ys))
      (open_at 0 b) ∙ quantified_at (is_open 0 b) HExists ty b
  simplify_at_types types (Two _ a b) x = refl
  simplify_at_types types (Three HIf c a b) x =
      ap (λ (k : TruthValue). if_by k (inst_types c ys) (inst_types a ys) (inst_types b ys))
      (constant_at c x.0.0) ∙ if_at (constant c) c a b
  simplify_at_types types (Three _ a b c) x = refl
