-- The laws commute with closed terms put in for open variables.
use Rattle.std.proofs.Common.{◌≡◌, ℕ, ◌+◌, ◌-◌, ◌<◌, ◌≤◌, ◌==◌, ◌||◌, ◌⊎◌, inl, inr, Bool, true, false, List, [], ◌++◌, length, get_or, refl, sym, ap, subst, ◌∙◌, arith}
use Rattle.std.proofs.lemmas.Bool.Decides.{nat_tests}
use Rattle.trees.specs.declared.Op.{Op}
use Rattle.trees.specs.declared.Sort.TheVariants.{Formula}
use Rattle.trees.specs.Tree.{Tree, Leaf, One, Two, Three, Head, HTyVar, HBound, HParam, HNot, HJoin, HForall, HExists, HIf, binders_over, loose}
use Rattle.trees.specs.Binding.{change, one_by, shift, inst, instantiating_many, inst_many, AreClosed}
use Rattle.trees.specs.Facts.{one_open, is_open}
use Rattle.trees.specs.Sorts.{sort_of}
use Rattle.trees.specs.laws.Changes.{binders_over-change}
use Rattle.trees.proofs.Laws.{shift_closed}
use Rattle.trees.proofs.Many.{many_below, many_at, many_above, cases_many, closed_terms, closed_at, puts_many}
use Rattle.trees.proofs.Types.{loose_types}
use Rattle.tasks.specs.Vocabulary.{Vocabulary}
use Rattle.tasks.specs.Typing.{bound_types}
use Rattle.walking.specs.images.typing_laws.HasTyping.{HasTyping}
use Rattle.walking.proofs.OneTerm.{has_sorts, kinds_only}
use Rattle.walking.proofs.images.OpenInstances.{lowered}
use Rattle.tr_simplify.specs.declared.laws.TruthValue.{TruthValue}
use Rattle.tr_simplify.specs.declared.laws.TruthValue.TheVariants as side
use Rattle.tr_simplify.specs.declared.laws.LawResult.{LawResult}
use Rattle.tr_simplify.specs.declared.laws.LawResult.TheVariants as outcome
use Rattle.tr_simplify.specs.Laws.{constant, negated_by, law_for, joined_by, if_by, zero_term, quantified_by, has_laws, simplify_rule}
use Rattle.tr_simplify.specs.SimplifyAtTypes.{closed_open}

module _ (v : Vocabulary) (env : List Tree) (closed : AreClosed env) where
  abbrev put : ℕ → Tree → Tree
  put p e = change (instantiating_many env) p e

  constant_in : (a : Tree) → sort_of a ≡ Formula → constant (put 0 a) ≡ constant a
  constant_in (Leaf (HTyVar j)) s = refl
  constant_in (Leaf _) s = refl
  constant_in (One (HBound i) a) s = absurd (cc)
  constant_in (One _ a) s = refl
  constant_in (Two h a b) s = refl
  constant_in (Three h a b c) s = refl

  -- ---- which variables are open, below those that are put in
  kind_open : (d i : ℕ) (types : List Tree) (a : Tree) → HasTyping v types (One (HBound i) a) → is_open d a ≡ false
  kind_open d i types a x = closed_open d a (let l = loose_types a (kinds_only a (has_sorts v types a x.2) (inl x.0.0)) in omega (arith, l))

  bound_open : (d p i : ℕ) (types : List Tree) (a : Tree) → HasTyping v types (One (HBound i) a) → d < p → is_open d (put p a) ≡ is_open d a → is_open d ((instantiating_many env).bound p i (put p a)) ≡ ((i == d) || is_open d a)
  bound_open d p i types a x l h = by (cases_many i p (length env))
    where
      by : (i < p) ⊎ (((j : ℕ) × ((p ≤ i) × (i + j + 1 ≡ p + length env))) ⊎ (p + length env ≤ i)) → is_open d ((instantiating_many env).bound p i (put p a)) ≡ ((i == d) || is_open d a)
      by (inl m) = ap (is_open d) (many_below env p i (put p a) m) ∙ ap (λ (u : Bool). (i == d) || u) h
      by (inr (inl j)) =
          let t : Tree = get_or env j.0 (put p a) in
          let c : loose t ≡ 0 = closed_at env j.0 (put p a) closed (omega (arith, j.1.0, j.1.1)) in
          let n : (i == d) ≡ false = grind (arith, nat_tests, j.1.0, l) in
          ap (is_open d) (many_at env p i j.0 (put p a) j.1.0 j.1.1 ∙ shift_closed t p 0 (omega (arith, c))) ∙ closed_open d t (omega (arith, c)) ∙ sym (cc (n, kind_open d i types a x))
      by (inr (inr m)) =
          let n : (i == d) ≡ false = grind (arith, nat_tests, m, l) in
          ap (is_open d) (many_above env p i (put p a) m) ∙ later m ∙ sym (cc (n, kind_open d i types a x))
        where
          later : p + length env ≤ i → is_open d (One (HBound (i - length env)) (put p a)) ≡ false
          later m =
              let n : ((i - length env) == d) ≡ false = grind (arith, nat_tests, m, l) in
              cc (n, h, kind_open d i types a x)

  open_in : (d p : ℕ) (types : List Tree) (e : Tree) → HasTyping v types e → d < p → is_open d (put p e) ≡ is_open d e
  open_in d p types (Leaf (HTyVar j)) x l = refl
  open_in d p types (Leaf _) x l = refl
  open_in d p types (One (HBound i) a) x l = bound_open d p i types a x l (open_in d p types a x.2 l)
  open_in d p types (One (HParam n) a) x l = open_in d p types a x.2 l
  open_in d p types (One _ a) x l = open_in d p types a x.2 l
  open_in d p types (Two h a b) x l =
      let n : binders_over h (put p a) ≡ binders_over h a = binders_over-change (instantiating_many env) (puts_many env (closed_terms env closed)) p h a in
      ap (λ (u : Bool). u || is_open (d + binders_over h (put p a)) (put (p + binders_over h a) b)) (open_in d p types a x.2 l)
      ∙ ap (λ (m : ℕ). is_open d a || is_open (d + m) (put (p + binders_over h a) b)) n
      ∙ ap (λ (u : Bool). is_open d a || u) (open_in (d + binders_over h a) (p + binders_over h a) (bound_types h a ++ types) b x.3 (omega (arith, l)))
  open_in d p types (Three h a b c) x l = cc (open_in d p types a x.2 l, open_in d p types b x.3 l, open_in d p types c x.4 l)

  -- ---- each law
  negated_in : (k : TruthValue) (a : Tree) → put 0 (negated_by k a) ≡ negated_by k (put 0 a)
  negated_in side.True a = refl
  negated_in side.False a = refl
  negated_in side.Other a = refl

  joined_in : (o : LawResult) (op : Op) (k l : TruthValue) (a b : Tree) → put 0 (joined_by o op k l a b) ≡ joined_by o op k l (put 0 a) (put 0 b)
  joined_in outcome.Stays op k l a b = refl
  joined_in outcome.First op k l a b = refl
  joined_in outcome.Second op k l a b = refl
  joined_in outcome.True op k l a b = refl
  joined_in outcome.False op k l a b = refl
  joined_in outcome.NotFirst op k l a b = negated_in k a
  joined_in outcome.NotSecond op k l a b = negated_in l b

  if_in : (k : TruthValue) (c a b : Tree) → put 0 (if_by k c a b) ≡ if_by k (put 0 c) (put 0 a) (put 0 b)
  if_in side.True c a b = refl
  if_in side.False c a b = refl
  if_in side.Other c a b = refl

  forall_in : (u : Bool) (ty b : Tree) → is_open 0 b ≡ u → put 0 (quantified_by u HForall ty b) ≡ quantified_by u HForall (put 0 ty) (put 1 b)
  forall_in true ty b q = refl
  forall_in false ty b q = lowered env b zero_term zero_term closed q refl refl

  exists_in : (u : Bool) (ty b : Tree) → is_open 0 b ≡ u → put 0 (quantified_by u HExists ty b) ≡ quantified_by u HExists (put 0 ty) (put 1 b)
  exists_in true ty b q = refl
  exists_in false ty b q = lowered env b zero_term zero_term closed q refl refl

  pub simplify_in : (types : List Tree) (e : Tree) → HasTyping v types e → has_laws e ≡ true → inst_many (simplify_rule e) env ≡ simplify_rule (inst_many e env)
  simplify_in types (One HNot a) x h = negated_in (constant a) a ∙ ap (λ (k : TruthValue). negated_by k (put 0 a)) (sym (constant_in a x.0))
  simplify_in types (Two (HJoin op) a b) x h =
      joined_in (law_for op (constant a) (constant b)) op (constant a) (constant b) a b
      ∙ ap (λ (k : TruthValue). joined_by (law_for op k (constant b)) op k (constant b) (put 0 a) (put 0 b)) (sym (constant_in a x.0.0.0))
      ∙ ap (λ (l : TruthValue). joined_by (law_for op (constant (put 0 a)) l) op (constant (put 0 a)) l (put 0 a) (put 0 b)) (sym (constant_in b x.0.0.1))
  simplify_in types (Two HForall ty b) x h = forall_in (is_open 0 b) ty b refl ∙ ap (λ (u : Bool). quantified_by u HForall (put 0 ty) (put 1 b)) (sym (open_in 0 1 (bound_types HForall ty ++ types) b x.3 (omega arith)))
  simplify_in types (Two HExists ty b) x h = exists_in (is_open 0 b) ty b refl ∙ ap (λ (u : Bool). quantified_by u HExists (put 0 ty) (put 1 b)) (sym (open_in 0 1 (bound_types HExists ty ++ types) b x.3 (omega arith)))
  simplify_in types (Three HIf c a b) x h = if_in (constant c) c a b ∙ ap (λ (k : TruthValue). if_by k (put 0 c) (put 0 a) (put 0 b)) (sym (constant_in c x.0.0))
  simplify_in types _ x h = absurd (cc)
