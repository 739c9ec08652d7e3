-- The laws keep typing.
use Rattle.std.specs.Prelude.{◌≡◌, ℕ, ◌≤◌, Bool, true, false, List, [], ◌∷◌, refl}
use Rattle.std.proofs.Common.{inr, subst, sym, ap, ◌∙◌, arith}
use Rattle.trees.specs.declared.Op.{Op}
use Rattle.trees.specs.declared.Sort.TheVariants.{Term, Formula}
use Rattle.trees.specs.Tree.{Tree, Leaf, One, Two, Three, Head, HTrue, HFalse, HNot, HJoin, HForall, HExists, HIf, above_params}
use Rattle.trees.specs.Binding.{inst, inst_many, Param}
use Rattle.trees.specs.Facts.{is_open}
use Rattle.trees.specs.Sorts.{sort_of, type_of, IsExpression}
use Rattle.trees.proofs.Many.{inst_is_many, inst_not_open}
use Rattle.tasks.specs.Vocabulary.{Vocabulary}
use Rattle.tasks.specs.Valid.{VariablesBelow, ParametersOf}
use Rattle.walking.specs.images.typing_laws.HasTyping.{HasSorts, HasTyping, AreTermsFor, KeepsTyping, IsTypedRule}
use Rattle.walking.proofs.OneTerm.{expression_sort, expression_type, has_sorts, formula_no_type, many_has, many_sort, many_variables, many_above_params, many_parameters, one_each, one_term}
use Rattle.tr_simplify.specs.declared.laws.TruthValue.{TruthValue}
use Rattle.tr_simplify.specs.declared.laws.TruthValue.TheVariants as side
use Rattle.tr_simplify.specs.declared.laws.LawResult.{LawResult}
use Rattle.tr_simplify.specs.declared.laws.LawResult.TheVariants as outcome
use Rattle.tr_simplify.specs.Laws.{constant, negated_by, law_for, joined_by, if_by, zero_term, quantified_by, simplify_rule, simplify_others}

module _ (v : Vocabulary) (types : List Tree) where
  same : (e : Tree) → HasTyping v types e → KeepsTyping v types e e
  same e x = record {
    typed = x;
    sort = refl;
    type = refl;
    variables = λ n h. h;
    above =
        λ m h. h;
    parameters = λ ps h. h;
  }

  kept_true : (e : Tree) → sort_of e ≡ Formula → KeepsTyping v types e (Leaf HTrue)
  kept_true e s = record {
    typed = (tt, tt);
    sort = sym s;
    type =
        sym (formula_no_type e s);
    variables = λ n h. tt;
    above = λ m h. omega arith;
    parameters =
        λ ps h. tt;
  }

  kept_false : (e : Tree) → sort_of e ≡ Formula → KeepsTyping v types e (Leaf HFalse)
  kept_false e s = record {
    typed = (tt, tt);
    sort = sym s;
    type =
        sym (formula_no_type e s);
    variables = λ n h. tt;
    above = λ m h. omega arith;
    parameters =
        λ ps h. tt;
  }

  -- the negation of a part
  kept_negated : (k : TruthValue) (e a : Tree) → sort_of e ≡ Formula → KeepsTyping v types e a
      → KeepsTyping v types e (negated_by k a)
  kept_negated side.True e a s w = kept_false e s
  kept_negated side.False e a s w = kept_true e s
  kept_negated side.Other e a s w = record {
    typed = (w.sort ∙ s, tt, w.typed);
    sort = sym s;
    type = sym (formula_no_type e s);
    variables = λ n h. w.variables n h;
    above = λ m h. w.above m h;
    parameters = λ ps h. (tt, w.parameters ps h);
  }

  kept_first : (op : Op) (a b : Tree) → HasTyping v types (Two (HJoin op) a b)
      → KeepsTyping v types (Two (HJoin op) a b) a
  kept_first op a b x = record {
    typed = x.2;
    sort = x.0.0.0;
    type =
        formula_no_type a x.0.0.0;
    variables = λ n h. h.0;
    above =
        λ m h. omega (arith, h);
    parameters = λ ps h. h.0;
  }

  kept_second : (op : Op) (a b : Tree) → HasTyping v types (Two (HJoin op) a b)
      → KeepsTyping v types (Two (HJoin op) a b) b
  kept_second op a b x = record {
    typed = x.3;
    sort = x.0.0.1;
    type =
        formula_no_type b x.0.0.1;
    variables = λ n h. h.1;
    above =
        λ m h. omega (arith, h);
    parameters = λ ps h. h.1;
  }

  kept_joined : (o : LawResult) (op : Op) (k l : TruthValue) (a b : Tree)
      → HasTyping v types (Two (HJoin op) a b)
      → KeepsTyping v types (Two (HJoin op) a b) (joined_by o op k l a b)
  kept_joined outcome.Stays op k l a b x = same (Two (HJoin op) a b) x
  kept_joined outcome.First op k l a b x = kept_first op a b x
  kept_joined outcome.Second op k l a b x = kept_second op a b x
  kept_joined outcome.True op k l a b x = kept_true (Two (HJoin op) a b) refl
  kept_joined outcome.False op k l a b x = kept_false (Two (HJoin op) a b) refl
  kept_joined outcome.NotFirst op k l a b x =
      kept_negated k (Two (HJoin op) a b) a refl (kept_first op a b x)
  kept_joined outcome.NotSecond op k l a b x =
      kept_negated l (Two (HJoin op) a b) b refl (kept_second op a b x)

  kept_if : (k : TruthValue) (c a b : Tree) → HasTyping v types (Three HIf c a b)
      → KeepsTyping v types (Three HIf c a b) (if_by k c a b)
  kept_if side.True c a b x = record {
    typed = x.3;
    sort = sym (expression_sort a x.0.1);
    type = expression_type a x.0.1;
    variables = λ n h. h.1;
    above = λ m h. omega (arith, h);
    parameters = λ ps h. h.1;
  }
  kept_if side.False c a b x = record {
    typed = x.4;
    sort = x.0.2 ∙ sym (expression_sort a x.0.1);
    type = sym x.1 ∙ expression_type a x.0.1;
    variables = λ n h. h.2;
    above = λ m h. omega (arith, h);
    parameters = λ ps h. h.2;
  }
  kept_if side.Other c a b x = same (Three HIf c a b) x

  -- a body whose variable isn't used, of the type that it would have
  module _ (ty b : Tree) (free : is_open 0 b ≡ false) (y : HasTyping v (ty ∷ types) b)
      (p : HasTyping v types (Param 0 ty)) where
    for_parameter : AreTermsFor v types (ty ∷ []) (Param 0 ty ∷ [])
    for_parameter = one_term v types ty (Param 0 ty) refl refl p

    at_parameter : inst_many b (Param 0 ty ∷ []) ≡ inst b zero_term
    at_parameter = inst_is_many b (Param 0 ty) ∙ inst_not_open (Param 0 ty) zero_term b free

    lowered_typed : HasTyping v types (inst b zero_term)
    lowered_typed = subst (HasTyping v types) at_parameter
        (many_has v types (ty ∷ []) (Param 0 ty ∷ []) for_parameter b y)

    lowered_sort : sort_of (inst b zero_term) ≡ sort_of b
    lowered_sort = ap sort_of (sym at_parameter)
        ∙ many_sort v types (ty ∷ []) (Param 0 ty ∷ []) for_parameter b y

    lowered_variables : (n : ℕ) → VariablesBelow n b → VariablesBelow n (inst b zero_term)
    lowered_variables n h = subst (VariablesBelow n) (inst_is_many b zero_term)
        (many_variables (zero_term ∷ []) n (one_each (VariablesBelow n) zero_term tt) b h)

    lowered_above : (m : ℕ) → above_params b ≤ m → above_params (inst b zero_term) ≤ m
    lowered_above m h = subst (λ (z : Tree). above_params z ≤ m) (inst_is_many b zero_term)
        (many_above_params (zero_term ∷ []) m
        (one_each (λ z. above_params z ≤ m) zero_term (omega arith)) b h)

    lowered_parameters : (ps : List Tree) → ParametersOf ps b → ParametersOf ps (inst b zero_term)
    lowered_parameters ps h =
        subst (ParametersOf ps) (inst_is_many b zero_term)
        (many_parameters (zero_term ∷ []) ps
        (one_each (λ z. HasSorts z × ParametersOf ps z) zero_term (tt, tt)) b
        (has_sorts v (ty ∷ types) b y) h)

  kept_forall : (u : Bool) (ty b : Tree) → is_open 0 b ≡ u → HasTyping v types (Two HForall ty b)
      → KeepsTyping v types (Two HForall ty b) (quantified_by u HForall ty b)
  kept_forall true ty b q x = same (Two HForall ty b) x
  kept_forall false ty b q x =
      let p : HasTyping v types (Param 0 ty) = (x.0.0.0, tt, x.2) in
      let s = lowered_sort ty b q x.3 p ∙ x.0.0.1 in
      record {
        typed = lowered_typed ty b q x.3 p;
        sort = s;
        type = formula_no_type (inst b zero_term) s;
        variables = λ n h. lowered_variables ty b q x.3 p n h.1;
        above = λ m h. lowered_above ty b q x.3 p m (omega (arith, h));
        parameters = λ ps h. lowered_parameters ty b q x.3 p ps h.1;
      }

  kept_exists : (u : Bool) (ty b : Tree) → is_open 0 b ≡ u → HasTyping v types (Two HExists ty b)
      → KeepsTyping v types (Two HExists ty b) (quantified_by u HExists ty b)
  kept_exists true ty b q x = same (Two HExists ty b) x
  kept_exists false ty b q x =
      let p : HasTyping v types (Param 0 ty) = (x.0.0.0, tt, x.2) in
      let s = lowered_sort ty b q x.3 p ∙ x.0.0.1 in
      record {
        typed = lowered_typed ty b q x.3 p;
        sort = s;
        type = formula_no_type (inst b zero_term) s;
        variables = λ n h. lowered_variables ty b q x.3 p n h.1;
        above = λ m h. lowered_above ty b q x.3 p m (omega (arith, h));
        parameters = λ ps h. lowered_parameters ty b q x.3 p ps h.1;
      }

keeps : (v : Vocabulary) (types : List Tree) (e : Tree) → IsExpression (sort_of e)
    → HasTyping v types e → KeepsTyping v types e (simplify_rule e)
keeps v types (One HNot a) s x =
    kept_negated v types (constant a) (One HNot a) a refl
    (record {
      typed = x.2;
      sort = x.0;
      type = formula_no_type a x.0;
      variables =
          λ n h. h;
      above = λ m h. h;
      parameters = λ ps h. h.1;
    })
keeps v types (Two (HJoin op) a b) s x =
    kept_joined v types (law_for op (constant a) (constant b)) op (constant a) (constant b) a b x
keeps v types (Two HForall ty b) s x = kept_forall v types (is_open 0 b) ty b refl x
keeps v types (Two HExists ty b) s x = kept_exists v types (is_open 0 b) ty b refl x
keeps v types (Three HIf c a b) s x = kept_if v types (constant c) c a b x
keeps v types _ s x = same v types _ x

pub simplify_typed_rule : (v : Vocabulary) → IsTypedRule v simplify_rule
simplify_typed_rule v = record { others = simplify_others; keeps = keeps v }
