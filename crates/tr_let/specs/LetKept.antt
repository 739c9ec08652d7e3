-- The rule for `let` keeps typing, and commutes with types.
use Rattle.std.specs.Prelude.{◌≡◌, ℕ, ◌+◌, ◌<◌, ◌≤◌, List, [], ◌∷◌, ◌++◌, length, get_or, Option, Some, None, refl}
use Rattle.std.proofs.Common.{subst, sym, ap, ◌∙◌, arith}
use Rattle.trees.specs.declared.Sort.TheVariants.{Kind, Term}
use Rattle.trees.specs.Tree.{Tree, Leaf, One, Two, Three, HLet, HTyVar, above_params}
use Rattle.trees.specs.Binding.{inst, inst_many, inst_types, TyVar}
use Rattle.trees.specs.Sorts.{sort_of, type_of, IsExpression}
use Rattle.trees.proofs.Instances.{inst_two}
use Rattle.trees.proofs.Laws.{inst_types_inst}
use Rattle.trees.proofs.Many.{inst_is_many}
use Rattle.trees.specs.laws.Sorts.{term_no_vars}
use Rattle.tasks.specs.Vocabulary.{Vocabulary}
use Rattle.tasks.specs.Typing.{option_list, bound_types}
use Rattle.tasks.specs.Valid.{VariablesBelow, ParametersOf}
use Rattle.walking.specs.images.typing_laws.HasTyping.{HasSorts, HasTyping, IsTypeAt, KeepsTyping, IsTypedRule}
use Rattle.walking.proofs.OneTerm.{expression_sort, expression_type, has_sorts, bound_count, at_one, many_has, many_sort, many_type, many_variables, many_above_params, many_parameters, one_each, one_term, are_types, no_kind}
use Rattle.tr_let.specs.LetRule.{let_rule, let_others}

module _ (v : Vocabulary) where
  same : (types : List Tree) (e : Tree) → HasTyping v types e → KeepsTyping v types e e
  same types e x = record {
    typed = x;
    sort = refl;
    type = refl;
    variables = λ n h. h;
    above =
        λ m h. h;
    parameters = λ ps h. h;
  }

  -- the value of a `let` has a type
  value_type : (types : List Tree) (t b : Tree) → HasTyping v types (Two HLet t b)
      → (ty : Tree) × (type_of t ≡ Some ty)
  value_type types t b x = by (type_of t) refl
    where
      by : (o : Option Tree) → type_of t ≡ o → (ty : Tree) × (type_of t ≡ Some ty)
      by (Some ty) q = (ty, q)
      by None q = let n = bound_count HLet t b x.0 (has_sorts v types t x.2) in let m =
          ap (λ (o : Option Tree). length (option_list o)) q in absurd (omega (arith, n, m))

  keeps : (types : List Tree) (e : Tree) → IsExpression (sort_of e) → HasTyping v types e
      → KeepsTyping v types e (let_rule e)
  keeps types (Two HLet t b) s x =
      let p = value_type types t b x in
      let y : HasTyping v (p.0 ∷ types) b =
      subst (λ (o : Option Tree). HasTyping v (option_list o ++ types) b) p.1 x.3 in
      let o = one_term v types p.0 t x.0.0.0 p.1 x.2 in
      let m = inst_is_many b t in
      record {
        typed = subst (HasTyping v types) m (many_has v types (p.0 ∷ []) (t ∷ []) o b y);
        sort = ap sort_of (sym m) ∙ many_sort v types (p.0 ∷ []) (t ∷ []) o b y
            ∙ sym (expression_sort b x.0.0.1);
        type = ap type_of (sym m) ∙ many_type v types (p.0 ∷ []) (t ∷ []) o b y
            ∙ expression_type b x.0.0.1;
        variables = λ n h. subst (VariablesBelow n) m
            (many_variables (t ∷ []) n (one_each (VariablesBelow n) t h.0) b h.1);
        above = λ n h. subst (λ (z : Tree). above_params z ≤ n) m
            (many_above_params (t ∷ []) n (one_each (λ z. above_params z ≤ n) t (omega arith)) b
            (omega arith));
        parameters = λ ps h. subst (ParametersOf ps) m
            (many_parameters (t ∷ []) ps
            (one_each (λ z. HasSorts z × ParametersOf ps z) t (has_sorts v types t x.2, h.0)) b
            (has_sorts v (p.0 ∷ types) b y) h.1);
      }
  keeps types _ s x = same types _ x

  pub let_typed_rule : IsTypedRule v let_rule
  let_typed_rule = record { others = let_others; keeps = keeps }

  -- ---- types
  module _ (ys : List Tree) (each : (j : ℕ) → IsTypeAt v (get_or ys j (TyVar j))) where
    -- a type is left as it is
    kind_stays : (e : Tree) → HasTyping v [] e → sort_of e ≡ Kind → let_rule e ≡ e
    kind_stays (Two HLet t b) x q =
        absurd (no_kind (sort_of b) x.0.0.1 (sym (expression_sort b x.0.0.1) ∙ q))
    kind_stays _ x q = refl

    pub let_at_types : (types : List Tree) (e : Tree) → HasTyping v types e
        → let_rule (inst_types e ys) ≡ inst_types (let_rule e) ys
    let_at_types types (Leaf (HTyVar j)) x =
        kind_stays (get_or ys j (TyVar j)) (each j).1 (each j).0
    let_at_types types (Leaf _) x = refl
    let_at_types types (One h a) x = ap let_rule (at_one v ys each h a) ∙ sym (at_one v ys each h a)
    let_at_types types (Two HLet t b) x =
        ap let_rule (inst_two ys HLet t b)
        ∙ sym (inst_types_inst b t ys (are_types v ys each) (term_no_vars t x.0.0.0))
    let_at_types types (Two _ a b) x = refl
    let_at_types types (Three _ a b c) x = refl
