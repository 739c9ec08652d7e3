-- What a `match` becomes has its sort, type and typing, and no type variable or parameter that it
-- doesn't have.
use Rattle.std.proofs.Common.{◌≡◌, ℕ, zero, suc, ◌-◌, ◌<◌, ◌≤◌, List, [], ◌∷◌, ◌++◌, length, get_or, subst, refl, sym, ap, ◌∙◌, arith}
use Rattle.trees.specs.declared.Sort.TheVariants as sort
use Rattle.trees.specs.Tree.{Tree, Leaf, Two, HEnd, HCell, HArm, HCase, head_of, above_params}
use Rattle.trees.specs.Binding.{inst_many}
use Rattle.trees.specs.Sorts.{sort_of, type_of, IsExpression}
use Rattle.trees.specs.Facts.{Each}
use Rattle.tasks.specs.Task.{TaskTree}
use Rattle.tasks.specs.Vocabulary.{Vocabulary, of_task}
use Rattle.tasks.specs.Typing.{pattern_types, first_body}
use Rattle.tasks.specs.MatchTests.{bind}
use Rattle.tasks.specs.Valid.{VariablesBelow, ParametersOf, IsValid}
use Rattle.images.specs.Images.{IsOtherHead}
use Rattle.images.specs.PatternTerms.{HasOfBoth}
use Rattle.images.proofs.Images.{expression_sort, expression_type}
use Rattle.tasks.proofs.typed_trees.instances.Typed.{present}
use Rattle.images.specs.typing_laws.HasTyping.{HasSorts, HasTyping, AreTermsFor, KeepsTyping, IsTypedRule}
use Rattle.images.proofs.typing_laws.Sorted.{has_sorts}
use Rattle.images.proofs.TypedImages.{image_keeps_typing}
use Rattle.images.proofs.typing_laws.Changes.{many_has, many_sort, many_type, many_variables, many_above_params, many_parameters}
use Rattle.tr_match.specs.match_forms.Forms.{if_form, match_rule, without_matches}
use Rattle.tr_match.specs.match_forms.Branches.{ArmTree, arms_tree, IsTypedBranch, AreTypedBranches, IsMatchOf}
use Rattle.tr_match.specs.match_forms.lemmas.Branches.{HasBranches, branches_of}
use Rattle.tr_match.specs.match_forms.lemmas.Asked.{IsAsked, is_asked}

-- what is made of a scrutinee and branches: typed as the first body is, with their type variables
-- and parameters alone
pub record IsMadeOf (v : Vocabulary) (types : List Tree) (s branches first e : Tree) : Type 0 where
  pub typed : HasTyping v types e
  pub sort : sort_of e ≡ sort_of first
  pub type : type_of e ≡ type_of first
  pub variables : (n : ℕ) → VariablesBelow n s → VariablesBelow n branches → VariablesBelow n e
  pub above : (m : ℕ) → above_params s ≤ m → above_params branches ≤ m → above_params e ≤ m
  pub parameters : (ps : List Tree) → ParametersOf ps s → ParametersOf ps branches
      → ParametersOf ps e

each_at : (P : Tree → Type 0) (es : List Tree) → Each P es → (k : ℕ) (e : Tree) → k < length es
    → P (get_or es k e)
each_at P [] h k e l = absurd (omega arith)
each_at P (a ∷ es) h zero e l = h.0
each_at P (a ∷ es) h (suc k) e l = each_at P es h.1 k e (omega (arith, l))

terms_sorted : (v : Vocabulary) (types tys ts : List Tree) → AreTermsFor v types tys ts
    → (k : ℕ) (e : Tree) → k < length ts → HasSorts (get_or ts k e)
terms_sorted v types tys ts o k e l =
    let p = present tys (length ts - 1 - k) (omega (arith, l, o.as_many)) in
    has_sorts v types (get_or ts k e)
    (o.each (length ts - 1 - k) k p.0 e p.1 (omega (arith, l))).1.1

module _ (t : TaskTree) (valid : IsValid t) (types : List Tree) (s : Tree)
    (ks : sort_of s ≡ sort.Term) (xs : HasTyping (of_task t) types s) (first : Tree) where
  module _ (b : ArmTree) (w : IsTypedBranch (of_task t) types (type_of s) first b) where
    pub asked : IsAsked t types b.pattern s
    asked = is_asked t valid types b.pattern s w.pattern w.pattern_typed ks xs w.pattern_type

    abbrev pub terms : List Tree
    terms = bind t b.pattern s

    -- the body at the terms for the pattern's variables
    pub body_made : IsMadeOf (of_task t) types s (Two HArm b.pattern b.body) first
        (inst_many b.body terms)
    body_made = record {
      typed = many_has (of_task t) types (pattern_types b.pattern) terms asked.terms b.body
          w.body_typed;
      sort = many_sort (of_task t) types (pattern_types b.pattern) terms asked.terms b.body
          w.body_typed ∙ w.body_sort;
      type = many_type (of_task t) types (pattern_types b.pattern) terms asked.terms b.body
          w.body_typed ∙ w.body_type;
      variables = λ n hs hb. many_variables terms n
          (λ k e l. (each_at (HasOfBoth b.pattern s) terms asked.parts.terms k e l).variables n hb.0
          hs) b.body hb.1;
      above = λ m hs hb. many_above_params terms m
          (λ k e l. (each_at (HasOfBoth b.pattern s) terms asked.parts.terms k e l).above m hs)
          b.body (omega (arith, hb));
      parameters = λ ps hs hb.
          many_parameters terms ps
          (λ k e l. (
            terms_sorted (of_task t) types (pattern_types b.pattern) terms asked.terms
                k e l,
            (each_at (HasOfBoth b.pattern s) terms asked.parts.terms k e l).parameters ps
                hs,
          )) b.body
          (has_sorts (of_task t) (pattern_types b.pattern ++ types) b.body w.body_typed) hb.1;
    }

    pub body_expression : IsExpression (sort_of (inst_many b.body terms))
    body_expression = subst IsExpression
        (sym (many_sort (of_task t) types (pattern_types b.pattern) terms asked.terms b.body
        w.body_typed)) w.body

  pub form_made : (b : ArmTree) (bs : List ArmTree)
      → AreTypedBranches (of_task t) types (type_of s) first (b ∷ bs)
      → IsMadeOf (of_task t) types s (arms_tree (b ∷ bs)) first (if_form t s (arms_tree (b ∷ bs)))
  form_made b [] w =
      let m = body_made b w.0 in
      record {
        typed = m.typed;
        sort = m.sort;
        type = m.type;
        variables = λ n hs hb. m.variables n hs hb.0;
        above = λ k hs hb. m.above k hs (omega (arith, hb));
        parameters = λ ps hs hb. m.parameters ps hs hb.0;
      }
  form_made b (c ∷ bs) w =
      let m = body_made b w.0 in
      let r = form_made c bs w.1 in
      let a = asked b w.0 in
      let k = body_expression b w.0 in
      record {
        typed =
            ((a.sort, k, r.sort ∙ sym m.sort), m.type ∙ sym r.type, a.formula, m.typed, r.typed);
        sort = expression_sort (inst_many b.body (terms b w.0)) k ∙ m.sort;
        type = sym (expression_type (inst_many b.body (terms b w.0)) k) ∙ m.type;
        variables = λ n hs hb.
            (a.parts.formula.variables n hb.0.0 hs, m.variables n hs hb.0, r.variables n hs hb.1);
        above = λ j hs hb. omega (
          arith,
          a.parts.formula.above j hs,
          m.above j hs (omega (arith, hb)),
          r.above j hs
              (omega (arith, hb)),
        );
        parameters = λ ps hs hb.
            (a.parts.formula.parameters ps hs, m.parameters ps hs hb.0, r.parameters ps hs hb.1);
      }

-- ---- a typed `match`
pub match_of : (v : Vocabulary) (types : List Tree) (s e : Tree) → HasTyping v types (Two HCase s e)
    → IsMatchOf v types s e
match_of v types s e x = by (branches_of v types (type_of s) (first_body e) e x.3 x.0.0.1.0 x.1) x
  where
    by : HasBranches v types (type_of s) (first_body e) e → HasTyping v types (Two HCase s e)
        → IsMatchOf v types s e
    by h y = cases h.list h.is h.typed
      where
        cases : (bs : List ArmTree) → e ≡ arms_tree bs
            → AreTypedBranches v types (type_of s) (first_body e) bs → IsMatchOf v types s e
        cases [] q w = absurd
            (let n : head_of e ≡ HCell = y.0.1 in let m : head_of e ≡ head_of (Leaf HEnd) =
            ap head_of q in cc)
        cases (b ∷ bs) q w = record {
          first = b;
          others = bs;
          is = q;
          typed =
              subst (λ (z : Tree). AreTypedBranches v types (type_of s) z (b ∷ bs))
              (ap first_body q) w;
        }

-- it leaves types, patterns, lists and branches as they are
pub match_others : (t : TaskTree) (e : Tree) → IsOtherHead (head_of e) → match_rule t e ≡ e
match_others t (Two HCase s e) h = absurd h
match_others t e h = refl

module _ (t : TaskTree) (valid : IsValid t) where
  keeps : (types : List Tree) (e : Tree) → IsExpression (sort_of e) → HasTyping (of_task t) types e
      → KeepsTyping (of_task t) types e (match_rule t e)
  keeps types (Two HCase s e) k x = by (match_of (of_task t) types s e x)
    where
      by : IsMatchOf (of_task t) types s e
          → KeepsTyping (of_task t) types (Two HCase s e) (match_rule t (Two HCase s e))
      by m =
          let w = form_made t valid types s x.0.0.0 x.2 m.first.body m.first m.others m.typed in
          let h = m.typed.0.body in
          subst (λ (z : Tree). KeepsTyping (of_task t) types (Two HCase s z) (if_form t s z))
          (sym m.is) (record {
            typed = w.typed;
            sort = w.sort ∙ sym (expression_sort m.first.body h);
            type = w.type ∙ expression_type m.first.body h;
            variables = λ n q. w.variables n q.0 q.1;
            above = λ j q. w.above j (omega (arith, q)) (omega (arith, q));
            parameters = λ ps q. w.parameters ps q.0 q.1;
          })
  keeps types e k x = record {
    typed = x;
    sort = refl;
    type = refl;
    variables = λ n h. h;
    above =
        λ m h. h;
    parameters = λ ps h. h;
  }

  pub match_typed_rule : IsTypedRule (of_task t) (match_rule t)
  match_typed_rule = record { others = match_others t; keeps = keeps }

  -- so it is of a whole tree
  pub without_keeps : (types : List Tree) (e : Tree) → HasTyping (of_task t) types e
      → KeepsTyping (of_task t) types e (without_matches t e)
  without_keeps types e x = image_keeps_typing (of_task t) (match_rule t) match_typed_rule types e x
