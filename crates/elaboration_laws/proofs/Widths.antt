-- Each tuple of an expression has a constructor where each width that is seen in it has one.
use Rattle.std.proofs.Common.{◌≡◌, ℕ, ◌==◌, ◌||◌, Bool, true, false, cond, List, [], ◌∷◌, ◌++◌, Option, Some, None, IfSome, refl, ap}
use Rattle.elab_groups.specs.tasks.Vocabulary.{Vocabulary}
use Rattle.elab_groups.specs.name_resolution.Abstract.{TypeExpression, TypeExpressions, variable_type, composed_type, product_type, no_types, more_types, Pattern, Patterns, wildcard_pattern, variable_pattern, constructor_pattern, tuple_pattern, alias_pattern, record_pattern, no_patterns, more_patterns, Alternatives, no_alternatives, more_alternatives, BoundNames, Expression, Expressions, MatchBranches, applied_expression, infix_expression, integer_expression, true_expression, false_expression, tuple_expression, cast_expression, field_expression, record_expression, not_expression, connected_expression, equality_expression, if_expression, let_expression, match_expression, quantified_expression, no_expressions, more_expressions, no_branches, more_branches, count_forms, count_patterns, count_expressions}
use Rattle.elab_groups.specs.name_resolution.Where.{Where}
use Rattle.elab_groups.specs.name_resolution.variables.Seen.{SeenTree, has_width, with_width, form_seen, forms_seen, type_seen, binders_seen, pattern_seen, patterns_seen, alternatives_seen, seen, all_seen, branches_seen}
use Rattle.elaboration_laws.specs.Signature.{HasTuple, FormTuples, FormsTuples, BindersTuples, PatternTuples, PatternsTuples, AlternativesTuples, HasTuples, HaveTuples, BranchesTuples}
pub use Rattle.elab_groups.proofs.name_resolution.Fielded.{same_count as same_width}

-- the widths of one are among those of the other
abbrev pub IsWithin : SeenTree → SeenTree → Type 0
IsWithin s t = (n : ℕ) → has_width n s.widths ≡ true → has_width n t.widths ≡ true

width_both : (n : ℕ) (xs ys : List ℕ) → has_width n xs ≡ true → has_width n (xs ++ ys) ≡ true
width_both n [] ys h = absurd (cc)
width_both n (x ∷ xs) ys h = of (x == n) h (λ k. width_both n xs ys k)
  where
    of : (b : Bool) → (b || has_width n xs) ≡ true → (has_width n xs ≡ true → has_width n (xs ++ ys) ≡ true) → (b || has_width n (xs ++ ys)) ≡ true
    of true k f = refl
    of false k f = f k

width_last : (n : ℕ) (xs : List ℕ) → has_width n (xs ++ n ∷ []) ≡ true
width_last n [] = ap (λ (b : Bool). b || false) (same_width n)
width_last n (x ∷ xs) = of (x == n) (width_last n xs)
  where
    of : (b : Bool) → has_width n (xs ++ n ∷ []) ≡ true → (b || has_width n (xs ++ n ∷ [])) ≡ true
    of true k = refl
    of false k = k

width_grows : (m : ℕ) (s : SeenTree) → IsWithin s (with_width m s)
width_grows m s n h = of (has_width m s.widths)
  where
    of : (b : Bool) → has_width n (cond b s.widths (s.widths ++ m ∷ [])) ≡ true
    of true = h
    of false = width_both n s.widths (m ∷ []) h

width_there : (m : ℕ) (s : SeenTree) → has_width m (with_width m s).widths ≡ true
width_there m s = of (has_width m s.widths) refl
  where
    of : (b : Bool) → has_width m s.widths ≡ b → has_width m (cond b s.widths (s.widths ++ m ∷ [])) ≡ true
    of true q = q
    of false q = width_last m s.widths

-- ---- what is seen stays
mutual
  pub form_grows : (f : TypeExpression) (s : SeenTree) → IsWithin s (form_seen s f)
  form_grows (variable_type i x) s = λ n h. h
  form_grows (composed_type i qs x fs) s = forms_grow fs s
  form_grows (product_type i fs) s = λ n h. forms_grow fs (with_width (count_forms fs) s) n (width_grows (count_forms fs) s n h)

  pub forms_grow : (fs : TypeExpressions) (s : SeenTree) → IsWithin s (forms_seen s fs)
  forms_grow no_types s = λ n h. h
  forms_grow (more_types f fs) s = λ n h. forms_grow fs (form_seen s f) n (form_grows f s n h)

pub type_grows : (f : Option TypeExpression) (s : SeenTree) → IsWithin s (type_seen s f)
type_grows None s = λ n h. h
type_grows (Some f) s = form_grows f s

binders_grow : (bs : List BoundNames) (s : SeenTree) → IsWithin s (binders_seen s bs)
binders_grow [] s = λ n h. h
binders_grow (b ∷ bs) s = λ n h. binders_grow bs (type_seen s b.of_type) n (type_grows b.of_type s n h)

mutual
  pattern_grows : (p : Pattern) (s : SeenTree) → IsWithin s (pattern_seen s p)
  pattern_grows (wildcard_pattern i) s = λ n h. h
  pattern_grows (variable_pattern i x) s = λ n h. h
  pattern_grows (constructor_pattern i qs x ps) s = patterns_grow ps s
  pattern_grows (tuple_pattern i ps) s = λ n h. patterns_grow ps (with_width (count_patterns ps) s) n (width_grows (count_patterns ps) s n h)
  pattern_grows (alias_pattern p i x) s = pattern_grows p s
  pattern_grows (record_pattern i fs ps) s = patterns_grow ps s

  patterns_grow : (ps : Patterns) (s : SeenTree) → IsWithin s (patterns_seen s ps)
  patterns_grow no_patterns s = λ n h. h
  patterns_grow (more_patterns p ps) s = λ n h. patterns_grow ps (pattern_seen s p) n (pattern_grows p s n h)

alternatives_grow : (ps : Alternatives) (s : SeenTree) → IsWithin s (alternatives_seen s ps)
alternatives_grow no_alternatives s = λ n h. h
alternatives_grow (more_alternatives i p ps) s = λ n h. alternatives_grow ps (pattern_seen s p) n (pattern_grows p s n h)

mutual
  pub grows : (e : Expression) (s : SeenTree) → IsWithin s (seen s e)
  grows (applied_expression i qs x es) s = all_grow es s
  grows (infix_expression i x a b) s = λ n h. grows b (seen s a) n (grows a s n h)
  grows (integer_expression i z) s = λ n h. h
  grows (true_expression i) s = λ n h. h
  grows (false_expression i) s = λ n h. h
  grows (tuple_expression i es) s = λ n h. all_grow es (with_width (count_expressions es) s) n (width_grows (count_expressions es) s n h)
  grows (cast_expression i e f) s = λ n h. form_grows f (seen s e) n (grows e s n h)
  grows (field_expression i e k qs x) s = grows e s
  grows (record_expression i fs es) s = all_grow es s
  grows (not_expression i e) s = grows e s
  grows (connected_expression i a o b) s = λ n h. grows b (seen s a) n (grows a s n h)
  grows (equality_expression i same a b) s = λ n h. grows b (seen s a) n (grows a s n h)
  grows (if_expression i c a b) s = λ n h. grows b (seen (seen s c) a) n (grows a (seen s c) n (grows c s n h))
  grows (let_expression i x a b) s = λ n h. grows b (seen s a) n (grows a s n h)
  grows (match_expression i is_let e bs) s = λ n h. branches_grow bs (seen s e) n (grows e s n h)
  grows (quantified_expression i all bs gs b) s = λ n h. grows b (all_seen (binders_seen s bs) gs) n (all_grow gs (binders_seen s bs) n (binders_grow bs s n h))

  all_grow : (es : Expressions) (s : SeenTree) → IsWithin s (all_seen s es)
  all_grow no_expressions s = λ n h. h
  all_grow (more_expressions e es) s = λ n h. all_grow es (seen s e) n (grows e s n h)

  branches_grow : (bs : MatchBranches) (s : SeenTree) → IsWithin s (branches_seen s bs)
  branches_grow no_branches s = λ n h. h
  branches_grow (more_branches ps b bs) s = λ n h. branches_grow bs (seen (alternatives_seen s ps) b) n (grows b (alternatives_seen s ps) n (alternatives_grow ps s n h))

-- ---- each tuple is seen
module _ (base : Vocabulary) (w : Where) where
  abbrev pub HaveWidths : SeenTree → Type 0
  HaveWidths s = (n : ℕ) → has_width n s.widths ≡ true → HasTuple base w n

  mutual
    pub form_tuples : (f : TypeExpression) (s : SeenTree) → HaveWidths (form_seen s f) → FormTuples base w f
    form_tuples (variable_type i x) s g = tt
    form_tuples (composed_type i qs x fs) s g = forms_tuples fs s g
    form_tuples (product_type i fs) s g =
        let m = count_forms fs in
        (g m (forms_grow fs (with_width m s) m (width_there m s)), forms_tuples fs (with_width m s) g)

    pub forms_tuples : (fs : TypeExpressions) (s : SeenTree) → HaveWidths (forms_seen s fs) → FormsTuples base w fs
    forms_tuples no_types s g = tt
    forms_tuples (more_types f fs) s g = (form_tuples f s (λ n h. g n (forms_grow fs (form_seen s f) n h)), forms_tuples fs (form_seen s f) g)

  type_tuples : (f : Option TypeExpression) (s : SeenTree) → HaveWidths (type_seen s f) → IfSome f (FormTuples base w)
  type_tuples None s g = tt
  type_tuples (Some f) s g = form_tuples f s g

  binders_tuples : (bs : List BoundNames) (s : SeenTree) → HaveWidths (binders_seen s bs) → BindersTuples base w bs
  binders_tuples [] s g = tt
  binders_tuples (b ∷ bs) s g = (type_tuples b.of_type s (λ n h. g n (binders_grow bs (type_seen s b.of_type) n h)), binders_tuples bs (type_seen s b.of_type) g)

  mutual
    pattern_tuples : (p : Pattern) (s : SeenTree) → HaveWidths (pattern_seen s p) → PatternTuples base w p
    pattern_tuples (wildcard_pattern i) s g = tt
    pattern_tuples (variable_pattern i x) s g = tt
    pattern_tuples (constructor_pattern i qs x ps) s g = patterns_tuples ps s g
    pattern_tuples (tuple_pattern i ps) s g =
        let m = count_patterns ps in
        (g m (patterns_grow ps (with_width m s) m (width_there m s)), patterns_tuples ps (with_width m s) g)
    pattern_tuples (alias_pattern p i x) s g = pattern_tuples p s g
    pattern_tuples (record_pattern i fs ps) s g = patterns_tuples ps s g

    patterns_tuples : (ps : Patterns) (s : SeenTree) → HaveWidths (patterns_seen s ps) → PatternsTuples base w ps
    patterns_tuples no_patterns s g = tt
    patterns_tuples (more_patterns p ps) s g = (pattern_tuples p s (λ n h. g n (patterns_grow ps (pattern_seen s p) n h)), patterns_tuples ps (pattern_seen s p) g)

  alternatives_tuples : (ps : Alternatives) (s : SeenTree) → HaveWidths (alternatives_seen s ps) → AlternativesTuples base w ps
  alternatives_tuples no_alternatives s g = tt
  alternatives_tuples (more_alternatives i p ps) s g = (pattern_tuples p s (λ n h. g n (alternatives_grow ps (pattern_seen s p) n h)), alternatives_tuples ps (pattern_seen s p) g)

  two_tuples : (a b : Expression) (s : SeenTree) → (HaveWidths (seen s a) → HasTuples base w a) → (HaveWidths (seen (seen s a) b) → HasTuples base w b) → HaveWidths (seen (seen s a) b) → HasTuples base w a × HasTuples base w b
  two_tuples a b s f h g = (f (λ n k. g n (grows b (seen s a) n k)), h g)

  mutual
    pub tuples_seen : (e : Expression) (s : SeenTree) → HaveWidths (seen s e) → HasTuples base w e
    tuples_seen (applied_expression i qs x es) s g = all_tuples es s g
    tuples_seen (infix_expression i x a b) s g = two_tuples a b s (λ h. tuples_seen a s h) (λ h. tuples_seen b (seen s a) h) g
    tuples_seen (integer_expression i z) s g = tt
    tuples_seen (true_expression i) s g = tt
    tuples_seen (false_expression i) s g = tt
    tuples_seen (tuple_expression i es) s g =
        let m = count_expressions es in
        (g m (all_grow es (with_width m s) m (width_there m s)), all_tuples es (with_width m s) g)
    tuples_seen (cast_expression i e f) s g = (tuples_seen e s (λ n h. g n (form_grows f (seen s e) n h)), form_tuples f (seen s e) g)
    tuples_seen (field_expression i e k qs x) s g = tuples_seen e s g
    tuples_seen (record_expression i fs es) s g = all_tuples es s g
    tuples_seen (not_expression i e) s g = tuples_seen e s g
    tuples_seen (connected_expression i a o b) s g = two_tuples a b s (λ h. tuples_seen a s h) (λ h. tuples_seen b (seen s a) h) g
    tuples_seen (equality_expression i same a b) s g = two_tuples a b s (λ h. tuples_seen a s h) (λ h. tuples_seen b (seen s a) h) g
    tuples_seen (if_expression i c a b) s g =
        let t = seen s c in
        let p = two_tuples a b t (λ h. tuples_seen a t h) (λ h. tuples_seen b (seen t a) h) g in
        (tuples_seen c s (λ n h. g n (grows b (seen t a) n (grows a t n h))), p.0, p.1)
    tuples_seen (let_expression i x a b) s g = two_tuples a b s (λ h. tuples_seen a s h) (λ h. tuples_seen b (seen s a) h) g
    tuples_seen (match_expression i is_let e bs) s g = (tuples_seen e s (λ n h. g n (branches_grow bs (seen s e) n h)), branches_tuples bs (seen s e) g)
    tuples_seen (quantified_expression i all bs gs b) s g =
        let t = binders_seen s bs in
        let u = all_seen t gs in
        (binders_tuples bs s (λ n h. g n (grows b u n (all_grow gs t n h))), all_tuples gs t (λ n h. g n (grows b u n h)), tuples_seen b u g)

    all_tuples : (es : Expressions) (s : SeenTree) → HaveWidths (all_seen s es) → HaveTuples base w es
    all_tuples no_expressions s g = tt
    all_tuples (more_expressions e es) s g = (tuples_seen e s (λ n h. g n (all_grow es (seen s e) n h)), all_tuples es (seen s e) g)

    branches_tuples : (bs : MatchBranches) (s : SeenTree) → HaveWidths (branches_seen s bs) → BranchesTuples base w bs
    branches_tuples no_branches s g = tt
    branches_tuples (more_branches ps b bs) s g =
        let t = alternatives_seen s ps in
        let u = seen t b in
        (alternatives_tuples ps s (λ n h. g n (branches_grow bs u n (grows b t n h))), tuples_seen b t (λ n h. g n (branches_grow bs u n h)), branches_tuples bs u g)
