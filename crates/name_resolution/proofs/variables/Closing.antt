-- Where no fault stands with the list of type variables open, none stands with the list closed at those that are seen.
use Rattle.std.proofs.Common.{◌≡◌, ℕ, suc, Bool, true, false, not, cond, List, [], ◌∷◌, ◌++◌, reverse, Option, Some, None, option_map, refl, sym, ap, ◌∙◌}
use Rattle.std.specs.Option.{is_some, is_none}
use Rattle.std.specs.Str.{bytes_eq}
use Rattle.surface.specs.Lexeme.{Word}
use Rattle.name_resolution.specs.Abstract.{TypeExpression, TypeExpressions, variable_type, composed_type, product_type, no_types, more_types, Pattern, Patterns, wildcard_pattern, variable_pattern, constructor_pattern, tuple_pattern, alias_pattern, record_pattern, no_patterns, more_patterns, Alternatives, no_alternatives, more_alternatives, BoundNames, Expression, Expressions, MatchBranches, applied_expression, infix_expression, integer_expression, true_expression, false_expression, tuple_expression, cast_expression, field_expression, record_expression, not_expression, connected_expression, equality_expression, if_expression, let_expression, match_expression, quantified_expression, no_expressions, more_expressions, no_branches, more_branches, count_forms, count_patterns, count_expressions}
use Rattle.name_resolution.specs.declared.NamingFault.{NamingFault}
use Rattle.name_resolution.specs.declared.NamingFault.TheVariants.{Unknown, WrongKind}
use Rattle.name_resolution.specs.Where.{Where, MeaningTree, place_of}
use Rattle.scopes.specs.declared.Referent.TheVariants as stands
use Rattle.name_resolution.specs.Faults.{first_of, fault_if, meaning_fault, form_fault, forms_fault, symbol_fault, field_fault, record_fault, local_fault, is_variable, name_fault, type_fault, binders_fault, bound_names, constructor_fault, pattern_fault, patterns_fault, pattern_names, later_fault, alternatives_fault, alternatives_names, TriggerHeadTree, trigger_named, trigger_equality, trigger_other, trigger_head, makes_formulas, is_formula_head, is_formula_trigger, fault, faults, triggers_fault, branches_fault, first_pattern_fault, has_alternative}
use Rattle.name_resolution.specs.variables.Seen.{SeenTree, with_variable, with_width, form_seen, forms_seen, type_seen, binders_seen, pattern_seen, patterns_seen, alternatives_seen, seen, all_seen, branches_seen}
use Rattle.name_resolution.proofs.Placed.{one_more}
use Rattle.tasks.proofs.plain_laws.Lists.{bytes_same}

abbrev IsIn : Word → List Word → Type 0
IsIn v vs = is_some (place_of v vs) ≡ true

-- each word of the first list is in the second
abbrev pub AreIn : List Word → List Word → Type 0
AreIn us vs = (v : Word) → IsIn v us → IsIn v vs

-- each type variable of the first is one of the second
abbrev Stay : SeenTree → SeenTree → Type 0
Stay s t = AreIn s.vars t.vars

pub none_both : (x y : Option NamingFault) → first_of x y ≡ None → (x ≡ None) × (y ≡ None)
none_both None y h = (refl, h)
none_both (Some f) y h = absurd (cc)

pub both_none : (x y : Option NamingFault) → x ≡ None → y ≡ None → first_of x y ≡ None
both_none x y p q = rw p q

head_or : (b : Bool) (x : Option ℕ) → b ≡ true → is_some (cond b (Some 0) x) ≡ true
head_or true x h = refl
head_or false x h = absurd (cc)

-- what is found further on is found
further : (b : Bool) (x y : Option ℕ) → (is_some x ≡ true → is_some y ≡ true) → is_some (cond b (Some 0) (option_map suc x)) ≡ true → is_some (cond b (Some 0) (option_map suc y)) ≡ true
further true x y f h = refl
further false x y f h = one_more y ∙ f (sym (one_more x) ∙ h)

following : (b : Bool) (y : Option ℕ) → is_some y ≡ true → is_some (cond b (Some 0) (option_map suc y)) ≡ true
following true y h = refl
following false y h = one_more y ∙ h

in_front : (v : Word) (us vs : List Word) → IsIn v us → IsIn v (us ++ vs)
in_front v [] vs h = absurd (cc)
in_front v (u ∷ us) vs h = further (bytes_eq u v) (place_of v us) (place_of v (us ++ vs)) (in_front v us vs) h

in_back : (v : Word) (us vs : List Word) → IsIn v vs → IsIn v (us ++ vs)
in_back v [] vs h = h
in_back v (u ∷ us) vs h = following (bytes_eq u v) (place_of v (us ++ vs)) (in_back v us vs h)

itself : (v : Word) → IsIn v (v ∷ [])
itself v = head_or (bytes_eq v v) (option_map suc (place_of v [])) (bytes_same v)

with_more : (v : Word) (s : SeenTree) → Stay s (with_variable v s)
with_more v s u h = at (is_some (place_of v s.vars))
  where
    at : (b : Bool) → IsIn u (cond b s.vars (s.vars ++ v ∷ []))
    at true = h
    at false = in_front u s.vars (v ∷ []) h

with_has : (v : Word) (s : SeenTree) → IsIn v (with_variable v s).vars
with_has v s = at (is_some (place_of v s.vars)) refl
  where
    at : (b : Bool) → is_some (place_of v s.vars) ≡ b → IsIn v (cond b s.vars (s.vars ++ v ∷ []))
    at true e = e
    at false e = in_back v s.vars (v ∷ []) (itself v)

-- ---- each list of type variables stays in the next
mutual
  form_more : (f : TypeExpression) (s : SeenTree) → Stay s (form_seen s f)
  form_more (variable_type i v) s u h = with_more v s u h
  form_more (composed_type i qs x fs) s u h = forms_more fs s u h
  form_more (product_type i fs) s u h = forms_more fs (with_width (count_forms fs) s) u h

  forms_more : (fs : TypeExpressions) (s : SeenTree) → Stay s (forms_seen s fs)
  forms_more no_types s u h = h
  forms_more (more_types f fs) s u h = forms_more fs (form_seen s f) u (form_more f s u h)

type_more : (f : Option TypeExpression) (s : SeenTree) → Stay s (type_seen s f)
type_more None s u h = h
type_more (Some f) s u h = form_more f s u h

binders_more : (bs : List BoundNames) (s : SeenTree) → Stay s (binders_seen s bs)
binders_more [] s u h = h
binders_more (b ∷ bs) s u h = binders_more bs (type_seen s b.of_type) u (type_more b.of_type s u h)

mutual
  pattern_more : (p : Pattern) (s : SeenTree) → Stay s (pattern_seen s p)
  pattern_more (wildcard_pattern i) s u h = h
  pattern_more (variable_pattern i x) s u h = h
  pattern_more (constructor_pattern i qs x ps) s u h = patterns_more ps s u h
  pattern_more (tuple_pattern i ps) s u h = patterns_more ps (with_width (count_patterns ps) s) u h
  pattern_more (alias_pattern p i x) s u h = pattern_more p s u h
  pattern_more (record_pattern i fs ps) s u h = patterns_more ps s u h

  patterns_more : (ps : Patterns) (s : SeenTree) → Stay s (patterns_seen s ps)
  patterns_more no_patterns s u h = h
  patterns_more (more_patterns p ps) s u h = patterns_more ps (pattern_seen s p) u (pattern_more p s u h)

alternatives_more : (ps : Alternatives) (s : SeenTree) → Stay s (alternatives_seen s ps)
alternatives_more no_alternatives s u h = h
alternatives_more (more_alternatives i p ps) s u h = alternatives_more ps (pattern_seen s p) u (pattern_more p s u h)

mutual
  some_more : (e : Expression) (s : SeenTree) → Stay s (seen s e)
  some_more (applied_expression i qs x es) s u h = all_more es s u h
  some_more (infix_expression i x a b) s u h = some_more b (seen s a) u (some_more a s u h)
  some_more (integer_expression i z) s u h = h
  some_more (true_expression i) s u h = h
  some_more (false_expression i) s u h = h
  some_more (tuple_expression i es) s u h = all_more es (with_width (count_expressions es) s) u h
  some_more (cast_expression i e f) s u h = form_more f (seen s e) u (some_more e s u h)
  some_more (field_expression i e k qs x) s u h = some_more e s u h
  some_more (record_expression i fs es) s u h = all_more es s u h
  some_more (not_expression i e) s u h = some_more e s u h
  some_more (connected_expression i a o b) s u h = some_more b (seen s a) u (some_more a s u h)
  some_more (equality_expression i same a b) s u h = some_more b (seen s a) u (some_more a s u h)
  some_more (if_expression i c a b) s u h = some_more b (seen (seen s c) a) u (some_more a (seen s c) u (some_more c s u h))
  some_more (let_expression i x a b) s u h = some_more b (seen s a) u (some_more a s u h)
  some_more (match_expression i is_let e bs) s u h = branches_more bs (seen s e) u (some_more e s u h)
  some_more (quantified_expression i all bs gs b) s u h = some_more b (all_seen (binders_seen s bs) gs) u (all_more gs (binders_seen s bs) u (binders_more bs s u h))

  all_more : (es : Expressions) (s : SeenTree) → Stay s (all_seen s es)
  all_more no_expressions s u h = h
  all_more (more_expressions e es) s u h = all_more es (seen s e) u (some_more e s u h)

  branches_more : (bs : MatchBranches) (s : SeenTree) → Stay s (branches_seen s bs)
  branches_more no_branches s u h = h
  branches_more (more_branches ps b bs) s u h = branches_more bs (seen (alternatives_seen s ps) b) u (some_more b (alternatives_seen s ps) u (alternatives_more ps s u h))

none_not : (x : Option ℕ) → is_some x ≡ true → is_none x ≡ false
none_not None h = absurd (cc)
none_not (Some k) h = refl

-- ---- closed at some type variables
module _ (w : Where) (vs : List Word) where
  abbrev with_vars : Where
  with_vars = record w { vars = vs }

  meaning_same : (i n : ℕ) (m : Option MeaningTree) → meaning_fault with_vars i n m ≡ meaning_fault w i n m
  meaning_same i n None = refl
  meaning_same i n (Some (stands.Entry k)) = refl
  meaning_same i n (Some (stands.Alias k t)) = refl

  symbol_same : (due : Bool) (i n : ℕ) (m : Option ℕ) → symbol_fault with_vars due i n m ≡ symbol_fault w due i n m
  symbol_same due i n None = refl
  symbol_same due i n (Some k) = refl

  field_same : (due : Bool) (i : ℕ) (m : Option ℕ) → field_fault with_vars due i m ≡ field_fault w due i m
  field_same due i None = refl
  field_same due i (Some k) = refl

  constructor_same : (i n : ℕ) (m : Option ℕ) → constructor_fault with_vars i n m ≡ constructor_fault w i n m
  constructor_same i n None = refl
  constructor_same i n (Some k) = refl

  name_same : (ls : List Word) (due : Bool) (i : ℕ) (qs : List Word) (x : Word) (n : ℕ) → name_fault with_vars ls due i qs x n ≡ name_fault w ls due i qs x n
  name_same ls due i qs x n = ap (cond (is_variable qs x ls) (local_fault due i n)) (symbol_same due i n (w.names qs x))

  makes_same : (m : Option ℕ) → makes_formulas with_vars m ≡ makes_formulas w m
  makes_same None = refl
  makes_same (Some k) = refl

  head_same : (ls : List Word) (h : TriggerHeadTree) → is_formula_head with_vars ls h ≡ is_formula_head w ls h
  head_same ls (trigger_named qs x) = ap (cond (is_variable qs x ls) false) (makes_same (w.names qs x))
  head_same ls (trigger_equality same) = refl
  head_same ls trigger_other = refl

  mutual
    pattern_same : (p : Pattern) (us : List Word) → pattern_fault with_vars us p ≡ pattern_fault w us p
    pattern_same (wildcard_pattern i) us = refl
    pattern_same (variable_pattern i x) us = refl
    pattern_same (constructor_pattern i qs x ps) us = cc (constructor_same i (count_patterns ps) (w.names qs x), patterns_same ps us)
    pattern_same (tuple_pattern i ps) us = patterns_same ps us
    pattern_same (alias_pattern p i x) us = cc (pattern_same p us)
    pattern_same (record_pattern i fs ps) us = ap (first_of (record_fault w false i (count_patterns ps) fs)) (patterns_same ps us)

    patterns_same : (ps : Patterns) (us : List Word) → patterns_fault with_vars us ps ≡ patterns_fault w us ps
    patterns_same no_patterns us = refl
    patterns_same (more_patterns p ps) us = cc (pattern_same p us, patterns_same ps (us ++ pattern_names p))

  later_same : (ps : Alternatives) (ns : List Word) → later_fault with_vars ns ps ≡ later_fault w ns ps
  later_same no_alternatives ns = refl
  later_same (more_alternatives i p ps) ns = cc (pattern_same p [], later_same ps ns)

  alternatives_same : (ps : Alternatives) → alternatives_fault with_vars ps ≡ alternatives_fault w ps
  alternatives_same no_alternatives = refl
  alternatives_same (more_alternatives i p ps) = cc (pattern_same p [], later_same ps (pattern_names p))

  first_pattern_closed : (is_let : Bool) (bs : MatchBranches) → first_pattern_fault w is_let bs ≡ None → first_pattern_fault with_vars is_let bs ≡ None
  first_pattern_closed true (more_branches ps b bs) h = alternatives_same ps ∙ h
  first_pattern_closed true no_branches h = refl
  first_pattern_closed false bs h = refl

  mutual
    form_closed : (f : TypeExpression) (s : SeenTree) → form_fault w true f ≡ None → AreIn (form_seen s f).vars vs → form_fault with_vars false f ≡ None
    form_closed (variable_type i v) s h k = ap (λ (b : Bool). fault_if b (Unknown i)) (none_not (place_of v vs) (k v (with_has v s)))
    form_closed (composed_type i qs x fs) s h k =
        let p = none_both (meaning_fault w i (count_forms fs) (w.types qs x)) (forms_fault w true fs) h in
        both_none _ _ (meaning_same i (count_forms fs) (w.types qs x) ∙ p.0) (forms_closed fs s p.1 k)
    form_closed (product_type i fs) s h k = forms_closed fs (with_width (count_forms fs) s) h k

    forms_closed : (fs : TypeExpressions) (s : SeenTree) → forms_fault w true fs ≡ None → AreIn (forms_seen s fs).vars vs → forms_fault with_vars false fs ≡ None
    forms_closed no_types s h k = refl
    forms_closed (more_types f fs) s h k =
        let p = none_both (form_fault w true f) (forms_fault w true fs) h in
        both_none _ _ (form_closed f s p.0 (λ v m. k v (forms_more fs (form_seen s f) v m))) (forms_closed fs (form_seen s f) p.1 k)

  type_closed : (f : Option TypeExpression) (s : SeenTree) → type_fault w true f ≡ None → AreIn (type_seen s f).vars vs → type_fault with_vars false f ≡ None
  type_closed None s h k = refl
  type_closed (Some f) s h k = form_closed f s h k

  binders_closed : (bs : List BoundNames) (s : SeenTree) → binders_fault w true bs ≡ None → AreIn (binders_seen s bs).vars vs → binders_fault with_vars false bs ≡ None
  binders_closed [] s h k = refl
  binders_closed (b ∷ bs) s h k =
      let p = none_both (type_fault w true b.of_type) (binders_fault w true bs) h in
      both_none _ _ (type_closed b.of_type s p.0 (λ v m. k v (binders_more bs (type_seen s b.of_type) v m))) (binders_closed bs (type_seen s b.of_type) p.1 k)

  mutual
    pub closed : (e : Expression) (s : SeenTree) (ls : List Word) (due : Bool) → fault w true ls due e ≡ None → AreIn (seen s e).vars vs → fault with_vars false ls due e ≡ None
    closed (applied_expression i qs x es) s ls due h k =
        let p = none_both (name_fault w ls due i qs x (count_expressions es)) (faults w true ls es) h in
        both_none _ _ (name_same ls due i qs x (count_expressions es) ∙ p.0) (all_closed es s ls p.1 k)
    closed (infix_expression i x a b) s ls due h k =
        let p = none_both (fault w true ls false a) (first_of (name_fault w ls due i [] x 2) (fault w true ls false b)) h in
        let q = none_both (name_fault w ls due i [] x 2) (fault w true ls false b) p.1 in
        both_none _ _ (closed a s ls false p.0 (λ v m. k v (some_more b (seen s a) v m))) (both_none _ _ (name_same ls due i [] x 2 ∙ q.0) (closed b (seen s a) ls false q.1 k))
    closed (integer_expression i z) s ls due h k = h
    closed (true_expression i) s ls due h k = h
    closed (false_expression i) s ls due h k = h
    closed (tuple_expression i es) s ls due h k =
        let p = none_both (fault_if due (WrongKind i)) (faults w true ls es) h in
        both_none _ _ p.0 (all_closed es (with_width (count_expressions es) s) ls p.1 k)
    closed (cast_expression i e f) s ls due h k =
        let p = none_both (fault_if due (WrongKind i)) (first_of (fault w true ls false e) (form_fault w true f)) h in
        let q = none_both (fault w true ls false e) (form_fault w true f) p.1 in
        both_none _ _ p.0 (both_none _ _ (closed e s ls false q.0 (λ v m. k v (form_more f (seen s e) v m))) (form_closed f (seen s e) q.1 k))
    closed (field_expression i e f qs x) s ls due h k =
        let p = none_both (fault w true ls false e) (field_fault w due f (w.names qs x)) h in
        both_none _ _ (closed e s ls false p.0 k) (field_same due f (w.names qs x) ∙ p.1)
    closed (record_expression i fs es) s ls due h k =
        let p = none_both (fault_if due (WrongKind i)) (first_of (record_fault w true i (count_expressions es) fs) (faults w true ls es)) h in
        let q = none_both (record_fault w true i (count_expressions es) fs) (faults w true ls es) p.1 in
        both_none _ _ p.0 (both_none _ _ q.0 (all_closed es s ls q.1 k))
    closed (not_expression i e) s ls due h k =
        let p = none_both (fault_if (not due) (WrongKind i)) (fault w true ls true e) h in
        both_none _ _ p.0 (closed e s ls true p.1 k)
    closed (connected_expression i a o b) s ls due h k =
        let p = none_both (fault w true ls true a) (first_of (fault_if (not due) (WrongKind i)) (fault w true ls true b)) h in
        let q = none_both (fault_if (not due) (WrongKind i)) (fault w true ls true b) p.1 in
        both_none _ _ (closed a s ls true p.0 (λ v m. k v (some_more b (seen s a) v m))) (both_none _ _ q.0 (closed b (seen s a) ls true q.1 k))
    closed (equality_expression i same a b) s ls due h k =
        let p = none_both (fault w true ls false a) (first_of (fault_if (not due) (WrongKind i)) (fault w true ls false b)) h in
        let q = none_both (fault_if (not due) (WrongKind i)) (fault w true ls false b) p.1 in
        both_none _ _ (closed a s ls false p.0 (λ v m. k v (some_more b (seen s a) v m))) (both_none _ _ q.0 (closed b (seen s a) ls false q.1 k))
    closed (if_expression i c a b) s ls due h k =
        let p = none_both (fault w true ls true c) (first_of (fault w true ls due a) (fault w true ls due b)) h in
        let q = none_both (fault w true ls due a) (fault w true ls due b) p.1 in
        let l : AreIn (seen (seen s c) a).vars vs = λ v m. k v (some_more b (seen (seen s c) a) v m) in
        both_none _ _ (closed c s ls true p.0 (λ v m. l v (some_more a (seen s c) v m))) (both_none _ _ (closed a (seen s c) ls due q.0 l) (closed b (seen (seen s c) a) ls due q.1 k))
    closed (let_expression i x a b) s ls due h k =
        let p = none_both (fault w true ls false a) (fault w true (x ∷ ls) due b) h in
        both_none _ _ (closed a s ls false p.0 (λ v m. k v (some_more b (seen s a) v m))) (closed b (seen s a) (x ∷ ls) due p.1 k)
    closed (match_expression i is_let e bs) s ls due h k =
        let o = none_both (first_pattern_fault w is_let bs) (first_of (fault w true ls false e) (first_of (fault_if (not (has_alternative bs)) (WrongKind i)) (branches_fault w true ls due bs))) h in
        let p = none_both (fault w true ls false e) (first_of (fault_if (not (has_alternative bs)) (WrongKind i)) (branches_fault w true ls due bs)) o.1 in
        let q = none_both (fault_if (not (has_alternative bs)) (WrongKind i)) (branches_fault w true ls due bs) p.1 in
        both_none _ _ (first_pattern_closed is_let bs o.0) (both_none _ _ (closed e s ls false p.0 (λ v m. k v (branches_more bs (seen s e) v m))) (both_none _ _ q.0 (branches_closed bs (seen s e) ls due q.1 k)))
    closed (quantified_expression i all bs gs b) s ls due h k =
        let inside = reverse (bound_names bs) ++ ls in
        let s1 = binders_seen s bs in
        let p = none_both (fault_if (not due) (WrongKind i)) (first_of (binders_fault w true bs) (first_of (triggers_fault w true inside gs) (fault w true inside true b))) h in
        let q = none_both (binders_fault w true bs) (first_of (triggers_fault w true inside gs) (fault w true inside true b)) p.1 in
        let r = none_both (triggers_fault w true inside gs) (fault w true inside true b) q.1 in
        let l : AreIn (all_seen s1 gs).vars vs = λ v m. k v (some_more b (all_seen s1 gs) v m) in
        both_none _ _ p.0 (both_none _ _ (binders_closed bs s q.0 (λ v m. l v (all_more gs s1 v m))) (both_none _ _ (triggers_closed gs s1 inside r.0 l) (closed b (all_seen s1 gs) inside true r.1 k)))

    all_closed : (es : Expressions) (s : SeenTree) (ls : List Word) → faults w true ls es ≡ None → AreIn (all_seen s es).vars vs → faults with_vars false ls es ≡ None
    all_closed no_expressions s ls h k = refl
    all_closed (more_expressions e es) s ls h k =
        let p = none_both (fault w true ls false e) (faults w true ls es) h in
        both_none _ _ (closed e s ls false p.0 (λ v m. k v (all_more es (seen s e) v m))) (all_closed es (seen s e) ls p.1 k)

    triggers_closed : (es : Expressions) (s : SeenTree) (ls : List Word) → triggers_fault w true ls es ≡ None → AreIn (all_seen s es).vars vs → triggers_fault with_vars false ls es ≡ None
    triggers_closed no_expressions s ls h k = refl
    triggers_closed (more_expressions e es) s ls h k =
        let p = none_both (fault w true ls (is_formula_trigger w ls e) e) (triggers_fault w true ls es) h in
        let q = closed e s ls (is_formula_trigger w ls e) p.0 (λ v m. k v (all_more es (seen s e) v m)) in
        both_none _ _ (ap (λ (b : Bool). fault with_vars false ls b e) (head_same ls (trigger_head e)) ∙ q) (triggers_closed es (seen s e) ls p.1 k)

    branches_closed : (bs : MatchBranches) (s : SeenTree) (ls : List Word) (due : Bool) → branches_fault w true ls due bs ≡ None → AreIn (branches_seen s bs).vars vs → branches_fault with_vars false ls due bs ≡ None
    branches_closed no_branches s ls due h k = refl
    branches_closed (more_branches ps b bs) s ls due h k =
        let inside = reverse (alternatives_names ps) ++ ls in
        let s1 = alternatives_seen s ps in
        let p = none_both (alternatives_fault w ps) (first_of (fault w true inside due b) (branches_fault w true ls due bs)) h in
        let q = none_both (fault w true inside due b) (branches_fault w true ls due bs) p.1 in
        both_none _ _ (alternatives_same ps ∙ p.0) (both_none _ _ (closed b s1 inside due q.0 (λ v m. k v (branches_more bs (seen s1 b) v m))) (branches_closed bs (seen s1 b) ls due q.1 k))
