-- Faults of names where the same names are bound in another order.
use Rattle.std.proofs.Common.{◌≡◌, ℕ, ◌+◌, zero, suc, Bool, true, false, not, cond, List, [], ◌∷◌, ◌++◌, reverse, Option, Some, None, option_map, refl, sym, ap, ◌∙◌, arith}
use Rattle.std.specs.Option.{is_some}
use Rattle.std.specs.Str.{bytes_eq}
use mathlib.Core.List.{reverse-cons}
use Rattle.surface.specs.Lexeme.{Word}
use Rattle.name_resolution.specs.Abstract.{Expression, Expressions, MatchBranches, applied_expression, infix_expression, integer_expression, true_expression, false_expression, tuple_expression, cast_expression, field_expression, record_expression, not_expression, connected_expression, equality_expression, if_expression, let_expression, match_expression, quantified_expression, no_expressions, more_expressions, no_branches, more_branches, count_expressions}
use Rattle.name_resolution.specs.declared.NamingFault.{NamingFault}
use Rattle.name_resolution.specs.declared.NamingFault.TheVariants.{WrongKind}
use Rattle.name_resolution.specs.Faults.{first_of, fault_if, local_fault, symbol_fault, field_fault, record_fault, is_variable, name_fault, form_fault, bound_names, alternatives_names, TriggerHeadTree, trigger_named, trigger_equality, trigger_other, trigger_head, makes_formulas, is_formula_head, is_formula_trigger, fault, faults, triggers_fault, branches_fault}
use Rattle.name_resolution.specs.Where.{Where, place_of}

-- how often a name is among others
abbrev pub occurrences : Word → List Word → ℕ
occurrences x [] = 0
occurrences x (y ∷ ys) = cond (bytes_eq y x) (suc (occurrences x ys)) (occurrences x ys)

-- the same names, each as often
abbrev pub SameNames : List Word → List Word → Type 0
SameNames us vs = (x : Word) → occurrences x us ≡ occurrences x vs

one_occurs : (b : Bool) (m n : ℕ) → cond b (suc (m + n)) (m + n) ≡ cond b (suc m) m + n
one_occurs true m n = omega arith
one_occurs false m n = refl

pub occurs_both : (x : Word) (us vs : List Word) → occurrences x (us ++ vs) ≡ occurrences x us + occurrences x vs
occurs_both x [] vs = omega arith
occurs_both x (u ∷ us) vs = ap (λ (n : ℕ). cond (bytes_eq u x) (suc n) n) (occurs_both x us vs) ∙ one_occurs (bytes_eq u x) (occurrences x us) (occurrences x vs)

last_occurs : (b : Bool) (n : ℕ) → n + cond b 1 0 ≡ cond b (suc n) n
last_occurs true n = omega arith
last_occurs false n = omega arith

pub occurs_reverse : (x : Word) (us : List Word) → occurrences x (reverse us) ≡ occurrences x us
occurs_reverse x [] = refl
occurs_reverse x (u ∷ us) =
    ap (occurrences x) (reverse-cons u us) ∙ occurs_both x (reverse us) (u ∷ [])
    ∙ ap (λ (n : ℕ). n + cond (bytes_eq u x) 1 0) (occurs_reverse x us) ∙ last_occurs (bytes_eq u x) (occurrences x us)

abbrev pub is_positive : ℕ → Bool
is_positive zero = false
is_positive (suc n) = true

pub occurs_in : (x : Word) (us : List Word) → is_some (place_of x us) ≡ is_positive (occurrences x us)
occurs_in x [] = refl
occurs_in x (u ∷ us) = of (bytes_eq u x) (place_of x us) (occurrences x us) (occurs_in x us)
  where
    of : (b : Bool) (o : Option ℕ) (n : ℕ) → is_some o ≡ is_positive n → is_some (cond b (Some 0) (option_map suc o)) ≡ is_positive (cond b (suc n) n)
    of true o n h = refl
    of false None n h = h
    of false (Some k) n h = h

pub same_in : (us vs : List Word) → SameNames us vs → (x : Word) → is_some (place_of x us) ≡ is_some (place_of x vs)
same_in us vs h x = occurs_in x us ∙ ap is_positive (h x) ∙ sym (occurs_in x vs)

pub same_both : (us vs us' vs' : List Word) → SameNames us us' → SameNames vs vs' → SameNames (us ++ vs) (us' ++ vs')
same_both us vs us' vs' h k = λ x. occurs_both x us vs ∙ cc (h x, k x) ∙ sym (occurs_both x us' vs')

pub same_reverse : (us vs : List Word) → SameNames us vs → SameNames (reverse us) (reverse vs)
same_reverse us vs h = λ x. occurs_reverse x us ∙ h x ∙ sym (occurs_reverse x vs)

pub same_names_self : (us : List Word) → SameNames us us
same_names_self us = λ x. refl

-- inside variables
pub same_inside : (xs us vs : List Word) → SameNames us vs → SameNames (xs ++ us) (xs ++ vs)
same_inside xs us vs h = same_both xs us xs vs (same_names_self xs) h

module _ (w : Where) where
  variable_same : (us vs : List Word) → SameNames us vs → (qs : List Word) (x : Word) → is_variable qs x us ≡ is_variable qs x vs
  variable_same us vs h [] x = same_in us vs h x
  variable_same us vs h (q ∷ qs) x = refl

  name_same : (us vs : List Word) → SameNames us vs → (due : Bool) (i : ℕ) (qs : List Word) (x : Word) (n : ℕ) → name_fault w us due i qs x n ≡ name_fault w vs due i qs x n
  name_same us vs h due i qs x n = ap (λ (b : Bool). cond b (local_fault due i n) (symbol_fault w due i n (w.names qs x))) (variable_same us vs h qs x)

  head_same : (us vs : List Word) → SameNames us vs → (t : TriggerHeadTree) → is_formula_head w us t ≡ is_formula_head w vs t
  head_same us vs h (trigger_named qs x) = ap (λ (b : Bool). cond b false (makes_formulas w (w.names qs x))) (variable_same us vs h qs x)
  head_same us vs h (trigger_equality same) = refl
  head_same us vs h trigger_other = refl

  pub trigger_same : (us vs : List Word) → SameNames us vs → (e : Expression) → is_formula_trigger w us e ≡ is_formula_trigger w vs e
  trigger_same us vs h e = head_same us vs h (trigger_head e)

  mutual
    pub fault_same : (e : Expression) (o : Bool) (us vs : List Word) (due : Bool) → SameNames us vs → fault w o us due e ≡ fault w o vs due e
    fault_same (applied_expression i qs x es) o us vs due h = cc (name_same us vs h due i qs x (count_expressions es), faults_same es o us vs h)
    fault_same (infix_expression i x a b) o us vs due h = cc (fault_same a o us vs false h, name_same us vs h due i [] x 2, fault_same b o us vs false h)
    fault_same (integer_expression i z) o us vs due h = refl
    fault_same (true_expression i) o us vs due h = refl
    fault_same (false_expression i) o us vs due h = refl
    fault_same (tuple_expression i es) o us vs due h = ap (first_of (fault_if due (WrongKind i))) (faults_same es o us vs h)
    fault_same (cast_expression i e f) o us vs due h = ap (λ (x : Option NamingFault). first_of (fault_if due (WrongKind i)) (first_of x (form_fault w o f))) (fault_same e o us vs false h)
    fault_same (field_expression i e k qs x) o us vs due h = ap (λ (y : Option NamingFault). first_of y (field_fault w due k (w.names qs x))) (fault_same e o us vs false h)
    fault_same (record_expression i fs es) o us vs due h = ap (λ (y : Option NamingFault). first_of (fault_if due (WrongKind i)) (first_of (record_fault w true i (count_expressions es) fs) y)) (faults_same es o us vs h)
    fault_same (not_expression i e) o us vs due h = ap (first_of (fault_if (not due) (WrongKind i))) (fault_same e o us vs true h)
    fault_same (connected_expression i a op b) o us vs due h = cc (fault_same a o us vs true h, fault_same b o us vs true h)
    fault_same (equality_expression i same a b) o us vs due h = cc (fault_same a o us vs false h, fault_same b o us vs false h)
    fault_same (if_expression i c a b) o us vs due h = cc (fault_same c o us vs true h, fault_same a o us vs due h, fault_same b o us vs due h)
    fault_same (let_expression i x a b) o us vs due h = cc (fault_same a o us vs false h, fault_same b o (x ∷ us) (x ∷ vs) due (same_inside (x ∷ []) us vs h))
    fault_same (match_expression i is_let e bs) o us vs due h = cc (fault_same e o us vs false h, branches_same bs o us vs due h)
    fault_same (quantified_expression i all bs gs b) o us vs due h =
        let xs = reverse (bound_names bs) in
        let k = same_inside xs us vs h in
        cc (triggers_same gs o (xs ++ us) (xs ++ vs) k, fault_same b o (xs ++ us) (xs ++ vs) true k)

    pub faults_same : (es : Expressions) (o : Bool) (us vs : List Word) → SameNames us vs → faults w o us es ≡ faults w o vs es
    faults_same no_expressions o us vs h = refl
    faults_same (more_expressions e es) o us vs h = cc (fault_same e o us vs false h, faults_same es o us vs h)

    pub triggers_same : (es : Expressions) (o : Bool) (us vs : List Word) → SameNames us vs → triggers_fault w o us es ≡ triggers_fault w o vs es
    triggers_same no_expressions o us vs h = refl
    triggers_same (more_expressions e es) o us vs h = cc (trigger_same us vs h e, fault_same e o us vs (is_formula_trigger w us e) h, triggers_same es o us vs h)

    pub branches_same : (bs : MatchBranches) (o : Bool) (us vs : List Word) (due : Bool) → SameNames us vs → branches_fault w o us due bs ≡ branches_fault w o vs due bs
    branches_same no_branches o us vs due h = refl
    branches_same (more_branches ps b bs) o us vs due h =
        let xs = reverse (alternatives_names ps) in
        cc (fault_same b o (xs ++ us) (xs ++ vs) due (same_inside xs us vs h), branches_same bs o us vs due h)
