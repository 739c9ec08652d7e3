-- Where names mean alike, the first fault of names is one.
use Rattle.std.proofs.Common.{◌≡◌, ℕ, ◌-◌, nat_lt, nat_le, Bool, true, false, not, ◌&&◌, cond, List, [], ◌∷◌, ◌++◌, reverse, replicate, length, slice_set, Option, Some, None, option_map, refl, sym, ap, ◌∙◌}
use Rattle.std.specs.Prelude.{◌==◌}
use Rattle.std.specs.Option.{is_some, is_none}
use Rattle.tasks.specs.Task.{symbol_or}
use Rattle.tasks.specs.Vocabulary.{is_constructor_kind}
use Rattle.surface.specs.Lexeme.{Word}
use Rattle.name_resolution.specs.Abstract.{FieldName, TypeExpression, TypeExpressions, variable_type, composed_type, product_type, no_types, more_types, Pattern, Patterns, wildcard_pattern, variable_pattern, constructor_pattern, tuple_pattern, alias_pattern, record_pattern, no_patterns, more_patterns, Alternatives, no_alternatives, more_alternatives, BoundNames, Expression, Expressions, MatchBranches, applied_expression, infix_expression, integer_expression, true_expression, false_expression, tuple_expression, cast_expression, field_expression, record_expression, not_expression, connected_expression, equality_expression, if_expression, let_expression, match_expression, quantified_expression, no_expressions, more_expressions, no_branches, more_branches, count_forms, count_patterns, count_expressions}
use Rattle.name_resolution.specs.declared.NamingFault.{NamingFault}
use Rattle.name_resolution.specs.declared.NamingFault.TheVariants.{Unknown, Duplicate, WrongKind, Arity}
use Rattle.name_resolution.specs.Faults.{first_of, fault_if, meaning_fault, form_fault, forms_fault, differ, is_predicate, is_projection, symbol_fault, field_fault, place_fault, entry_named_fault, fields_fault, record_fault, local_fault, is_variable, name_fault, type_fault, binders_fault, bound_names, constructor_fault, pattern_names, pattern_fault, patterns_fault, same_names, later_fault, alternatives_fault, alternatives_names, first_pattern_fault, has_alternative, TriggerHeadTree, trigger_named, trigger_equality, trigger_other, trigger_head, makes_formulas, is_formula_head, is_formula_trigger, fault, faults, triggers_fault, branches_fault}
use Rattle.name_resolution.specs.Records.{is_record, record_with, record_named, field_place, or_first, places_named, entry_of_field, none_named, named_after, each_named}
use Rattle.name_resolution.specs.Where.{Where, MeaningTree, place_of}
use Rattle.scopes.specs.declared.Referent.TheVariants as stands
use Rattle.elab_groups.specs.parts.Alike.{meaning_arity, EntryShape, shape, RecordShape, record_shape, TypesAlike, AreScopesAlike}

pub both : {x y x' y' : Option NamingFault} → x ≡ x' → y ≡ y' → first_of x y ≡ first_of x' y'
both p q = cc

-- the earlier fault is the same
later : (x : Option NamingFault) {y y' : Option NamingFault} → y ≡ y' → first_of x y ≡ first_of x y'
later x q = ap (first_of x) q

sooner : {x x' : Option NamingFault} (y : Option NamingFault) → x ≡ x' → first_of x y ≡ first_of x' y
sooner y q = ap (λ (x : Option NamingFault). first_of x y) q

-- ---- what is asked of entries
arity_fault : ℕ → ℕ → Option ℕ → Option NamingFault
arity_fault i n None = Some (Unknown i)
arity_fault i n (Some m) = fault_if (not (m == n)) (Arity i)

meaning_told : (w : Where) (i n : ℕ) (m : Option MeaningTree) → meaning_fault w i n m ≡ arity_fault i n (option_map (meaning_arity w.symbols) m)
unfolding arity_fault
meaning_told w i n None = refl
meaning_told w i n (Some (stands.Entry k)) = refl
meaning_told w i n (Some (stands.Alias m t)) = refl

use_fault : Bool → ℕ → ℕ → Option EntryShape → Option NamingFault
use_fault due i n None = Some (Unknown i)
use_fault due i n (Some e) = first_of (fault_if (differ due (is_predicate e.kind)) (WrongKind i)) (fault_if (not (e.count == n)) (Arity i))

symbol_told : (w : Where) (due : Bool) (i n : ℕ) (m : Option ℕ) → symbol_fault w due i n m ≡ use_fault due i n (option_map (shape w.symbols) m)
unfolding use_fault
symbol_told w due i n None = refl
symbol_told w due i n (Some k) = refl

of_field : Bool → ℕ → Option EntryShape → Option NamingFault
of_field due i None = Some (Unknown i)
of_field due i (Some e) = first_of (fault_if (not (is_projection e.kind)) (WrongKind i)) (use_fault due i 1 (Some e))

field_told : (w : Where) (due : Bool) (i : ℕ) (m : Option ℕ) → field_fault w due i m ≡ of_field due i (option_map (shape w.symbols) m)
unfolding of_field use_fault
field_told w due i None = refl
field_told w due i (Some k) = refl

part_fault : ℕ → ℕ → Option EntryShape → Option NamingFault
part_fault i n None = Some (Unknown i)
part_fault i n (Some e) = first_of (fault_if (not (is_constructor_kind e.kind)) (WrongKind i)) (fault_if (not (e.count == n)) (Arity i))

constructor_told : (w : Where) (i n : ℕ) (m : Option ℕ) → constructor_fault w i n m ≡ part_fault i n (option_map (shape w.symbols) m)
unfolding part_fault
constructor_told w i n None = refl
constructor_told w i n (Some k) = refl

are_formulas : Option EntryShape → Bool
are_formulas None = false
are_formulas (Some e) = is_predicate e.kind

formulas_told : (w : Where) (m : Option ℕ) → makes_formulas w m ≡ are_formulas (option_map (shape w.symbols) m)
unfolding are_formulas
formulas_told w None = refl
formulas_told w (Some k) = refl

-- ---- the record of fields
abbrev shape_or : Option RecordShape → RecordShape → RecordShape
shape_or None s = s
shape_or (Some t) s = t

abbrev named_shape : Where → List FieldName → RecordShape
named_shape w [] = record_shape w.symbols 0
named_shape w (f ∷ fs) = shape_or (option_map (record_shape w.symbols) (entry_of_field w.names f)) (record_shape w.symbols 0)

module _ (w : Where) where
  named_constructor : (fs : List FieldName) → (named_shape w fs).constructor ≡ record_named w.symbols w.names fs
  named_constructor [] = refl
  named_constructor (f ∷ fs) = of (entry_of_field w.names f)
    where
      of : (m : Option ℕ) → (shape_or (option_map (record_shape w.symbols) m) (record_shape w.symbols 0)).constructor ≡ record_with w.symbols m
      of None = refl
      of (Some k) = refl

  named_is : (fs : List FieldName) → (named_shape w fs).is ≡ is_record (symbol_or w.symbols (record_named w.symbols w.names fs))
  named_is [] = refl
  named_is (f ∷ fs) = of (entry_of_field w.names f)
    where
      of : (m : Option ℕ) → (shape_or (option_map (record_shape w.symbols) m) (record_shape w.symbols 0)).is ≡ is_record (symbol_or w.symbols (record_with w.symbols m))
      of None = refl
      of (Some k) = refl

  named_fields : (fs : List FieldName) → (named_shape w fs).fields ≡ length (symbol_or w.symbols (record_named w.symbols w.names fs)).args
  named_fields [] = refl
  named_fields (f ∷ fs) = of (entry_of_field w.names f)
    where
      of : (m : Option ℕ) → (shape_or (option_map (record_shape w.symbols) m) (record_shape w.symbols 0)).fields ≡ length (symbol_or w.symbols (record_with w.symbols m)).args
      of None = refl
      of (Some k) = refl

  number_told : (m : Option ℕ) → option_map (λ (s : RecordShape). s.number) (option_map (record_shape w.symbols) m) ≡ m
  number_told None = refl
  number_told (Some k) = refl

  -- what is asked of the fields of a record of this number
  abbrev record_checks : Bool → ℕ → ℕ → List FieldName → ℕ → Option NamingFault
  record_checks whole i n fs c =
      let e = symbol_or w.symbols c in
      first_of (fields_fault w.symbols w.names c (none_named e) fs)
      (first_of (fault_if (not (is_record e && (length fs == n))) (WrongKind i)) (fault_if (whole && not (each_named (named_after (places_named w.symbols w.names c fs) (none_named e)))) (Arity i)))

-- ---- types
module _ (w v : Where) (a : TypesAlike w v) where
  meaning_alike : (i n : ℕ) (qs : List Word) (x : Word) → meaning_fault w i n (w.types qs x) ≡ meaning_fault v i n (v.types qs x)
  meaning_alike i n qs x = meaning_told w i n (w.types qs x) ∙ ap (arity_fault i n) (a.types qs x) ∙ sym (meaning_told v i n (v.types qs x))

  mutual
    pub form_alike : (o : Bool) (f : TypeExpression) → form_fault w o f ≡ form_fault v o f
    form_alike o (variable_type i x) = ap (λ (vs : List Word). fault_if (cond o false (is_none (place_of x vs))) (Unknown i)) a.vars
    form_alike o (composed_type i qs x fs) = both (meaning_alike i (count_forms fs) qs x) (forms_alike o fs)
    form_alike o (product_type i fs) = forms_alike o fs

    pub forms_alike : (o : Bool) (fs : TypeExpressions) → forms_fault w o fs ≡ forms_fault v o fs
    forms_alike o no_types = refl
    forms_alike o (more_types f fs) = both (form_alike o f) (forms_alike o fs)

  pub type_alike : (o : Bool) (f : Option TypeExpression) → type_fault w o f ≡ type_fault v o f
  type_alike o None = refl
  type_alike o (Some f) = form_alike o f

  pub binders_alike : (o : Bool) (bs : List BoundNames) → binders_fault w o bs ≡ binders_fault v o bs
  binders_alike o [] = refl
  binders_alike o (b ∷ bs) = both (type_alike o b.of_type) (binders_alike o bs)

module _ (w v : Where) (a : AreScopesAlike w v) where
  symbol_alike : (due : Bool) (i n : ℕ) (qs : List Word) (x : Word) → symbol_fault w due i n (w.names qs x) ≡ symbol_fault v due i n (v.names qs x)
  symbol_alike due i n qs x = symbol_told w due i n (w.names qs x) ∙ ap (use_fault due i n) (a.names qs x) ∙ sym (symbol_told v due i n (v.names qs x))

  field_alike : (due : Bool) (i : ℕ) (qs : List Word) (x : Word) → field_fault w due i (w.names qs x) ≡ field_fault v due i (v.names qs x)
  field_alike due i qs x = field_told w due i (w.names qs x) ∙ ap (of_field due i) (a.names qs x) ∙ sym (field_told v due i (v.names qs x))

  constructor_alike : (i n : ℕ) (qs : List Word) (x : Word) → constructor_fault w i n (w.names qs x) ≡ constructor_fault v i n (v.names qs x)
  constructor_alike i n qs x = constructor_told w i n (w.names qs x) ∙ ap (part_fault i n) (a.names qs x) ∙ sym (constructor_told v i n (v.names qs x))

  number_alike : (qs : List Word) (x : Word) → w.names qs x ≡ v.names qs x
  number_alike qs x = sym (number_told w (w.names qs x)) ∙ ap (option_map (λ (s : RecordShape). s.number)) (a.records qs x) ∙ number_told v (v.names qs x)

  shape_alike : (fs : List FieldName) → named_shape w fs ≡ named_shape v fs
  shape_alike [] = a.first
  shape_alike (f ∷ fs) =
      ap (λ (s : Option RecordShape). shape_or s (record_shape w.symbols 0)) (a.records f.scopes f.text) ∙ ap (shape_or (option_map (record_shape v.symbols) (entry_of_field v.names f))) a.first

  module _ (c : ℕ) (is : is_record (symbol_or w.symbols c) ≡ is_record (symbol_or v.symbols c)) (fields : length (symbol_or w.symbols c).args ≡ length (symbol_or v.symbols c).args) where
    place_alike : (m : Option ℕ) → field_place w.symbols c m ≡ field_place v.symbols c m
    place_alike None = refl
    place_alike (Some k) =
        ap (λ (b : Bool). cond (b && (nat_lt c k && nat_le (k - c) (length (symbol_or w.symbols c).args))) (Some (k - c - 1)) None) is
        ∙ ap (λ (n : ℕ). cond (is_record (symbol_or v.symbols c) && (nat_lt c k && nat_le (k - c) n)) (Some (k - c - 1)) None) fields

    field_place_alike : (f : FieldName) → field_place w.symbols c (entry_of_field w.names f) ≡ field_place v.symbols c (entry_of_field v.names f)
    field_place_alike f = place_alike (entry_of_field w.names f) ∙ ap (field_place v.symbols c) (number_alike f.scopes f.text)

    named_alike : (named : List Bool) (i : ℕ) (m : Option ℕ) → entry_named_fault w.symbols c named i m ≡ entry_named_fault v.symbols c named i m
    named_alike named i None = refl
    named_alike named i (Some k) = ap (place_fault named i) (place_alike (Some k))

    fields_alike : (fs : List FieldName) (named : List Bool) → fields_fault w.symbols w.names c named fs ≡ fields_fault v.symbols v.names c named fs
    fields_alike [] named = refl
    fields_alike (f ∷ fs) named =
        both (named_alike named f.at (entry_of_field w.names f) ∙ ap (entry_named_fault v.symbols c named f.at) (number_alike f.scopes f.text))
        (ap (λ (m : Option ℕ). fields_fault w.symbols w.names c (slice_set named (or_first m) true) fs) (field_place_alike f)
        ∙ fields_alike fs (slice_set named (or_first (field_place v.symbols c (entry_of_field v.names f))) true))

    places_alike : (fs : List FieldName) → places_named w.symbols w.names c fs ≡ places_named v.symbols v.names c fs
    places_alike [] = refl
    places_alike (f ∷ fs) =
        ap (λ (m : Option ℕ). or_first m ∷ places_named w.symbols w.names c fs) (field_place_alike f)
        ∙ ap (λ (ps : List ℕ). or_first (field_place v.symbols c (entry_of_field v.names f)) ∷ ps) (places_alike fs)

    checks_alike : (whole : Bool) (i n : ℕ) (fs : List FieldName) → record_checks w whole i n fs c ≡ record_checks v whole i n fs c
    checks_alike whole i n fs =
        let none : none_named (symbol_or w.symbols c) ≡ none_named (symbol_or v.symbols c) = ap (λ (k : ℕ). replicate k false) fields in
        both (ap (λ (bs : List Bool). fields_fault w.symbols w.names c bs fs) none ∙ fields_alike fs (none_named (symbol_or v.symbols c)))
        (both (ap (λ (b : Bool). fault_if (not (b && (length fs == n))) (WrongKind i)) is)
        (ap (λ (bs : List Bool). fault_if (whole && not (each_named bs)) (Arity i))
        (ap (λ (ps : List ℕ). named_after ps (none_named (symbol_or w.symbols c))) (places_alike fs) ∙ ap (named_after (places_named v.symbols v.names c fs)) none)))

  record_alike : (whole : Bool) (i n : ℕ) (fs : List FieldName) → record_fault w whole i n fs ≡ record_fault v whole i n fs
  record_alike whole i n fs =
      let c = record_named w.symbols w.names fs in
      let d = record_named v.symbols v.names fs in
      let s = shape_alike fs in
      let q : record_named w.symbols w.names fs ≡ record_named v.symbols v.names fs = sym (named_constructor w fs) ∙ ap (λ (t : RecordShape). t.constructor) s ∙ named_constructor v fs in
      let is : is_record (symbol_or w.symbols c) ≡ is_record (symbol_or v.symbols c) =
      sym (named_is w fs) ∙ ap (λ (t : RecordShape). t.is) s ∙ named_is v fs ∙ ap (λ (k : ℕ). is_record (symbol_or v.symbols k)) (sym q) in
      let fields : length (symbol_or w.symbols c).args ≡ length (symbol_or v.symbols c).args =
      sym (named_fields w fs) ∙ ap (λ (t : RecordShape). t.fields) s ∙ named_fields v fs ∙ ap (λ (k : ℕ). length (symbol_or v.symbols k).args) (sym q) in
      checks_alike c is fields whole i n fs ∙ ap (record_checks v whole i n fs) q

  formulas_alike : (qs : List Word) (x : Word) → makes_formulas w (w.names qs x) ≡ makes_formulas v (v.names qs x)
  formulas_alike qs x = formulas_told w (w.names qs x) ∙ ap are_formulas (a.names qs x) ∙ sym (formulas_told v (v.names qs x))

  name_alike : (ls : List Word) (due : Bool) (i : ℕ) (qs : List Word) (x : Word) (n : ℕ) → name_fault w ls due i qs x n ≡ name_fault v ls due i qs x n
  name_alike ls due i qs x n = ap (cond (is_variable qs x ls) (local_fault due i n)) (symbol_alike due i n qs x)

  head_alike : (ls : List Word) (h : TriggerHeadTree) → is_formula_head w ls h ≡ is_formula_head v ls h
  head_alike ls (trigger_named qs x) = ap (cond (is_variable qs x ls) false) (formulas_alike qs x)
  head_alike ls (trigger_equality same) = refl
  head_alike ls trigger_other = refl

  -- ---- patterns
  mutual
    pattern_alike : (us : List Word) (p : Pattern) → pattern_fault w us p ≡ pattern_fault v us p
    pattern_alike us (wildcard_pattern i) = refl
    pattern_alike us (variable_pattern i x) = refl
    pattern_alike us (constructor_pattern i qs x ps) = both (constructor_alike i (count_patterns ps) qs x) (patterns_alike us ps)
    pattern_alike us (tuple_pattern i ps) = patterns_alike us ps
    pattern_alike us (alias_pattern p i x) = sooner (fault_if (is_some (place_of x (us ++ pattern_names p))) (Duplicate i)) (pattern_alike us p)
    pattern_alike us (record_pattern i fs ps) = both (record_alike false i (count_patterns ps) fs) (patterns_alike us ps)

    patterns_alike : (us : List Word) (ps : Patterns) → patterns_fault w us ps ≡ patterns_fault v us ps
    patterns_alike us no_patterns = refl
    patterns_alike us (more_patterns p ps) = both (pattern_alike us p) (patterns_alike (us ++ pattern_names p) ps)

  later_alike : (ns : List Word) (ps : Alternatives) → later_fault w ns ps ≡ later_fault v ns ps
  later_alike ns no_alternatives = refl
  later_alike ns (more_alternatives i p ps) = later (fault_if (not (same_names ns (pattern_names p))) (WrongKind i)) (both (pattern_alike [] p) (later_alike ns ps))

  alternatives_alike : (ps : Alternatives) → alternatives_fault w ps ≡ alternatives_fault v ps
  alternatives_alike no_alternatives = refl
  alternatives_alike (more_alternatives i p ps) = both (pattern_alike [] p) (later_alike (pattern_names p) ps)

  first_pattern_alike : (is_let : Bool) (bs : MatchBranches) → first_pattern_fault w is_let bs ≡ first_pattern_fault v is_let bs
  first_pattern_alike true (more_branches ps b bs) = alternatives_alike ps
  first_pattern_alike true no_branches = refl
  first_pattern_alike false bs = refl

  -- ---- terms and formulas
  mutual
    pub alike : (e : Expression) (o : Bool) (ls : List Word) (due : Bool) → fault w o ls due e ≡ fault v o ls due e
    alike (applied_expression i qs x es) o ls due = both (name_alike ls due i qs x (count_expressions es)) (all_alike es o ls)
    alike (infix_expression i x a b) o ls due = both (alike a o ls false) (both (name_alike ls due i [] x 2) (alike b o ls false))
    alike (integer_expression i z) o ls due = refl
    alike (true_expression i) o ls due = refl
    alike (false_expression i) o ls due = refl
    alike (tuple_expression i es) o ls due = later (fault_if due (WrongKind i)) (all_alike es o ls)
    alike (cast_expression i e f) o ls due = later (fault_if due (WrongKind i)) (both (alike e o ls false) (form_alike w v a.forms o f))
    alike (field_expression i e k qs x) o ls due = both (alike e o ls false) (field_alike due k qs x)
    alike (record_expression i fs es) o ls due = later (fault_if due (WrongKind i)) (both (record_alike true i (count_expressions es) fs) (all_alike es o ls))
    alike (not_expression i e) o ls due = later (fault_if (not due) (WrongKind i)) (alike e o ls true)
    alike (connected_expression i a op b) o ls due = both (alike a o ls true) (later (fault_if (not due) (WrongKind i)) (alike b o ls true))
    alike (equality_expression i same a b) o ls due = both (alike a o ls false) (later (fault_if (not due) (WrongKind i)) (alike b o ls false))
    alike (if_expression i c a b) o ls due = both (alike c o ls true) (both (alike a o ls due) (alike b o ls due))
    alike (let_expression i x a b) o ls due = both (alike a o ls false) (alike b o (x ∷ ls) due)
    alike (match_expression i is_let e bs) o ls due = both (first_pattern_alike is_let bs) (both (alike e o ls false) (later (fault_if (not (has_alternative bs)) (WrongKind i)) (branches_alike bs o ls due)))
    alike (quantified_expression i all bs gs b) o ls due =
        let inside = reverse (bound_names bs) ++ ls in
        later (fault_if (not due) (WrongKind i)) (both (binders_alike w v a.forms o bs) (both (triggers_alike gs o inside) (alike b o inside true)))

    all_alike : (es : Expressions) (o : Bool) (ls : List Word) → faults w o ls es ≡ faults v o ls es
    all_alike no_expressions o ls = refl
    all_alike (more_expressions e es) o ls = both (alike e o ls false) (all_alike es o ls)

    triggers_alike : (es : Expressions) (o : Bool) (ls : List Word) → triggers_fault w o ls es ≡ triggers_fault v o ls es
    triggers_alike no_expressions o ls = refl
    triggers_alike (more_expressions e es) o ls = both (alike e o ls (is_formula_trigger w ls e) ∙ ap (λ (due : Bool). fault v o ls due e) (head_alike ls (trigger_head e))) (triggers_alike es o ls)

    branches_alike : (bs : MatchBranches) (o : Bool) (ls : List Word) (due : Bool) → branches_fault w o ls due bs ≡ branches_fault v o ls due bs
    branches_alike no_branches o ls due = refl
    branches_alike (more_branches ps b bs) o ls due = both (alternatives_alike ps) (both (alike b o (reverse (alternatives_names ps) ++ ls) due) (branches_alike bs o ls due))
