-- The first fault of names of a tree of a source is the failing check at the least token.
use Rattle.std.proofs.Common.{◌≡◌, ℕ, ◌+◌, ◌≤◌, Bool, true, false, not, ◌&&◌, cond, ◌==◌, List, [], ◌∷◌, ◌++◌, map, reverse, length, get_or, slice_set, Option, Some, None, option_map, ◌⊎◌, inl, inr, refl, sym, ap, ◌∙◌, arith}
use Rattle.std.specs.Option.{is_some, is_none}
use Rattle.elab_groups.specs.tasks.Task.{SymbolTree, symbol_or}
use Rattle.elab_groups.specs.tasks.Vocabulary.{is_constructor_kind}
use Rattle.elab_groups.specs.surface.declared.names.At.{At}
use Rattle.elab_groups.specs.tokens_why.declared.terminal.Terminal.TheVariants as t
use Rattle.elab_groups.specs.surface.Lexeme.{Word, Lexeme, mark}
use Rattle.elab_groups.specs.surface.Forms.{SyntaxForm, SyntaxForms, wild, variable, type_variable, composed, enclosed, aliased, fielded_form, no_forms, more_forms, type_forms, pattern_forms, Called, IsForm, AreForms, AreParts, AreNamedForms, IsPlaced, PlacedRow, PlacedList, PlacedFieldForms, past, semicolon_after, write_called, write_form, form_fields, form_fields_tail, form_row, form_list, form_tail, HasForm}
use Rattle.elab_groups.specs.surface.Trees.{SyntaxTree, SyntaxTrees, Branches, SyntaxTrigger, TypedBinder, binds, apply, literal, truth, falsity, group, cast, prefixed, negation, binary, choice, cases, access, fielded_tree, binding, quantified, no_branch, branch, untriggered, triggered, write, write_row, write_list, write_tail, tree_fields, tree_fields_tail, write_branches, write_others, write_trigger, write_terms, terms_tail, write_op, alternative_list, alternative_tail, type_part, write_binder, binder_list, binder_tail, name_row, bar_before, IsLevel, AreAtoms, AreLevel, AreBranches, AreAlternatives, AreBinders, IsTypePart, IsTrigger, AreTerms, AreNamedTrees, HasSome, HasBranch, PlacedNames, PlacedPart, PlacedBinder, PlacedBinders, PlacedAlternatives, IsPlacedTree, PlacedFieldTrees, PlacedTrees, PlacedCommas, PlacedBranches, PlacedTrigger}
use Rattle.elab_groups.specs.surface.Trees as tree
use Rattle.elab_groups.specs.name_resolution.Abstract.{FieldName, named_field, field_names, TypeExpression, TypeExpressions, no_types, more_types, Pattern, Patterns, no_patterns, more_patterns, BoundNames, Expression, Expressions, MatchBranches, more_expressions, count_forms, count_patterns, count_expressions, type_expression, type_expressions, grouped_forms, pattern, pattern_list, grouped_patterns, form_place, first_form, side_by_side, branch_alternatives, expression, expressions, grouped, match_branches, triggers, tree_place, first_tree, let_name, let_by, binder, operated, operator_meaning, OperatorMeaning, connective_operator, equality_operator, symbol_operator, text_of_own}
use Rattle.elab_groups.specs.name_resolution.declared.NamingFault.{NamingFault}
use Rattle.elab_groups.specs.name_resolution.declared.NamingFault.TheVariants.{Unknown, Duplicate, WrongKind, Arity}
use Rattle.elab_groups.specs.name_resolution.Faults.{first_of, fault_if, meaning_fault, form_fault, forms_fault, type_fault, differ, is_predicate, is_projection, is_variable, symbol_fault, entry_fault, field_fault, place_fault, entry_named_fault, fields_fault, record_fault, local_fault, name_fault, binders_fault, bound_names, pattern_names, pattern_fault, patterns_fault, constructor_fault, same_names, later_fault, alternatives_fault, alternatives_names, has_alternative, is_formula_trigger, fault, faults, triggers_fault, branches_fault}
use Rattle.elab_groups.specs.name_resolution.Records.{NamesOfSymbols, is_record, record_named, place_in, field_place, or_first, entry_of_field, places_named, none_named, named_after, each_named}
use Rattle.elab_groups.specs.name_resolution.Where.{Where, MeaningTree, place_of}
use Rattle.elab_groups.specs.scopes.declared.Referent.TheVariants as stands
use Rattle.elaboration_laws.specs.Checked.{token_of_fault, IsLeastFailing, FormFails, FormsFail, TypeFails, BindersFail, PatternFails, PatternsFail, LaterFail, AlternativesFail, NamesFail, AllNamesFail, TriggersFail, BranchesFail}

-- ---- tokens
pub past_both : (i : ℕ) (xs ys : List Lexeme) → past i (xs ++ ys) ≡ past (past i xs) ys
past_both i [] ys = refl
past_both i (x ∷ xs) ys = past_both (i + 1) xs ys

pub past_up : (i : ℕ) (xs : List Lexeme) → i ≤ past i xs
past_up i [] = omega arith
past_up i (x ∷ xs) = let l = past_up (i + 1) xs in omega (arith, l)

pub past_more : (i : ℕ) (xs ys : List Lexeme) → past i xs ≤ past i (xs ++ ys)
past_more i xs ys = let e = past_both i xs ys in let l = past_up (past i xs) ys in omega (arith, e, l)

-- ---- checks between two tokens, and the first of them that fails
pub record Ranged (lo hi : ℕ) (x : Option NamingFault) (Fails : NamingFault → Type 0) : Type 0 where
  pub is : IsLeastFailing x Fails
  pub range : (g : NamingFault) → Fails g → (lo ≤ token_of_fault g) × (token_of_fault g ≤ hi)

pub wider : (a b lo hi : ℕ) (x : Option NamingFault) (F : NamingFault → Type 0) → lo ≤ a → b ≤ hi → Ranged a b x F → Ranged lo hi x F
wider a b lo hi x F l h k = record { is = k.is; range = λ g q. let z = k.range g q in (omega (arith, l, z.0), omega (arith, h, z.1)) }

pub none_at : (lo hi : ℕ) → Ranged lo hi None (λ g. ⊥)
none_at lo hi = record { is = record { found = λ g q. absurd (cc (q)); least = λ f g q z. absurd z; none = λ g q z. z }; range = λ g q. absurd q }

same_fault : (f g : NamingFault) → Some f ≡ Some g → f ≡ g
same_fault f g h = cc (h)

-- checks at one token
own_at : (i : ℕ) (x : Option NamingFault) → ((g : NamingFault) → x ≡ Some g → token_of_fault g ≡ i) → Ranged i i x (λ g. x ≡ Some g)
own_at i x h = record {
  is = record {
    found = λ g q. q;
    least = λ f g q z. let a = h f q in let b = h g z in omega (arith, a, b);
    none = λ g q z. absurd (cc (q, z));
  };
  range = λ g q. let a = h g q in (omega (arith, a), omega (arith, a));
}

pub if_at : (i : ℕ) (b : Bool) (f : NamingFault) → token_of_fault f ≡ i → Ranged i i (fault_if b f) (λ g. fault_if b f ≡ Some g)
if_at i b f e = own_at i (fault_if b f) (λ g q. of b q)
  where
    of : (b : Bool) {g : NamingFault} → fault_if b f ≡ Some g → token_of_fault g ≡ i
    of true {g} q = ap token_of_fault (sym (same_fault f g q)) ∙ e
    of false q = absurd (cc (q))

-- checks before others
pub both_at : (a b c d lo hi : ℕ) (x y : Option NamingFault) (F G : NamingFault → Type 0) → lo ≤ a → b ≤ c → a ≤ b → c ≤ d → d ≤ hi → Ranged a b x F → Ranged c d y G → Ranged lo hi (first_of x y) (λ g. F g ⊎ G g)
both_at a b c d lo hi None y F G la bc ab cd dh p q = record {
  is = record {
    found = λ g e. inr (q.is.found g e);
    least = λ f g e z. of f g e z;
    none = λ g e z. nothing g e z;
  };
  range = λ g z. ranges g z;
}
  where
    of : (f g : NamingFault) → y ≡ Some f → F g ⊎ G g → token_of_fault f ≤ token_of_fault g
    of f g e (inl z) = absurd (p.is.none g refl z)
    of f g e (inr z) = q.is.least f g e z

    nothing : (g : NamingFault) → y ≡ None → F g ⊎ G g → ⊥
    nothing g e (inl z) = p.is.none g refl z
    nothing g e (inr z) = q.is.none g e z

    ranges : (g : NamingFault) → F g ⊎ G g → (lo ≤ token_of_fault g) × (token_of_fault g ≤ hi)
    ranges g (inl z) = let k = p.range g z in (omega (arith, la, k.0), omega (arith, k.1, bc, cd, dh))
    ranges g (inr z) = let k = q.range g z in (omega (arith, la, ab, bc, k.0), omega (arith, k.1, dh))
both_at a b c d lo hi (Some h) y F G la bc ab cd dh p q = record {
  is = record {
    found = λ g e. inl (p.is.found g e);
    least = λ f g e z. of f g e z;
    none = λ g e z. absurd (cc (e));
  };
  range = λ g z. ranges g z;
}
  where
    of : (f g : NamingFault) → Some h ≡ Some f → F g ⊎ G g → token_of_fault f ≤ token_of_fault g
    of f g e (inl z) = p.is.least f g e z
    of f g e (inr z) = let k = p.range f (p.is.found f e) in let m = q.range g z in omega (arith, k.1, m.0, bc)

    ranges : (g : NamingFault) → F g ⊎ G g → (lo ≤ token_of_fault g) × (token_of_fault g ≤ hi)
    ranges g (inl z) = let k = p.range g z in (omega (arith, la, k.0), omega (arith, k.1, bc, cd, dh))
    ranges g (inr z) = let k = q.range g z in (omega (arith, la, ab, bc, k.0), omega (arith, k.1, dh))

-- a check before others that are made where it doesn't fail
then_at : (lo hi : ℕ) (x y : Option NamingFault) (G : NamingFault → Type 0) → ((g : NamingFault) → x ≡ Some g → (lo ≤ token_of_fault g) × (token_of_fault g ≤ hi)) → Ranged lo hi y G
    → Ranged lo hi (first_of x y) (λ g. (x ≡ Some g) ⊎ ((x ≡ None) × G g))
then_at lo hi None y G h q = record {
  is = record {
    found = λ g e. inr (refl, q.is.found g e);
    least = λ f g e z. of f g e z;
    none = λ g e z. nothing g e z;
  };
  range = λ g z. ranges g z;
}
  where
    of : (f g : NamingFault) → y ≡ Some f → (◌≡◌ {A = Option NamingFault} None (Some g)) ⊎ ((◌≡◌ {A = Option NamingFault} None None) × G g) → token_of_fault f ≤ token_of_fault g
    of f g e (inl z) = absurd (cc (z))
    of f g e (inr z) = q.is.least f g e z.1

    nothing : (g : NamingFault) → y ≡ None → (◌≡◌ {A = Option NamingFault} None (Some g)) ⊎ ((◌≡◌ {A = Option NamingFault} None None) × G g) → ⊥
    nothing g e (inl z) = absurd (cc (z))
    nothing g e (inr z) = q.is.none g e z.1

    ranges : (g : NamingFault) → (◌≡◌ {A = Option NamingFault} None (Some g)) ⊎ ((◌≡◌ {A = Option NamingFault} None None) × G g) → (lo ≤ token_of_fault g) × (token_of_fault g ≤ hi)
    ranges g (inl z) = absurd (cc (z))
    ranges g (inr z) = q.range g z.1
then_at lo hi (Some k) y G h q = record {
  is = record {
    found = λ g e. inl e;
    least = λ f g e z. of f g e z;
    none = λ g e z. absurd (cc (e));
  };
  range = λ g z. ranges g z;
}
  where
    of : (f g : NamingFault) → Some k ≡ Some f → (Some k ≡ Some g) ⊎ ((Some k ≡ None) × G g) → token_of_fault f ≤ token_of_fault g
    of f g e (inl z) = let same : token_of_fault f ≡ token_of_fault g = ap token_of_fault (sym (same_fault k f e) ∙ same_fault k g z) in omega (arith, same)
    of f g e (inr z) = let q = z.0 in absurd (cc (q))

    ranges : (g : NamingFault) → (Some k ≡ Some g) ⊎ ((Some k ≡ None) × G g) → (lo ≤ token_of_fault g) × (token_of_fault g ≤ hi)
    ranges g (inl z) = h g z
    ranges g (inr z) = let q = z.0 in absurd (cc (q))

-- ---- the token of a check
first_token : (i : ℕ) (x y : Option NamingFault) → ((g : NamingFault) → x ≡ Some g → token_of_fault g ≡ i) → ((g : NamingFault) → y ≡ Some g → token_of_fault g ≡ i) → (g : NamingFault) → first_of x y ≡ Some g → token_of_fault g ≡ i
first_token i None y h k g q = k g q
first_token i (Some f) y h k g q = h g q

if_token : (i : ℕ) (b : Bool) (f : NamingFault) → token_of_fault f ≡ i → (g : NamingFault) → fault_if b f ≡ Some g → token_of_fault g ≡ i
if_token i true f e g q = ap token_of_fault (sym (same_fault f g q)) ∙ e
if_token i false f e g q = absurd (cc (q))

meaning_token : (w : Where) (i n : ℕ) (m : Option MeaningTree) (g : NamingFault) → meaning_fault w i n m ≡ Some g → token_of_fault g ≡ i
meaning_token w i n None g q = ap token_of_fault (sym (same_fault (Unknown i) g q))
meaning_token w i n (Some (stands.Entry k)) g q = if_token i (not ((symbol_or w.symbols k).vars == n)) (Arity i) refl g q
meaning_token w i n (Some (stands.Alias vars t)) g q = if_token i (not (vars == n)) (Arity i) refl g q

name_token : (w : Where) (ls : List Word) (due : Bool) (i : ℕ) (qs : List Word) (x : Word) (n : ℕ) (g : NamingFault) → name_fault w ls due i qs x n ≡ Some g → token_of_fault g ≡ i
name_token w ls due i qs x n g q = of (is_variable qs x ls) (w.names qs x) q
  where
    of : (b : Bool) (m : Option ℕ) → cond b (local_fault due i n) (symbol_fault w due i n m) ≡ Some g → token_of_fault g ≡ i
    of true m z = first_token i (fault_if due (WrongKind i)) (fault_if (not (n == 0)) (Arity i)) (if_token i due (WrongKind i) refl) (if_token i (not (n == 0)) (Arity i) refl) g z
    of false None z = ap token_of_fault (sym (same_fault (Unknown i) g z))
    of false (Some k) z =
        let e = symbol_or w.symbols k in
        first_token i (fault_if (differ due (is_predicate e.kind)) (WrongKind i)) (fault_if (not (length e.args == n)) (Arity i)) (if_token i (differ due (is_predicate e.kind)) (WrongKind i) refl) (if_token i (not (length e.args == n)) (Arity i) refl) g z

field_token : (w : Where) (due : Bool) (i : ℕ) (m : Option ℕ) (g : NamingFault) → field_fault w due i m ≡ Some g → token_of_fault g ≡ i
field_token w due i None g q = ap token_of_fault (sym (same_fault (Unknown i) g q))
field_token w due i (Some k) g q =
    let e = symbol_or w.symbols k in
    let differs = differ due (is_predicate e.kind) in
    first_token i (fault_if (not (is_projection e.kind)) (WrongKind i)) (entry_fault due i 1 e) (if_token i (not (is_projection e.kind)) (WrongKind i) refl)
    (first_token i (fault_if differs (WrongKind i)) (fault_if (not (length e.args == 1)) (Arity i)) (if_token i differs (WrongKind i) refl) (if_token i (not (length e.args == 1)) (Arity i) refl)) g q

constructor_token : (w : Where) (i n : ℕ) (m : Option ℕ) (g : NamingFault) → constructor_fault w i n m ≡ Some g → token_of_fault g ≡ i
constructor_token w i n None g q = ap token_of_fault (sym (same_fault (Unknown i) g q))
constructor_token w i n (Some k) g q =
    let e = symbol_or w.symbols k in
    first_token i (fault_if (not (is_constructor_kind e.kind)) (WrongKind i)) (fault_if (not (length e.args == n)) (Arity i)) (if_token i (not (is_constructor_kind e.kind)) (WrongKind i) refl) (if_token i (not (length e.args == n)) (Arity i) refl) g q

-- the names of fields are between two tokens
abbrev AreNamesAt : ℕ → ℕ → List FieldName → Type 0
AreNamesAt lo hi [] = Unit {0}
AreNamesAt lo hi (f ∷ fs) = (lo ≤ f.at) × (f.at ≤ hi) × AreNamesAt lo hi fs

names_wider : (a b lo hi : ℕ) (fs : List FieldName) → lo ≤ a → b ≤ hi → AreNamesAt a b fs → AreNamesAt lo hi fs
names_wider a b lo hi [] l m h = tt
names_wider a b lo hi (f ∷ fs) l m h = (omega (arith, l, h.0), omega (arith, m, h.1), names_wider a b lo hi fs l m h.2)

place_token : (named : List Bool) (i : ℕ) (m : Option ℕ) (g : NamingFault) → place_fault named i m ≡ Some g → token_of_fault g ≡ i
place_token named i None g q = ap token_of_fault (sym (same_fault (WrongKind i) g q))
place_token named i (Some p) g q = if_token i (get_or named p false) (Duplicate i) refl g q

named_token : (symbols : List SymbolTree) (c : ℕ) (named : List Bool) (i : ℕ) (m : Option ℕ) (g : NamingFault) → entry_named_fault symbols c named i m ≡ Some g → token_of_fault g ≡ i
named_token symbols c named i None g q = ap token_of_fault (sym (same_fault (Unknown i) g q))
named_token symbols c named i (Some k) g q = place_token named i (place_in symbols c k) g q

abbrev IsBetween : ℕ → ℕ → NamingFault → Type 0
IsBetween lo hi g = (lo ≤ token_of_fault g) × (token_of_fault g ≤ hi)

-- the first of two checks between two tokens
first_between : (lo hi : ℕ) (x y : Option NamingFault) → ((g : NamingFault) → x ≡ Some g → IsBetween lo hi g) → ((g : NamingFault) → y ≡ Some g → IsBetween lo hi g) → (g : NamingFault) → first_of x y ≡ Some g → IsBetween lo hi g
first_between lo hi None y h k g q = k g q
first_between lo hi (Some f) y h k g q = h g q

at_between : (lo hi i : ℕ) (g : NamingFault) → lo ≤ i → i ≤ hi → token_of_fault g ≡ i → IsBetween lo hi g
at_between lo hi i g l m e = (omega (arith, l, e), omega (arith, m, e))

fields_between : (symbols : List SymbolTree) (names : NamesOfSymbols) (c : ℕ) (named : List Bool) (fs : List FieldName) (lo hi : ℕ) → AreNamesAt lo hi fs → (g : NamingFault) → fields_fault symbols names c named fs ≡ Some g → IsBetween lo hi g
fields_between symbols names c named [] lo hi h g q = absurd (cc (q))
fields_between symbols names c named (f ∷ fs) lo hi h g q =
    let later = slice_set named (or_first (field_place symbols c (entry_of_field names f))) true in
    first_between lo hi (entry_named_fault symbols c named f.at (entry_of_field names f)) (fields_fault symbols names c later fs)
    (λ i e. at_between lo hi f.at i h.0 h.1 (named_token symbols c named f.at (entry_of_field names f) i e)) (λ i e. fields_between symbols names c later fs lo hi h.2 i e) g q

record_between : (w : Where) (whole : Bool) (i n : ℕ) (fs : List FieldName) (lo hi : ℕ) → lo ≤ i → i ≤ hi → AreNamesAt lo hi fs → (g : NamingFault) → record_fault w whole i n fs ≡ Some g → IsBetween lo hi g
record_between w whole i n fs lo hi l m h g q =
    let c = record_named w.symbols w.names fs in
    let e = symbol_or w.symbols c in
    let wrong = not (is_record e && (length fs == n)) in
    let missing = whole && not (each_named (named_after (places_named w.symbols w.names c fs) (none_named e))) in
    first_between lo hi (fields_fault w.symbols w.names c (none_named e) fs) (first_of (fault_if wrong (WrongKind i)) (fault_if missing (Arity i))) (λ j z. fields_between w.symbols w.names c (none_named e) fs lo hi h j z)
    (first_between lo hi (fault_if wrong (WrongKind i)) (fault_if missing (Arity i)) (λ j z. at_between lo hi i j l m (if_token i wrong (WrongKind i) refl j z)) (λ j z. at_between lo hi i j l m (if_token i missing (Arity i) refl j z))) g q

module _ (w : Where) (open_ : Bool) where
  -- ---- types
  abbrev pub FormAt : ℕ → ℕ → TypeExpression → Type 0
  FormAt lo hi f = Ranged lo hi (form_fault w open_ f) (FormFails w open_ f)

  abbrev pub FormsAt : ℕ → ℕ → TypeExpressions → Type 0
  FormsAt lo hi fs = Ranged lo hi (forms_fault w open_ fs) (FormsFail w open_ fs)

  -- one type in parentheses is itself
  grouped_form : (i lo hi : ℕ) (fs : TypeExpressions) → FormsAt lo hi fs → FormAt lo hi (grouped_forms i fs)
  grouped_form i lo hi no_types h = h
  grouped_form i lo hi (more_types f no_types) h = record {
    is = record { found = λ g q. of g (h.is.found g (with_none (form_fault w open_ f) q)); least = λ x g q z. h.is.least x g (with_none (form_fault w open_ f) q) (inl z); none = λ g q z. h.is.none g (with_none (form_fault w open_ f) q) (inl z) };
    range = λ g z. h.range g (inl z);
  }
    where
      with_none : (x : Option NamingFault) {y : Option NamingFault} → x ≡ y → first_of x None ≡ y
      with_none None q = q
      with_none (Some z) q = q

      of : (g : NamingFault) → FormFails w open_ f g ⊎ ⊥ → FormFails w open_ f g
      of g (inl z) = z
      of g (inr z) = absurd z
  grouped_form i lo hi (more_types f (more_types g fs)) h = h

  mutual
    pub form_at : (f : SyntaxForm) (i : ℕ) → IsForm type_forms f → IsPlaced i f → FormAt i (past i (write_form f)) (type_expression f)
    form_at (wild a) i o p = absurd o
    form_at (variable a n) i o p = absurd o
    form_at (type_variable a v) i o p = wider i i i (i + 1) (form_fault w open_ (type_expression (type_variable a v))) (FormFails w open_ (type_expression (type_variable a v))) (omega arith) (omega arith) (if_at i (cond open_ false (is_none (place_of v w.vars))) (Unknown a.main) (ap (λ (z : At). z.main) p))
    form_at (composed a c fs) i o p =
        let j = past i (write_called c) in
        let l = past_up i (write_called c) in
        let m = past_up j (form_row fs) in
        let e = past_both i (write_called c) (form_row fs) in
        both_at i i j (past j (form_row fs)) i (past i (write_called c ++ form_row fs)) _ _ _ _ (omega arith) (omega (arith, l)) (omega arith) (omega (arith, m)) (omega (arith, e))
        (own_at i (meaning_fault w a.main (count_forms (type_expressions fs)) (w.types c.scopes (text_of_own c.own))) (λ g q. meaning_token w a.main (count_forms (type_expressions fs)) (w.types c.scopes (text_of_own c.own)) g q ∙ ap (λ (z : At). z.main) p.0))
        (row_at fs j (parts_forms fs o.1) p.2)
    form_at (enclosed a fs) i o p =
        let k = list_at fs (i + 1) o p.1 in
        let e : past (i + 1) (form_list fs) ≤ past i (write_form (enclosed a fs)) = past_more (i + 1) (form_list fs) _ in
        wider (i + 1) (past (i + 1) (form_list fs)) i (past i (write_form (enclosed a fs))) _ _ (omega arith) (omega (arith, e)) (grouped_form a.main (i + 1) (past (i + 1) (form_list fs)) (type_expressions fs) k)
    form_at (aliased a f n) i o p = absurd o.0
    form_at (fielded_form a cs fs semi) i o p = absurd o.0

    pub parts_forms : (fs : SyntaxForms) → AreParts type_forms fs → AreForms type_forms fs
    parts_forms no_forms o = tt
    parts_forms (more_forms f fs) o = (o.1, parts_forms fs o.2)

    pub row_at : (fs : SyntaxForms) (i : ℕ) → AreForms type_forms fs → PlacedRow i fs → FormsAt i (past i (form_row fs)) (type_expressions fs)
    row_at no_forms i o p = none_at i i
    row_at (more_forms f fs) i o p =
        let j = past i (write_form f) in
        let l = past_up i (write_form f) in
        let m = past_up j (form_row fs) in
        let e = past_both i (write_form f) (form_row fs) in
        both_at i j j (past j (form_row fs)) i (past i (write_form f ++ form_row fs)) _ _ _ _ (omega arith) (omega arith) (omega (arith, l)) (omega (arith, m)) (omega (arith, e)) (form_at f i o.0 p.0) (row_at fs j o.1 p.1)

    list_at : (fs : SyntaxForms) (i : ℕ) → AreForms type_forms fs → PlacedList i fs → FormsAt i (past i (form_list fs)) (type_expressions fs)
    list_at no_forms i o p = none_at i i
    list_at (more_forms f fs) i o p =
        let j = past i (write_form f) in
        let l = past_up i (write_form f) in
        let m = past_up j (form_tail fs) in
        let e = past_both i (write_form f) (form_tail fs) in
        both_at i j j (past j (form_tail fs)) i (past i (write_form f ++ form_tail fs)) _ _ _ _ (omega arith) (omega arith) (omega (arith, l)) (omega (arith, m)) (omega (arith, e)) (form_at f i o.0 p.0) (tail_at fs j o.1 p.1)

    tail_at : (fs : SyntaxForms) (j : ℕ) → AreForms type_forms fs → PlacedList (j + 1) fs → FormsAt j (past j (form_tail fs)) (type_expressions fs)
    tail_at no_forms j o p = none_at j j
    tail_at (more_forms f fs) j o p =
        let k = past (j + 1) (write_form f) in
        let l = past_up (j + 1) (write_form f) in
        let m = past_up k (form_tail fs) in
        let e = past_both (j + 1) (write_form f) (form_tail fs) in
        both_at (j + 1) k k (past k (form_tail fs)) j (past (j + 1) (write_form f ++ form_tail fs)) _ _ _ _ (omega arith) (omega arith) (omega (arith, l)) (omega (arith, m)) (omega (arith, e)) (form_at f (j + 1) o.0 p.0) (tail_at fs k o.1 p.1)

  -- ---- patterns
  abbrev PatternAt : ℕ → ℕ → List Word → Pattern → Type 0
  PatternAt lo hi seen p = Ranged lo hi (pattern_fault w seen p) (PatternFails w seen p)

  abbrev PatternsAt : ℕ → ℕ → List Word → Patterns → Type 0
  PatternsAt lo hi seen ps = Ranged lo hi (patterns_fault w seen ps) (PatternsFail w seen ps)

  one_only : (lo hi : ℕ) (x : Option NamingFault) (F : NamingFault → Type 0) → Ranged lo hi (first_of x None) (λ g. F g ⊎ ⊥) → Ranged lo hi x F
  one_only lo hi x F h = record {
    is = record { found = λ g q. of g (h.is.found g (with_none x q)); least = λ f g q z. h.is.least f g (with_none x q) (inl z); none = λ g q z. h.is.none g (with_none x q) (inl z) };
    range = λ g z. h.range g (inl z);
  }
    where
      with_none : (y : Option NamingFault) {z : Option NamingFault} → y ≡ z → first_of y None ≡ z
      with_none None q = q
      with_none (Some u) q = q

      of : (g : NamingFault) → F g ⊎ ⊥ → F g
      of g (inl z) = z
      of g (inr z) = absurd z

  grouped_pattern : (i lo hi : ℕ) (seen : List Word) (ps : Patterns) → PatternsAt lo hi seen ps → PatternAt lo hi seen (grouped_patterns i ps)
  grouped_pattern i lo hi seen no_patterns h = h
  grouped_pattern i lo hi seen (more_patterns p no_patterns) h = one_only lo hi (pattern_fault w seen p) (PatternFails w seen p) h
  grouped_pattern i lo hi seen (more_patterns p (more_patterns q ps)) h = h

  parts_patterns : (ps : SyntaxForms) → AreParts pattern_forms ps → AreForms pattern_forms ps
  parts_patterns no_forms o = tt
  parts_patterns (more_forms p ps) o = (o.1, parts_patterns ps o.2)

  -- the names of the fields of a pattern
  form_rest_at : (cs : List Called) (ps : SyntaxForms) (i : ℕ) → AreNamedForms cs ps → PlacedFieldForms (i + 1) cs ps → AreNamesAt (i + 1) (past i (form_fields_tail cs ps)) (field_names cs)
  form_rest_at [] no_forms i n p = tt
  form_rest_at [] (more_forms q ps) i n p = absurd n
  form_rest_at (c ∷ cs) no_forms i n p = absurd n
  form_rest_at (c ∷ cs) (more_forms q ps) i n p =
      let h = past (i + 1) (write_called c) in
      let j = past (h + 1) (write_form q) in
      let k = past_up (i + 1) (write_called c) in
      let l = past_up (h + 1) (write_form q) in
      let r : past i (form_fields_tail (c ∷ cs) (more_forms q ps)) ≡ past (past (i + 1) (write_called c) + 1) (write_form q ++ form_fields_tail cs ps) = past_both (i + 1) (write_called c) (mark t.Equal ∷ (write_form q ++ form_fields_tail cs ps)) in
      let e = past_both (h + 1) (write_form q) (form_fields_tail cs ps) in
      let m = past_up j (form_fields_tail cs ps) in
      (omega (arith, p.0), omega (arith, p.0, k, l, m, r, e), names_wider (j + 1) (past j (form_fields_tail cs ps)) (i + 1) (past i (form_fields_tail (c ∷ cs) (more_forms q ps))) (field_names cs) (omega (arith, k, l)) (omega (arith, r, e)) (form_rest_at cs ps j n.1 p.2))

  form_names_at : (cs : List Called) (ps : SyntaxForms) (i : ℕ) → AreNamedForms cs ps → PlacedFieldForms i cs ps → AreNamesAt i (past i (form_fields cs ps)) (field_names cs)
  form_names_at [] no_forms i n p = tt
  form_names_at [] (more_forms q ps) i n p = absurd n
  form_names_at (c ∷ cs) no_forms i n p = absurd n
  form_names_at (c ∷ cs) (more_forms q ps) i n p =
      let j = past (past i (write_called c) + 1) (write_form q) in
      let k = past_up i (write_called c) in
      let l = past_up (past i (write_called c) + 1) (write_form q) in
      let r : past i (form_fields (c ∷ cs) (more_forms q ps)) ≡ past (past i (write_called c) + 1) (write_form q ++ form_fields_tail cs ps) = past_both i (write_called c) (mark t.Equal ∷ (write_form q ++ form_fields_tail cs ps)) in
      let e = past_both (past i (write_called c) + 1) (write_form q) (form_fields_tail cs ps) in
      let m = past_up j (form_fields_tail cs ps) in
      let u = past_up i (form_fields (c ∷ cs) (more_forms q ps)) in
      (omega (arith, p.0), omega (arith, p.0, u), names_wider (j + 1) (past j (form_fields_tail cs ps)) i (past i (form_fields (c ∷ cs) (more_forms q ps))) (field_names cs) (omega (arith, k, l)) (omega (arith, r, e)) (form_rest_at cs ps j n.1 p.2))

  mutual
    pattern_at : (p : SyntaxForm) (i : ℕ) (seen : List Word) → IsForm pattern_forms p → IsPlaced i p → PatternAt i (past i (write_form p)) seen (pattern p)
    pattern_at (wild a) i seen o p = none_at i (i + 1)
    pattern_at (variable a n) i seen o p = wider i i i (i + 1) _ _ (omega arith) (omega arith) (if_at i (is_some (place_of n.text seen)) (Duplicate a.main) (ap (λ (z : At). z.main) p.0))
    pattern_at (type_variable a v) i seen o p = absurd o
    pattern_at (composed a c ps) i seen o p =
        let j = past i (write_called c) in
        let l = past_up i (write_called c) in
        let m = past_up j (form_row ps) in
        let e = past_both i (write_called c) (form_row ps) in
        both_at i i j (past j (form_row ps)) i (past i (write_called c ++ form_row ps)) _ _ _ _ (omega arith) (omega (arith, l)) (omega arith) (omega (arith, m)) (omega (arith, e))
        (own_at i (constructor_fault w a.main (count_patterns (pattern_list ps)) (w.names c.scopes (text_of_own c.own))) (λ g q. constructor_token w a.main (count_patterns (pattern_list ps)) (w.names c.scopes (text_of_own c.own)) g q ∙ ap (λ (z : At). z.main) p.0))
        (pattern_row ps j seen (parts_patterns ps o.1) p.2)
    pattern_at (enclosed a ps) i seen o p =
        let k = pattern_list_at ps (i + 1) seen o p.1 in
        let e : past (i + 1) (form_list ps) ≤ past i (write_form (enclosed a ps)) = past_more (i + 1) (form_list ps) _ in
        wider (i + 1) (past (i + 1) (form_list ps)) i (past i (write_form (enclosed a ps))) _ _ (omega arith) (omega (arith, e)) (grouped_pattern a.main (i + 1) (past (i + 1) (form_list ps)) seen (pattern_list ps) k)
    pattern_at (aliased a q n) i seen o p =
        let j = past i (write_form q) in
        let l = past_up i (write_form q) in
        let e : past i (write_form (aliased a q n)) ≡ past i (write_form q) + 1 + 1 = past_both i (write_form q) _ in
        both_at i j (j + 1) (j + 1) i (past i (write_form (aliased a q n))) _ _ _ _ (omega arith) (omega arith) (omega (arith, l)) (omega arith) (omega (arith, e))
        (pattern_at q i seen o.2 p.1) (if_at (j + 1) (is_some (place_of n.text (seen ++ pattern_names (pattern q)))) (Duplicate n.at) p.2)
    pattern_at (fielded_form a cs ps semi) i seen o p =
        let j = past (i + 1) (form_fields cs ps) in
        let l = past_up (i + 1) (form_fields cs ps) in
        let k = fielded_patterns cs ps (i + 1) seen o.2 o.3 p.1 in
        let m = ap (λ (z : At). z.main) p.0 in
        let e : past (i + 1) (form_fields cs ps) ≤ past i (write_form (fielded_form a cs ps semi)) = past_more (i + 1) (form_fields cs ps) _ in
        wider i j i (past i (write_form (fielded_form a cs ps semi))) _ _ (omega arith) (omega (arith, e))
        (then_at i j (record_fault w false a.main (count_patterns (pattern_list ps)) (field_names cs)) (patterns_fault w seen (pattern_list ps)) (PatternsFail w seen (pattern_list ps))
        (λ g q. record_between w false a.main (count_patterns (pattern_list ps)) (field_names cs) i j (omega (arith, m)) (omega (arith, m, l)) (names_wider (i + 1) j i j (field_names cs) (omega arith) (omega arith) (form_names_at cs ps (i + 1) o.2 p.1)) g q)
        (wider (i + 1) j i j _ _ (omega arith) (omega arith) k))

    -- the patterns of fields, each after its name and `=`
    fielded_patterns : (cs : List Called) (ps : SyntaxForms) (i : ℕ) (seen : List Word) → AreNamedForms cs ps → AreForms pattern_forms ps → PlacedFieldForms i cs ps → PatternsAt i (past i (form_fields cs ps)) seen (pattern_list ps)
    fielded_patterns [] no_forms i seen n o p = none_at i i
    fielded_patterns [] (more_forms q ps) i seen n o p = absurd n
    fielded_patterns (c ∷ cs) no_forms i seen n o p = absurd n
    fielded_patterns (c ∷ cs) (more_forms q ps) i seen n o p =
        let h = past i (write_called c) in
        let j = past (h + 1) (write_form q) in
        let k = past_up i (write_called c) in
        let l = past_up (h + 1) (write_form q) in
        let m = past_up j (form_fields_tail cs ps) in
        let r : past i (form_fields (c ∷ cs) (more_forms q ps)) ≡ past (past i (write_called c) + 1) (write_form q ++ form_fields_tail cs ps) = past_both i (write_called c) (mark t.Equal ∷ (write_form q ++ form_fields_tail cs ps)) in
        let e = past_both (h + 1) (write_form q) (form_fields_tail cs ps) in
        both_at (h + 1) j j (past j (form_fields_tail cs ps)) i (past i (form_fields (c ∷ cs) (more_forms q ps))) _ _ _ _ (omega (arith, k)) (omega arith) (omega (arith, l)) (omega (arith, m)) (omega (arith, r, e))
        (pattern_at q (h + 1) seen o.0 p.1) (fielded_rest cs ps j (seen ++ pattern_names (pattern q)) n.1 o.1 p.2)

    fielded_rest : (cs : List Called) (ps : SyntaxForms) (i : ℕ) (seen : List Word) → AreNamedForms cs ps → AreForms pattern_forms ps → PlacedFieldForms (i + 1) cs ps → PatternsAt i (past i (form_fields_tail cs ps)) seen (pattern_list ps)
    fielded_rest [] no_forms i seen n o p = none_at i i
    fielded_rest [] (more_forms q ps) i seen n o p = absurd n
    fielded_rest (c ∷ cs) no_forms i seen n o p = absurd n
    fielded_rest (c ∷ cs) (more_forms q ps) i seen n o p =
        let h = past (i + 1) (write_called c) in
        let j = past (h + 1) (write_form q) in
        let k = past_up (i + 1) (write_called c) in
        let l = past_up (h + 1) (write_form q) in
        let m = past_up j (form_fields_tail cs ps) in
        let r : past i (form_fields_tail (c ∷ cs) (more_forms q ps)) ≡ past (past (i + 1) (write_called c) + 1) (write_form q ++ form_fields_tail cs ps) = past_both (i + 1) (write_called c) (mark t.Equal ∷ (write_form q ++ form_fields_tail cs ps)) in
        let e = past_both (h + 1) (write_form q) (form_fields_tail cs ps) in
        both_at (h + 1) j j (past j (form_fields_tail cs ps)) i (past i (form_fields_tail (c ∷ cs) (more_forms q ps))) _ _ _ _ (omega (arith, k)) (omega arith) (omega (arith, l)) (omega (arith, m)) (omega (arith, r, e))
        (pattern_at q (h + 1) seen o.0 p.1) (fielded_rest cs ps j (seen ++ pattern_names (pattern q)) n.1 o.1 p.2)

    pattern_row : (ps : SyntaxForms) (i : ℕ) (seen : List Word) → AreForms pattern_forms ps → PlacedRow i ps → PatternsAt i (past i (form_row ps)) seen (pattern_list ps)
    pattern_row no_forms i seen o p = none_at i i
    pattern_row (more_forms q ps) i seen o p =
        let j = past i (write_form q) in
        let l = past_up i (write_form q) in
        let m = past_up j (form_row ps) in
        let e = past_both i (write_form q) (form_row ps) in
        both_at i j j (past j (form_row ps)) i (past i (write_form q ++ form_row ps)) _ _ _ _ (omega arith) (omega arith) (omega (arith, l)) (omega (arith, m)) (omega (arith, e)) (pattern_at q i seen o.0 p.0) (pattern_row ps j (seen ++ pattern_names (pattern q)) o.1 p.1)

    pattern_list_at : (ps : SyntaxForms) (i : ℕ) (seen : List Word) → AreForms pattern_forms ps → PlacedList i ps → PatternsAt i (past i (form_list ps)) seen (pattern_list ps)
    pattern_list_at no_forms i seen o p = none_at i i
    pattern_list_at (more_forms q ps) i seen o p =
        let j = past i (write_form q) in
        let l = past_up i (write_form q) in
        let m = past_up j (form_tail ps) in
        let e = past_both i (write_form q) (form_tail ps) in
        both_at i j j (past j (form_tail ps)) i (past i (write_form q ++ form_tail ps)) _ _ _ _ (omega arith) (omega arith) (omega (arith, l)) (omega (arith, m)) (omega (arith, e)) (pattern_at q i seen o.0 p.0) (pattern_tail ps j (seen ++ pattern_names (pattern q)) o.1 p.1)

    pattern_tail : (ps : SyntaxForms) (j : ℕ) (seen : List Word) → AreForms pattern_forms ps → PlacedList (j + 1) ps → PatternsAt j (past j (form_tail ps)) seen (pattern_list ps)
    pattern_tail no_forms j seen o p = none_at j j
    pattern_tail (more_forms q ps) j seen o p =
        let k = past (j + 1) (write_form q) in
        let l = past_up (j + 1) (write_form q) in
        let m = past_up k (form_tail ps) in
        let e = past_both (j + 1) (write_form q) (form_tail ps) in
        both_at (j + 1) k k (past k (form_tail ps)) j (past (j + 1) (write_form q ++ form_tail ps)) _ _ _ _ (omega arith) (omega arith) (omega (arith, l)) (omega (arith, m)) (omega (arith, e)) (pattern_at q (j + 1) seen o.0 p.0) (pattern_tail ps k (seen ++ pattern_names (pattern q)) o.1 p.1)

  -- side by side
  beside_at : (ps : SyntaxForms) (i : ℕ) → AreForms pattern_forms ps → PlacedList i ps → PatternAt i (past i (form_list ps)) [] (side_by_side ps)
  beside_at ps i o p = grouped_pattern (first_form ps) i (past i (form_list ps)) [] (pattern_list ps) (pattern_list_at ps i [] o p)

  form_first : (p : SyntaxForm) (i : ℕ) → IsPlaced i p → (form_place p).first ≡ i
  form_first (wild a) i p = ap (λ (z : At). z.first) p
  form_first (variable a n) i p = ap (λ (z : At). z.first) p.0
  form_first (type_variable a v) i p = ap (λ (z : At). z.first) p
  form_first (composed a c ps) i p = ap (λ (z : At). z.first) p.0
  form_first (enclosed a ps) i p = ap (λ (z : At). z.first) p.0
  form_first (aliased a q n) i p = ap (λ (z : At). z.first) p.0
  form_first (fielded_form a cs ps semi) i p = ap (λ (z : At). z.first) p.0

  forms_first : (ps : SyntaxForms) (i : ℕ) → HasForm ps → PlacedList i ps → first_form ps ≡ i
  forms_first no_forms i h p = absurd h
  forms_first (more_forms q ps) i h p = form_first q i p.0

  -- later alternatives, each after its bar
  later_at : (pss : List SyntaxForms) (j : ℕ) (ns : List Word) → AreAlternatives pss → PlacedAlternatives (j + 1) pss → Ranged j (past j (alternative_tail pss)) (later_fault w ns (branch_alternatives pss)) (LaterFail w ns (branch_alternatives pss))
  later_at [] j ns o p = none_at j j
  later_at (ps ∷ pss) j ns o p =
      let k = past (j + 1) (form_list ps) in
      let l = past_up (j + 1) (form_list ps) in
      let m = past_up k (alternative_tail pss) in
      let e = past_both (j + 1) (form_list ps) (alternative_tail pss) in
      both_at (j + 1) (j + 1) (j + 1) (past k (alternative_tail pss)) j (past (j + 1) (form_list ps ++ alternative_tail pss)) _ _ _ _ (omega arith) (omega arith) (omega arith) (omega (arith, l, m)) (omega (arith, e))
      (if_at (j + 1) (not (same_names ns (pattern_names (side_by_side ps)))) (WrongKind (first_form ps)) (forms_first ps (j + 1) o.0 p.0))
      (both_at (j + 1) k k (past k (alternative_tail pss)) (j + 1) (past k (alternative_tail pss)) _ _ _ _ (omega arith) (omega arith) (omega (arith, l)) (omega (arith, m)) (omega arith) (beside_at ps (j + 1) o.1 p.0) (later_at pss k ns o.2 p.1))

  alternatives_at : (pss : List SyntaxForms) (i : ℕ) → AreAlternatives pss → PlacedAlternatives i pss → Ranged i (past i (alternative_list pss)) (alternatives_fault w (branch_alternatives pss)) (AlternativesFail w (branch_alternatives pss))
  alternatives_at [] i o p = none_at i i
  alternatives_at (ps ∷ pss) i o p =
      let k = past i (form_list ps) in
      let l = past_up i (form_list ps) in
      let m = past_up k (alternative_tail pss) in
      let e = past_both i (form_list ps) (alternative_tail pss) in
      both_at i k k (past k (alternative_tail pss)) i (past i (form_list ps ++ alternative_tail pss)) _ _ _ _ (omega arith) (omega arith) (omega (arith, l)) (omega (arith, m)) (omega (arith, e)) (beside_at ps i o.1 p.0) (later_at pss k (pattern_names (side_by_side ps)) o.2 p.1)

  -- ---- binders
  abbrev BindersAt : ℕ → ℕ → List BoundNames → Type 0
  BindersAt lo hi bs = Ranged lo hi (binders_fault w open_ bs) (BindersFail w open_ bs)

  pub type_at : (i : ℕ) (f : Option SyntaxForm) → IsTypePart f → PlacedPart i f → Ranged i (past i (type_part f)) (type_fault w open_ (option_map type_expression f)) (TypeFails w open_ (option_map type_expression f))
  type_at i None o p = none_at i i
  type_at i (Some f) o p = wider (i + 1) (past (i + 1) (write_form f)) i (past i (type_part (Some f))) _ _ (omega arith) (omega arith) (form_at f (i + 1) o p)

  binder_at : (b : TypedBinder) (i : ℕ) → AreBinders (b ∷ []) → PlacedBinder i b → Ranged i (past i (write_binder b)) (type_fault w open_ (binder b).of_type) (TypeFails w open_ (binder b).of_type)
  binder_at (binds ns f) i o p =
      let j = past i (name_row ns) in
      let l = past_up i (name_row ns) in
      let e = past_both i (name_row ns) (type_part f) in
      wider j (past j (type_part f)) i (past i (name_row ns ++ type_part f)) _ _ (omega (arith, l)) (omega (arith, e)) (type_at j f o.1 p.1)

  one_binder : (b : TypedBinder) (bs : List TypedBinder) → AreBinders (b ∷ bs) → AreBinders (b ∷ []) × AreBinders bs
  one_binder (binds ns f) bs o = ((o.0, o.1, tt), o.2)

  binder_tail_at : (bs : List TypedBinder) (j : ℕ) → AreBinders bs → PlacedBinders (j + 1) bs → BindersAt j (past j (binder_tail bs)) (map binder bs)
  binder_tail_at [] j o p = none_at j j
  binder_tail_at (b ∷ bs) j o p =
      let h = one_binder b bs o in
      let k = past (j + 1) (write_binder b) in
      let l = past_up (j + 1) (write_binder b) in
      let m = past_up k (binder_tail bs) in
      let e = past_both (j + 1) (write_binder b) (binder_tail bs) in
      both_at (j + 1) k k (past k (binder_tail bs)) j (past (j + 1) (write_binder b ++ binder_tail bs)) _ _ _ _ (omega arith) (omega arith) (omega (arith, l)) (omega (arith, m)) (omega (arith, e)) (binder_at b (j + 1) h.0 p.0) (binder_tail_at bs k h.1 p.1)

  binders_at : (bs : List TypedBinder) (i : ℕ) → AreBinders bs → PlacedBinders i bs → BindersAt i (past i (binder_list bs)) (map binder bs)
  binders_at [] i o p = none_at i i
  binders_at (b ∷ bs) i o p =
      let h = one_binder b bs o in
      let k = past i (write_binder b) in
      let l = past_up i (write_binder b) in
      let m = past_up k (binder_tail bs) in
      let e = past_both i (write_binder b) (binder_tail bs) in
      both_at i k k (past k (binder_tail bs)) i (past i (write_binder b ++ binder_tail bs)) _ _ _ _ (omega arith) (omega arith) (omega (arith, l)) (omega (arith, m)) (omega (arith, e)) (binder_at b i h.0 p.0) (binder_tail_at bs k h.1 p.1)

  -- ---- terms and formulas
  abbrev pub NamesAt : ℕ → ℕ → List Word → Bool → Expression → Type 0
  NamesAt lo hi ls due e = Ranged lo hi (fault w open_ ls due e) (NamesFail w open_ ls due e)

  abbrev AllAt : ℕ → ℕ → List Word → Expressions → Type 0
  AllAt lo hi ls es = Ranged lo hi (faults w open_ ls es) (AllNamesFail w open_ ls es)

  abbrev TriggersAt : ℕ → ℕ → List Word → Expressions → Type 0
  TriggersAt lo hi ls es = Ranged lo hi (triggers_fault w open_ ls es) (TriggersFail w open_ ls es)

  abbrev BranchesAt : ℕ → ℕ → List Word → Bool → MatchBranches → Type 0
  BranchesAt lo hi ls due bs = Ranged lo hi (branches_fault w open_ ls due bs) (BranchesFail w open_ ls due bs)

  same_range : (lo hi : ℕ) (x y : Option NamingFault) (F G : NamingFault → Type 0) → x ≡ y → ((g : NamingFault) → F g → G g) → ((g : NamingFault) → G g → F g) → Ranged lo hi x F → Ranged lo hi y G
  same_range lo hi x y F G e to back h = record {
    is = record {
      found = λ g q. to g (h.is.found g (e ∙ q));
      least = λ f g q z. h.is.least f g (e ∙ q) (back g z);
      none = λ g q z. h.is.none g (e ∙ q) (back g z);
    };
    range = λ g z. h.range g (back g z);
  }

  -- an operator between two operands
  operated_at : (i a b c d : ℕ) (ls : List Word) (due : Bool) (m : OperatorMeaning) (x y : Expression) → a ≤ b → b ≤ i → i ≤ c → c ≤ d → ((k : Bool) → NamesAt a b ls k x) → ((k : Bool) → NamesAt c d ls k y) → NamesAt a d ls due (operated i x m y)
  operated_at i a b c d ls due (connective_operator o) x y ab bi ic cd f g =
      both_at a b i d a d _ _ _ _ (omega arith) bi ab (omega (arith, ic, cd)) (omega arith) (f true) (both_at i i c d i d _ _ _ _ (omega arith) ic (omega arith) cd (omega arith) (if_at i (not due) (WrongKind i) refl) (g true))
  operated_at i a b c d ls due (equality_operator same) x y ab bi ic cd f g =
      both_at a b i d a d _ _ _ _ (omega arith) bi ab (omega (arith, ic, cd)) (omega arith) (f false) (both_at i i c d i d _ _ _ _ (omega arith) ic (omega arith) cd (omega arith) (if_at i (not due) (WrongKind i) refl) (g false))
  operated_at i a b c d ls due (symbol_operator v) x y ab bi ic cd f g =
      both_at a b i d a d _ _ _ _ (omega arith) bi ab (omega (arith, ic, cd)) (omega arith) (f false) (both_at i i c d i d _ _ _ _ (omega arith) ic (omega arith) cd (omega arith) (own_at i (name_fault w ls due i [] v 2) (name_token w ls due i [] v 2)) (g false))

  -- the pattern of a `let` is checked once more after its value, where it has no fault
  let_order : (z x y : Option NamingFault) → first_of z (first_of x y) ≡ first_of z (first_of x (first_of None (first_of z (first_of y None))))
  let_order (Some f) x y = refl
  let_order None (Some f) y = refl
  let_order None None (Some f) = refl
  let_order None None None = refl

  let_at : (i a b c d e f : ℕ) (ls : List Word) (due : Bool) (ps : SyntaxForms) (x y : Expression) → a ≤ b → b ≤ c → c ≤ d → d ≤ e → e ≤ f → Ranged a b (alternatives_fault w (branch_alternatives (ps ∷ []))) (AlternativesFail w (branch_alternatives (ps ∷ []))) → NamesAt c d ls false x
      → ((ns : List Word) → NamesAt e f ns due y) → NamesAt a f ls due (let_by (let_name ps) i ps x y)
  let_at i a b c d e f ls due ps x y ab bc cd de ef p q r = of (let_name ps)
    where
      to : {A E B N : Type 0} → A ⊎ (E ⊎ B) → E ⊎ (N ⊎ (A ⊎ (B ⊎ ⊥)))
      to (inl z) = inr (inr (inl z))
      to (inr (inl z)) = inl z
      to (inr (inr z)) = inr (inr (inr (inl z)))

      back : {A E B : Type 0} (g : NamingFault) → E ⊎ ((◌≡◌ {A = Option NamingFault} None (Some g)) ⊎ (A ⊎ (B ⊎ ⊥))) → A ⊎ (E ⊎ B)
      back g (inl z) = inr (inl z)
      back g (inr (inl z)) = absurd (cc (z))
      back g (inr (inr (inl z))) = inl z
      back g (inr (inr (inr (inl z)))) = inr (inr z)
      back g (inr (inr (inr (inr z)))) = absurd z

      of : (v : Option Word) → NamesAt a f ls due (let_by v i ps x y)
      of (Some v) = both_at c d e f a f _ _ _ _ (omega (arith, ab, bc)) de cd ef (omega arith) q (r (v ∷ ls))
      of None =
          let ns = reverse (alternatives_names (branch_alternatives (ps ∷ []))) ++ ls in
          same_range a f _ _ _ _ (let_order (alternatives_fault w (branch_alternatives (ps ∷ []))) (fault w open_ ls false x) (fault w open_ (reverse (alternatives_names (branch_alternatives (ps ∷ []))) ++ ls) due y)) (λ g z. to z) (λ g z. back g z)
          (both_at a b c f a f _ _ _ _ (omega arith) bc ab (omega (arith, cd, de, ef)) (omega arith) p (both_at c d e f c f _ _ _ _ (omega arith) de cd ef (omega arith) q (r (reverse (alternatives_names (branch_alternatives (ps ∷ []))) ++ ls))))

  one_alternative : (ps : SyntaxForms) (i : ℕ) → HasForm ps → AreForms pattern_forms ps → PlacedList i ps → Ranged i (past i (form_list ps)) (alternatives_fault w (branch_alternatives (ps ∷ []))) (AlternativesFail w (branch_alternatives (ps ∷ [])))
  one_alternative ps i h o p =
      let j = past i (form_list ps) in
      let l = past_up i (form_list ps) in
      both_at i j j j i j _ _ _ _ (omega arith) (omega arith) (omega (arith, l)) (omega arith) (omega arith) (beside_at ps i o p) (none_at j j)

  -- trees in parentheses, or scrutinees: one is itself, and others are a tuple
  grouped_tree : (t i : ℕ) (ls : List Word) (due : Bool) (e : SyntaxTree) (es : SyntaxTrees) (lo hi : ℕ) → lo ≤ t → t ≤ i → past (past i (write e)) (write_tail es) ≤ hi → ((k : Bool) → NamesAt i (past i (write e)) ls k (expression e))
      → AllAt (past i (write e)) (past (past i (write e)) (write_tail es)) ls (expressions es) → NamesAt lo hi ls due (grouped t (more_expressions (expression e) (expressions es)))
  grouped_tree t i ls due e tree.none lo hi a b c f g = wider i (past i (write e)) lo hi _ _ (omega (arith, a, b)) c (f due)
  grouped_tree t i ls due e (tree.more x es) lo hi a b c f g =
      let j = past i (write e) in
      let k = past j (write_tail (tree.more x es)) in
      let l = past_up i (write e) in
      let m = past_up j (write_tail (tree.more x es)) in
      both_at t t i k lo hi _ _ _ _ a b (omega arith) (omega (arith, l, m)) c (if_at t due (WrongKind t) refl) (both_at i j j k i k _ _ _ _ (omega arith) (omega arith) (omega (arith, l)) (omega (arith, m)) (omega arith) (f false) g)

  -- what a tree of a source never has
  never_at : (k : ℕ) (b : Bool) (f : NamingFault) → b ≡ true → Ranged k k (fault_if (not b) f) (λ g. fault_if (not b) f ≡ Some g)
  never_at k true f e = own_at k None (λ g q. absurd (cc (q)))
  never_at k false f e = absurd (cc (e))

  has_one : (bs : Branches) → HasBranch bs → AreBranches bs → has_alternative (match_branches bs) ≡ true
  has_one no_branch h o = absurd h
  has_one (branch [] e bs) h o = absurd o.0
  has_one (branch (ps ∷ pss) e bs) h o = refl

  tree_first : (e : SyntaxTree) (i : ℕ) → IsPlacedTree i e → (tree_place e).first ≡ i
  tree_first (apply a c es) i p = ap (λ (z : At). z.first) p.0
  tree_first (literal a v) i p = ap (λ (z : At). z.first) p
  tree_first (truth a) i p = ap (λ (z : At). z.first) p
  tree_first (falsity a) i p = ap (λ (z : At). z.first) p
  tree_first (group a es) i p = ap (λ (z : At). z.first) p.0
  tree_first (cast a e f) i p = ap (λ (z : At). z.first) p.0
  tree_first (prefixed a o e) i p = ap (λ (z : At). z.first) p.0
  tree_first (negation a e) i p = ap (λ (z : At). z.first) p.0
  tree_first (binary a e o f) i p = p.0
  tree_first (choice a c e f) i p = ap (λ (z : At). z.first) p.0
  tree_first (cases a es bar bs) i p = ap (λ (z : At). z.first) p.0
  tree_first (access a e c) i p = ap (λ (z : At). z.first) p.0
  tree_first (fielded_tree a cs es semi) i p = ap (λ (z : At). z.first) p.0
  tree_first (binding a ps e f) i p = ap (λ (z : At). z.first) p.0
  tree_first (quantified a all bs g e) i p = ap (λ (z : At). z.first) p.0

  -- the names of the fields of a record
  tree_rest_at : (cs : List Called) (es : SyntaxTrees) (i : ℕ) → AreNamedTrees cs es → PlacedFieldTrees (i + 1) cs es → AreNamesAt (i + 1) (past i (tree_fields_tail cs es)) (field_names cs)
  tree_rest_at [] tree.none i n p = tt
  tree_rest_at [] (tree.more x es) i n p = absurd n
  tree_rest_at (c ∷ cs) tree.none i n p = absurd n
  tree_rest_at (c ∷ cs) (tree.more x es) i n p =
      let h = past (i + 1) (write_called c) in
      let j = past (h + 1) (write x) in
      let k = past_up (i + 1) (write_called c) in
      let l = past_up (h + 1) (write x) in
      let r : past i (tree_fields_tail (c ∷ cs) (tree.more x es)) ≡ past (past (i + 1) (write_called c) + 1) (write x ++ tree_fields_tail cs es) = past_both (i + 1) (write_called c) (mark t.Equal ∷ (write x ++ tree_fields_tail cs es)) in
      let e = past_both (h + 1) (write x) (tree_fields_tail cs es) in
      let m = past_up j (tree_fields_tail cs es) in
      (omega (arith, p.0), omega (arith, p.0, k, l, m, r, e), names_wider (j + 1) (past j (tree_fields_tail cs es)) (i + 1) (past i (tree_fields_tail (c ∷ cs) (tree.more x es))) (field_names cs) (omega (arith, k, l)) (omega (arith, r, e)) (tree_rest_at cs es j n.1 p.2))

  tree_names_at : (cs : List Called) (es : SyntaxTrees) (i : ℕ) → AreNamedTrees cs es → PlacedFieldTrees i cs es → AreNamesAt i (past i (tree_fields cs es)) (field_names cs)
  tree_names_at [] tree.none i n p = tt
  tree_names_at [] (tree.more x es) i n p = absurd n
  tree_names_at (c ∷ cs) tree.none i n p = absurd n
  tree_names_at (c ∷ cs) (tree.more x es) i n p =
      let h = past i (write_called c) in
      let j = past (h + 1) (write x) in
      let k = past_up i (write_called c) in
      let l = past_up (h + 1) (write x) in
      let r : past i (tree_fields (c ∷ cs) (tree.more x es)) ≡ past (past i (write_called c) + 1) (write x ++ tree_fields_tail cs es) = past_both i (write_called c) (mark t.Equal ∷ (write x ++ tree_fields_tail cs es)) in
      let e = past_both (h + 1) (write x) (tree_fields_tail cs es) in
      let u = past_up i (tree_fields (c ∷ cs) (tree.more x es)) in
      (omega (arith, p.0), omega (arith, p.0, u), names_wider (j + 1) (past j (tree_fields_tail cs es)) i (past i (tree_fields (c ∷ cs) (tree.more x es))) (field_names cs) (omega (arith, k, l)) (omega (arith, r, e)) (tree_rest_at cs es j n.1 p.2))

  mutual
    pub tree_at : (e : SyntaxTree) (i : ℕ) (ls : List Word) (due : Bool) → IsLevel e → IsPlacedTree i e → NamesAt i (past i (write e)) ls due (expression e)
    tree_at (apply a c es) i ls due o p =
        let j = past i (write_called c) in
        let l = past_up i (write_called c) in
        let m = past_up j (write_row es) in
        let e = past_both i (write_called c) (write_row es) in
        both_at i i j (past j (write_row es)) i (past i (write_called c ++ write_row es)) _ _ _ _ (omega arith) (omega (arith, l)) (omega arith) (omega (arith, m)) (omega (arith, e))
        (own_at i (name_fault w ls due a.main c.scopes (text_of_own c.own) (count_expressions (expressions es))) (λ g q. name_token w ls due a.main c.scopes (text_of_own c.own) (count_expressions (expressions es)) g q ∙ ap (λ (z : At). z.main) p.0))
        (trees_row es j ls o.1 p.2)
    tree_at (literal a v) i ls due o p = wider i i i (i + 1) _ _ (omega arith) (omega arith) (if_at i due (WrongKind a.main) (ap (λ (z : At). z.main) p))
    tree_at (truth a) i ls due o p = wider i i i (i + 1) _ _ (omega arith) (omega arith) (if_at i (not due) (WrongKind a.main) (ap (λ (z : At). z.main) p))
    tree_at (falsity a) i ls due o p = wider i i i (i + 1) _ _ (omega arith) (omega arith) (if_at i (not due) (WrongKind a.main) (ap (λ (z : At). z.main) p))
    tree_at (group a tree.none) i ls due o p =
        both_at i i i i i (i + 1 + 1) _ _ _ _ (omega arith) (omega arith) (omega arith) (omega arith) (omega arith) (if_at i due (WrongKind a.main) (ap (λ (z : At). z.main) p.0)) (none_at i i)
    tree_at (group a (tree.more e es)) i ls due o p =
        let j = past (i + 1) (write e) in
        let q = ap (λ (z : At). z.main) p.0 in
        let n = past_both (i + 1) (write e) (write_tail es) in
        let m : past (i + 1) (write e ++ write_tail es) ≤ past i (write (group a (tree.more e es))) = past_more (i + 1) (write e ++ write_tail es) _ in
        grouped_tree a.main (i + 1) ls due e es i (past i (write (group a (tree.more e es)))) (omega (arith, q)) (omega (arith, q)) (omega (arith, m, n)) (λ k. tree_at e (i + 1) ls k o.0 p.1.0) (trees_tail es j ls o.1 p.1.1)
    tree_at (cast a e f) i ls due o p =
        let j = past (i + 1) (write e) in
        let k = past (j + 1) (write_form f) in
        let l = past_up (i + 1) (write e) in
        let m = past_up (j + 1) (write_form f) in
        let n : past i (write (cast a e f)) ≡ past (past (i + 1) (write e) + 1) (write_form f ++ (mark t.RParen ∷ [])) = past_both (i + 1) (write e) _ in
        let q = past_more (j + 1) (write_form f) (mark t.RParen ∷ []) in
        both_at i i (i + 1) k i (past i (write (cast a e f))) _ _ _ _ (omega arith) (omega arith) (omega arith) (omega (arith, l, m)) (omega (arith, n, q))
        (if_at i due (WrongKind a.main) (ap (λ (z : At). z.main) p.0))
        (both_at (i + 1) j (j + 1) k (i + 1) k _ _ _ _ (omega arith) (omega arith) (omega (arith, l)) (omega (arith, m)) (omega arith) (tree_at e (i + 1) ls false o.0 p.1) (form_at f (j + 1) o.1 p.2))
    tree_at (prefixed a o e) i ls due q p =
        let l = past_up (i + 1) (write e) in
        let j = past (i + 1) (write e) in
        both_at i i (i + 1) (past (i + 1) (write e)) i (past (i + 1) (write e)) _ _ _ _ (omega arith) (omega arith) (omega arith) (omega (arith, l)) (omega arith)
        (own_at i (name_fault w ls due a.main [] _ 1) (λ g z. name_token w ls due a.main [] _ 1 g z ∙ ap (λ (y : At). y.main) p.0))
        (both_at (i + 1) j j j (i + 1) j _ _ _ _ (omega arith) (omega arith) (omega (arith, l)) (omega arith) (omega arith) (tree_at e (i + 1) ls false q.3 p.2) (none_at j j))
    tree_at (negation a e) i ls due o p =
        let l = past_up (i + 1) (write e) in
        both_at i i (i + 1) (past (i + 1) (write e)) i (past (i + 1) (write e)) _ _ _ _ (omega arith) (omega arith) (omega arith) (omega (arith, l)) (omega arith)
        (if_at i (not due) (WrongKind a.main) (ap (λ (z : At). z.main) p.0)) (tree_at e (i + 1) ls true o.1 p.1)
    tree_at (binary a e o f) i ls due q p =
        let j = past i (write e) in
        let l = past_up i (write e) in
        let m = past_up (j + 1) (write f) in
        let n : past i (write (binary a e o f)) ≡ past (past i (write e) + 1) (write f) = past_both i (write e) (write_op o ∷ write f) in
        let s : a.main ≡ past i (write e) = p.1 ∙ p.2 in
        wider i (past (j + 1) (write f)) i (past i (write (binary a e o f))) _ _ (omega arith) (omega (arith, n))
        (operated_at a.main i j (j + 1) (past (j + 1) (write f)) ls due (operator_meaning o.terminal o.text) (expression e) (expression f) l (omega (arith, s)) (omega (arith, s)) m (λ k. tree_at e i ls k q.5 p.3) (λ k. tree_at f (j + 1) ls k q.6 p.4))
    tree_at (choice a c e f) i ls due o p =
        let j = past (i + 1) (write c) in
        let k = past (j + 1) (write e) in
        let h = past (k + 1) (write f) in
        let l = past_up (i + 1) (write c) in
        let m = past_up (j + 1) (write e) in
        let n = past_up (k + 1) (write f) in
        let s : past i (write (choice a c e f)) ≡ past (past (i + 1) (write c) + 1) (write e ++ (mark t.ElseWord ∷ write f)) = past_both (i + 1) (write c) _ in
        let r : past (j + 1) (write e ++ (mark t.ElseWord ∷ write f)) ≡ past (past (j + 1) (write e) + 1) (write f) = past_both (j + 1) (write e) (mark t.ElseWord ∷ write f) in
        both_at (i + 1) j (j + 1) h i (past i (write (choice a c e f))) _ _ _ _ (omega arith) (omega arith) (omega (arith, l)) (omega (arith, m, n)) (omega (arith, s, r)) (tree_at c (i + 1) ls true o.0 p.1)
        (both_at (j + 1) k (k + 1) h (j + 1) h _ _ _ _ (omega arith) (omega arith) (omega (arith, m)) (omega (arith, n)) (omega arith) (tree_at e (j + 1) ls due o.1 p.2) (tree_at f (k + 1) ls due o.2 p.3))
    tree_at (cases a es bar bs) i ls due o p =
        let j = past (i + 1) (write_list es) in
        let k = past (j + 1) (bar_before bar) in
        let h = past k (write_branches bs) in
        let l = past_up (i + 1) (write_list es) in
        let m = past_up (j + 1) (bar_before bar) in
        let n = past_up k (write_branches bs) in
        let s : past i (write (cases a es bar bs)) ≡ past (past (i + 1) (write_list es) + 1) (bar_before bar ++ (write_branches bs ++ (mark t.EndWord ∷ []))) = past_both (i + 1) (write_list es) _ in
        let r = past_both (j + 1) (bar_before bar) (write_branches bs ++ (mark t.EndWord ∷ [])) in
        let u = past_more k (write_branches bs) (mark t.EndWord ∷ []) in
        both_at (i + 1) j k h i (past i (write (cases a es bar bs))) _ _ _ _ (omega arith) (omega (arith, m)) (omega (arith, l)) (omega (arith, n)) (omega (arith, s, r, u)) (subject_at es (i + 1) ls o.0 o.1 p.1)
        (both_at k k k h k h _ _ _ _ (omega arith) (omega arith) (omega arith) (omega (arith, n)) (omega arith) (never_at k (has_alternative (match_branches bs)) (WrongKind a.main) (has_one bs o.2 o.3)) (branches_at bs k ls due o.3 p.2))
    tree_at (access a e c) i ls due o p =
        let j = past i (write e) in
        let l = past_up i (write e) in
        let m = past_up (j + 1) (write_called c) in
        let n : past i (write (access a e c)) ≡ past (past i (write e) + 1) (write_called c) = past_both i (write e) (mark t.Dot ∷ write_called c) in
        both_at i j (j + 1) (j + 1) i (past i (write (access a e c))) _ _ _ _ (omega arith) (omega arith) (omega (arith, l)) (omega arith) (omega (arith, n, m)) (tree_at e i ls false o.1 p.1)
        (own_at (j + 1) (field_fault w due c.at (w.names c.scopes (text_of_own c.own))) (λ g z. field_token w due c.at (w.names c.scopes (text_of_own c.own)) g z ∙ p.2))
    tree_at (fielded_tree a cs es semi) i ls due o p =
        let j = past (i + 1) (tree_fields cs es) in
        let l = past_up (i + 1) (tree_fields cs es) in
        let m = ap (λ (z : At). z.main) p.0 in
        let e : past (i + 1) (tree_fields cs es) ≤ past i (write (fielded_tree a cs es semi)) = past_more (i + 1) (tree_fields cs es) _ in
        both_at i i i j i (past i (write (fielded_tree a cs es semi))) _ _ _ _ (omega arith) (omega arith) (omega arith) (omega (arith, l)) (omega (arith, e))
        (if_at i due (WrongKind a.main) m)
        (then_at i j (record_fault w true a.main (count_expressions (expressions es)) (field_names cs)) (faults w open_ ls (expressions es)) (AllNamesFail w open_ ls (expressions es))
        (λ g q. record_between w true a.main (count_expressions (expressions es)) (field_names cs) i j (omega (arith, m)) (omega (arith, m, l)) (names_wider (i + 1) j i j (field_names cs) (omega arith) (omega arith) (tree_names_at cs es (i + 1) o.1 p.1)) g q)
        (wider (i + 1) j i j _ _ (omega arith) (omega arith) (fielded_trees cs es (i + 1) ls o.1 o.2 p.1)))
    tree_at (binding a ps e f) i ls due o p =
        let j = past (i + 1) (form_list ps) in
        let k = past (j + 1) (write e) in
        let h = past (k + 1) (write f) in
        let l = past_up (i + 1) (form_list ps) in
        let m = past_up (j + 1) (write e) in
        let n = past_up (k + 1) (write f) in
        let s : past i (write (binding a ps e f)) ≡ past (past (i + 1) (form_list ps) + 1) (write e ++ (mark t.InWord ∷ write f)) = past_both (i + 1) (form_list ps) _ in
        let r : past (j + 1) (write e ++ (mark t.InWord ∷ write f)) ≡ past (past (j + 1) (write e) + 1) (write f) = past_both (j + 1) (write e) (mark t.InWord ∷ write f) in
        let x : Ranged (i + 1) (past (i + 1) (form_list ps)) (alternatives_fault w (branch_alternatives (ps ∷ []))) (AlternativesFail w (branch_alternatives (ps ∷ []))) = one_alternative ps (i + 1) o.0 o.1 p.1 in
        wider (i + 1) h i (past i (write (binding a ps e f))) _ _ (omega arith) (omega (arith, s, r))
        (let_at a.main (i + 1) j (j + 1) k (k + 1) h ls due ps (expression e) (expression f) l (omega arith) m (omega arith) n x (tree_at e (j + 1) ls false o.2 p.2) (λ ns. tree_at f (k + 1) ns due o.3 p.3))
    tree_at (quantified a all bs g e) i ls due o p =
        let j = past (i + 1) (binder_list bs) in
        let k = past j (write_trigger g) in
        let h = past (k + 1) (write e) in
        let l = past_up (i + 1) (binder_list bs) in
        let m = past_up j (write_trigger g) in
        let n = past_up (k + 1) (write e) in
        let s : past i (write (quantified a all bs g e)) ≡ past (past (i + 1) (binder_list bs)) (write_trigger g ++ (mark t.Dot ∷ write e)) = past_both (i + 1) (binder_list bs) _ in
        let r : past j (write_trigger g ++ (mark t.Dot ∷ write e)) ≡ past (past j (write_trigger g) + 1) (write e) = past_both j (write_trigger g) (mark t.Dot ∷ write e) in
        let ns = reverse (bound_names (map binder bs)) ++ ls in
        both_at i i (i + 1) h i (past i (write (quantified a all bs g e))) _ _ _ _ (omega arith) (omega arith) (omega arith) (omega (arith, l, m, n)) (omega (arith, s, r)) (if_at i (not due) (WrongKind a.main) (ap (λ (z : At). z.main) p.0))
        (both_at (i + 1) j j h (i + 1) h _ _ _ _ (omega arith) (omega arith) (omega (arith, l)) (omega (arith, m, n)) (omega arith) (binders_at bs (i + 1) o.1 p.1)
        (both_at j k (k + 1) h j h _ _ _ _ (omega arith) (omega arith) (omega (arith, m)) (omega (arith, n)) (omega arith) (trigger_at g j (reverse (bound_names (map binder bs)) ++ ls) o.2 p.2) (tree_at e (k + 1) (reverse (bound_names (map binder bs)) ++ ls) true o.3 p.3)))

    -- the scrutinee, or several in a tuple
    subject_at : (es : SyntaxTrees) (i : ℕ) (ls : List Word) → tree.HasSomeTree es → AreLevel es → PlacedCommas i es → NamesAt i (past i (write_list es)) ls false (grouped (first_tree es) (expressions es))
    subject_at tree.none i ls h o p = absurd h
    subject_at (tree.more e es) i ls h o p =
        let j = past i (write e) in
        let q = tree_first e i p.0 in
        let n = past_both i (write e) (write_tail es) in
        grouped_tree (tree_place e).first i ls false e es i (past i (write e ++ write_tail es)) (omega (arith, q)) (omega (arith, q)) (omega (arith, n)) (λ k. tree_at e i ls k o.0 p.0) (trees_tail es j ls o.1 p.1)

    -- the values of fields, each after its name and `=`
    fielded_trees : (cs : List Called) (es : SyntaxTrees) (i : ℕ) (ls : List Word) → AreNamedTrees cs es → AreLevel es → PlacedFieldTrees i cs es → AllAt i (past i (tree_fields cs es)) ls (expressions es)
    fielded_trees [] tree.none i ls n o p = none_at i i
    fielded_trees [] (tree.more x es) i ls n o p = absurd n
    fielded_trees (c ∷ cs) tree.none i ls n o p = absurd n
    fielded_trees (c ∷ cs) (tree.more x es) i ls n o p =
        let h = past i (write_called c) in
        let j = past (h + 1) (write x) in
        let k = past_up i (write_called c) in
        let l = past_up (h + 1) (write x) in
        let m = past_up j (tree_fields_tail cs es) in
        let r : past i (tree_fields (c ∷ cs) (tree.more x es)) ≡ past (past i (write_called c) + 1) (write x ++ tree_fields_tail cs es) = past_both i (write_called c) (mark t.Equal ∷ (write x ++ tree_fields_tail cs es)) in
        let e = past_both (h + 1) (write x) (tree_fields_tail cs es) in
        both_at (h + 1) j j (past j (tree_fields_tail cs es)) i (past i (tree_fields (c ∷ cs) (tree.more x es))) _ _ _ _ (omega (arith, k)) (omega arith) (omega (arith, l)) (omega (arith, m)) (omega (arith, r, e))
        (tree_at x (h + 1) ls false o.0 p.1) (fielded_others cs es j ls n.1 o.1 p.2)

    fielded_others : (cs : List Called) (es : SyntaxTrees) (i : ℕ) (ls : List Word) → AreNamedTrees cs es → AreLevel es → PlacedFieldTrees (i + 1) cs es → AllAt i (past i (tree_fields_tail cs es)) ls (expressions es)
    fielded_others [] tree.none i ls n o p = none_at i i
    fielded_others [] (tree.more x es) i ls n o p = absurd n
    fielded_others (c ∷ cs) tree.none i ls n o p = absurd n
    fielded_others (c ∷ cs) (tree.more x es) i ls n o p =
        let h = past (i + 1) (write_called c) in
        let j = past (h + 1) (write x) in
        let k = past_up (i + 1) (write_called c) in
        let l = past_up (h + 1) (write x) in
        let m = past_up j (tree_fields_tail cs es) in
        let r : past i (tree_fields_tail (c ∷ cs) (tree.more x es)) ≡ past (past (i + 1) (write_called c) + 1) (write x ++ tree_fields_tail cs es) = past_both (i + 1) (write_called c) (mark t.Equal ∷ (write x ++ tree_fields_tail cs es)) in
        let e = past_both (h + 1) (write x) (tree_fields_tail cs es) in
        both_at (h + 1) j j (past j (tree_fields_tail cs es)) i (past i (tree_fields_tail (c ∷ cs) (tree.more x es))) _ _ _ _ (omega (arith, k)) (omega arith) (omega (arith, l)) (omega (arith, m)) (omega (arith, r, e))
        (tree_at x (h + 1) ls false o.0 p.1) (fielded_others cs es j ls n.1 o.1 p.2)

    trees_row : (es : SyntaxTrees) (i : ℕ) (ls : List Word) → AreAtoms es → PlacedTrees i es → AllAt i (past i (write_row es)) ls (expressions es)
    trees_row tree.none i ls o p = none_at i i
    trees_row (tree.more e es) i ls o p =
        let j = past i (write e) in
        let l = past_up i (write e) in
        let m = past_up j (write_row es) in
        let n = past_both i (write e) (write_row es) in
        both_at i j j (past j (write_row es)) i (past i (write e ++ write_row es)) _ _ _ _ (omega arith) (omega arith) (omega (arith, l)) (omega (arith, m)) (omega (arith, n)) (tree_at e i ls false o.1 p.0) (trees_row es j ls o.2 p.1)

    trees_list : (es : SyntaxTrees) (i : ℕ) (ls : List Word) → AreLevel es → PlacedCommas i es → AllAt i (past i (write_list es)) ls (expressions es)
    trees_list tree.none i ls o p = none_at i i
    trees_list (tree.more e es) i ls o p =
        let j = past i (write e) in
        let l = past_up i (write e) in
        let m = past_up j (write_tail es) in
        let n = past_both i (write e) (write_tail es) in
        both_at i j j (past j (write_tail es)) i (past i (write e ++ write_tail es)) _ _ _ _ (omega arith) (omega arith) (omega (arith, l)) (omega (arith, m)) (omega (arith, n)) (tree_at e i ls false o.0 p.0) (trees_tail es j ls o.1 p.1)

    trees_tail : (es : SyntaxTrees) (j : ℕ) (ls : List Word) → AreLevel es → PlacedCommas (j + 1) es → AllAt j (past j (write_tail es)) ls (expressions es)
    trees_tail tree.none j ls o p = none_at j j
    trees_tail (tree.more e es) j ls o p =
        let k = past (j + 1) (write e) in
        let l = past_up (j + 1) (write e) in
        let m = past_up k (write_tail es) in
        let n = past_both (j + 1) (write e) (write_tail es) in
        both_at (j + 1) k k (past k (write_tail es)) j (past (j + 1) (write e ++ write_tail es)) _ _ _ _ (omega arith) (omega arith) (omega (arith, l)) (omega (arith, m)) (omega (arith, n)) (tree_at e (j + 1) ls false o.0 p.0) (trees_tail es k ls o.1 p.1)

    trigger_at : (g : SyntaxTrigger) (i : ℕ) (ls : List Word) → IsTrigger g → PlacedTrigger i g → TriggersAt i (past i (write_trigger g)) ls (triggers g)
    trigger_at untriggered i ls o p = none_at i i
    trigger_at (triggered tree.none bars) i ls o p = absurd o
    trigger_at (triggered (tree.more e es) bars) i ls o p =
        let j = past (i + 1) (write e) in
        let l = past_up (i + 1) (write e) in
        let m = past_up j (terms_tail es bars) in
        let n = past_both (i + 1) (write e) (terms_tail es bars) in
        let r : past (i + 1) (write e ++ terms_tail es bars) ≤ past i (write_trigger (triggered (tree.more e es) bars)) = past_more (i + 1) (write e ++ terms_tail es bars) _ in
        both_at (i + 1) j j (past j (terms_tail es bars)) i (past i (write_trigger (triggered (tree.more e es) bars))) _ _ _ _ (omega arith) (omega arith) (omega (arith, l)) (omega (arith, m)) (omega (arith, n, r))
        (tree_at e (i + 1) ls (is_formula_trigger w ls (expression e)) o.0 p.0) (terms_at es bars j ls o.1 p.1)

    terms_at : (es : SyntaxTrees) (bars : List Bool) (j : ℕ) (ls : List Word) → AreTerms es bars → PlacedCommas (j + 1) es → TriggersAt j (past j (terms_tail es bars)) ls (expressions es)
    terms_at tree.none bars j ls o p = none_at j j
    terms_at (tree.more e es) [] j ls o p = absurd o
    terms_at (tree.more e es) (b ∷ bars) j ls o p =
        let k = past (j + 1) (write e) in
        let l = past_up (j + 1) (write e) in
        let m = past_up k (terms_tail es bars) in
        let n = past_both (j + 1) (write e) (terms_tail es bars) in
        both_at (j + 1) k k (past k (terms_tail es bars)) j (past (j + 1) (write e ++ terms_tail es bars)) _ _ _ _ (omega arith) (omega arith) (omega (arith, l)) (omega (arith, m)) (omega (arith, n))
        (tree_at e (j + 1) ls (is_formula_trigger w ls (expression e)) o.0 p.0) (terms_at es bars k ls o.1 p.1)

    -- branches, each after its bar but the first one
    branches_at : (bs : Branches) (i : ℕ) (ls : List Word) (due : Bool) → AreBranches bs → PlacedBranches i bs → BranchesAt i (past i (write_branches bs)) ls due (match_branches bs)
    branches_at no_branch i ls due o p = none_at i i
    branches_at (branch ps e bs) i ls due o p =
        let j = past i (alternative_list ps) in
        let k = past (j + 1) (write e) in
        let h = past k (write_others bs) in
        let l = past_up i (alternative_list ps) in
        let m = past_up (j + 1) (write e) in
        let n = past_up k (write_others bs) in
        let s : past i (write_branches (branch ps e bs)) ≡ past (past i (alternative_list ps) + 1) (write e ++ write_others bs) = past_both i (alternative_list ps) _ in
        let r = past_both (j + 1) (write e) (write_others bs) in
        both_at i j (j + 1) h i (past i (write_branches (branch ps e bs))) _ _ _ _ (omega arith) (omega arith) (omega (arith, l)) (omega (arith, m, n)) (omega (arith, s, r)) (alternatives_at ps i o.1 p.0)
        (both_at (j + 1) k k h (j + 1) h _ _ _ _ (omega arith) (omega arith) (omega (arith, m)) (omega (arith, n)) (omega arith) (tree_at e (j + 1) (reverse (alternatives_names (branch_alternatives ps)) ++ ls) due o.2 p.1) (others_at bs k ls due o.3 p.2))

    others_at : (bs : Branches) (i : ℕ) (ls : List Word) (due : Bool) → AreBranches bs → PlacedBranches (i + 1) bs → BranchesAt i (past i (write_others bs)) ls due (match_branches bs)
    others_at no_branch i ls due o p = none_at i i
    others_at (branch ps e bs) i ls due o p =
        let j = past (i + 1) (alternative_list ps) in
        let k = past (j + 1) (write e) in
        let h = past k (write_others bs) in
        let l = past_up (i + 1) (alternative_list ps) in
        let m = past_up (j + 1) (write e) in
        let n = past_up k (write_others bs) in
        let s : past i (write_others (branch ps e bs)) ≡ past (past (i + 1) (alternative_list ps) + 1) (write e ++ write_others bs) = past_both (i + 1) (alternative_list ps) _ in
        let r = past_both (j + 1) (write e) (write_others bs) in
        both_at (i + 1) j (j + 1) h i (past i (write_others (branch ps e bs))) _ _ _ _ (omega arith) (omega arith) (omega (arith, l)) (omega (arith, m, n)) (omega (arith, s, r)) (alternatives_at ps (i + 1) o.1 p.0)
        (both_at (j + 1) k k h (j + 1) h _ _ _ _ (omega arith) (omega arith) (omega (arith, m)) (omega (arith, n)) (omega arith) (tree_at e (j + 1) (reverse (alternatives_names (branch_alternatives ps)) ++ ls) due o.2 p.1) (others_at bs k ls due o.3 p.2))

  pub is_least : (ls : List Word) (due : Bool) (i : ℕ) (e : SyntaxTree) → IsLevel e → IsPlacedTree i e → IsLeastFailing (fault w open_ ls due (expression e)) (NamesFail w open_ ls due (expression e))
  is_least ls due i e o p = (tree_at e i ls due o p).is
