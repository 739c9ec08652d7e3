-- What a well-formed signature gives: types that forms stand for, and entries at the types of a use.
use Rattle.std.proofs.Common.{◌≡◌, ◌≢◌, ℕ, ◌==◌, suc, true, false, List, [], ◌∷◌, map, length, get_or, slice_get, All, Option, Some, None, IfSome, IsSomeAnd, IsTrue, refl, sym, ap, subst, ◌∙◌, arith}
use Rattle.std.proofs.lemmas.Bool.{eqb-true}
use Rattle.elab_groups.specs.trees.Tree.{Tree, Head, HTyVar}
use Rattle.elab_groups.specs.trees.Sorts.{int_type}
use Rattle.elab_groups.specs.trees.Binding.{inst_types}
use Rattle.elab_groups.specs.trees.Facts.{TyVarsBelow, leaf_below}
use Rattle.elab_groups.specs.tasks.declared.signature.SymbolKind.{SymbolKind}
use Rattle.elab_groups.specs.tasks.declared.signature.SymbolKind.TheVariants.{Kind, Predicate, Constructor}
use Rattle.elab_groups.specs.tasks.Equations.{cells, type_variables}
use Rattle.elab_groups.specs.tasks.Task.{SymbolTree, symbol_or, int_symbol}
use Rattle.elab_groups.specs.tasks.Vocabulary.{Vocabulary}
use Rattle.elab_groups.specs.tasks.Typing.{entry, members, MakesTerms}
use Rattle.elab_groups.specs.tasks.Valid.{LeafBelow, IsTypeIn, HasTypes}
use Rattle.elab_groups.specs.open_types.unify_types.Assigned.{assign}
use Rattle.elab_groups.specs.surface.Lexeme.{Word}
use Rattle.elab_groups.specs.name_resolution.Abstract.{TypeExpression, TypeExpressions, variable_type, composed_type, product_type, no_types, more_types, count_forms}
use Rattle.elab_groups.specs.name_resolution.declared.NamingFault.TheVariants.{Arity}
use Rattle.elab_groups.specs.name_resolution.Faults.{meaning_fault, form_fault, forms_fault, is_predicate}
use Rattle.elab_groups.specs.name_resolution.Where.{Where, MeaningTree, place_of}
use Rattle.elab_groups.specs.scopes.declared.Referent.TheVariants as stands
use Rattle.elab_groups.specs.open_types.Patterns.{at_unknowns, result_or_int, NumberedEntry, entry_of}
use Rattle.elab_groups.specs.open_types.Scoped.{IsScopedEntry}
use Rattle.elab_groups.specs.open_types.Pieces.{type_at, types_at, applied_meaning, variable_at}
use Rattle.elab_groups.proofs.open_types.Walking.{none_both, must_be}
use Rattle.elaboration_laws.specs.Signature.{with_entries, IsSymbol, IsTuple, IsMeaning, IsWellFormed, FormTuples, FormsTuples}
use Rattle.elaboration_laws.proofs.Over.{IsOver, AreOver, type_over, cells_over, members_cells}
use Rattle.elaboration_laws.proofs.Instances.{inst_over, variables_over, inst_assigned}
use Rattle.elab_groups.proofs.tasks.TypeInstances.{below as is_below}
use Rattle.std.proofs.lemmas.Option.{slice_get-get_or as some_at}
use Rattle.theory_states.proofs.goal_tasks.TuplesMade.{variables_count as count_variables}

count_types : (w : Where) (fs : TypeExpressions) → length (types_at w fs) ≡ count_forms fs
count_types w no_types = refl
count_types w (more_types f fs) = ap suc (count_types w fs)

pub leaf_is_below : (n : ℕ) (h : Head) → LeafBelow n h → leaf_below h n
leaf_is_below n (HTyVar j) x = x
leaf_is_below n _ x = tt

-- an entry of types over a vocabulary has its own type variables alone
result_scoped : (v : Vocabulary) (n : ℕ) (r : Option Tree) → IfSome r (IsTypeIn v n) → IfSome r (TyVarsBelow n)
result_scoped v n None x = tt
result_scoped v n (Some t) x = is_below n t x.variables

pub entry_scoped : (v : Vocabulary) (e : SymbolTree) → HasTypes v e → IsScopedEntry e
entry_scoped v e h = record { args = λ k d l. is_below e.vars (get_or e.args k d) (h.args k d l).variables; result = result_scoped v e.vars e.result h.result }

pub is_predicate_kind : (k : SymbolKind) → is_predicate k ≡ true → k ≡ Predicate
is_predicate_kind Predicate q = refl
is_predicate_kind _ q = absurd (cc)

pub makes_terms : (k : SymbolKind) → k ≢ Kind → is_predicate k ≡ false → MakesTerms k
makes_terms Kind n q = n refl
makes_terms Predicate n q = absurd (cc)
makes_terms _ n q = tt

-- an entry, by its number, of types over the vocabulary
pub record IsEntry (v : Vocabulary) (e : NumberedEntry) : Type 0 where
  pub usable : IsTrue (v.usable e.number)
  pub entry : entry v e.number ≡ Some e.symbol
  pub types : HasTypes v e.symbol
  pub kind : e.symbol.kind ≢ Kind
  pub result : MakesTerms e.symbol.kind → IsSomeAnd e.symbol.result (λ t. Unit {0})

module _ (v : Vocabulary) where
  pub types_over : (n : ℕ) (ts : List Tree) → All (IsTypeIn v n) ts → AreOver v ts
  types_over n [] a = tt
  types_over n (t ∷ ts) a = (type_over v n t (a 0 t (omega arith)), types_over n ts (λ k d l. a (suc k) d (omega arith)))

  pub named_symbol : (k : ℕ) → IsSymbol v k → IsEntry v (entry_of v.symbols (Some k))
  named_symbol k s = record {
    usable = s.usable;
    entry = some_at v.symbols k int_symbol s.signature.entry;
    types = s.signature.types;
    kind = s.signature.kind;
    result = s.result;
  }

  -- ---- at the unknowns of a use
  module _ (e : SymbolTree) (types : HasTypes v e) (n : ℕ) where
    pub parameters_over : AreOver v (map (at_unknowns n e) e.args)
    parameters_over = of e.args types.args
      where
        of : (ts : List Tree) → All (IsTypeIn v e.vars) ts → AreOver v (map (at_unknowns n e) ts)
        of [] a = tt
        of (t ∷ ts) a = (inst_over v true (type_variables n e.vars) (variables_over v n e.vars) t (type_over v e.vars t (a 0 t (omega arith))), of ts (λ k d l. a (suc k) d (omega arith)))

    module _ (r : ℕ) (f : ℕ → Tree) where
      abbrev pub instance_at : List Tree
      instance_at = map (assign r f) (type_variables n e.vars)

      pub at_assigned : (t : Tree) → IsTypeIn v e.vars t → assign r f (at_unknowns n e t) ≡ inst_types t instance_at
      at_assigned t x = inst_assigned r f (type_variables n e.vars) t (subst (λ (m : ℕ). TyVarsBelow m t) (sym (count_variables n e.vars)) (is_below e.vars t x.variables))

      pub parameters_assigned : map (assign r f) (map (at_unknowns n e) e.args) ≡ map (λ a. inst_types a instance_at) e.args
      parameters_assigned = of e.args types.args
        where
          of : (ts : List Tree) → All (IsTypeIn v e.vars) ts → map (assign r f) (map (at_unknowns n e) ts) ≡ map (λ a. inst_types a instance_at) ts
          of [] a = refl
          of (t ∷ ts) a = cc (at_assigned t (a 0 t (omega arith)), of ts (λ k d l. a (suc k) d (omega arith)))

-- where names of types stand for types over the signature
module _ (base : Vocabulary) (w : Where) (int : slice_get w.symbols 0 ≡ Some int_symbol) (may : IsTrue (base.usable 0)) (types : (qs : List Word) (x : Word) → IfSome (w.types qs x) (IsMeaning (with_entries base w.symbols))) where
  abbrev v : Vocabulary
  v = with_entries base w.symbols

  int_in : IsOver v true int_type
  int_in = ((may, rw int (refl, refl)), tt)

  variable_over : (o : Option ℕ) → IsOver v true (variable_at o)
  variable_over None = int_in
  variable_over (Some j) = tt

  applied_over : (m : Option MeaningTree) (i n : ℕ) (ts : List Tree) → meaning_fault w i n m ≡ None → length ts ≡ n → IfSome m (IsMeaning v) → AreOver v ts → IsOver v true (applied_meaning m ts)
  applied_over None i n ts q l s o = absurd (cc)
  applied_over (Some (stands.Entry k)) i n ts q l s o =
      let same : (symbol_or w.symbols k).vars ≡ n = eqb-true (symbol_or w.symbols k).vars n (must_be ((symbol_or w.symbols k).vars == n) (Arity i) q) in
      let count : length (members (cells ts)) ≡ (symbol_or w.symbols k).vars = ap length (members_cells ts) ∙ l ∙ sym same in
      ((s.0, subst (λ (x : Option SymbolTree). IsSomeAnd x (λ e. (e.kind ≡ Kind) × (length (members (cells ts)) ≡ e.vars))) (sym (some_at w.symbols k int_symbol s.1.entry)) (s.1.kind, count)), cells_over v ts o)
  applied_over (Some (stands.Alias vars t)) i n ts q l s o = inst_over v true ts o t (type_over v vars t s)

  tuple_over : (n : ℕ) (m : Option ℕ) (ts : List Tree) → IsSomeAnd m (IsTuple v n) → AreOver v ts → IsOver v true (inst_types (result_or_int (entry_of w.symbols m).symbol.result) ts)
  tuple_over n None ts s o = absurd s
  tuple_over n (Some k) ts s o = inst_over v true ts o _ (of (symbol_or w.symbols k).result s.symbol.signature.types.result)
    where
      of : (r : Option Tree) → IfSome r (IsTypeIn v (symbol_or w.symbols k).vars) → IsOver v true (result_or_int r)
      of None x = int_in
      of (Some t) x = type_over v (symbol_or w.symbols k).vars t x

  mutual
    pub form_by : (f : TypeExpression) → form_fault w false f ≡ None → FormTuples base w f → IsOver v true (type_at w f)
    form_by (variable_type i x) h u = variable_over (place_of x w.vars)
    form_by (composed_type i qs x fs) h u =
        let p = none_both (meaning_fault w i (count_forms fs) (w.types qs x)) (forms_fault w false fs) h in
        applied_over (w.types qs x) i (count_forms fs) (types_at w fs) p.0 (count_types w fs) (types qs x) (forms_by fs p.1 u)
    form_by (product_type i fs) h u = tuple_over (count_forms fs) (w.tuples (count_forms fs)) (types_at w fs) u.0 (forms_by fs h u.1)

    pub forms_by : (fs : TypeExpressions) → forms_fault w false fs ≡ None → FormsTuples base w fs → AreOver v (types_at w fs)
    forms_by no_types h u = tt
    forms_by (more_types f fs) h u = let p = none_both (form_fault w false f) (forms_fault w false fs) h in (form_by f p.0 u.0, forms_by fs p.1 u.1)

module _ (base : Vocabulary) (w : Where) (good : IsWellFormed base w) where
  pub int_over : IsOver (with_entries base w.symbols) true int_type
  int_over = int_in base w good.int good.int_usable good.types

  pub named_matched : (k : ℕ) → IsSymbol (with_entries base w.symbols) k → (symbol_or w.symbols k).kind ≡ Constructor → IsTrue (base.matched k)
  named_matched k s q = good.constructors k s q

  pub form_over : (f : TypeExpression) → form_fault w false f ≡ None → FormTuples base w f → IsOver (with_entries base w.symbols) true (type_at w f)
  form_over f h u = form_by base w good.int good.int_usable good.types f h u
