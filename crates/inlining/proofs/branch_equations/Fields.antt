-- The fields of a branch's pattern, and the constructor on the variables for them.
use Rattle.std.proofs.Common.{◌≡◌, ℕ, ◌+◌, Bool, true, false, if◌then◌else◌, List, [], ◌∷◌, ◌++◌, map, All, Some, inl, inr, subst, refl, sym, ap, ◌∙◌, append_assoc}
use Rattle.std.specs.List.{list_all}
use Rattle.std.proofs.lemmas.List.Elements.{All-cons, All-nil}
use Rattle.plain_laws.proofs.Bools.{and_first, and_second}
use Rattle.tasks.specs.trees.declared.Sort.{Sort}
use Rattle.tasks.specs.trees.declared.Sort.TheVariants as sort
use Rattle.tasks.specs.trees.Tree.{Tree, Leaf, One, Two, Three, Head, HCell, HFun, HPatAny, HPatVar, HPatAlias, HPatCon}
use Rattle.tasks.specs.trees.Sorts.{sort_of, type_of, IsList}
use Rattle.trees.proofs.Types.{OnlyTypes}
use Rattle.tasks.specs.declared.signature.SymbolKind.TheVariants.{Constructor}
use Rattle.tasks.specs.Task.{SymbolTree}
use Rattle.tasks.specs.Vocabulary.{Vocabulary}
use Rattle.tasks.specs.Typing.{members, pattern_types, bound_types, entry, OneTyped, MakesTerms, IsUse, HasResult}
use Rattle.tasks.specs.Equations.{cells}
use Rattle.tasks.specs.Valid.{VariablesBelow, ParametersOf}
use Rattle.tasks.proofs.TypeInstances.{some_kept}
use Rattle.evidence.specs.images.typing_laws.HasTyping.{HasTyping}
use Rattle.images.proofs.typing_laws.Sorted.{has_sorts, kinds_only, kind_has, types_parameters}
use Rattle.inlining.proofs.Bodies.{onto}
use Rattle.declarations.specs.spelled_groups.Spelled.{PatternsAreUsable}
use Rattle.declarations.specs.spelled_groups.Formulas.{members_cells}
use Rattle.inlining.specs.branch_equations.Branches.{ConstructorBranch, is_plain_field, is_variable_field, field_type, bound_fields}
use Rattle.inlining.proofs.branch_equations.Terms.{IsBinderType, IsTermUnder, AreTermsUnder}
use Rattle.inlining.proofs.branch_equations.Matches.{IsTypedBranch}

-- the types of the variables among fields
abbrev pub variable_types : List Tree → List Tree
variable_types [] = []
variable_types (p ∷ ps) = if is_variable_field p then field_type p ∷ variable_types ps else variable_types ps

-- ---- what a pattern's fields bind
module _ (v : Vocabulary) (bs : List Tree) where
  one_binds_none : (h : Head) (a : Tree) (more : List Tree) → sort_of (One h a) ≡ sort.List → pattern_types (One h a) ++ more ≡ more
  one_binds_none HPatVar a more l = absurd (cc)
  one_binds_none HPatAlias a more l = absurd (cc)
  one_binds_none _ a more l = refl

  three_binds_none : (h : Head) (a b c : Tree) (more : List Tree) → sort_of (Three h a b c) ≡ sort.List → pattern_types (Three h a b c) ++ more ≡ more
  three_binds_none (HPatCon k) a b c more l = absurd (cc)
  three_binds_none _ a b c more l = refl

  onto_one : (p : Tree) (ps more : List Tree) → onto (variable_types (p ∷ ps)) more ≡ onto (variable_types ps) (if is_variable_field p then field_type p ∷ more else more)
  onto_one p ps more = by (is_variable_field p)
    where
      by : (t : Bool) → onto (if t then field_type p ∷ variable_types ps else variable_types ps) more ≡ onto (variable_types ps) (if t then field_type p ∷ more else more)
      by true = refl
      by false = refl

  plain_binds : (p : Tree) (more : List Tree) → is_plain_field p ≡ true → pattern_types p ++ more ≡ (if is_variable_field p then field_type p ∷ more else more)
  plain_binds (One HPatVar ty) more k = refl
  plain_binds (One HPatAny ty) more k = refl
  plain_binds _ more k = absurd (cc)

  pub fields_bind : (e : Tree) (more : List Tree) → IsList sort.Pattern e → HasTyping v bs e → list_all is_plain_field (members e) ≡ true → pattern_types e ++ more ≡ onto (variable_types (members e)) more
  fields_bind (Leaf h) more l x k = refl
  fields_bind (One h a) more l x k = one_binds_none h a more l.0
  fields_bind (Two HCell p rest) more l x k =
      let tail : IsList sort.Pattern rest = elim l.1 [
        | inl n ↦ absurd (cc)
        | inr s ↦ let z : sort_of p ≡ sort.Pattern = cc in subst (λ (y : Sort). IsList y rest) z x.0.0.1
      ] in
      let first = and_first (is_plain_field p) (list_all is_plain_field (members rest)) k in
      append_assoc (pattern_types rest) (pattern_types p) more
      ∙ ap (λ (z : List Tree). pattern_types rest ++ z) (plain_binds p more first)
      ∙ fields_bind rest (if is_variable_field p then field_type p ∷ more else more) tail x.3 (and_second (is_plain_field p) (list_all is_plain_field (members rest)) k)
      ∙ sym (onto_one p (members rest) more)
  fields_bind (Two _ a b) more l x k = refl
  fields_bind (Three h a b c) more l x k = three_binds_none h a b c more l.0

-- ---- their types
module _ (v : Vocabulary) (vars : ℕ) (bs : List Tree) where
  pub binder_type : (ty : Tree) → sort_of ty ≡ sort.Kind → HasTyping v bs ty → VariablesBelow vars ty → IsBinderType v vars ty
  binder_type ty k x n = record { sort = k; typed = λ more. kind_has v bs more ty k x; parameters = types_parameters [] ty (kinds_only ty (has_sorts v bs ty x) (inl k)); variables = n }

  field_binder : (p : Tree) → is_plain_field p ≡ true → HasTyping v bs p → VariablesBelow vars p → IsBinderType v vars (field_type p)
  field_binder (One HPatVar ty) k x n = binder_type ty x.0 x.2 n
  field_binder (One HPatAny ty) k x n = binder_type ty x.0 x.2 n
  field_binder _ k x n = absurd (cc)

  pub fields_types : (e : Tree) → HasTyping v bs e → VariablesBelow vars e → list_all is_plain_field (members e) ≡ true → All (IsBinderType v vars) (map field_type (members e))
  fields_types (Two HCell p rest) x n k =
      All-cons (IsBinderType v vars) (field_type p) (map field_type (members rest)) (field_binder p (and_first (is_plain_field p) (list_all is_plain_field (members rest)) k) x.2 n.0)
      (fields_types rest x.3 n.1 (and_second (is_plain_field p) (list_all is_plain_field (members rest)) k))
  fields_types _ x n k = All-nil (IsBinderType v vars)

plain_type : (p : Tree) → is_plain_field p ≡ true → type_of p ≡ Some (field_type p)
plain_type (One HPatVar ty) k = refl
plain_type (One HPatAny ty) k = refl
plain_type _ k = absurd (cc)

plain_types : (ps : List Tree) → list_all is_plain_field ps ≡ true → map type_of ps ≡ map (λ ty. Some ty) (map field_type ps)
plain_types [] k = refl
plain_types (p ∷ ps) k =
    let a = plain_type p (and_first (is_plain_field p) (list_all is_plain_field ps) k) in
    let b = plain_types ps (and_second (is_plain_field p) (list_all is_plain_field ps) k) in
    cc

-- ---- the terms for them
module _ (v : Vocabulary) (vars : ℕ) (bs : List Tree) where
  pub bound_under : (ps zs : List Tree) → AreTermsUnder v vars bs (map field_type ps) zs → AreTermsUnder v vars bs (variable_types ps) (bound_fields ps zs)
  bound_under [] [] a = tt
  bound_under (p ∷ ps) (z ∷ zs) a = by (is_variable_field p) (bound_under ps zs a.1)
    where
      by : (t : Bool) → AreTermsUnder v vars bs (variable_types ps) (bound_fields ps zs) → AreTermsUnder v vars bs (if t then field_type p ∷ variable_types ps else variable_types ps) (if t then z ∷ bound_fields ps zs else bound_fields ps zs)
      by true c = (a.0, c)
      by false c = c
  bound_under [] (z ∷ zs) a = absurd a
  bound_under (p ∷ ps) [] a = absurd a

  pub types_of_terms : (tys ts : List Tree) → AreTermsUnder v vars bs tys ts → map type_of ts ≡ map (λ ty. Some ty) tys
  types_of_terms [] [] a = refl
  types_of_terms (ty ∷ tys) (t ∷ ts) a = let p = a.0.type in let q = types_of_terms tys ts a.1 in cc
  types_of_terms [] (t ∷ ts) a = absurd a
  types_of_terms (ty ∷ tys) [] a = absurd a

  -- as a tree
  pub record IsTermList (es : Tree) : Type 0 where
    pub list : IsList sort.Term es
    pub typed : HasTyping v bs es
    pub parameters : ParametersOf [] es
    pub variables : VariablesBelow vars es

  pub terms_list : (tys ts : List Tree) → AreTermsUnder v vars bs tys ts → IsTermList (cells ts)
  terms_list [] [] a = record { list = (refl, inl refl); typed = (tt, tt); parameters = tt; variables = tt }
  terms_list (ty ∷ tys) (t ∷ ts) a =
      let r = terms_list tys ts a.1 in
      let s : sort_of t ≡ sort.Term = a.0.sort in
      let first : IsList (sort_of t) (cells ts) = subst (λ (z : Sort). IsList z (cells ts)) (sym s) r.list in
      record {
        list = (refl, inr (ap (λ (z : Sort). Some z) s));
        typed = (((λ q. absurd (let z : sort.Term ≡ sort.List = sym s ∙ q in cc), first), tt), tt, a.0.typed, r.typed);
        parameters = (a.0.parameters, r.parameters);
        variables = (a.0.variables, r.variables);
      }
  terms_list [] (t ∷ ts) a = absurd a
  terms_list (ty ∷ tys) [] a = absurd a

-- a list of types is one under any binders
types_under : (v : Vocabulary) (e : Tree) → OnlyTypes e → (bs more : List Tree) → HasTyping v bs e → HasTyping v more e
types_under v (Leaf h) o bs more x = x
types_under v (One h a) o bs more x = (x.0, subst (λ (g : Head). OneTyped v bs g a → OneTyped v more g a) (sym o.0.1) (λ y. y) x.1, types_under v a o.1 bs more x.2)
types_under v (Two h a b) o bs more x = (x.0, x.1, types_under v a o.1 bs more x.2, types_under v b o.2 (bound_types h a ++ bs) (bound_types h a ++ more) x.3)
types_under v (Three h a b c) o bs more x = absurd o

-- ---- the constructor on terms of the fields' types
module _ (v : Vocabulary) (usable : PatternsAreUsable v) (vars : ℕ) (bs more : List Tree) (type first : Tree) (b : ConstructorBranch) (t : IsTypedBranch v vars bs type first b) where
  same_use : (e : SymbolTree) (zs : List Tree) → AreTermsUnder v vars more (map field_type b.fields) zs → IsUse e b.types t.fields → IsUse e b.types (cells zs)
  same_use e zs a u =
      let p : map type_of (members t.fields) ≡ map type_of b.fields = ap (map type_of) t.same in
      record { as_many = u.as_many; fit = ap (map type_of) (members_cells zs) ∙ types_of_terms v vars more _ zs a ∙ sym (plain_types b.fields t.plain) ∙ sym p ∙ u.fit }

  pub built_under : (zs : List Tree) → AreTermsUnder v vars more (map field_type b.fields) zs → IsTermUnder v vars more type (Three (HFun b.symbol) b.types (cells zs) b.type)
  built_under zs a =
      let l = terms_list v vars more _ zs a in
      let x = t.pattern in
      record {
        sort = refl;
        type = ap (λ (z : Tree). Some z) t.asked;
        typed = (
          (x.0.0, l.list, x.0.2),
          (
            usable b.symbol x.1.0,
            some_kept (entry v b.symbol) (λ (e : SymbolTree). (e.kind ≡ Constructor) × IsUse e b.types t.fields × HasResult e b.types b.type) (λ (e : SymbolTree). MakesTerms e.kind × IsUse e b.types (cells zs) × HasResult e b.types b.type)
                (λ e q h. (subst MakesTerms (sym h.0) tt, same_use e zs a h.1, h.2)) x.1.1,
          ),
          types_under v b.types (kinds_only b.types (has_sorts v bs b.types x.2) (inr x.0.0)) bs more x.2,
          l.typed,
          kind_has v bs more b.type x.0.2 x.4,
        );
        parameters = (t.pattern_parameters.0, l.parameters, t.pattern_parameters.2);
        variables = (t.pattern_variables.0, l.variables, t.pattern_variables.2);
      }
