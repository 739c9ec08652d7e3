-- A body at the types and arguments of a use has the typing, sort and type of the use, and nothing that the use doesn't have.
use Rattle.std.proofs.Common.{◌≡◌, ℕ, zero, suc, ◌+◌, ◌<◌, ◌≤◌, ◌⊎◌, inl, inr, IsSomeAnd, Bool, true, false, ◌==◌, if◌then◌else◌, List, [], ◌∷◌, ◌++◌, map, length, get_or, slice_get, Option, Some, None, option_map, subst, refl, sym, ap, ◌∙◌, arith, append_assoc}
use Rattle.std.proofs.lemmas.Bool.Decides.{nat_tests}
use Rattle.tasks.specs.trees.declared.Sort.{Sort}
use Rattle.tasks.specs.trees.declared.Sort.TheVariants.{Kind, Term, Formula}
use Rattle.tasks.specs.trees.Tree.{Tree, Leaf, One, Two, Three, Head, HCell, HFun, HPred, head_of, above_params, loose}
use Rattle.tasks.specs.trees.Binding.{inst_types, TyVar}
use Rattle.tasks.specs.trees.Sorts.{WellSorted, sort_of, type_of, first_sort, IsList, IsListOf, IsExpression}
use Rattle.tasks.specs.trees.Facts.{Each}
use Rattle.trees.proofs.Many.{left_at, right_at, length_joined}
use Rattle.trees.proofs.Sizes.{sorted_fits}
use Rattle.tasks.specs.declared.signature.SymbolKind.{SymbolKind}
use Rattle.tasks.specs.declared.signature.SymbolKind.TheVariants.{Function, Predicate}
use Rattle.tasks.specs.declared.signature.SymbolKind.TheVariants as kinds
use Rattle.tasks.specs.Task.{SymbolTree}
use Rattle.tasks.specs.Vocabulary.{Vocabulary}
use Rattle.tasks.specs.Typing.{members, entry, IsUse, HasResult, MakesTerms, TypedUnder}
use Rattle.tasks.specs.Valid.{VariablesBelow, ParametersOf}
use Rattle.tasks.proofs.TypeInstances.{IsSoundVocabulary}
use Rattle.tasks.proofs.KeptInstances.{parameters_longer, parameters_within}
use Rattle.evidence.specs.images.Images.{IsOtherHead, KeepsTree, IsNodeRule}
use Rattle.evidence.specs.images.typing_laws.HasTyping.{HasSorts, HasTyping, IsTypeAt, AreTermsFor, KeepsTyping, IsTypedRule}
use Rattle.images.proofs.typing_laws.Sorted.{has_sorts, has_typed, typed_has, has_closed, has_further, kind_has}
use Rattle.images.proofs.typing_laws.TypeInstances.{sort_at, type_at, has_types, variables_below_at, no_parameters_at}
use Rattle.images.proofs.typing_laws.Changes.{many_has, many_sort, many_type, many_variables, many_above_params, many_parameters}
use Rattle.inlining.specs.Inlining.{use_body, unfold_rule}
use Rattle.inlining.proofs.Bodies.{onto, map_onto, IsBodyOf, IsBody}

-- ---- members of lists
-- what is true of a tree and so of its parts is true of a list's members
pub member_each : (Q : Tree → Type 0) → ((h : Head) (a b : Tree) → Q (Two h a b) → Q a × Q b) → (ts : Tree) → Q ts → (k : ℕ) (e : Tree) → k < length (members ts) → Q (get_or (members ts) k e)
member_each Q parts (Leaf h) q k e l = absurd (omega arith)
member_each Q parts (One h a) q k e l = absurd (omega arith)
member_each Q parts (Two HCell a b) q zero e l = (parts HCell a b q).0
member_each Q parts (Two HCell a b) q (suc k) e l = member_each Q parts b (parts HCell a b q).1 k e (omega arith)
member_each Q parts (Two _ a b) q k e l = absurd (omega arith)
member_each Q parts (Three h a b c) q k e l = absurd (omega arith)

first_is : (s r : Sort) → (Some r ≡ None) ⊎ (Some r ≡ Some s) → r ≡ s
first_is s r (inl n) = absurd (cc)
first_is s r (inr q) = cc

rest_is : (s r x : Sort) (o : Option Sort) → r ≡ s → IsListOf r x o → IsListOf s x o
rest_is s r x o q l = subst (λ (z : Sort). IsListOf z x o) q l

module _ (v : Vocabulary) (types : List Tree) where
  pub member_types : (a : Tree) → IsList Kind a → HasTyping v types a → (j : ℕ) (e : Tree) → IsTypeAt v e → IsTypeAt v (get_or (members a) j e)
  member_types (Leaf h) l x j e k = k
  member_types (One h a) l x j e k = k
  member_types (Two HCell a b) l x zero e k = let q = first_is Kind (sort_of a) l.1 in (q, kind_has v types [] a q x.2)
  member_types (Two HCell a b) l x (suc j) e k = member_types b (rest_is Kind (sort_of a) (sort_of b) (first_sort b) (first_is Kind (sort_of a) l.1) x.0.0.1) x.3 j e k
  member_types (Two _ a b) l x j e k = k
  member_types (Three h a b c) l x j e k = k

  abbrev pub IsTermHere : Tree → Type 0
  IsTermHere m = (sort_of m ≡ Term) × HasTyping v types m

  pub member_terms : (ts : Tree) → IsList Term ts → HasTyping v types ts → Each IsTermHere (members ts)
  member_terms (Leaf h) l x = tt
  member_terms (One h a) l x = tt
  member_terms (Two HCell a b) l x =
      let q = first_is Term (sort_of a) l.1 in
      ((q, x.2), member_terms b (rest_is Term (sort_of a) (sort_of b) (first_sort b) q x.0.0.1) x.3)
  member_terms (Two _ a b) l x = tt
  member_terms (Three h a b c) l x = tt

  -- one term more, for a variable more inside
  terms_push : (tys ts : List Tree) (ty m : Tree) → AreTermsFor v types tys ts → IsTermHere m → type_of m ≡ Some ty → AreTermsFor v types (ty ∷ tys) (ts ++ m ∷ [])
  terms_push tys ts ty m o h q = record { as_many = omega (arith, length_joined ts (m ∷ []), o.as_many); each = by }
    where
      by : (i k : ℕ) (u e : Tree) → slice_get (ty ∷ tys) i ≡ Some u → i + k + 1 ≡ length (ts ++ m ∷ [])
          → (sort_of (get_or (ts ++ m ∷ []) k e) ≡ Term) × ((type_of (get_or (ts ++ m ∷ []) k e) ≡ Some u) × HasTyping v types (get_or (ts ++ m ∷ []) k e))
      by zero k u e g n =
          let r : get_or (ts ++ m ∷ []) k e ≡ m = right_at ts (m ∷ []) k 0 e (omega (arith, n, length_joined ts (m ∷ []))) in
          subst (λ (z : Tree). (sort_of z ≡ Term) × ((type_of z ≡ Some u) × HasTyping v types z)) (sym r) (h.0, (q ∙ g, h.1))
      by (suc i) k u e g n =
          let s = length_joined ts (m ∷ []) in
          let r : get_or (ts ++ m ∷ []) k e ≡ get_or ts k e = left_at ts (m ∷ []) k e (omega (arith, n, s)) in
          subst (λ (z : Tree). (sort_of z ≡ Term) × ((type_of z ≡ Some u) × HasTyping v types z)) (sym r) (o.each i k u e g (omega (arith, n, s)))

  terms_joined : (at : Tree → Tree) (args ms tys us : List Tree) → AreTermsFor v types tys us → Each IsTermHere ms → map type_of ms ≡ map (λ a. Some (at a)) args
      → AreTermsFor v types (onto (map at args) tys) (us ++ ms)
  terms_joined at [] [] tys us o h q = subst (λ (z : List Tree). AreTermsFor v types tys z) (sym (joined us)) o
    where
      joined : (xs : List Tree) → xs ++ [] ≡ xs
      joined [] = refl
      joined (x ∷ xs) = ap (λ (z : List Tree). x ∷ z) (joined xs)
  terms_joined at (a ∷ args) (m ∷ ms) tys us o h q =
      let one : type_of m ≡ Some (at a) = cc in
      let rest : map type_of ms ≡ map (λ a. Some (at a)) args = cc in
      subst (λ (z : List Tree). AreTermsFor v types (onto (map at (a ∷ args)) tys) z) (append_assoc us (m ∷ []) ms)
      (terms_joined at args ms (at a ∷ tys) (us ++ m ∷ []) (terms_push tys us (at a) m o h.0 one) h.1 rest)
  terms_joined at [] (m ∷ ms) tys us o h q = absurd (cc)
  terms_joined at (a ∷ args) [] tys us o h q = absurd (cc)

  no_terms : AreTermsFor v types [] []
  no_terms = record { as_many = refl; each = λ i k ty e q n. absurd (omega arith) }

  -- ---- a body at a use's types and arguments
  module _ (sound : IsSoundVocabulary v) (k : ℕ) (body zs ts : Tree) (b : IsBody v k body) (u : IsUse b.symbol zs ts) (lz : IsList Kind zs) (lt : IsList Term ts) (xz : HasTyping v types zs) (xt : HasTyping v types ts) where
    put : (j : ℕ) → IsTypeAt v (get_or (members zs) j (TyVar j))
    put j = member_types zs lz xz j (TyVar j) (refl, (tt, tt))

    abbrev typed : Tree
    typed = inst_types body (members zs)

    abbrev tys : List Tree
    tys = onto (map (λ (a : Tree). inst_types a (members zs)) b.symbol.args) []

    terms : AreTermsFor v types tys (members ts)
    terms = terms_joined (λ (a : Tree). inst_types a (members zs)) b.symbol.args (members ts) [] [] no_terms (member_terms ts lt xt) u.fit

    body_typed : HasTyping v tys typed
    body_typed =
        subst (λ (z : List Tree). HasTyping v z typed) (map_onto (λ (a : Tree). inst_types a (members zs)) b.symbol.args [])
        (has_types v (members zs) put sound (onto b.symbol.args []) body b.typed)

    further : HasTyping v (tys ++ types) typed
    further = has_further v tys types typed body_typed

    pub use_closed : loose typed ≤ length (members ts)
    use_closed = omega (arith, has_closed v tys typed body_typed, terms.as_many)

    pub use_typed : HasTyping v types (use_body body zs ts)
    use_typed = many_has v types tys (members ts) terms typed further

    pub use_sort : sort_of (use_body body zs ts) ≡ sort_of body
    use_sort = many_sort v types tys (members ts) terms typed further ∙ sort_at v (members zs) put body

    pub use_type : type_of (use_body body zs ts) ≡ option_map (λ (a : Tree). inst_types a (members zs)) (type_of body)
    use_type = many_type v types tys (members ts) terms typed further ∙ type_at v (members zs) put body

    pub use_variables : (n : ℕ) → VariablesBelow n zs → VariablesBelow n ts → VariablesBelow n (use_body body zs ts)
    use_variables n hz ht =
        many_variables (members ts) n (λ i e l. member_each (VariablesBelow n) (λ h a c q. q) ts ht i e l) typed
        (variables_below_at v (members zs) put n (λ j l. member_each (VariablesBelow n) (λ h a c q. q) zs hz j (TyVar j) l) body (subst (λ (m : ℕ). VariablesBelow m body) (sym u.as_many) b.variables))

    none : ParametersOf [] typed
    none = no_parameters_at v (members zs) put body b.parameters

    pub use_above : (m : ℕ) → above_params ts ≤ m → above_params (use_body body zs ts) ≤ m
    use_above m l =
        many_above_params (members ts) m (λ i e n. member_each (λ (z : Tree). above_params z ≤ m) (λ h a c q. (omega arith, omega arith)) ts l i e n) typed
        (let n : above_params typed ≤ 0 = parameters_within [] typed none in omega (arith, n))

    pub use_parameters : (ps : List Tree) → ParametersOf ps ts → ParametersOf ps (use_body body zs ts)
    use_parameters ps h =
        many_parameters (members ts) ps
        (λ i e l. member_each (λ (z : Tree). HasSorts z × ParametersOf ps z) (λ h a c q. ((q.0.1, q.1.0), (q.0.2, q.1.1))) ts (has_sorts v types ts xt, h) i e l) typed
        (has_sorts v tys typed body_typed) (parameters_longer [] ps typed none)

  pub keeps_same : (e : Tree) → HasTyping v types e → KeepsTyping v types e e
  keeps_same e x = record { typed = x; sort = refl; type = refl; variables = λ n h. h; above = λ m h. h; parameters = λ ps h. h }

  function_result : (kind : SymbolKind) (out : Option Tree) (body : Tree) → MakesTerms kind → IsBodyOf kind out body → (sort_of body ≡ Term) × (type_of body ≡ out)
  function_result Function (Some ty) body m r = r
  function_result Function None body m r = absurd r
  function_result Predicate out body m r = absurd m
  function_result kinds.Kind out body m r = absurd m
  function_result _ out body m r = absurd r

  predicate_result : (kind : SymbolKind) (out : Option Tree) (body : Tree) → kind ≡ Predicate → IsBodyOf kind out body → (sort_of body ≡ Formula) × (type_of body ≡ None)
  predicate_result Predicate None body q r = r
  predicate_result Predicate (Some ty) body q r = absurd r
  predicate_result Function out body q r = absurd (cc)
  predicate_result _ out body q r = absurd r

  pub entry_is : (o : Option SymbolTree) (e : SymbolTree) (P : SymbolTree → Type 0) → o ≡ Some e → IsSomeAnd o P → P e
  entry_is o e P q h = subst (λ (z : Option SymbolTree). IsSomeAnd z P) q h

  module _ (k : ℕ) (body : Tree) (b : IsBody v k body) where
    -- a use has as many types as the body may have type variables
    pub function_count : (f : ℕ) (zs ts ty : Tree) → (f == k) ≡ true → HasTyping v types (Three (HFun f) zs ts ty) → VariablesBelow (length (members zs)) body
    function_count f zs ts ty q x =
        let n : k ≡ f = grind (arith, nat_tests) in
        let y = subst (λ (m : ℕ). HasTyping v types (Three (HFun m) zs ts ty)) (sym n) x in
        let p = entry_is (entry v k) b.symbol (λ e. MakesTerms e.kind × IsUse e zs ts × HasResult e zs ty) b.is y.1.1 in
        subst (λ (m : ℕ). VariablesBelow m body) (sym p.1.as_many) b.variables

    pub predicate_count : (f : ℕ) (zs ts : Tree) → (f == k) ≡ true → HasTyping v types (Two (HPred f) zs ts) → VariablesBelow (length (members zs)) body
    predicate_count f zs ts q x =
        let n : k ≡ f = grind (arith, nat_tests) in
        let y = subst (λ (m : ℕ). HasTyping v types (Two (HPred m) zs ts)) (sym n) x in
        let p = entry_is (entry v k) b.symbol (λ e. (e.kind ≡ Predicate) × IsUse e zs ts) b.is y.1.1 in
        subst (λ (m : ℕ). VariablesBelow m body) (sym p.1.as_many) b.variables

  module _ (sound : IsSoundVocabulary v) (k : ℕ) (body : Tree) (b : IsBody v k body) where
    pub function_keeps : (zs ts ty : Tree) → HasTyping v types (Three (HFun k) zs ts ty) → KeepsTyping v types (Three (HFun k) zs ts ty) (use_body body zs ts)
    function_keeps zs ts ty x =
        let p = entry_is (entry v k) b.symbol (λ e. MakesTerms e.kind × IsUse e zs ts × HasResult e zs ty) b.is x.1.1 in
        let r = function_result b.symbol.kind b.symbol.result body p.0 b.result in record {
          typed = use_typed sound k body zs ts b p.1 x.0.0 x.0.1 x.2 x.3;
          sort = use_sort sound k body zs ts b p.1 x.0.0 x.0.1 x.2 x.3 ∙ r.0;
          type = use_type sound k body zs ts b p.1 x.0.0 x.0.1 x.2 x.3 ∙ ap (option_map (λ (a : Tree). inst_types a (members zs))) r.1 ∙ p.2;
          variables = λ n h. use_variables sound k body zs ts b p.1 x.0.0 x.0.1 x.2 x.3 n h.0 h.1;
          above = λ m h. use_above sound k body zs ts b p.1 x.0.0 x.0.1 x.2 x.3 m (omega arith);
          parameters = λ ps h. use_parameters sound k body zs ts b p.1 x.0.0 x.0.1 x.2 x.3 ps h.1;
        }

    pub predicate_keeps : (zs ts : Tree) → HasTyping v types (Two (HPred k) zs ts) → KeepsTyping v types (Two (HPred k) zs ts) (use_body body zs ts)
    predicate_keeps zs ts x =
        let p = entry_is (entry v k) b.symbol (λ e. (e.kind ≡ Predicate) × IsUse e zs ts) b.is x.1.1 in
        let r = predicate_result b.symbol.kind b.symbol.result body p.0 b.result in record {
          typed = use_typed sound k body zs ts b p.1 x.0.0.0 x.0.0.1 x.2 x.3;
          sort = use_sort sound k body zs ts b p.1 x.0.0.0 x.0.0.1 x.2 x.3 ∙ r.0;
          type = use_type sound k body zs ts b p.1 x.0.0.0 x.0.0.1 x.2 x.3 ∙ ap (option_map (λ (a : Tree). inst_types a (members zs))) r.1;
          variables = λ n h. use_variables sound k body zs ts b p.1 x.0.0.0 x.0.0.1 x.2 x.3 n h.0 h.1;
          above = λ m h. use_above sound k body zs ts b p.1 x.0.0.0 x.0.0.1 x.2 x.3 m (omega arith);
          parameters = λ ps h. use_parameters sound k body zs ts b p.1 x.0.0.0 x.0.0.1 x.2 x.3 ps h.1;
        }

    rule_keeps : (e : Tree) → HasTyping v types e → KeepsTyping v types e (unfold_rule k body e)
    rule_keeps (Three (HFun f) zs ts ty) x = by (f == k) refl
      where
        by : (r : Bool) → (f == k) ≡ r → KeepsTyping v types (Three (HFun f) zs ts ty) (if r then use_body body zs ts else Three (HFun f) zs ts ty)
        by true q =
            let n : k ≡ f = grind (arith, nat_tests) in
            subst (λ (m : ℕ). KeepsTyping v types (Three (HFun m) zs ts ty) (use_body body zs ts)) n (function_keeps zs ts ty (subst (λ (m : ℕ). HasTyping v types (Three (HFun m) zs ts ty)) (sym n) x))
        by false q = keeps_same (Three (HFun f) zs ts ty) x
    rule_keeps (Two (HPred f) zs ts) x = by (f == k) refl
      where
        by : (r : Bool) → (f == k) ≡ r → KeepsTyping v types (Two (HPred f) zs ts) (if r then use_body body zs ts else Two (HPred f) zs ts)
        by true q =
            let n : k ≡ f = grind (arith, nat_tests) in
            subst (λ (m : ℕ). KeepsTyping v types (Two (HPred m) zs ts) (use_body body zs ts)) n (predicate_keeps zs ts (subst (λ (m : ℕ). HasTyping v types (Two (HPred m) zs ts)) (sym n) x))
        by false q = keeps_same (Two (HPred f) zs ts) x
    rule_keeps e x = keeps_same e x

pub unfold_others : (k : ℕ) (body e : Tree) → IsOtherHead (head_of e) → unfold_rule k body e ≡ e
unfold_others k body (Three (HFun f) zs ts ty) h = absurd h
unfold_others k body (Two (HPred p) zs ts) h = absurd h
unfold_others k body _ h = refl

-- the rule keeps typing, whatever the indices
pub unfold_typed_rule : (v : Vocabulary) → IsSoundVocabulary v → (k : ℕ) (body : Tree) → IsBody v k body → IsTypedRule v (unfold_rule k body)
unfold_typed_rule v sound k body b = record { others = unfold_others k body; keeps = λ types e s x. rule_keeps v types sound k body b e x }

-- and where what is made is well sorted, with the bound on indices
pub unfold_node_rule : (v : Vocabulary) → IsSoundVocabulary v → (k : ℕ) (body : Tree) → IsBody v k body → IsNodeRule v (unfold_rule k body)
unfold_node_rule v sound k body b = record { others = unfold_others k body; keeps = by }
  where
    by : (types : List Tree) (e : Tree) → IsExpression (sort_of e) → TypedUnder v types e → WellSorted (unfold_rule k body e) → KeepsTree v types e (unfold_rule k body e)
    by types e s x w =
        let m = rule_keeps v types sound k body b e (typed_has v types e x) in record {
          typed = has_typed v types (unfold_rule k body e) m.typed (sorted_fits (unfold_rule k body e) w);
          sort = m.sort;
          type = m.type;
          variables = m.variables;
          above = m.above;
          parameters = m.parameters;
        }
