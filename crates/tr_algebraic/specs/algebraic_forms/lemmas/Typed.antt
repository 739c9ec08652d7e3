-- The laws of algebraic types of a valid task are formulas, where they aren't too large.
use Rattle.std.specs.Prelude.{slice_get, IfSome, IsSomeAnd, IsTrue}
use Rattle.std.specs.Option.{option_map}
use Rattle.std.proofs.Common.{◌≡◌, ℕ, ◌+◌, ◌<◌, ◌≤◌, zero, suc, List, [], ◌∷◌, ◌++◌, map, length, All, Contains, Option, Some, inl, inr, refl, sym, ap, subst, ◌∙◌, arith, append_assoc}
use Rattle.std.proofs.lemmas.List.{length-append}
use Rattle.std.proofs.lemmas.List.Elements.{All-cons, All-nil, All-append}
use Rattle.plain_laws.proofs.Lists.{All-left, All-right}
use Rattle.trees.specs.declared.Op.TheVariants.{Or}
use Rattle.trees.specs.declared.Sort.{Sort}
use Rattle.trees.specs.declared.Sort.TheVariants.{Kind, Term, Formula}
use Rattle.trees.specs.declared.Sort.TheVariants as sorts
use Rattle.trees.specs.Tree.{Tree, Leaf, Two, Three, HEnd, HCell, HFun, HEq, HTrue, size}
use Rattle.trees.specs.Binding.{inst_types}
use Rattle.trees.specs.Sorts.{type_of, IsList}
use Rattle.tasks.specs.Task.{SymbolTree, symbol_or, ConstructorTree}
use Rattle.tasks.specs.Vocabulary.{Vocabulary}
use Rattle.tasks.specs.Typing.{members, MakesTerms, IsUse, HasResult}
use Rattle.tasks.specs.Equations.{cells, type_variables, for_all}
use Rattle.tasks.specs.Valid.{IsFormulaOver, IsTypeIn, IsTypeEntry, IsSignatureOf, IsProjectionOf, AreProjections, IsConstructorOf, own_type}
use Rattle.tasks.proofs.Declared.{contains_step}
use Rattle.tasks.specs.declared.signature.SymbolKind.{SymbolKind}
use Rattle.tasks.specs.declared.signature.SymbolKind.TheVariants as kinds
use Rattle.declarations.specs.spelled_groups.Formulas.{IsGoodUnder, AreGood, under, under_at, members_cells, count_variables, own_variables_stay, good_formula, true_good, false_good, join_good, equal_good, variable_good, forall_good, for_all_good, own_good, own_fit}
use Rattle.tr_algebraic.specs.algebraic_forms.Formulas.{own_type_list, variable_under, variables_under, con_on, field_of, projected_fields, projection_laws, all_projection_laws, different, distinctness_law, distinctness_laws, case_equation, disjunction, own_variable, exhaustion_law}

-- ---- places under binders
place_at : (before : List Tree) (ty : Tree) (types bs : List Tree)
    → slice_get (under (before ++ ty ∷ types) bs) (0 + length types) ≡ Some ty
place_at [] ty types bs = let e : 0 + length types ≡ length types + 0 =
    omega arith in
    ap (slice_get (under types (ty ∷ bs))) e ∙ under_at types (ty ∷ bs) 0
place_at (b ∷ before) ty types bs = place_at before ty types (b ∷ bs)

under_append : (as_ bs zs : List Tree) → under (as_ ++ bs) zs ≡ under bs (under as_ zs)
under_append [] bs zs = refl
under_append (a ∷ as_) bs zs = under_append as_ bs (a ∷ zs)

quantified_size : (types : List Tree) (e : Tree) → length types + size e ≤ size (for_all types e)
quantified_size [] e = omega arith
quantified_size (ty ∷ types) e =
    let l : length types + size e ≤ size (for_all types e) = quantified_size types e in
    let n : size (for_all (ty ∷ types) e) ≡ size ty + size (for_all types e) + 1 = refl in
    omega (arith, l, n)

entry_at : (xs : List SymbolTree) (k : ℕ) → k < length xs → slice_get xs k ≡ Some (symbol_or xs k)
entry_at [] k l = absurd (omega arith)
entry_at (x ∷ xs) zero l = refl
entry_at (x ∷ xs) (suc k) l = entry_at xs k (omega arith)

makes : (k : SymbolKind) → (k ≡ kinds.Constructor) → MakesTerms k
makes k e = subst MakesTerms (sym e) tt

projects : (k : SymbolKind) → (k ≡ kinds.Projection) → MakesTerms k
projects k e = subst MakesTerms (sym e) tt

module _ (v : Vocabulary) (vars : ℕ) where
  kind_good : (bs : List Tree) (ty : Tree) → IsTypeIn v vars ty → IsGoodUnder v vars bs Kind ty
  kind_good bs ty k =
      let g = forall_good v vars bs ty (Leaf HTrue) k (true_good v vars (ty ∷ bs)) in
      record {
        sort = k.sort;
        typed = g.typed.2;
        parameters = g.parameters.0;
        variables =
            g.variables.0;
      }

  none_good : (bs : List Tree) → AreGood v vars bs Term (Leaf HEnd)
  none_good bs =
      record { list = (refl, inl refl); typed = (tt, tt); parameters = tt; variables = tt }

  -- a list of terms one longer
  cell_good : (bs : List Tree) (t ts : Tree) → IsGoodUnder v vars bs Term t
      → AreGood v vars bs Term ts → AreGood v vars bs Term (Two HCell t ts)
  cell_good bs t ts g rest = record {
    list = (refl, inr (ap (λ z. Some z) g.sort));
    typed = (
      (
        (
          λ q. let e : Term ≡ sorts.List =
              sym g.sort ∙ q in
              absurd (cc),
          subst (λ (z : Sort). IsList z ts) (sym g.sort) rest.list,
        ),
        tt,
      ),
      tt,
      g.typed,
      rest.typed,
    );
    parameters = (g.parameters, rest.parameters);
    variables = (g.variables, rest.variables);
  }

  -- a function at the type variables on terms of its arguments' types
  function_good : (bs : List Tree) (f : ℕ) (types : List Tree) (args : Tree) (ty : Tree)
      → IsTrue (v.usable f) → IsSignatureOf v f → MakesTerms (symbol_or v.symbols f).kind
      → (symbol_or v.symbols f).vars ≡ vars → (symbol_or v.symbols f).args ≡ types
      → (symbol_or v.symbols f).result ≡ Some ty
      → AreGood v vars bs Term args → map type_of (members args) ≡ map (λ a. Some a) types
      → IsGoodUnder v vars bs Term (Three (HFun f) (own_type_list vars) args ty)
  function_good bs f types args ty u h m vs as_ r g fit =
      let e = symbol_or v.symbols f in
      let own = own_good v vars bs 0 vars (omega arith) in
      let k : IsTypeIn v vars ty =
      result_type e.result r
      (subst (λ (n : ℕ). IfSome e.result (IsTypeIn v n)) vs h.types.result) in
      let c = kind_good bs ty k in
      let stays : inst_types ty (members (own_type_list vars)) ≡ ty =
      ap (inst_types ty) (members_cells (type_variables 0 vars))
      ∙ own_variables_stay ty vars in
      let used : IsUse e (own_type_list vars) args = record {
        as_many =
            ap length (members_cells (type_variables 0 vars)) ∙ count_variables 0 vars ∙ sym vs;
        fit = fit ∙ own_fit v vars vars types
            ∙ ap (λ (z : List Tree).
            map (λ a. Some (inst_types a (members (own_type_list vars)))) z) (sym as_);
      } in
      let result : HasResult e (own_type_list vars) ty =
      ap (λ (o : Option Tree).
      option_map (λ z. inst_types z (members (own_type_list vars))) o) r
      ∙ ap (λ z. Some z) stays in
      record {
        sort = refl;
        typed = (
          (own.list, g.list, c.sort),
          (
            u,
            subst (λ (o : Option SymbolTree).
                IsSomeAnd o (λ z.
                MakesTerms z.kind × IsUse z (own_type_list vars) args
                × HasResult z (own_type_list vars) ty)) (sym (entry_at v.symbols f h.entry))
                (m, used, result),
          ),
          own.typed,
          g.typed,
          c.typed,
        );
        parameters = (own.parameters, g.parameters, c.parameters);
        variables = (own.variables, g.variables, c.variables);
      }
    where
      result_type : (o : Option Tree) → o ≡ Some ty → IfSome o (IsTypeIn v vars)
          → IsTypeIn v vars ty
      result_type o q x = subst (λ (z : Option Tree). IfSome z (IsTypeIn v vars)) q x

  -- the variables of quantifiers over types, in which there are more
  variables_good : (more types bs : List Tree) → All (IsTypeIn v vars) types
      → length more + length types < 18446744073709551616
      → AreGood v vars (under more (under types bs)) Term
      (cells (variables_under (length more) types))
  variables_good more [] bs k l = none_good (under more bs)
  variables_good more (ty ∷ types) bs k l =
      let ctx = under more (under types (ty ∷ bs)) in
      let at : slice_get ctx (length more + length types) ≡ Some ty =
      let e : length types ≡ length types + 0 =
      omega arith in under_at more (under types (ty ∷ bs)) (length types)
      ∙ ap (slice_get (under types (ty ∷ bs))) e ∙ under_at types (ty ∷ bs) 0 in
      cell_good ctx (variable_under (length more) ty types)
      (cells (variables_under (length more) types))
      (variable_good v vars ctx (length more + length types) ty (k 0 ty (omega arith))
      (omega (arith, l)) at)
      (variables_good more types (ty ∷ bs) (λ j d m. k (suc j) d (omega arith)) (omega (arith, l)))

  variables_types : (n : ℕ) (types : List Tree)
      → map type_of (members (cells (variables_under n types))) ≡ map (λ a. Some a) types
  variables_types n [] = refl
  variables_types n (ty ∷ types) =
      ap (λ (z : List (Option Tree)). Some ty ∷ z) (variables_types n types)

  module _ (type : ℕ) where
    -- a constructor that may be named, with its projections
    pub record IsConstructor (c : ConstructorTree) : Type 0 where
      pub is : IsConstructorOf v type vars c
      pub usable : IsTrue (v.usable c.symbol)
      pub projections : (k : ℕ) → Contains c.projections k → IsTrue (v.usable k)

    fields_typed : (c : ConstructorTree) → IsConstructor c → All (IsTypeIn v vars) c.fields
    fields_typed c h = subst (All (IsTypeIn v vars)) h.is.args
        (subst (λ (n : ℕ). All (IsTypeIn v n) (symbol_or v.symbols c.symbol).args) h.is.vars_are
        h.is.signature.types.args)

    con_good : (bs : List Tree) (c : ConstructorTree) (ts : List Tree) → IsConstructor c
        → AreGood v vars bs Term (cells ts)
        → map type_of (members (cells ts)) ≡ map (λ a. Some a) c.fields
        → IsGoodUnder v vars bs Term (con_on type vars c ts)
    con_good bs c ts h g fit =
        function_good bs c.symbol c.fields (cells ts) (own_type type vars) h.usable h.is.signature
        (makes _ h.is.kind) h.is.vars_are h.is.args h.is.result g fit

    field_good : (bs : List Tree) (p : ℕ) (ty x : Tree) → IsProjectionOf v type vars ty p
        → IsTrue (v.usable p) → IsGoodUnder v vars bs Term x → type_of x ≡ Some (own_type type vars)
        → IsGoodUnder v vars bs Term (field_of vars p ty x)
    field_good bs p ty x h u g q =
        function_good bs p (own_type type vars ∷ []) (cells (x ∷ [])) ty u h.signature
        (projects _ h.kind) h.vars_are h.args h.result
        (cell_good bs x (Leaf HEnd) g (none_good bs)) (ap (λ z. z ∷ []) q)

    -- ---- projections
    projections_good : (c : ConstructorTree) → IsConstructor c
        → (before : List Tree) (ps : List ℕ) (types : List Tree) → c.fields ≡ before ++ types
        → AreProjections v type vars types ps → ((k : ℕ) → Contains ps k → IsTrue (v.usable k))
        → All (λ (e : Tree). size e ≤ 1048576) (projection_laws type vars c ps types)
        → All (λ (e : Tree). IsFormulaOver v [] vars e) (projection_laws type vars c ps types)
    projections_good c h before [] types q a u l = All-nil (λ (e : Tree). IsFormulaOver v [] vars e)
    projections_good c h before (p ∷ ps) [] q a u l = absurd a
    projections_good c h before (p ∷ ps) (ty ∷ types) q a u l =
        let fs = c.fields in
        let x = variable_under 0 ty types in
        let whole = con_on type vars c (variables_under 0 fs) in
        let body = Two HEq (field_of vars p ty whole) x in
        let small : size (for_all fs body) ≤ 1048576 = l 0 (for_all fs body) (omega arith) in
        let count : length fs + size body ≤ size (for_all fs body) = quantified_size fs body in
        let kinds = fields_typed c h in
        let long : length fs ≡ length before + suc (length types) =
        ap length q ∙ length-append before (ty ∷ types) in
        let ctx = under fs [] in
        let at : slice_get ctx (0 + length types) ≡ Some ty =
        ap (λ (z : List Tree). slice_get (under z []) (0 + length types)) q
        ∙ place_at before ty types [] in
        let k : IsTypeIn v vars ty =
        All-right (IsTypeIn v vars) before (ty ∷ types)
        (subst (All (IsTypeIn v vars)) q kinds) 0 ty (omega arith) in
        let value = variable_good v vars ctx (0 + length types) ty k
        (omega (arith, small, count, long)) at in
        let field = field_good ctx p ty whole a.0 (u p (contains_step p p ps (inl refl)))
        (con_good ctx c (variables_under 0 fs) h
        (variables_good [] fs [] kinds (omega (arith, small, count)))
        (variables_types 0 fs)) refl in
        All-cons (λ (e : Tree). IsFormulaOver v [] vars e) (for_all fs body)
        (projection_laws type vars c ps types)
        (good_formula v vars (for_all fs body)
        (for_all_good v vars fs [] body kinds
        (equal_good v vars ctx (field_of vars p ty whole) x field value refl)))
        (projections_good c h (before ++ ty ∷ []) ps types
        (q ∙ sym (append_assoc before (ty ∷ []) types)) a.1
        (λ j d. u j (contains_step p j ps (inr d))) (λ j d m. l (suc j) d (omega arith)))

    pub all_projections_good : (cs : List ConstructorTree) → All IsConstructor cs
        → All (λ (e : Tree). size e ≤ 1048576) (all_projection_laws type vars cs)
        → All (λ (e : Tree). IsFormulaOver v [] vars e) (all_projection_laws type vars cs)
    all_projections_good [] h l = All-nil (λ (e : Tree). IsFormulaOver v [] vars e)
    all_projections_good (c ∷ cs) h l =
        let own = projection_laws type vars c c.projections c.fields in
        let rest = all_projection_laws type vars cs in
        let k = h 0 c (omega arith) in
        All-append (λ (e : Tree). IsFormulaOver v [] vars e) own rest
        (projections_good c k [] c.projections c.fields refl k.is.projections k.projections
        (All-left (λ (e : Tree). size e ≤ 1048576) own rest l))
        (all_projections_good cs (λ j d m. h (suc j) d (omega arith))
        (All-right (λ (e : Tree). size e ≤ 1048576) own rest l))

    -- ---- distinctness
    distinctness_good : (c d : ConstructorTree) → IsConstructor c → IsConstructor d
        → size (distinctness_law type vars c d) ≤ 1048576
        → IsFormulaOver v [] vars (distinctness_law type vars c d)
    distinctness_good c d hc hd l =
        let fs = c.fields ++ d.fields in
        let left = con_on type vars c (variables_under (length d.fields) c.fields) in
        let right = con_on type vars d (variables_under 0 d.fields) in
        let body = different type vars c d in
        let count : length fs + size body ≤ size (for_all fs body) = quantified_size fs body in
        let long : length fs ≡ length c.fields + length d.fields =
        length-append c.fields d.fields in
        let kc = fields_typed c hc in
        let kd = fields_typed d hd in
        let ctx = under d.fields (under c.fields []) in
        let same : under fs [] ≡ ctx = under_append c.fields d.fields [] in
        let gc = con_good ctx c (variables_under (length d.fields) c.fields) hc
        (variables_good d.fields c.fields [] kc (omega (arith, l, count, long)))
        (variables_types (length d.fields) c.fields) in
        let gd = con_good ctx d (variables_under 0 d.fields) hd
        (variables_good [] d.fields (under c.fields []) kd (omega (arith, l, count, long)))
        (variables_types 0 d.fields) in
        let g = equal_good v vars ctx left right gc gd refl in
        let no : IsGoodUnder v vars ctx Formula body =
        record {
          sort = refl;
          typed = (g.sort, tt, g.typed);
          parameters =
              (tt, g.parameters);
          variables = g.variables;
        } in
        good_formula v vars (for_all fs body)
        (for_all_good v vars fs [] body (All-append (IsTypeIn v vars) c.fields d.fields kc kd)
        (subst (λ (z : List Tree). IsGoodUnder v vars z Formula body) (sym same) no))

    differences_good : (c : ConstructorTree) (cs : List ConstructorTree) → IsConstructor c
        → All IsConstructor cs
        → All (λ (e : Tree). size e ≤ 1048576) (map (distinctness_law type vars c) cs)
        → All (λ (e : Tree). IsFormulaOver v [] vars e) (map (distinctness_law type vars c) cs)
    differences_good c [] k h l = All-nil (λ (e : Tree). IsFormulaOver v [] vars e)
    differences_good c (d ∷ cs) k h l =
        All-cons (λ (e : Tree). IsFormulaOver v [] vars e) (distinctness_law type vars c d)
        (map (distinctness_law type vars c) cs)
        (distinctness_good c d k (h 0 d (omega arith))
        (l 0 (distinctness_law type vars c d) (omega arith)))
        (differences_good c cs k (λ j x m. h (suc j) x (omega arith))
        (λ j x m. l (suc j) x (omega arith)))

    pub all_distinctness_good : (cs : List ConstructorTree) → All IsConstructor cs
        → All (λ (e : Tree). size e ≤ 1048576) (distinctness_laws type vars cs)
        → All (λ (e : Tree). IsFormulaOver v [] vars e) (distinctness_laws type vars cs)
    all_distinctness_good [] h l = All-nil (λ (e : Tree). IsFormulaOver v [] vars e)
    all_distinctness_good (c ∷ cs) h l =
        let own = map (distinctness_law type vars c) cs in
        let rest = distinctness_laws type vars cs in
        let others : All IsConstructor cs = λ j x m. h (suc j) x (omega arith) in
        All-append (λ (e : Tree). IsFormulaOver v [] vars e) own rest
        (differences_good c cs (h 0 c (omega arith)) others
        (All-left (λ (e : Tree). size e ≤ 1048576) own rest l))
        (all_distinctness_good cs others
        (All-right (λ (e : Tree). size e ≤ 1048576) own rest l))

    -- ---- exhaustion
    pub own_type_in : IsTypeEntry v type → IsTrue (v.usable type)
        → (symbol_or v.symbols type).vars ≡ vars → IsTypeIn v vars (own_type type vars)
    own_type_in h u vs =
        let own = own_good v vars [] 0 vars (omega arith) in
        let count : length (members (own_type_list vars)) ≡ (symbol_or v.symbols type).vars =
        ap length (members_cells (type_variables 0 vars)) ∙ count_variables 0 vars ∙ sym vs in
        record {
          sort = refl;
          typed = (
            own.list,
            (
              u,
              subst
                  (λ (o : Option SymbolTree).
                  IsSomeAnd o (λ (e : SymbolTree).
                  (e.kind ≡ kinds.Kind) × (length (members (own_type_list vars)) ≡ e.vars)))
                  (sym (entry_at v.symbols type h.entry)) (h.kind, count),
            ),
            own.typed,
          );
          variables = own.variables;
        }

    fields_good : (bs : List Tree) (x : Tree) → IsGoodUnder v vars bs Term x
        → type_of x ≡ Some (own_type type vars) → (ps : List ℕ) (types : List Tree)
        → AreProjections v type vars types ps → ((k : ℕ) → Contains ps k → IsTrue (v.usable k))
        → AreGood v vars bs Term (cells (projected_fields vars ps types x))
    fields_good bs x g q [] types a u = none_good bs
    fields_good bs x g q (p ∷ ps) [] a u = absurd a
    fields_good bs x g q (p ∷ ps) (ty ∷ types) a u =
        cell_good bs (field_of vars p ty x) (cells (projected_fields vars ps types x))
        (field_good bs p ty x a.0 (u p (contains_step p p ps (inl refl))) g q)
        (fields_good bs x g q ps types a.1 (λ j d. u j (contains_step p j ps (inr d))))

    fields_types : (x : Tree) (ps : List ℕ) (types : List Tree)
        → AreProjections v type vars types ps
        → map type_of (members (cells (projected_fields vars ps types x))) ≡ map (λ a. Some a) types
    fields_types x [] [] a = refl
    fields_types x [] (ty ∷ types) a = absurd a
    fields_types x (p ∷ ps) [] a = absurd a
    fields_types x (p ∷ ps) (ty ∷ types) a =
        ap (λ (z : List (Option Tree)). Some ty ∷ z) (fields_types x ps types a.1)

    case_good : (bs : List Tree) (x : Tree) (c : ConstructorTree) → IsGoodUnder v vars bs Term x
        → type_of x ≡ Some (own_type type vars) → IsConstructor c
        → IsGoodUnder v vars bs Formula (case_equation type vars x c)
    case_good bs x c g q h =
        equal_good v vars bs x (con_on type vars c (projected_fields vars c.projections c.fields x))
        g (con_good bs c (projected_fields vars c.projections c.fields x) h
        (fields_good bs x g q c.projections c.fields h.is.projections h.projections)
        (fields_types x c.projections c.fields h.is.projections)) q

    cases_good : (bs : List Tree) (x : Tree) → IsGoodUnder v vars bs Term x
        → type_of x ≡ Some (own_type type vars) → (cs : List ConstructorTree) → All IsConstructor cs
        → IsGoodUnder v vars bs Formula (disjunction (map (case_equation type vars x) cs))
    cases_good bs x g q [] h = false_good v vars bs
    cases_good bs x g q (c ∷ []) h = case_good bs x c g q (h 0 c (omega arith))
    cases_good bs x g q (c ∷ d ∷ cs) h =
        join_good v vars bs Or (case_equation type vars x c)
        (disjunction (map (case_equation type vars x) (d ∷ cs)))
        (case_good bs x c g q (h 0 c (omega arith)))
        (cases_good bs x g q (d ∷ cs) (λ j z m. h (suc j) z (omega arith)))

    pub exhaustion_good : IsTypeIn v vars (own_type type vars) → (cs : List ConstructorTree)
        → All IsConstructor cs → IsFormulaOver v [] vars (exhaustion_law type vars cs)
    exhaustion_good k cs h =
        let ty = own_type type vars in
        let x = own_variable type vars in
        good_formula v vars (exhaustion_law type vars cs)
        (forall_good v vars [] ty (disjunction (map (case_equation type vars x) cs)) k
        (cases_good (ty ∷ []) x (variable_good v vars (ty ∷ []) 0 ty k (omega arith) refl)
        refl cs h))
