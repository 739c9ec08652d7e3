-- The equation of a definition at a closed use of its symbol.
use Rattle.std.proofs.Common.{◌≡◌, ℕ, suc, inl, inr, List, [], ◌∷◌, map, length, All, Option, Some, None, IsSomeAnd, subst, refl, sym, ap, ◌∙◌, arith}
use Rattle.std.proofs.lemmas.List.{length-map}
use Rattle.std.proofs.lemmas.Option.{slice_get-get_or}
use Rattle.std.specs.Option.{option_map}
use Rattle.trees.specs.declared.Op.TheVariants.{Iff}
use Rattle.trees.specs.declared.Sort.TheVariants.{Kind, Term}
use Rattle.trees.specs.Tree.{Tree, Two, Three, HFun, HPred, HEq, HJoin, loose}
use Rattle.trees.specs.Binding.{inst_types, inst_many, AreClosed}
use Rattle.trees.specs.Sorts.{WellSorted, sort_of, type_of, IsList}
use Rattle.trees.proofs.Many.{inst_many_closed}
use Rattle.tasks.specs.declared.facts.Fact.TheVariants as fact
use Rattle.tasks.specs.declared.signature.SymbolKind.{SymbolKind}
use Rattle.tasks.specs.declared.signature.SymbolKind.TheVariants.{Function, Predicate}
use Rattle.tasks.specs.Task.{SymbolTree, int_symbol, PropositionTree, TaskTree, symbol_or}
use Rattle.tasks.specs.Equations.{cells, type_variables, bound_variables, for_all, equated}
use Rattle.tasks.specs.Vocabulary.{of_task}
use Rattle.tasks.specs.Typing.{TypedUnder, members, entry, IsUse, HasResult, MakesTerms}
use Rattle.tasks.specs.Valid.{IsGround, IsGroundFormula, IsTypeIn, IsTypeOver, IsDefinition, IsValid}
use Rattle.tasks.proofs.Closing.{typed_closed}
use Rattle.tasks.proofs.TypeInstances.{sound_task, typed_types, formula_at_types}
use Rattle.congruence.specs.kernel.Right.{IsGroundExpression}
use Rattle.congruence.specs.kernel.rules.Forms.{alike}
use Rattle.evidence.specs.Facts.{at_symbol, fact_named, IsFact}
use Rattle.checks.specs.decl_checks.Structure.{defining_body}
use Rattle.inlining.specs.Inlining.{use_body}
use Rattle.inlining.specs.images.Instances.{AreTypesClosed, for_all_at}
use Rattle.inlining.proofs.images.OpenInstances.{for_all_opens}
use Rattle.inlining.proofs.Bodies.{under_body}
use Rattle.inlining.proofs.Equations.{equation_types, function_there, predicate_there}
use Rattle.tr_inline.specs.Lemmas.{TakesTerms}
use Rattle.tr_inline.specs.Uses.{IsUseOf, IsClosedUse}
use Rattle.tr_inline.proofs.Members.{cells_of, types_over, terms_closed, takes_from}

some_of : (o : Option SymbolTree) (e : SymbolTree) (P : SymbolTree → Type 0) → o ≡ Some e → IsSomeAnd o P → P e
some_of o e P q h = subst (λ (z : Option SymbolTree). IsSomeAnd z P) q h

some_is : {X : Type 0} (a b : X) → Some a ≡ Some b → a ≡ b
some_is a b q = cc

module _ (t : TaskTree) (valid : IsValid t) (k : ℕ) (eq : Tree) (defined : IsDefinition (of_task t) (record { symbol = k; equation = eq })) where
  abbrev symbol : SymbolTree
  symbol = symbol_or t.symbols k

  entry_here : entry (of_task t) k ≡ Some symbol
  entry_here = slice_get-get_or t.symbols k int_symbol defined.signature.entry

  pub closed_use : (l zs ts : Tree) → IsUseOf k l zs ts → IsGroundExpression t l → WellSorted l → IsClosedUse t symbol zs ts
  closed_use l zs ts (inl p) g w =
      let x : TypedUnder (of_task t) [] (Three (HFun k) zs ts p.0) = subst (TypedUnder (of_task t) []) p.1 g.typed in
      let b : IsGround (Three (HFun k) zs ts p.0) = subst IsGround p.1 g.ground in
      let s : WellSorted (Three (HFun k) zs ts p.0) = subst WellSorted p.1 w in
      let u = some_of (entry (of_task t) k) symbol (λ (e : SymbolTree). MakesTerms e.kind × IsUse e zs ts × HasResult e zs p.0) entry_here x.1.1 in
      record { use' = u.1; types_list = x.0.0; types_typed = x.2; types_ground = b.0; types_sorted = s.1; args_list = x.0.1; args_typed = x.3; args_ground = b.1; args_sorted = s.2 }
  closed_use l zs ts (inr p) g w =
      let x : TypedUnder (of_task t) [] (Two (HPred k) zs ts) = subst (TypedUnder (of_task t) []) p g.typed in
      let b : IsGround (Two (HPred k) zs ts) = subst IsGround p g.ground in
      let s : WellSorted (Two (HPred k) zs ts) = subst WellSorted p w in
      let u = some_of (entry (of_task t) k) symbol (λ (e : SymbolTree). (e.kind ≡ Predicate) × IsUse e zs ts) entry_here x.1.1 in
      record { use' = u.1; types_list = x.0.0.0; types_typed = x.2; types_ground = b.0; types_sorted = s.1; args_list = x.0.0.1; args_typed = x.3; args_ground = b.1; args_sorted = s.2 }

  module _ (zs ts : Tree) (u : IsClosedUse t symbol zs ts) where
    abbrev at : Tree → Tree
    at a = inst_types a (members zs)

    pub over : All (IsTypeOver t 0) (members zs)
    over = types_over t zs u.types_list u.types_typed u.types_ground

    -- the equation at the types
    pub equation_formula : IsGroundFormula t (at eq)
    equation_formula = formula_at_types t (members zs) over valid [] symbol.vars eq u.use'.as_many defined.formula

    pub equation_fact : fact_named t (fact.Equation k) ≡ Some (at_symbol t k eq) → IsFact t t (fact.Equation k) (members zs) (at eq)
    equation_fact q = record {
      said = subst (λ (o : Option PropositionTree). IsSomeAnd o (λ p. (length (members zs) ≡ p.vars) × (at eq ≡ inst_types p.formula (members zs)))) (sym q) (u.use'.as_many, refl);
      ground = over;
    }

    -- its quantifiers
    closed_at : (args : List Tree) → All (IsTypeIn (of_task t) symbol.vars) args → AreTypesClosed (map at args)
    closed_at [] h = tt
    closed_at (a ∷ args) h =
        let l = typed_closed (of_task t) [] (at a) (typed_types (of_task t) (members zs) over (sound_task t valid) [] a (h 0 a (omega arith)).typed) in
        (omega (arith, l), closed_at args (λ i z l. h (suc i) z (omega arith)))

    types_closed : AreTypesClosed (map at symbol.args)
    types_closed = closed_at symbol.args defined.signature.types.args

    equation_is : at eq ≡ for_all (map at symbol.args) (at defined.form.inner)
    equation_is = ap at defined.form.is ∙ equation_types (members zs) symbol.args defined.form.inner

    pub equation_takes : TakesTerms t (at eq) ts
    equation_takes =
        let l = typed_closed (of_task t) [] (at eq) equation_formula.typed in
        let none : for_all (map at symbol.args) (at defined.form.inner) ≡ inst_many (for_all (map at symbol.args) (at defined.form.inner)) [] =
        sym (inst_many_closed [] 0 (for_all (map at symbol.args) (at defined.form.inner)) (let q = ap loose equation_is in omega (arith, q, l))) in
        takes_from t at symbol.args (at defined.form.inner) types_closed [] tt ts u.args_list u.args_typed u.args_ground u.use'.fit (at eq) (equation_is ∙ none)

    arguments_closed : AreClosed (members ts)
    arguments_closed = terms_closed t ts u.args_list u.args_typed

    as_many : length (members ts) ≡ length symbol.args
    as_many = omega (arith, ap length u.use'.fit, length-map (members ts) type_of, length-map symbol.args (λ a. Some (at a)))

    opens : for_all_at (at eq) (members ts) ≡ inst_many (at defined.form.inner) (members ts)
    opens =
        ap (λ (z : Tree). for_all_at z (members ts)) equation_is
        ∙ for_all_opens (map at symbol.args) (members ts) (at defined.form.inner) types_closed arguments_closed (omega (arith, as_many, length-map symbol.args at))

    types_cells : cells (members zs) ≡ zs
    types_cells = cells_of zs u.types_sorted u.types_list.0

    args_cells : cells (members ts) ≡ ts
    args_cells = cells_of ts u.args_sorted u.args_list.0

    no_loose : loose (cells (members zs)) ≡ 0
    no_loose = let l = typed_closed (of_task t) [] zs u.types_typed in let q = ap loose types_cells in omega (arith, l, q)

    body_same : defining_body eq ≡ defining_body defined.form.inner
    body_same = ap defining_body defined.form.is ∙ under_body symbol.args defined.form.inner

    abbrev own_types : Tree
    own_types = cells (type_variables 0 symbol.vars)

    abbrev own_arguments : Tree
    own_arguments = cells (bound_variables symbol.args)

    function_claim : (kind : SymbolKind) (result : Option Tree) (body inner ty : Tree) → MakesTerms kind → equated kind k own_types own_arguments result body ≡ Some inner → option_map at result ≡ Some ty → loose ty ≡ 0
        → Two HEq (Three (HFun k) zs ts ty) (use_body (defining_body inner) zs ts) ≡ inst_many (at inner) (members ts)
    function_claim Function (Some result) body inner ty m q h l =
        let i : Two HEq (Three (HFun k) own_types own_arguments result) body ≡ inner = some_is _ _ q in
        let r : at result ≡ ty = some_is _ _ h in
        let there = function_there (members zs) (members ts) symbol.args symbol.vars u.use'.as_many as_many arguments_closed k body result no_loose (ap loose r ∙ l) in
        subst (λ (z : Tree). Two HEq (Three (HFun k) zs ts ty) (use_body (defining_body z) zs ts) ≡ inst_many (at z) (members ts)) i
        (sym (there ∙ ap (λ (z : Tree). Two HEq (Three (HFun k) z (cells (members ts)) (at result)) (use_body body zs ts)) types_cells
        ∙ ap (λ (z : Tree). Two HEq (Three (HFun k) zs z (at result)) (use_body body zs ts)) args_cells ∙ ap (λ (z : Tree). Two HEq (Three (HFun k) zs ts z) (use_body body zs ts)) r))
    function_claim Function None body inner ty m q h l = absurd (cc)
    function_claim Predicate result body inner ty m q h l = absurd m
    function_claim _ result body inner ty m q h l = absurd (cc)

    predicate_claim : (kind : SymbolKind) (result : Option Tree) (body inner : Tree) → kind ≡ Predicate → equated kind k own_types own_arguments result body ≡ Some inner
        → Two (HJoin Iff) (Two (HPred k) zs ts) (use_body (defining_body inner) zs ts) ≡ inst_many (at inner) (members ts)
    predicate_claim Predicate None body inner m q =
        let i : Two (HJoin Iff) (Two (HPred k) own_types own_arguments) body ≡ inner = some_is _ _ q in
        let there = predicate_there (members zs) (members ts) symbol.args symbol.vars u.use'.as_many as_many arguments_closed k body no_loose in
        subst (λ (z : Tree). Two (HJoin Iff) (Two (HPred k) zs ts) (use_body (defining_body z) zs ts) ≡ inst_many (at z) (members ts)) i
        (sym (there ∙ ap (λ (z : Tree). Two (HJoin Iff) (Two (HPred k) z (cells (members ts))) (use_body body zs ts)) types_cells
        ∙ ap (λ (z : Tree). Two (HJoin Iff) (Two (HPred k) zs z) (use_body body zs ts)) args_cells))
    predicate_claim Predicate (Some result) body inner m q = absurd (cc)
    predicate_claim _ result body inner m q = absurd (cc)

  -- at a use, the equation says that it and the body there are alike
  pub claim : (l zs ts : Tree) → IsUseOf k l zs ts → (g : IsGroundExpression t l) (w : WellSorted l) → alike l (use_body (defining_body eq) zs ts) ≡ for_all_at (inst_types eq (members zs)) (members ts)
  claim l zs ts (inl p) g w =
      let u = closed_use l zs ts (inl p) g w in
      let x : TypedUnder (of_task t) [] (Three (HFun k) zs ts p.0) = subst (TypedUnder (of_task t) []) p.1 g.typed in
      let n = some_of (entry (of_task t) k) symbol (λ (e : SymbolTree). MakesTerms e.kind × IsUse e zs ts × HasResult e zs p.0) entry_here x.1.1 in
      let o = typed_closed (of_task t) [] p.0 x.4 in
      ap (λ (z : Tree). alike z (use_body (defining_body eq) zs ts)) p.1 ∙ ap (λ (z : Tree). Two HEq (Three (HFun k) zs ts p.0) (use_body z zs ts)) (body_same zs ts u)
      ∙ function_claim zs ts u symbol.kind symbol.result defined.form.body defined.form.inner p.0 n.0 defined.form.equated n.2 (omega (arith, o)) ∙ sym (opens zs ts u)
  claim l zs ts (inr p) g w =
      let u = closed_use l zs ts (inr p) g w in
      let x : TypedUnder (of_task t) [] (Two (HPred k) zs ts) = subst (TypedUnder (of_task t) []) p g.typed in
      let n = some_of (entry (of_task t) k) symbol (λ (e : SymbolTree). (e.kind ≡ Predicate) × IsUse e zs ts) entry_here x.1.1 in
      ap (λ (z : Tree). alike z (use_body (defining_body eq) zs ts)) p ∙ ap (λ (z : Tree). Two (HJoin Iff) (Two (HPred k) zs ts) (use_body z zs ts)) (body_same zs ts u)
      ∙ predicate_claim zs ts u symbol.kind symbol.result defined.form.body defined.form.inner n.0 defined.form.equated ∙ sym (opens zs ts u)
