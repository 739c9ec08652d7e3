-- Each law of an algebraic group of a valid task, at types, is a law of its kind.
use Rattle.std.specs.List.{Contains}
use Rattle.std.proofs.Common.{◌≡◌, ℕ, List, [], ◌∷◌, ◌++◌, map, length, slice_get, All, Some, inl, refl, sym, ap, subst, ◌∙◌, arith, append_assoc, length-append}
use Rattle.std.proofs.lemmas.List.Elements.{All-nil, All-cons, All-head, All-tail, All-append, All-map, All-weaker, All-contains, All-contains_itself, Contains-append_right}
use Rattle.tasks.specs.trees.Tree.{Tree}
use Rattle.tasks.specs.trees.Binding.{inst_types}
use Rattle.tasks.specs.Task.{TaskTree, ConstructorTree, AlgebraicTree, BodyTree, Constructs, DeclarationTree, made_by_cons}
use Rattle.tasks.specs.Vocabulary.{of_task}
use Rattle.tasks.specs.Valid.{IsTypeOver, IsConstructorOf, IsAlgebraic, IsValidBody, IsValidDecl, IsValid}
use Rattle.tasks.proofs.Declared.{contains_step}
use Rattle.tr_algebraic.specs.declared.algebraic_forms.origins.LawKind.TheVariants.{Projection, Distinctness, Exhaustion}
use Rattle.tr_algebraic.specs.algebraic_forms.Formulas.{projection_laws, all_projection_laws, distinctness_law, distinctness_laws, exhaustion_law}
use Rattle.tr_algebraic.specs.algebraic_forms.Groups.{LawTree, law, type_laws, type_vars, group_laws}
use Rattle.tr_algebraic.specs.law_evidence.Laws.{IsLawOf}
use Rattle.tr_algebraic.proofs.law_evidence.Roles.{Apart, head_apart, right_apart, con_in, cons_apart, type_role, con_role, projection_role}
use Rattle.tr_algebraic.proofs.law_evidence.LawShapes.{projection_shape, difference_shape}
use Rattle.tr_algebraic.proofs.law_evidence.CaseShapes.{only_of, exhaustion_shape}
use Rattle.tasks.proofs.trees.Types.{OnlyTypes}

slice_seam : (front : List ℕ) (p : ℕ) (ps : List ℕ) → slice_get (front ++ p ∷ ps) (length front) ≡ Some p
slice_seam [] p ps = refl
slice_seam (x ∷ front) p ps = slice_seam front p ps

-- a law is one of its kind at all types, as many as it has type variables
abbrev IsLawAtTypes : TaskTree → LawTree → Type 0
IsLawAtTypes t x = (ys : List Tree) → length ys ≡ x.vars → All (IsTypeOver t 0) ys → IsLawOf t x.kind (inst_types x.formula ys)

module _ (t : TaskTree) (valid : IsValid t) (d : DeclarationTree) (there : Contains t.decls d) (ts : List AlgebraicTree) (is : d.body ≡ Constructs ts) where
  algebraic : All (IsAlgebraic (of_task t)) ts
  algebraic = subst (λ (b : BodyTree). IsValidBody (of_task t) d.vars b) is (All-contains (IsValidDecl (of_task t)) t.decls d valid.decls there)

  -- ---- of a type
  module _ (a : AlgebraicTree) (member : Contains ts a) where
    abbrev vars : ℕ
    vars = type_vars t.symbols a

    cons : All (IsConstructorOf (of_task t) a.symbol vars) a.cons
    cons = (All-contains (IsAlgebraic (of_task t)) ts a algebraic member).cons

    abbrev Projects : Tree → Type 0
    Projects e = IsLawAtTypes t (law Projection vars e)

    projections_from : (c : ConstructorTree) → Contains a.cons c → (ps front : List ℕ) (types before : List Tree) → c.projections ≡ front ++ ps → c.fields ≡ before ++ types → length front ≡ length before
        → All Projects (projection_laws a.symbol vars c ps types)
    projections_from c h [] front types before q r l = All-nil Projects
    projections_from c h (p ∷ ps) front [] before q r l = All-nil Projects
    projections_from c h (p ∷ ps) front (ty ∷ types) before q r l =
        let at : slice_get c.projections (length before) ≡ Some p = subst (λ (n : ℕ). slice_get c.projections n ≡ Some p) l (ap (λ (z : List ℕ). slice_get z (length front)) q ∙ slice_seam front p ps) in
        let k : length (front ++ p ∷ []) ≡ length (before ++ ty ∷ []) = omega (arith, l, length-append front (p ∷ []), length-append before (ty ∷ [])) in
        All-cons Projects _ _ (λ ys m o. projection_shape t a.symbol vars c before p ty types r (projection_role t valid d there ts is a member c (length before) p h at) ys)
        (projections_from c h ps (front ++ p ∷ []) types (before ++ ty ∷ []) (q ∙ sym (append_assoc front (p ∷ []) ps)) (r ∙ sym (append_assoc before (ty ∷ []) types)) k)

    all_projections : (cs : List ConstructorTree) → All (Contains a.cons) cs → All Projects (all_projection_laws a.symbol vars cs)
    all_projections [] h = All-nil Projects
    all_projections (c ∷ cs) h =
        All-append Projects (projection_laws a.symbol vars c c.projections c.fields) (all_projection_laws a.symbol vars cs)
        (projections_from c (All-head (Contains a.cons) c cs h) c.projections [] c.fields [] refl refl refl) (all_projections cs (All-tail (Contains a.cons) c cs h))

    abbrev Separates : Tree → Type 0
    Separates e = IsLawAtTypes t (law Distinctness vars e)

    apart_from : (c : ConstructorTree) (cs : List ConstructorTree) → Apart (made_by_cons (c ∷ cs)) → (e : ConstructorTree) → Contains cs e → c.symbol ≡ e.symbol → ⊥
    apart_from c cs p e m =
        head_apart c.symbol (c.projections ++ made_by_cons cs) e.symbol p (Contains-append_right c.projections (made_by_cons cs) e.symbol (con_in cs e e.symbol m (contains_step e.symbol e.symbol e.projections (inl refl))))

    all_differences : (cs : List ConstructorTree) → All (Contains a.cons) cs → Apart (made_by_cons cs) → All Separates (distinctness_laws a.symbol vars cs)
    all_differences [] h p = All-nil Separates
    all_differences (c ∷ cs) h p =
        let rest : All (Contains a.cons) cs = All-tail (Contains a.cons) c cs h in
        let own = con_role t valid d there ts is a member c (All-head (Contains a.cons) c cs h) in
        let each : All (λ (e : ConstructorTree). Separates (distinctness_law a.symbol vars c e)) cs = All-weaker (Contains cs) (λ (e : ConstructorTree). Separates (distinctness_law a.symbol vars c e))
        (λ e m ys n o. difference_shape t a.symbol vars c e own (con_role t valid d there ts is a member e (All-contains (Contains a.cons) cs e rest m)) (apart_from c cs p e m) ys) cs (All-contains_itself cs) in
        All-append Separates (map (distinctness_law a.symbol vars c) cs) (distinctness_laws a.symbol vars cs) (All-map Separates (distinctness_law a.symbol vars c) cs each)
        (all_differences cs rest (right_apart (c.symbol ∷ c.projections) (made_by_cons cs) p))

    exhaustive : IsLawAtTypes t (law Exhaustion vars (exhaustion_law a.symbol vars a.cons))
    exhaustive ys m o = exhaustion_shape t a.symbol vars ys m (All-weaker (IsTypeOver t 0) OnlyTypes (only_of (of_task t) 0) ys o) a.cons (type_role t valid d there ts is a member) cons

    type_part : All (IsLawAtTypes t) (type_laws vars a)
    type_part =
        let first = map (law Projection vars) (all_projection_laws a.symbol vars a.cons) in
        let second = map (law Distinctness vars) (distinctness_laws a.symbol vars a.cons) in
        let last = law Exhaustion vars (exhaustion_law a.symbol vars a.cons) ∷ [] in
        All-append (IsLawAtTypes t) first (second ++ last) (All-map (IsLawAtTypes t) (law Projection vars) (all_projection_laws a.symbol vars a.cons) (all_projections a.cons (All-contains_itself a.cons)))
        (All-append (IsLawAtTypes t) second last (All-map (IsLawAtTypes t) (law Distinctness vars) (distinctness_laws a.symbol vars a.cons)
        (all_differences a.cons (All-contains_itself a.cons) (cons_apart t valid d there ts is a member)))
        (All-cons (IsLawAtTypes t) (law Exhaustion vars (exhaustion_law a.symbol vars a.cons)) [] exhaustive (All-nil (IsLawAtTypes t))))

  -- ---- of a group
  all_laws : (us : List AlgebraicTree) → All (Contains ts) us → All (IsLawAtTypes t) (group_laws t.symbols us)
  all_laws [] h = All-nil (IsLawAtTypes t)
  all_laws (a ∷ us) h =
      All-append (IsLawAtTypes t) (type_laws (type_vars t.symbols a) a) (group_laws t.symbols us) (type_part a (All-head (Contains ts) a us h)) (all_laws us (All-tail (Contains ts) a us h))

  pub group_laws_are_laws : (x : LawTree) → Contains (group_laws t.symbols ts) x → (ys : List Tree) → length ys ≡ x.vars → All (IsTypeOver t 0) ys → IsLawOf t x.kind (inst_types x.formula ys)
  group_laws_are_laws x m = All-contains (IsLawAtTypes t) (group_laws t.symbols ts) x (all_laws ts (All-contains_itself ts)) m
