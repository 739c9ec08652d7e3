-- Wanted instances are formulas of the task, at types of the task; so what is put in the place of a
-- declaration is valid.
use Rattle.std.specs.Prelude.{◌≡◌, ◌≤◌, ◌+◌, Bool, true, false, not, cond, filter, if◌then◌else◌, ℕ, zero, suc, List, [], ◌∷◌, ◌++◌, map, length, get_or, All, Option, Some, None, IsSomeAnd, refl}
use Rattle.std.specs.List.{flat_map}
use Rattle.std.proofs.Common.{inl, sym, subst, arith}
use Rattle.std.proofs.lemmas.Bool.Decides.{nat_tests}
use Rattle.std.proofs.lemmas.List.Elements.{All-cons, All-nil, All-append, All-map, All-weaker, All-filter}
use Rattle.tasks.specs.trees.Tree.{Tree, Leaf, One, Two, Three, Head, HTyVar, HTyApp, HBound, HParam, above_ty_vars}
use Rattle.tasks.specs.trees.Sorts.{int_type}
use Rattle.tasks.specs.trees.Binding.{typing, inst_types, change, TyVar}
use Rattle.trees.proofs.Types.{OnlyTypes, only_types}
use Rattle.tasks.specs.declared.signature.SymbolKind.TheVariants.{Kind}
use Rattle.tasks.specs.Task.{SymbolTree, BodyTree, MakesType, Makes, Defines, Induces, Constructs, Says, DeclarationTree, TaskTree, PropositionTree, said_by, props_of, props}
use Rattle.tasks.specs.Vocabulary.{Vocabulary, of_task}
use Rattle.tasks.specs.Typing.{TypedUnder}
use Rattle.tasks.specs.Valid.{VariablesBelow, ParametersOf, OneOf, IsFormulaOver, IsFormula, IsTypeIn, IsValidBody, IsValidDecl, IsValid}
use Rattle.tasks.proofs.Closing.{typed_sorted}
use Rattle.tasks.proofs.Ground.{ground}
use Rattle.tasks.proofs.TypeInstances.{formula_at_types}
use Rattle.name_tables.specs.Occurrences.{Occurrence}
use Rattle.name_tables.specs.Seen.{with_all}
use Rattle.tr_discriminate.specs.wanted_instances.Instances.{inner_instances, instance_types, types_of, has_variable}
use Rattle.tr_discriminate.specs.wanted_instances.Wanted.{type_choices, assignments, is_wanted, wanted_types, wanted_formulas}
use Rattle.tr_discriminate.specs.wanted_instances.Discriminated.{is_monomorphic, monomorphic, polymorphic, first_set, next_set, last_set, said_at, proposition_of, put_in_place}
use Rattle.tr_discriminate.specs.wanted_instances.lemmas.Driving.{with_all_have}
use Rattle.tr_discriminate.specs.wanted_instances.lemmas.Typed.{IsGoodInstance, GoodType, instances_good, instance_parts}

pub all_flat : {A B : Type 0} (P : A → Type 0) (Q : B → Type 0) (f : A → List B)
    → ((x : A) → P x → All Q (f x)) → (xs : List A) → All P xs → All Q (flat_map f xs)
all_flat P Q f w [] a = All-nil Q
all_flat P Q f w (x ∷ xs) a =
    All-append Q (f x) (flat_map f xs) (w x (a 0 x (omega arith)))
    (all_flat P Q f w xs (λ k d l. a (suc k) d (omega arith)))

no_parameter : (types : List Tree) (h : Head) (a : Tree) (n : ℕ) → h ≡ HTyApp n → OneOf types h a
no_parameter types (HParam m) a n q = absurd (cc)
no_parameter types _ a n q = tt

only_parameters : (types : List Tree) (e : Tree) → OnlyTypes e → ParametersOf types e
only_parameters types (Leaf h) o = tt
only_parameters types (One h a) o =
    (no_parameter types h a o.0.0 o.0.1, only_parameters types a o.1)
only_parameters types (Two h a b) o = (only_parameters types a o.1, only_parameters types b o.2)
only_parameters types (Three h a b c) o = absurd o

module _ (v : Vocabulary) (ys : List Tree) (good : All (IsTypeIn v 0) ys) where
  type_parameters : (types : List Tree) (zs : List Tree) → All (IsTypeIn v 0) zs → (j k : ℕ)
      → ParametersOf types (get_or zs j (TyVar k))
  type_parameters types [] a j k = tt
  type_parameters types (z ∷ zs) a zero k = let g =
      a 0 z (omega arith) in
      only_parameters types z (only_types z (typed_sorted v [] z g.typed) (inl g.sort))
  type_parameters types (z ∷ zs) a (suc j) k =
      type_parameters types zs (λ i d l. a (suc i) d (omega arith)) j k

  -- types that are put in bring no parameters
  parameters_kept : (e : Tree) (d : ℕ) → ParametersOf [] e
      → ParametersOf [] (change (typing ys) d e)
  parameters_kept (Leaf (HTyVar j)) d p = type_parameters [] ys good j j
  parameters_kept (Leaf _) d p = tt
  parameters_kept (One (HParam n) a) d p = absurd (let q : None ≡ Some a = p.0 in cc)
  parameters_kept (One (HBound i) a) d p = (tt, parameters_kept a d p.1)
  parameters_kept (One _ a) d p = (tt, parameters_kept a d p.1)
  parameters_kept (Two h a b) d p = (parameters_kept a d p.0, parameters_kept b _ p.1)
  parameters_kept (Three h a b c) d p =
      (parameters_kept a d p.0, parameters_kept b d p.1, parameters_kept c d p.2)

module _ (t : TaskTree) (valid : IsValid t) where
  abbrev v : Vocabulary
  v = of_task t

  abbrev Good : Tree → Type 0
  Good ty = IsTypeIn v 0 ty

  pub int_good : Good int_type
  int_good = record {
    sort = refl;
    typed = (
      (refl, inl refl),
      (
        refl,
        subst
            (λ (o : Option SymbolTree). IsSomeAnd o (λ e. (e.kind ≡ Kind) × (0 ≡ e.vars)))
            (sym valid.int)
            (refl, refl),
      ),
      (tt, tt),
    );
    variables = tt;
  }

  abbrev GoodInstance : Occurrence → Type 0
  GoodInstance o = IsGoodInstance v int_good o

  -- a ground formula without parameters
  abbrev Sayable : Tree → Type 0
  Sayable e = IsFormulaOver v [] 0 e

  types_good : (s : List Occurrence) → All GoodInstance s → All Good (types_of s)
  types_good s a =
      All-map Good (λ (o : Occurrence). o.types) (with_all [] (flat_map instance_types s))
      (with_all_have (GoodType v int_good) [] (flat_map instance_types s)
      (All-nil (GoodType v int_good))
      (all_flat GoodInstance (GoodType v int_good) instance_types
      (instance_parts v int_good) s a))

  -- as many types, each one of the task
  pub record AreFor (n : ℕ) (ys : List Tree) : Type 0 where
    pub long : length ys ≡ n
    pub good : All (IsTypeIn (of_task t) 0) ys

  choices_good : (types : List Tree) (a : Tree) (j : ℕ) → All Good types
      → All Good (type_choices types a j)
  choices_good types a j g = by (has_variable j a)
    where
      by : (b : Bool) → All Good (if b then types else int_type ∷ [])
      by true = g
      by false = All-cons Good int_type [] int_good (All-nil Good)

  assignments_good : (types : List Tree) (a : Tree) (n from : ℕ) → All Good types
      → All (AreFor n) (assignments types a from n)
  assignments_good types a zero from g =
      All-cons (AreFor 0) [] [] (record { long = refl; good = All-nil Good }) (All-nil (AreFor 0))
  assignments_good types a (suc n) from g =
      all_flat Good (AreFor (suc n)) (λ ty. map (λ ys. ty ∷ ys) (assignments types a (from + 1) n))
      (λ ty k. All-map (AreFor (suc n)) (λ ys. ty ∷ ys) (assignments types a (from + 1) n)
      (All-weaker (AreFor n) (λ ys. AreFor (suc n) (ty ∷ ys))
      (λ ys f. record { long = omega (arith, f.long); good = All-cons Good ty ys k f.good })
      (assignments types a (from + 1) n) (assignments_good types a n (from + 1) g)))
      (type_choices types a from) (choices_good types a from g)

  pub wanted_for : (s : List Occurrence) → All GoodInstance s → (p : PropositionTree)
      → All (AreFor p.vars) (wanted_types s p)
  wanted_for s a p = All-filter (is_wanted s p.formula) (AreFor p.vars)
      (assignments (types_of s) p.formula 0 p.vars)
      (assignments_good (types_of s) p.formula p.vars 0 (types_good s a))

  -- an instance of a proposition at such types
  instance_sayable : (p : PropositionTree) → IsFormula t [] p.vars p.formula → (ys : List Tree)
      → AreFor p.vars ys → Sayable (inst_types p.formula ys)
  instance_sayable p f ys k =
      let g = formula_at_types t ys k.good valid [] p.vars p.formula k.long f in
      record {
        sort = g.sort;
        typed = g.typed;
        parameters =
            parameters_kept v ys k.good p.formula 0 f.parameters;
        variables = g.ground;
      }

  -- ---- the sets
  abbrev IsProp : PropositionTree → Type 0
  IsProp p = IsFormula t [] p.vars p.formula

  -- typed, and without type variables
  record IsGroundTyped (e : Tree) : Type 0 where
    typed : TypedUnder v [] e
    variables : VariablesBelow 0 e

  ground_instances : (e : Tree) → IsGroundTyped e → All GoodInstance (inner_instances e)
  ground_instances e g = instances_good v int_good [] e g.typed g.variables

  said_good : (d : DeclarationTree) (b : BodyTree) → IsValidBody v d.vars b
      → All IsProp (said_by d b)
  said_good d (Says a) h = All-cons IsProp _ [] h (All-nil IsProp)
  said_good d (MakesType k) h = All-nil IsProp
  said_good d (Makes k) h = All-nil IsProp
  said_good d (Defines ds) h = All-nil IsProp
  said_good d (Induces is) h = All-nil IsProp
  said_good d (Constructs ts) h = All-nil IsProp

  pub props_good : (ds : List DeclarationTree) → All (IsValidDecl v) ds → All IsProp (props_of ds)
  props_good [] a = All-nil IsProp
  props_good (d ∷ ds) a = All-append IsProp (said_by d d.body) (props_of ds)
      (said_good d d.body (a 0 d (omega arith)))
      (props_good ds (λ k e l. a (suc k) e (omega arith)))

  wanted_good : (s : List Occurrence) → All GoodInstance s → (p : PropositionTree) → IsProp p
      → All Sayable (wanted_formulas s p)
  wanted_good s a p f =
      All-map Sayable (inst_types p.formula) (wanted_types s p)
      (All-weaker (AreFor p.vars) (λ ys. Sayable (inst_types p.formula ys))
      (instance_sayable p f) (wanted_types s p) (wanted_for s a p))

  next_good : (ps : List PropositionTree) → All IsProp ps → (s : List Occurrence)
      → All GoodInstance s → All GoodInstance (next_set ps s)
  next_good ps h s a =
      with_all_have GoodInstance s
      (flat_map inner_instances (flat_map (wanted_formulas s) (polymorphic ps))) a
      (all_flat Sayable GoodInstance inner_instances
      (λ e k. ground_instances e (record { typed = k.typed; variables = k.variables }))
      (flat_map (wanted_formulas s) (polymorphic ps))
      (all_flat IsProp Sayable (wanted_formulas s) (wanted_good s a) (polymorphic ps)
      (All-filter (λ (p : PropositionTree). not (is_monomorphic p.formula)) IsProp ps h)))

  none_above : (a : Tree) → is_monomorphic a ≡ true → above_ty_vars a ≤ 0
  none_above a e = grind (arith, nat_tests)

  monomorphic_good : (ps : List PropositionTree) → All IsProp ps
      → All IsGroundTyped (monomorphic ps)
  monomorphic_good [] h = All-nil IsGroundTyped
  monomorphic_good (p ∷ ps) h =
      by (is_monomorphic p.formula) refl (h 0 p (omega arith))
      (monomorphic_good ps (λ k d l. h (suc k) d (omega arith)))
    where
      by : (b : Bool) → is_monomorphic p.formula ≡ b → IsProp p → All IsGroundTyped (monomorphic ps)
          → All IsGroundTyped
          (map (λ (x : PropositionTree). x.formula)
          (cond b (p ∷ filter (λ (x : PropositionTree). is_monomorphic x.formula) ps)
          (filter (λ (x : PropositionTree). is_monomorphic x.formula) ps)))
      by true e f rest = All-cons IsGroundTyped p.formula (monomorphic ps)
          (record { typed = f.typed; variables = ground p.formula (none_above p.formula e) }) rest
      by false e f rest = rest

  own_good : (es : List Tree) → All (IsFormula t t.params 0) es → All IsGroundTyped es
  own_good es h = All-weaker (IsFormula t t.params 0) IsGroundTyped
      (λ e f. record { typed = f.typed; variables = f.variables }) es h

  first_good : All GoodInstance (first_set t)
  first_good =
      with_all_have GoodInstance []
      (flat_map inner_instances (monomorphic (props t) ++ (t.locals ++ t.goal ∷ [])))
      (All-nil GoodInstance)
      (all_flat IsGroundTyped GoodInstance inner_instances ground_instances
      (monomorphic (props t) ++ (t.locals ++ t.goal ∷ []))
      (All-append IsGroundTyped (monomorphic (props t)) (t.locals ++ t.goal ∷ [])
      (monomorphic_good (props t) (props_good t.decls valid.decls))
      (All-append IsGroundTyped t.locals (t.goal ∷ []) (own_good t.locals valid.locals)
      (All-cons IsGroundTyped t.goal []
      (record { typed = valid.goal.typed; variables = valid.goal.variables })
      (All-nil IsGroundTyped)))))

  pub last_good : All GoodInstance (last_set t)
  last_good =
      let p = props_good t.decls valid.decls in
      next_good (props t) p (next_set (props t) (first_set t))
      (next_good (props t) p (first_set t) first_good)

  -- ---- the declarations
  module _ (s : List Occurrence) (good : All GoodInstance s) where
    pub body_valid : (d : DeclarationTree) (b : BodyTree) → d.body ≡ b → IsValidDecl v d
        → All (IsValidDecl v) (put_in_place s d b)
    body_valid d (Says a) e h = by (is_monomorphic a)
      where
        by : (m : Bool) → All (IsValidDecl v)
            (if m then d ∷ [] else map (said_at d) (wanted_formulas s (proposition_of d.vars a)))
        by true = All-cons (IsValidDecl v) d [] h (All-nil (IsValidDecl v))
        by false = All-map (IsValidDecl v) (said_at d) (wanted_formulas s (proposition_of d.vars a))
            (wanted_good s good (proposition_of d.vars a) (subst (IsValidBody v d.vars) e h))
    body_valid d (MakesType k) e h = All-cons (IsValidDecl v) d [] h (All-nil (IsValidDecl v))
    body_valid d (Makes k) e h = All-cons (IsValidDecl v) d [] h (All-nil (IsValidDecl v))
    body_valid d (Defines ds) e h = All-cons (IsValidDecl v) d [] h (All-nil (IsValidDecl v))
    body_valid d (Induces is) e h = All-cons (IsValidDecl v) d [] h (All-nil (IsValidDecl v))
    body_valid d (Constructs ts) e h = All-cons (IsValidDecl v) d [] h (All-nil (IsValidDecl v))
