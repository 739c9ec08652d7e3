-- Constructors and types whose fields are types of a store, where it grows.
use Rattle.std.proofs.Common.{◌≡◌, ℕ, ◌+◌, List, [], ◌∷◌, ◌++◌, length, false, None, ap, subst, ◌∙◌}
use Rattle.std.proofs.Math.ListN.{length-map}
use Rattle.std.specs.List.{All}
use Rattle.std.proofs.lemmas.List.{map-append}
use Rattle.std.proofs.lemmas.List.Elements.{All-append, All-cons, All-nil, All-from_recursion}
use Rattle.trees.specs.Tree.{Tree}
use Rattle.trees.specs.Node.{Grows}
use Rattle.trees.specs.Facts.{TyVarsBelow}
use Rattle.tasks.specs.Task.{ConstructorTree, AlgebraicTree}
use Rattle.tasks.specs.Meaning.{con_at, cons_at, algebraic_at, algebraics_at, ConHeld, AlgebraicHeld}
use Rattle.tasks.specs.declared.declaration.Con.{Con}
use Rattle.tasks.specs.declared.declaration.Alg.{Alg}
use Rattle.name_resolution.specs.Where.{Where}
use Rattle.open_types.specs.Scoped.{IsScoped}
use Rattle.open_types.proofs.Growing.{types_grow, types_stay}
use Rattle.open_types.proofs.Walking.{none_both}
use Rattle.elab_groups.specs.parts.Declarations.{AlgebraicConstructor, AlgebraicType, words, with_vars, params_fault, constructors_fault, types_fault}
use Rattle.elab_groups.specs.members.Members.{parameter_types}
use Rattle.elab_groups.proofs.members.ParamsClosed.{fields_below}
use Rattle.elab_declarations.specs.type_declarations.Algebraics.{count_fields, entry_count, constructor_trees, algebraic_trees}
use Rattle.elab_declarations.specs.type_declarations.Held.{ConTyped, AlgTyped, AreConsWithin, AreWithin}
use Rattle.tasks.proofs.Growth.{map_agree as map_same}

module _ (s s' : List Tree) (g : Grows s s') where
  con_grows : (c : Con) → ConTyped s c → ConTyped s' c
  con_grows c h = record { fields = types_grow s s' g c.fields h.fields }

  con_stays : (c : Con) → ConTyped s c → con_at s' c ≡ con_at s c
  con_stays c h = ap (λ (fs : List Tree). record { symbol = c.symbol; fields = fs; projections = c.projections }) (types_stay s s' g c.fields h.fields)

  pub cons_grow : (cs : List Con) → All (ConTyped s) cs → All (ConTyped s') cs
  cons_grow cs h = λ k e l. con_grows _ (h k e l)

  pub cons_stay : (cs : List Con) → All (ConTyped s) cs → cons_at s' cs ≡ cons_at s cs
  cons_stay cs h = map_same (con_at s') (con_at s) cs (λ k e l. con_stays _ (h k e l))

  alg_grows : (a : Alg) → AlgTyped s a → AlgTyped s' a
  alg_grows a h = record { cons = cons_grow a.cons h.cons }

  alg_stays : (a : Alg) → AlgTyped s a → algebraic_at s' a ≡ algebraic_at s a
  alg_stays a h = ap (λ (cs : List ConstructorTree). record { symbol = a.symbol; cons = cs }) (cons_stay a.cons h.cons)

  pub algs_grow : (ys : List Alg) → All (AlgTyped s) ys → All (AlgTyped s') ys
  algs_grow ys h = λ k e l. alg_grows _ (h k e l)

  pub algs_stay : (ys : List Alg) → All (AlgTyped s) ys → algebraics_at s' ys ≡ algebraics_at s ys
  algs_stay ys h = map_same (algebraic_at s') (algebraic_at s) ys (λ k e l. alg_stays _ (h k e l))

  -- one more after those that are there
  pub cons_more : (cs : List Con) (c : Con) → All (ConTyped s) cs → ConTyped s' c → All (ConTyped s') (cs ++ c ∷ [])
  cons_more cs c h k = All-append (ConTyped s') cs (c ∷ []) (cons_grow cs h) (All-cons (ConTyped s') c [] k (All-nil (ConTyped s')))

  pub cons_are : (cs : List Con) (c : Con) → All (ConTyped s) cs → cons_at s' (cs ++ c ∷ []) ≡ cons_at s cs ++ con_at s' c ∷ []
  cons_are cs c h = map-append (con_at s') cs (c ∷ []) ∙ ap (λ (ts : List ConstructorTree). ts ++ con_at s' c ∷ []) (cons_stay cs h)

  pub algs_more : (ys : List Alg) (a : Alg) → All (AlgTyped s) ys → AlgTyped s' a → All (AlgTyped s') (ys ++ a ∷ [])
  algs_more ys a h k = All-append (AlgTyped s') ys (a ∷ []) (algs_grow ys h) (All-cons (AlgTyped s') a [] k (All-nil (AlgTyped s')))

  pub algs_are : (ys : List Alg) (a : Alg) → All (AlgTyped s) ys → algebraics_at s' (ys ++ a ∷ []) ≡ algebraics_at s ys ++ algebraic_at s' a ∷ []
  algs_are ys a h = map-append (algebraic_at s') ys (a ∷ []) ∙ ap (λ (ts : List AlgebraicTree). ts ++ algebraic_at s' a ∷ []) (algs_stay ys h)

-- ---- what is typed is held
con_held : (s : List Tree) (c : Con) → ConTyped s c → ConHeld s c
con_held s c h = record { fields = λ k e l. (h.fields k e l).held }

alg_held : (s : List Tree) (a : Alg) → AlgTyped s a → AlgebraicHeld s a
alg_held s a h = record { cons = λ k e l. con_held s _ (h.cons k e l) }

pub algs_held : (s : List Tree) (ys : List Alg) → All (AlgTyped s) ys → All (AlgebraicHeld s) ys
algs_held s ys h = λ k e l. alg_held s _ (h k e l)

-- ---- where no name is at fault, fields have the type variables of their own type alone
scoped_with : (w : Where) (vs : List (List ℕ)) → IsScoped w → IsScoped (with_vars w vs)
scoped_with w vs h = record { symbols = h.symbols; types = h.types; tuples = h.tuples }

cons_within : (w : Where) → IsScoped w → (n : ℕ) (ks : List AlgebraicConstructor) → constructors_fault w ks ≡ None → AreConsWithin (length w.vars) (constructor_trees w n ks)
cons_within w sc n [] h = tt
cons_within w sc n (k ∷ ks) h =
    let p = none_both (params_fault w false k.fields) (constructors_fault w ks) h in
    (All-from_recursion (TyVarsBelow (length w.vars)) (parameter_types w k.fields) (fields_below w sc k.fields p.0), cons_within w sc (n + (count_fields k.fields + 1)) ks p.1)

pub types_within : (w : Where) → IsScoped w → (i n : ℕ) (ts : List AlgebraicType) → types_fault w ts ≡ None → AreWithin ts (algebraic_trees w i n ts)
types_within w sc i n [] h = tt
types_within w sc i n (a ∷ ts) h =
    let v = with_vars w (words a.vars) in
    let p = none_both (constructors_fault v a.constructors) (types_fault w ts) h in
    (subst (λ (m : ℕ). AreConsWithin m (constructor_trees v n a.constructors)) (length-map a.vars (λ c. c.name)) (cons_within v (scoped_with w (words a.vars) sc) n a.constructors p.0), types_within w sc (i + 1) (n + entry_count a.constructors) ts p.1)
