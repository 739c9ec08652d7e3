-- Applications of symbols: their parts, their instances, and with a hole in the place of one argument.
use Rattle.std.proofs.Common.{◌≡◌, ℕ, ◌≤◌, inl, inr, List, [], ◌∷◌, Some, refl, sym, ◌∙◌, arith}
use Rattle.trees.specs.declared.Sort.TheVariants.{Term}
use Rattle.trees.specs.Tree.{Tree, Two, HCell, loose, above_params}
use Rattle.trees.specs.Node.{tree_at}
use Rattle.trees.specs.Binding.{inst, inst_many, Bound}
use Rattle.trees.specs.Sorts.{WellSorted, sort_of, type_of, IsList, IsExpression}
use Rattle.trees.proofs.Many.{inst_many_closed}
use Rattle.trees.proofs.Types.{AreKinds, loose_types, only_types}
use Rattle.tasks.specs.Vocabulary.{Vocabulary}
use Rattle.tasks.specs.Typing.{TypedUnder, entry}
use Rattle.tasks.specs.Valid.{VariablesBelow}
use Rattle.tasks.proofs.Closing.{typed_closed, typed_sorted}
use Rattle.tasks.proofs.TypeInstances.{typed_further, some_kept}
use Rattle.tasks.specs.typed_trees.instances.Instances.{AreFor}
use Rattle.images.specs.Templates.{listed, IsClosedType}
use Rattle.images.proofs.Holes.{hole_function, hole_predicate}
use Rattle.images.proofs.Templates.{function_typed, predicate_typed}
use Rattle.congruence.specs.declared.applications.SymbolAt.{SymbolAt}
use Rattle.congruence.specs.declared.applications.SymbolAt.TheVariants as symbol
use Rattle.congruence.specs.Applications.{applied}
use Rattle.congruence.proofs.Lists.{members_many, listed_closed, listed_ground}

kinds_same : (env : List Tree) (e : Tree) → WellSorted e → AreKinds e → inst_many e env ≡ e
kinds_same env e w k = inst_many_closed env 0 e (loose_types e (only_types e w k))

module _ (s : List Tree) where
  pub applied_sort : (k : SymbolAt) (x y : Tree) → sort_of (applied s k x) ≡ sort_of (applied s k y)
  applied_sort (symbol.Function f types ty) x y = refl
  applied_sort (symbol.Predicate p types) x y = refl

  pub applied_type : (k : SymbolAt) (x y : Tree) → type_of (applied s k x) ≡ type_of (applied s k y)
  applied_type (symbol.Function f types ty) x y = refl
  applied_type (symbol.Predicate p types) x y = refl

  pub applied_expression : (k : SymbolAt) (x : Tree) → IsExpression (sort_of (applied s k x))
  applied_expression (symbol.Function f types ty) x = inl refl
  applied_expression (symbol.Predicate p types) x = inr refl

  -- the arguments are a list of terms
  pub applied_list : (v : Vocabulary) (types : List Tree) (k : SymbolAt) (x : Tree) → TypedUnder v types (applied s k x) → TypedUnder v types x × IsList Term x
  applied_list v types (symbol.Function f ts ty) x h = (h.3, h.0.1)
  applied_list v types (symbol.Predicate p ts) x h = (h.3, h.0.0.1)

  pub applied_ground : (n : ℕ) (k : SymbolAt) (x y : Tree) → (VariablesBelow n x → VariablesBelow n y) → VariablesBelow n (applied s k x) → VariablesBelow n (applied s k y)
  applied_ground n (symbol.Function f types ty) x y g h = (h.0, g h.1, h.2)
  applied_ground n (symbol.Predicate p types) x y g h = (h.0, g h.1)

  pub ground_list : (n : ℕ) (k : SymbolAt) (x : Tree) → VariablesBelow n (applied s k x) → VariablesBelow n x
  ground_list n (symbol.Function f types ty) x h = h.1
  ground_list n (symbol.Predicate p types) x h = h.1

  pub applied_above : (m : ℕ) (k : SymbolAt) (x y : Tree) → above_params (applied s k x) ≤ m → above_params y ≤ m → above_params (applied s k y) ≤ m
  applied_above m (symbol.Function f types ty) x y h l = omega arith
  applied_above m (symbol.Predicate p types) x y h l = omega arith

  pub above_list : (m : ℕ) (k : SymbolAt) (x : Tree) → above_params (applied s k x) ≤ m → above_params x ≤ m
  above_list m (symbol.Function f types ty) x h = omega arith
  above_list m (symbol.Predicate p types) x h = omega arith

  -- at an environment
  pub applied_instance : (v : Vocabulary) (types env : List Tree) (k : SymbolAt) (x : Tree) → TypedUnder v types (applied s k x) → inst_many (applied s k x) env ≡ applied s k (inst_many x env)
  applied_instance v types env (symbol.Function f ts ty) x h =
      cc (kinds_same env (tree_at s ts) (typed_sorted v types (tree_at s ts) h.2) (inr h.0.0), kinds_same env (tree_at s ty) (typed_sorted v types (tree_at s ty) h.4) (inl h.0.2))
  applied_instance v types env (symbol.Predicate p ts) x h = cc (kinds_same env (tree_at s ts) (typed_sorted v types (tree_at s ts) h.2) (inr h.0.0.0))

  pub applied_open : (v : Vocabulary) (types env : List Tree) → AreFor v types env → (k : SymbolAt) (x : Tree) → TypedUnder v [] (applied s k (inst_many x env)) → TypedUnder v types x → IsList Term x → TypedUnder v types (applied s k x)
  applied_open v types env a (symbol.Function f ts ty) x h y l = (
    (h.0.0, l, h.0.2),
    (h.1.0, some_kept (entry v f) _ _ (λ e q u. (u.0, record { as_many = u.1.as_many; fit = sym (members_many v types env a x y l) ∙ u.1.fit }, u.2)) h.1.1),
    typed_further v [] types (tree_at s ts) h.2,
    y,
    typed_further v [] types (tree_at s ty) h.4,
  )
  applied_open v types env a (symbol.Predicate p ts) x h y l = (
    ((h.0.0.0, l), tt),
    (h.1.0, some_kept (entry v p) _ _ (λ e q u. (u.0, record { as_many = u.1.as_many; fit = sym (members_many v types env a x y l) ∙ u.1.fit })) h.1.1),
    typed_further v [] types (tree_at s ts) h.2,
    y,
  )

  -- ---- with the variable 0 in the place of one argument
  module _ (v : Vocabulary) (before : List Tree) (a rest ty : Tree) where
    pub applied_holed : IsClosedType v ty → type_of a ≡ Some ty → sort_of a ≡ Term → (k : SymbolAt) → TypedUnder v [] (applied s k (listed before (Two HCell a rest))) → TypedUnder v (ty ∷ []) (applied s k (listed before (Two HCell (Bound 0 ty) rest)))
    applied_holed c q t (symbol.Function f ts r) x = function_typed v ty c a rest q t f (tree_at s ts) (tree_at s r) before x
    applied_holed c q t (symbol.Predicate p ts) x = predicate_typed v ty c a rest q t p (tree_at s ts) before x

    pub applied_fills : (x : Tree) → loose x ≡ 0 → (k : SymbolAt) → TypedUnder v [] (applied s k (listed before (Two HCell a rest))) → inst (applied s k (listed before (Two HCell (Bound 0 ty) rest))) x ≡ applied s k (listed before (Two HCell x rest))
    applied_fills x l (symbol.Function f ts r) h =
        let c = listed_closed v before a rest h.3 in
        let n = typed_closed v [] (tree_at s ts) h.2 in
        let m = typed_closed v [] (tree_at s r) h.4 in
        hole_function x l f (tree_at s ts) (tree_at s r) before ty rest (omega (arith, n)) (omega (arith, m)) c.0 c.1
    applied_fills x l (symbol.Predicate p ts) h =
        let c = listed_closed v before a rest h.3 in
        let n = typed_closed v [] (tree_at s ts) h.2 in
        hole_predicate x l p (tree_at s ts) before ty rest (omega (arith, n)) c.0 c.1

    pub holed_ground : (n : ℕ) → VariablesBelow n ty → (k : SymbolAt) → VariablesBelow n (applied s k (listed before (Two HCell a rest))) → VariablesBelow n (applied s k (listed before (Two HCell (Bound 0 ty) rest)))
    holed_ground n g k h = applied_ground n k (listed before (Two HCell a rest)) (listed before (Two HCell (Bound 0 ty) rest)) (listed_ground n before a (Bound 0 ty) rest g) h
