-- Closed terms for open variables: what an open tree is there, and the parts of one that is there.
use Rattle.std.proofs.Common.{◌≡◌, ℕ, zero, suc, ◌+◌, ◌-◌, ◌<◌, ◌≤◌, List, [], ◌∷◌, ◌++◌, length, get_or, slice_get, Some, subst, refl, sym, ap, ◌∙◌, arith}
use Rattle.std.proofs.lemmas.List.Elements.{All-append, All-cons, All-nil}
use Rattle.trees.specs.declared.Sort.TheVariants.{Kind, Term}
use Rattle.trees.specs.Tree.{Tree, One, Two, Head, HNot, binders_over, loose, above_params}
use Rattle.trees.specs.Binding.{change, inst, instantiating_many, inst_many, AreClosed, Param}
use Rattle.trees.specs.Sorts.{sort_of}
use Rattle.trees.specs.laws.Sorts.{term_no_vars}
use Rattle.trees.proofs.Many.{left_at, right_at, length_joined, inst_under}
use Rattle.trees.proofs.Above.{type_left}
use Rattle.tasks.specs.Task.{TaskTree}
use Rattle.tasks.specs.Vocabulary.{Vocabulary, of_task}
use Rattle.tasks.specs.Typing.{TypedUnder, bound_types}
use Rattle.tasks.specs.Valid.{IsGround}
use Rattle.tasks.proofs.Closing.{typed_closed, typed_sorted}
use Rattle.tasks.specs.typed_trees.instances.Instances.{IsTermOf, AreFor}
use Rattle.tasks.proofs.typed_trees.instances.Typed.{present, many_typed, kind_typed}
use Rattle.tasks.proofs.KeptInstances.{variables_at, above_at}
use Rattle.images.specs.Open.{IsEnvironment, IsOpenUnder, IsAt}

each_closed : (env : List Tree) → ((k : ℕ) (e : Tree) → k < length env → (loose (get_or env k e) ≡ 0) × (sort_of (get_or env k e) ≡ Term)) → AreClosed env
each_closed [] h = tt
each_closed (x ∷ xs) h = (((h 0 x (omega arith)).0, term_no_vars x (h 0 x (omega arith)).1), each_closed xs (λ k e l. h (suc k) e (omega arith)))

module _ (v : Vocabulary) (types env : List Tree) (a : AreFor v types env) where
  pub term_for : (k : ℕ) (e : Tree) → k < length env → (ty : Tree) × IsTermOf v ty (get_or env k e)
  term_for k e l =
      let n : length env ≡ length types = a.as_many in
      let p = present types (length types - (k + 1)) (omega arith) in
      (p.0, a.each (length types - (k + 1)) k p.0 e p.1 (omega arith))

  pub loose_for : (k : ℕ) (e : Tree) → k < length env → loose (get_or env k e) ≡ 0
  loose_for k e l = let t = term_for k e l in omega (arith, typed_closed v [] (get_or env k e) t.1.typed)

  pub closed_for : AreClosed env
  closed_for = each_closed env (λ k e l. (loose_for k e l, (term_for k e l).1.sort))

  -- one more
  pub for_more : (ty c : Tree) → IsTermOf v ty c → AreFor v (ty ∷ types) (env ++ c ∷ [])
  for_more ty c o = record { as_many = omega (arith, length_joined env (c ∷ []), a.as_many); each = by }
    where
      by : (i k : ℕ) (ty' e : Tree) → slice_get (ty ∷ types) i ≡ Some ty' → i + k + 1 ≡ length (env ++ c ∷ []) → IsTermOf v ty' (get_or (env ++ c ∷ []) k e)
      by zero k ty' e q n =
          let r : ty ≡ ty' = cc in
          let p : get_or (env ++ c ∷ []) k e ≡ c = right_at env (c ∷ []) k 0 e (omega (arith, n, length_joined env (c ∷ []))) in
          subst (λ (z : Tree). IsTermOf v ty' z) (sym p) (subst (λ (z : Tree). IsTermOf v z c) r o)
      by (suc i) k ty' e q n =
          subst (λ (z : Tree). IsTermOf v ty' z) (sym (left_at env (c ∷ []) k e (omega (arith, n, length_joined env (c ∷ []))))) (a.each i k ty' e q (omega (arith, n, length_joined env (c ∷ []))))

module _ (t : TaskTree) (types env : List Tree) (n : ℕ) (E : IsEnvironment t types env n) where
  -- an open tree there
  pub at_open : (e : Tree) → IsOpenUnder t types e n → IsOpenUnder t [] (inst_many e env) n
  at_open e o = record {
    typed = many_typed (of_task t) types env E.terms e o.typed;
    ground = variables_at env (loose_for (of_task t) types env E.terms) 0 E.ground 0 e o.ground;
    above = above_at env (loose_for (of_task t) types env E.terms) n E.above 0 e o.above;
  }

  -- one more term
  pub env_more : (m : ℕ) (ty c : Tree) → n ≤ m → IsTermOf (of_task t) ty c → IsGround c → above_params c ≤ m → IsEnvironment t (ty ∷ types) (env ++ c ∷ []) m
  env_more m ty c l o g b = record {
    terms = for_more (of_task t) types env E.terms ty c o;
    ground = All-append IsGround env (c ∷ []) E.ground (All-cons IsGround c [] g (All-nil IsGround));
    above = All-append (λ (z : Tree). above_params z ≤ m) env (c ∷ []) (λ k e i. omega (arith, E.above k e i)) (All-cons (λ (z : Tree). above_params z ≤ m) c [] b (All-nil (λ (z : Tree). above_params z ≤ m)));
  }

-- ---- parts of a tree that is at an environment
module _ (t : TaskTree) (types env : List Tree) (n : ℕ) where
  -- of a negation
  pub at_not : (a l x : Tree) → IsAt t types env (One HNot a) l n → l ≡ One HNot x → IsAt t types env a x n
  at_not a l x k q =
      let e : One HNot x ≡ One HNot (inst_many a env) = sym q ∙ k.is in
      record { around = k.around; shape = record { typed = k.shape.typed.2; ground = k.shape.ground; above = k.shape.above }; is = cc }

  -- of an operator of two that binds nothing
  module _ (h : Head) (a b l x y : Tree) (free : bound_types h a ≡ []) (none : binders_over h a ≡ 0) (k : IsAt t types env (Two h a b) l n) (q : l ≡ Two h x y) where
    whole : Two h x y ≡ Two h (inst_many a env) (change (instantiating_many env) (0 + binders_over h a) b)
    whole = sym q ∙ k.is

    pub at_first : IsAt t types env a x n
    at_first = record { around = k.around; shape = record { typed = k.shape.typed.2; ground = k.shape.ground.0; above = omega (arith, k.shape.above) }; is = cc (whole) }

    pub at_second : IsAt t types env b y n
    at_second =
        let z : 0 + binders_over h a ≡ 0 = omega (arith, none) in
        let e : y ≡ change (instantiating_many env) (0 + binders_over h a) b = cc (whole) in
        record {
          around = k.around;
          shape = record { typed = subst (λ (ts : List Tree). TypedUnder (of_task t) (ts ++ types) b) free k.shape.typed.3; ground = k.shape.ground.1; above = omega (arith, k.shape.above) };
          is = e ∙ ap (λ (d : ℕ). change (instantiating_many env) d b) z;
        }

  -- of an operator that binds one variable of this type: the body's instance at a term is the body at one term more
  module _ (h : Head) (a b l x y ty : Tree) (one : bound_types h a ≡ ty ∷ []) (single : binders_over h a ≡ 1) (k : IsAt t types env (Two h a b) l n) (q : l ≡ Two h x y) where
    whole_under : Two h x y ≡ Two h (inst_many a env) (change (instantiating_many env) (0 + binders_over h a) b)
    whole_under = sym q ∙ k.is

    pub at_bound : IsAt t types env a x n
    at_bound = record { around = k.around; shape = record { typed = k.shape.typed.2; ground = k.shape.ground.0; above = omega (arith, k.shape.above) }; is = cc (whole_under) }

    pub body_is : y ≡ change (instantiating_many env) 1 b
    body_is =
        let z : 0 + binders_over h a ≡ 1 = omega (arith, single) in
        let e : y ≡ change (instantiating_many env) (0 + binders_over h a) b = cc (whole_under) in
        e ∙ ap (λ (d : ℕ). change (instantiating_many env) d b) z

    pub at_body : (m : ℕ) (c z : Tree) → n ≤ m → IsTermOf (of_task t) ty c → IsGround c → above_params c ≤ m → z ≡ inst y c → IsAt t (ty ∷ types) (env ++ c ∷ []) b z m
    at_body m c z r o g p w = record {
      around = env_more t types env n k.around m ty c r o g p;
      shape = record { typed = subst (λ (ts : List Tree). TypedUnder (of_task t) (ts ++ types) b) one k.shape.typed.3; ground = k.shape.ground.1; above = omega (arith, k.shape.above) };
      is = w ∙ ap (λ (e : Tree). inst e c) body_is ∙ inst_under env (closed_for (of_task t) types env k.around.terms) b c;
    }

-- ---- a quantified tree: its body at a new parameter
module _ (t : TaskTree) (types env : List Tree) (n : ℕ) (h : Head) (ty b l x y : Tree) (one : bound_types h ty ≡ ty ∷ []) (single : binders_over h ty ≡ 1) (kind : sort_of ty ≡ Kind) (k : IsAt t types env (Two h ty b) l n) (q : l ≡ Two h x y) where
  -- its type is the same at an environment
  pub quantified_type : x ≡ ty
  quantified_type = (at_bound t types env n h ty b l x y ty one single k q).is ∙ type_left (instantiating_many env) (λ _. refl) 0 ty (typed_sorted (of_task t) types ty k.shape.typed.2) kind

  pub new_parameter : IsTermOf (of_task t) ty (Param n ty)
  new_parameter = record { sort = refl; typed = (kind, tt, kind_typed (of_task t) types [] ty kind k.shape.typed.2); type = refl }

  pub quantified_body : (z : Tree) → z ≡ inst y (Param n ty) → IsAt t (ty ∷ types) (env ++ Param n ty ∷ []) b z (n + 1)
  quantified_body z w =
      at_body t types env n h ty b l x y ty one single k q (n + 1) (Param n ty) z (omega arith) new_parameter k.shape.ground.0 (let o = k.shape.above in omega (arith, o)) w

  -- of a tree of the same type whose body has an instance at the longer environment: the instance of its body there
  pub quantified_right : (c m v : Tree) → m ≡ inst_many (Two h ty c) env → m ≡ Two h x v → inst v (Param n ty) ≡ inst_many c (env ++ Param n ty ∷ [])
  quantified_right c m v e f =
      let g : Two h x v ≡ Two h (inst_many ty env) (change (instantiating_many env) (0 + binders_over h ty) c) = sym f ∙ e in
      let z : 0 + binders_over h ty ≡ 1 = omega (arith, single) in
      let s : v ≡ change (instantiating_many env) (0 + binders_over h ty) c = cc (g) in
      ap (λ (u : Tree). inst u (Param n ty)) (s ∙ ap (λ (d : ℕ). change (instantiating_many env) d c) z) ∙ inst_under env (closed_for (of_task t) types env k.around.terms) c (Param n ty)
