-- Terms have types and formulas none; a `let` and an `if` are of the sort and type of what they give.
use Rattle.std.proofs.Common.{◌≡◌, inl, inr, [], ◌∷◌, ◌++◌, Option, Some, refl, sym, ap, subst, ◌∙◌, arith}
use Rattle.trees.specs.declared.Sort.{Sort}
use Rattle.trees.specs.declared.Sort.TheVariants.{Term, Formula}
use Rattle.trees.specs.Tree.{Tree, Leaf, One, Two, Three, Head, HEnd, HCell, HBound, HParam, HNum, HFun, HLet, HIf, HCase, HArm, HPatAny, HPatVar, HPatCon, HPatAlias, head_of}
use Rattle.trees.specs.Sorts.{IsExpression, sort_of, type_of, yield, yield_type, top_sort, top_type, int_type}
use Rattle.trees.specs.Binding.{inst}
use Rattle.trees.proofs.Many.{inst_is_many}
use Rattle.tasks.specs.Task.{TaskTree}
use Rattle.tasks.specs.Vocabulary.{of_task}
use Rattle.tasks.specs.Typing.{TypedUnder, option_list}
use Rattle.tasks.specs.Valid.{IsGroundFormula, VariablesBelow}
use Rattle.tasks.proofs.Closing.{typed_closed}
use Rattle.kernel.specs.Right.{IsGroundExpression}
use Rattle.tasks.specs.typed_trees.instances.Instances.{IsTermOf, IsClosedTerm, IsInstance}
use Rattle.tasks.proofs.typed_trees.instances.Typed.{many_type, one_for}

-- ---- sorts and types at the top
module _ (e : Tree) (x : IsExpression (sort_of e)) where
  pub sort_yielded : sort_of e ≡ yield e
  sort_yielded = by (head_of e) (yield e) x
    where
      by : (h : Head) (s : Sort) → IsExpression (top_sort h s) → top_sort h s ≡ s
      by HEnd s z = absurd (elim z [ inl e ↦ cc | inr e ↦ cc ])
      by HCell s z = absurd (elim z [ inl e ↦ cc | inr e ↦ cc ])
      by HArm s z = absurd (elim z [ inl e ↦ cc | inr e ↦ cc ])
      by _ s z = refl

  pub type_yielded : type_of e ≡ yield_type e
  type_yielded = by (head_of e) (yield e) (yield_type e) x
    where
      by : (h : Head) (s : Sort) (o : Option Tree) → IsExpression (top_sort h s) → top_type h o ≡ o
      by HCell s o z = absurd (elim z [ inl e ↦ cc | inr e ↦ cc ])
      by HArm s o z = absurd (elim z [ inl e ↦ cc | inr e ↦ cc ])
      by _ s o z = refl

yields_type : (e : Tree) → yield e ≡ Term → (ty : Tree) × (yield_type e ≡ Some ty)
yields_type (Leaf (HNum z)) q = (int_type, refl)
yields_type (Leaf _) q = absurd (cc)
yields_type (One (HBound i) a) q = (a, refl)
yields_type (One (HParam n) a) q = (a, refl)
yields_type (One _ a) q = absurd (cc)
yields_type (Two HCell a b) q = yields_type a q
yields_type (Two HLet a b) q = yields_type b q
yields_type (Two HCase a b) q = yields_type b q
yields_type (Two HArm a b) q = yields_type b q
yields_type (Two _ a b) q = absurd (cc)
yields_type (Three (HFun f) a b c) q = (c, refl)
yields_type (Three HIf a b c) q = yields_type b q
yields_type (Three _ a b c) q = absurd (cc)

formula_untyped : (e ty : Tree) → yield e ≡ Formula → yield_type e ≡ Some ty → ⊥
formula_untyped (Leaf (HNum z)) ty q t = cc
formula_untyped (Leaf _) ty q t = cc
formula_untyped (One (HBound i) a) ty q t = cc
formula_untyped (One (HParam n) a) ty q t = cc
formula_untyped (One HPatAny a) ty q t = cc
formula_untyped (One HPatVar a) ty q t = cc
formula_untyped (One HPatAlias a) ty q t = cc
formula_untyped (One _ a) ty q t = cc
formula_untyped (Two HCell a b) ty q t = formula_untyped a ty q t
formula_untyped (Two HLet a b) ty q t = formula_untyped b ty q t
formula_untyped (Two HCase a b) ty q t = formula_untyped b ty q t
formula_untyped (Two HArm a b) ty q t = formula_untyped b ty q t
formula_untyped (Two _ a b) ty q t = cc
formula_untyped (Three (HFun f) a b c) ty q t = cc
formula_untyped (Three HIf a b c) ty q t = formula_untyped b ty q t
formula_untyped (Three (HPatCon k) a b c) ty q t = cc
formula_untyped (Three _ a b c) ty q t = cc

-- a term has a type
pub has_type : (e : Tree) → sort_of e ≡ Term → (ty : Tree) × (type_of e ≡ Some ty)
has_type e s =
    let x : IsExpression (sort_of e) = inl s in
    let t = yields_type e (sym (sort_yielded e x) ∙ s) in
    (t.0, type_yielded e x ∙ t.1)

-- what has a type is a term
pub typed_term : (e ty : Tree) → IsExpression (sort_of e) → type_of e ≡ Some ty → sort_of e ≡ Term
typed_term e ty x t = elim x [
  | inl s ↦ s
  | inr s ↦ absurd (formula_untyped e ty (sym (sort_yielded e (inr s)) ∙ s) (sym (type_yielded e (inr s)) ∙ t))
]

-- ---- closed expressions of a task
module _ (t : TaskTree) where
  -- a term by its type
  pub term_of : (e ty : Tree) → IsGroundExpression t e → type_of e ≡ Some ty → IsTermOf (of_task t) ty e
  term_of e ty g q = record { sort = typed_term e ty g.sort q; typed = g.typed; type = q }

  pub closed_term : (e ty : Tree) → IsTermOf (of_task t) ty e → IsClosedTerm e
  closed_term e ty o = let k = typed_closed (of_task t) [] e o.typed in record { sort = o.sort; closed = omega (arith, k) }

  -- a formula with its variable 0 open, at a term
  pub formula_at_term : (b ty u e : Tree) → sort_of b ≡ Formula → TypedUnder (of_task t) (ty ∷ []) b → VariablesBelow 0 b → IsTermOf (of_task t) ty u → VariablesBelow 0 u → IsInstance b u e → IsGroundFormula t e
  formula_at_term b ty u e s x v o y i = record { sort = i.sort ∙ s; typed = i.typed (of_task t) ty o x; ground = i.variables 0 y v }

  -- ---- a `let`
  module _ (v b : Tree) (g : IsGroundExpression t (Two HLet v b)) where
    pub value_type : (ty : Tree) × (type_of v ≡ Some ty)
    value_type = has_type v g.typed.0.0.0

    pub value_term : IsTermOf (of_task t) value_type.0 v
    value_term = record { sort = g.typed.0.0.0; typed = g.typed.2; type = value_type.1 }

    body_typed : TypedUnder (of_task t) (value_type.0 ∷ []) b
    body_typed = subst (λ (z : Option Tree). TypedUnder (of_task t) (option_list z ++ []) b) value_type.1 g.typed.3

    -- it is alike its body at its value
    module _ (e : Tree) (i : IsInstance b v e) (is : e ≡ inst b v) where
      pub let_sort : sort_of e ≡ sort_of (Two HLet v b)
      let_sort = i.sort ∙ sort_yielded b g.typed.0.0.1

      pub let_type : type_of e ≡ type_of (Two HLet v b)
      let_type =
          ap type_of (is ∙ sym (inst_is_many b v)) ∙ many_type (of_task t) (value_type.0 ∷ []) (v ∷ []) (one_for (of_task t) value_type.0 v value_term) b body_typed
          ∙ type_yielded b g.typed.0.0.1

      pub let_ground : IsGroundExpression t e
      let_ground = record { sort = subst IsExpression (sym let_sort) g.sort; typed = i.typed (of_task t) value_type.0 value_term body_typed; ground = i.variables 0 g.ground.0 g.ground.1 }

  -- ---- an `if`
  module _ (c a b : Tree) (g : IsGroundExpression t (Three HIf c a b)) where
    pub cond_ground : IsGroundFormula t c
    cond_ground = record { sort = g.typed.0.0; typed = g.typed.2; ground = g.ground.0 }

    pub yes_sort : sort_of a ≡ sort_of (Three HIf c a b)
    yes_sort = sort_yielded a g.typed.0.1

    pub yes_type : type_of a ≡ type_of (Three HIf c a b)
    yes_type = type_yielded a g.typed.0.1

    pub yes_ground : IsGroundExpression t a
    yes_ground = record { sort = g.typed.0.1; typed = g.typed.3; ground = g.ground.1 }

    pub no_sort : sort_of b ≡ sort_of (Three HIf c a b)
    no_sort = g.typed.0.2 ∙ yes_sort

    pub no_type : type_of b ≡ type_of (Three HIf c a b)
    no_type = sym g.typed.1 ∙ yes_type

    pub no_ground : IsGroundExpression t b
    no_ground = record { sort = subst IsExpression (sym g.typed.0.2) g.typed.0.1; typed = g.typed.4; ground = g.ground.2 }
