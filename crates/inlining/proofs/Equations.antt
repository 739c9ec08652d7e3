-- The equation of a definition at types and closed arguments: the use equals, or is equivalent to, the body there. The quantifiers
-- are instantiated one after another.
use Rattle.std.proofs.Common.{◌≡◌, ℕ, List, [], ◌∷◌, ◌++◌, map, length, get_or, subst, refl, ap, ◌∙◌, arith, append_assoc}
use Rattle.tasks.specs.trees.declared.Op.TheVariants.{Iff}
use Rattle.tasks.specs.trees.Tree.{Tree, Two, Three, HCell, HFun, HPred, HEq, HJoin, HForall, loose}
use Rattle.tasks.specs.trees.Binding.{change, inst_types, inst, inst_many, instantiating_many, shift, AreClosed}
use Rattle.trees.proofs.Laws.{shift_closed}
use Rattle.trees.proofs.Many.{many_at, right_at, length_joined, inst_under, inst_many_closed}
use Rattle.trees.proofs.Instances.{typing_any}
use Rattle.rules.proofs.fact_rules.Putting.{types_are}
use Rattle.tasks.specs.Equations.{cells, type_variables, bound_variables, for_all}

-- the parameters in order, at closed arguments, are these arguments
arguments_from : (zs before us args : List Tree) → length us ≡ length args → AreClosed us → inst_many (inst_types (cells (bound_variables args)) zs) (before ++ us) ≡ cells us
arguments_from zs before [] [] q c = refl
arguments_from zs before (u ∷ us) (a ∷ args) q c =
    let ty = change (instantiating_many (before ++ u ∷ us)) 0 (inst_types a zs) in
    let n = length_joined before (u ∷ us) in
    let put = many_at (before ++ u ∷ us) 0 (length args) (length before) ty (omega arith) (omega (arith, n, q)) in
    let first : get_or (before ++ u ∷ us) (length before) ty ≡ u = right_at before (u ∷ us) (length before) 0 ty (omega arith) in
    let one : (instantiating_many (before ++ u ∷ us)).bound 0 (length args) ty ≡ u = put ∙ ap (λ (z : Tree). shift z 0 0) first ∙ shift_closed u 0 0 (let l = c.0.0 in omega (arith, l)) in
    let rest : inst_many (inst_types (cells (bound_variables args)) zs) ((before ++ u ∷ []) ++ us) ≡ cells us = arguments_from zs (before ++ u ∷ []) us args (omega (arith, q)) c.1 in
    let same : inst_many (inst_types (cells (bound_variables args)) zs) (before ++ u ∷ us) ≡ cells us = subst (λ (ys : List Tree). inst_many (inst_types (cells (bound_variables args)) zs) ys ≡ cells us) (append_assoc before (u ∷ []) us) rest in
    ap (λ (x : Tree). Two HCell x (inst_many (inst_types (cells (bound_variables args)) zs) (before ++ u ∷ us))) one ∙ ap (λ (x : Tree). Two HCell u x) same
arguments_from zs before [] (a ∷ args) q c = absurd (omega (arith, q))
arguments_from zs before (u ∷ us) [] q c = absurd (omega (arith, q))

pub arguments_in_order : (zs us args : List Tree) → length us ≡ length args → AreClosed us → inst_many (inst_types (cells (bound_variables args)) zs) us ≡ cells us
arguments_in_order zs us args q c = arguments_from zs [] us args q c

-- ---- the right side of the equation there
module _ (zs us args : List Tree) (n : ℕ) (types_many : length zs ≡ n) (as_many : length us ≡ length args) (closed : AreClosed us) (k : ℕ) (body : Tree) where
  own_types : inst_many (inst_types (cells (type_variables 0 n)) zs) us ≡ inst_many (cells zs) us
  own_types = ap (λ (z : Tree). inst_many z us) (subst (λ (m : ℕ). inst_types (cells (type_variables 0 m)) zs ≡ cells zs) types_many (types_are zs))

  pub function_there : (ty : Tree) → loose (cells zs) ≡ 0 → loose (inst_types ty zs) ≡ 0
      → inst_many (inst_types (Two HEq (Three (HFun k) (cells (type_variables 0 n)) (cells (bound_variables args)) ty) body) zs) us
      ≡ Two HEq (Three (HFun k) (cells zs) (cells us) (inst_types ty zs)) (inst_many (inst_types body zs) us)
  function_there ty l m =
      let p = own_types ∙ inst_many_closed us 0 (cells zs) l in
      let q = arguments_in_order zs us args as_many closed in
      let r = inst_many_closed us 0 (inst_types ty zs) m in
      ap (λ (x : Tree). Two HEq (Three (HFun k) x (inst_many (inst_types (cells (bound_variables args)) zs) us) (inst_many (inst_types ty zs) us)) (inst_many (inst_types body zs) us)) p
      ∙ ap (λ (x : Tree). Two HEq (Three (HFun k) (cells zs) x (inst_many (inst_types ty zs) us)) (inst_many (inst_types body zs) us)) q
      ∙ ap (λ (x : Tree). Two HEq (Three (HFun k) (cells zs) (cells us) x) (inst_many (inst_types body zs) us)) r

  pub predicate_there : loose (cells zs) ≡ 0
      → inst_many (inst_types (Two (HJoin Iff) (Two (HPred k) (cells (type_variables 0 n)) (cells (bound_variables args))) body) zs) us
      ≡ Two (HJoin Iff) (Two (HPred k) (cells zs) (cells us)) (inst_many (inst_types body zs) us)
  predicate_there l =
      let p = own_types ∙ inst_many_closed us 0 (cells zs) l in
      let q = arguments_in_order zs us args as_many closed in
      ap (λ (x : Tree). Two (HJoin Iff) (Two (HPred k) x (inst_many (inst_types (cells (bound_variables args)) zs) us)) (inst_many (inst_types body zs) us)) p
      ∙ ap (λ (x : Tree). Two (HJoin Iff) (Two (HPred k) (cells zs) x) (inst_many (inst_types body zs) us)) q

-- ---- quantifiers, one after another
-- a quantified formula at closed terms is quantified, and its body at one term more is the inner formula at all of them
pub forall_next : (ts : List Tree) (ty e c : Tree) → AreClosed ts
    → (inst_many (Two HForall ty e) ts ≡ Two HForall (inst_many ty ts) (change (instantiating_many ts) 1 e)) × (inst (change (instantiating_many ts) 1 e) c ≡ inst_many e (ts ++ c ∷ []))
forall_next ts ty e c closed = (refl, inst_under ts closed e c)

-- the quantifiers of an equation at types are those of the parameters, at the types
pub equation_types : (zs : List Tree) (args : List Tree) (e : Tree) → inst_types (for_all args e) zs ≡ for_all (map (λ a. inst_types a zs) args) (inst_types e zs)
equation_types zs [] e = refl
equation_types zs (a ∷ args) e = ap (λ (z : Tree). Two HForall (inst_types a zs) z) (typing_any zs 1 0 (for_all args e) ∙ equation_types zs args e)
