-- Branches at environments: the body of a branch at the terms for its pattern's variables, and a `match` made of such branches.
use Rattle.std.proofs.Common.{◌≡◌, ℕ, zero, suc, ◌+◌, ◌-◌, ◌<◌, ◌≤◌, ◌⊎◌, inl, inr, List, [], ◌∷◌, ◌++◌, length, get_or, slice_get, All, Option, Some, refl, sym, ap, subst, ◌∙◌, append_assoc, arith}
use Rattle.std.proofs.lemmas.Bool.{cases_lt}
use Rattle.std.proofs.lemmas.List.{append-nil}
use Rattle.std.proofs.lemmas.List.Elements.{All-append}
use Rattle.trees.specs.declared.Sort.TheVariants.{Term, Pattern, Branch}
use Rattle.trees.specs.declared.Sort.TheVariants as sort
use Rattle.trees.specs.Tree.{Tree, Leaf, Two, HCell, HArm, HCase, HEnd, above_params, pat_vars}
use Rattle.trees.specs.Binding.{change, instantiating_many, inst_many}
use Rattle.trees.specs.Sorts.{sort_of, type_of, IsExpression, IsList}
use Rattle.trees.proofs.Many.{left_at, right_at, length_joined, inst_many_under}
use Rattle.tasks.specs.Task.{TaskTree}
use Rattle.tasks.specs.Vocabulary.{Vocabulary, of_task}
use Rattle.tasks.specs.Typing.{TypedUnder, pattern_types, BranchesFit}
use Rattle.tasks.specs.Valid.{IsGround}
use Rattle.tasks.proofs.Closing.{typed_sorted}
use Rattle.tasks.proofs.Counts.{bound_count}
use Rattle.congruence.specs.tasks.typed_trees.instances.Instances.{IsTermOf, AreFor}
use Rattle.congruence.proofs.tasks.typed_trees.instances.Typed.{present}
use Rattle.images.specs.Open.{IsEnvironment, IsOpenUnder, IsAt}
use Rattle.images.proofs.Environments.{closed_for}
use Rattle.images.proofs.Images.{expression_sort, expression_type}
use Rattle.images.proofs.Slices.{slice_front, slice_after}
use Rattle.walking.specs.Places.{types_for, some_type}
use Rattle.walking.proofs.PatternShapes.{pattern_same}

-- ---- terms for more variables
pub for_joined : (v : Vocabulary) (tys types us env : List Tree) → AreFor v tys us → AreFor v types env → AreFor v (tys ++ types) (env ++ us)
for_joined v tys types us env a b = record { as_many = omega (arith, length_joined env us, length_joined tys types, a.as_many, b.as_many); each = by }
  where
    by_case : (i k : ℕ) (ty e : Tree) → slice_get (tys ++ types) i ≡ Some ty → i + k + 1 ≡ length (env ++ us) → (i < length tys) ⊎ (length tys ≤ i) → IsTermOf v ty (get_or (env ++ us) k e)
    by_case i k ty e q n (inl l) =
        let m = length_joined env us in
        let j : ℕ = k - length env in
        let p : get_or (env ++ us) k e ≡ get_or us j e = right_at env us k j e (omega (arith, m, n, l, a.as_many)) in
        subst (IsTermOf v ty) (sym p) (a.each i j ty e (sym (slice_front tys types i l) ∙ q) (omega (arith, m, n, l, a.as_many)))
    by_case i k ty e q n (inr l) =
        let m = length_joined env us in
        let p : get_or (env ++ us) k e ≡ get_or env k e = left_at env us k e (omega (arith, m, n, l, a.as_many, b.as_many)) in
        subst (IsTermOf v ty) (sym p) (b.each (i - length tys) k ty e (sym (slice_after tys types i (i - length tys) (omega (arith, l))) ∙ q) (omega (arith, m, n, l, a.as_many)))

    by : (i k : ℕ) (ty e : Tree) → slice_get (tys ++ types) i ≡ Some ty → i + k + 1 ≡ length (env ++ us) → IsTermOf v ty (get_or (env ++ us) k e)
    by i k ty e q n = by_case i k ty e q n (cases_lt i (length tys))

pub environment_joined : (t : TaskTree) (tys types us env : List Tree) (n : ℕ) → AreFor (of_task t) tys us → All IsGround us → All (λ a. above_params a ≤ n) us → IsEnvironment t types env n → IsEnvironment t (tys ++ types) (env ++ us) n
environment_joined t tys types us env n a g b E = record {
  terms = for_joined (of_task t) tys types us env a E.terms;
  ground = All-append IsGround env us E.ground g;
  above = All-append (λ (z : Tree). above_params z ≤ n) env us E.above b;
}

-- ---- the types of terms for variables
pub types_joined : (env us : List Tree) → types_for (env ++ us) ≡ types_for us ++ types_for env
types_joined [] us = sym (append-nil (types_for us))
types_joined (t ∷ ts) us = ap (λ (z : List Tree). z ++ some_type (type_of t) ∷ []) (types_joined ts us) ∙ append_assoc (types_for us) (types_for ts) (some_type (type_of t) ∷ [])

pub types_length : (us : List Tree) → length (types_for us) ≡ length us
types_length [] = refl
types_length (t ∷ ts) = omega (arith, length_joined (types_for ts) (some_type (type_of t) ∷ []), types_length ts)

slice_types : (us : List Tree) (i k : ℕ) (e : Tree) → i + k + 1 ≡ length us → slice_get (types_for us) i ≡ Some (some_type (type_of (get_or us k e)))
slice_types [] i k e n = absurd (omega (arith, n))
slice_types (t ∷ ts) i zero e n = slice_after (types_for ts) (some_type (type_of t) ∷ []) i 0 (omega (arith, n, types_length ts))
slice_types (t ∷ ts) i (suc k) e n = slice_front (types_for ts) (some_type (type_of t) ∷ []) i (omega (arith, n, types_length ts)) ∙ slice_types ts i k e (omega (arith, n))

same_slices : (xs ys : List Tree) → length xs ≡ length ys → ((i : ℕ) → i < length ys → slice_get xs i ≡ slice_get ys i) → xs ≡ ys
same_slices [] [] n f = refl
same_slices [] (y ∷ ys) n f = absurd (omega (arith, n))
same_slices (x ∷ xs) [] n f = absurd (omega (arith, n))
same_slices (x ∷ xs) (y ∷ ys) n f = let p : Some x ≡ Some y = f 0 (omega arith) in cc (p, same_slices xs ys (omega (arith, n)) (λ i l. f (suc i) (omega (arith, l))))

pub types_same : (v : Vocabulary) (tys us : List Tree) → AreFor v tys us → types_for us ≡ tys
types_same v tys us a = same_slices (types_for us) tys (types_length us ∙ a.as_many) at
  where
    at : (i : ℕ) → i < length tys → slice_get (types_for us) i ≡ slice_get tys i
    at i l =
        let p = present tys i l in
        let k : ℕ = length us - (i + 1) in
        let n : i + k + 1 ≡ length us = omega (arith, l, a.as_many) in
        slice_types us i k (Leaf HEnd) n ∙ ap (λ (o : Option Tree). Some (some_type o)) (a.each i k p.0 (Leaf HEnd) p.1 n).type ∙ sym p.1

-- ---- a branch at an environment
module _ (t : TaskTree) (types env : List Tree) (n : ℕ) (p a q y : Tree) (k : IsAt t types env (Two HArm p a) (Two HArm q y) n) where
  arm_is : Two HArm q y ≡ Two HArm (inst_many p env) (change (instantiating_many env) (0 + pat_vars p) a)
  arm_is = k.is

  pub arm_pattern : q ≡ p
  arm_pattern = let e : q ≡ inst_many p env = cc (arm_is) in e ∙ pattern_same (of_task t) types env 0 p k.shape.typed.2 k.shape.typed.0.0.0

  -- its body at the terms for the pattern's variables
  pub arm_body : (us : List Tree) → AreFor (of_task t) (pattern_types p) us → All IsGround us → All (λ e. above_params e ≤ n) us → IsAt t (pattern_types p ++ types) (env ++ us) a (inst_many y us) n
  arm_body us f g b =
      let c = bound_count HArm p a k.shape.typed.0 (typed_sorted (of_task t) types p k.shape.typed.2) in
      let m : length us ≡ 0 + pat_vars p = omega (arith, f.as_many, c) in
      let e : y ≡ change (instantiating_many env) (0 + pat_vars p) a = cc (arm_is) in
      record {
        around = environment_joined t (pattern_types p) types us env n f g b k.around;
        shape = record { typed = k.shape.typed.3; ground = k.shape.ground.1; above = omega (arith, k.shape.above) };
        is = ap (λ (z : Tree). inst_many z us) e ∙ inst_many_under env us (0 + pat_vars p) (closed_for (of_task t) types env k.around.terms) m a;
      }

-- ---- a `match` with a branch first
pub case_sort : (x p a r : Tree) → IsExpression (sort_of a) → sort_of (Two HCase x (Two HCell (Two HArm p a) r)) ≡ sort_of a
case_sort x p a r e = expression_sort a e

pub case_type : (x p a r : Tree) → IsExpression (sort_of a) → type_of (Two HCase x (Two HCell (Two HArm p a) r)) ≡ type_of a
case_type x p a r e = sym (expression_type a e)

branch_no_list : Branch ≡ sort.List → ⊥
branch_no_list q = cc

-- made of a scrutinee, a branch and the other branches
module _ (t : TaskTree) (types env : List Tree) (n : ℕ) (x p b r : Tree) (around : IsEnvironment t types env n) (sx : sort_of x ≡ Term) (ox : IsOpenUnder t types x n) (sp : sort_of p ≡ Pattern) (op : IsOpenUnder t types p n) (qp : type_of p ≡ type_of x) (sb : IsExpression (sort_of b))
    (ob : IsOpenUnder t (pattern_types p ++ types) b n) (lr : IsList Branch r) (or : IsOpenUnder t types r n) (fr : BranchesFit (type_of x) b r) where
  arms_typed : TypedUnder (of_task t) types (Two HCell (Two HArm p b) r)
  arms_typed = ((((λ q. branch_no_list q), lr), tt), tt, (((sp, sb), tt), tt, op.typed, ob.typed), or.typed)

  pub case_open : IsOpenUnder t types (Two HCase x (Two HCell (Two HArm p b) r)) n
  case_open = record {
    typed = (((sx, (refl, inr refl)), refl), ((qp, refl, refl), fr), ox.typed, arms_typed);
    ground = (ox.ground, ((op.ground, ob.ground), or.ground));
    above = omega (arith, ox.above, op.above, ob.above, or.above);
  }

  pub case_at : IsAt t types env (Two HCase x (Two HCell (Two HArm p b) r)) (inst_many (Two HCase x (Two HCell (Two HArm p b) r)) env) n
  case_at = record { around = around; shape = case_open; is = refl }

  -- its instance
  pub case_instance : inst_many (Two HCase x (Two HCell (Two HArm p b) r)) env ≡ Two HCase (inst_many x env) (Two HCell (Two HArm p (change (instantiating_many env) (0 + pat_vars p) b)) (inst_many r env))
  case_instance = ap (λ (z : Tree). Two HCase (inst_many x env) (Two HCell (Two HArm z (change (instantiating_many env) (0 + pat_vars p) b)) (inst_many r env))) (pattern_same (of_task t) types env 0 p op.typed sp)

  -- whose first body at terms for the pattern's variables is the body's instance there
  pub case_body : (us : List Tree) → AreFor (of_task t) (pattern_types p) us → inst_many (change (instantiating_many env) (0 + pat_vars p) b) us ≡ inst_many b (env ++ us)
  case_body us f =
      let c = bound_count HArm p b ((sp, sb), tt) (typed_sorted (of_task t) types p op.typed) in
      let m : length us ≡ 0 + pat_vars p = omega (arith, f.as_many, c) in
      inst_many_under env us (0 + pat_vars p) (closed_for (of_task t) types env around.terms) m b
