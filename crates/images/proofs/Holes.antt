-- Trees with a hole, the variable 0, in one place: what they are with a closed term in it.
use Rattle.std.proofs.Common.{◌≡◌, ℕ, ◌+◌, ◌≤◌, List, [], ◌∷◌, ◌++◌, map, length, refl, sym, ap, ◌∙◌, arith}
use Rattle.trees.specs.Tree.{Tree, Two, Three, HCell, HLet, HCase, HEq, HFun, HPred, loose, pat_vars}
use Rattle.trees.specs.Binding.{change, instantiating, inst, instantiating_many, inst_many, AreClosed, AreNoPatterns, Bound}
use Rattle.trees.specs.laws.Changes.{change_closed}
use Rattle.trees.specs.laws.Indices.{inst_at}
use Rattle.trees.proofs.Laws.{keeps_inst, shift_closed, inst_closed}
use Rattle.trees.proofs.Many.{closed_terms, length_joined, keeps_many, inst_is_many, inst_many_under, inst_many_inst_many}
use Rattle.images.specs.Templates.{listed, AreAllClosed}

module _ (x : Tree) (closed : loose x ≡ 0) where
  -- the hole itself
  pub hole_here : (ty : Tree) → inst (Bound 0 ty) x ≡ x
  hole_here ty = inst_at x 0 0 (inst ty x) refl ∙ shift_closed x 0 0 (omega arith)

  -- what is closed beside the hole
  pub hole_beside : (e : Tree) → loose e ≡ 0 → inst e x ≡ e
  hole_beside e l = inst_closed e x (omega arith)

  -- the value of a `let`
  pub hole_let : (ty b : Tree) → loose b ≤ 1 → inst (Two HLet (Bound 0 ty) b) x ≡ Two HLet x b
  hole_let ty b l = cc (hole_here ty, change_closed (instantiating x) (keeps_inst x) 1 b l)

  -- the scrutinee of a `match`
  pub hole_case : (ty arms : Tree) → loose arms ≡ 0 → inst (Two HCase (Bound 0 ty) arms) x ≡ Two HCase x arms
  hole_case ty arms l = cc (hole_here ty, hole_beside arms l)

  -- a side of an equation
  pub hole_left : (ty e : Tree) → loose e ≡ 0 → inst (Two HEq (Bound 0 ty) e) x ≡ Two HEq x e
  hole_left ty e l = cc (hole_here ty, hole_beside e l)

  pub hole_right : (ty e : Tree) → loose e ≡ 0 → inst (Two HEq e (Bound 0 ty)) x ≡ Two HEq e x
  hole_right ty e l = cc (hole_here ty, hole_beside e l)

  -- an argument of a symbol: a list with the hole after so many closed members
  pub hole_listed : (before : List Tree) (ty rest : Tree) → AreAllClosed before → loose rest ≡ 0 → inst (listed before (Two HCell (Bound 0 ty) rest)) x ≡ listed before (Two HCell x rest)
  hole_listed [] ty rest c l = cc (hole_here ty, hole_beside rest l)
  hole_listed (a ∷ as') ty rest c l = cc (hole_beside a c.0, hole_listed as' ty rest c.1 l)

  pub hole_function : (f : ℕ) (types ty : Tree) (before : List Tree) (at rest : Tree) → loose types ≡ 0 → loose ty ≡ 0 → AreAllClosed before → loose rest ≡ 0
      → inst (Three (HFun f) types (listed before (Two HCell (Bound 0 at) rest)) ty) x ≡ Three (HFun f) types (listed before (Two HCell x rest)) ty
  hole_function f types ty before at rest k m c l = cc (hole_beside types k, hole_listed before at rest c l, hole_beside ty m)

  pub hole_predicate : (p : ℕ) (types : Tree) (before : List Tree) (at rest : Tree) → loose types ≡ 0 → AreAllClosed before → loose rest ≡ 0
      → inst (Two (HPred p) types (listed before (Two HCell (Bound 0 at) rest))) x ≡ Two (HPred p) types (listed before (Two HCell x rest))
  hole_predicate p types before at rest k c l = cc (hole_beside types k, hole_listed before at rest c l)

-- ---- a hole among the terms for the open variables of a tree
module _ (x : Tree) (closed : loose x ≡ 0) (term : pat_vars x ≡ 0) where
  filled : (before following : List Tree) (ty : Tree) → AreClosed before → AreClosed following → map (λ s. inst_many s (x ∷ [])) (before ++ Bound 0 ty ∷ following) ≡ before ++ x ∷ following
  filled [] following ty a b = cc (inst_is_many (Bound 0 ty) x ∙ hole_here x closed ty, same following b)
    where
      same : (es : List Tree) → AreClosed es → map (λ s. inst_many s (x ∷ [])) es ≡ es
      same [] c = refl
      same (e ∷ es) c = cc (inst_is_many e x ∙ hole_beside x closed e c.0.0, same es c.1)
  filled (e ∷ before) following ty a b = cc (inst_is_many e x ∙ hole_beside x closed e a.0.0, filled before following ty a.1 b)

  patterns : (before following : List Tree) (ty : Tree) → AreClosed before → AreClosed following → AreNoPatterns (before ++ Bound 0 ty ∷ following)
  patterns [] following ty a b = (refl, closed_terms following b)
  patterns (e ∷ before) following ty a b = (a.0.1, patterns before following ty a.1 b)

  -- what fills the hole is put in for its variable
  pub template_filled : (e ty : Tree) (before following : List Tree) → loose e ≤ length before + (1 + length following) → AreClosed before → AreClosed following
      → inst (inst_many e (before ++ Bound 0 ty ∷ following)) x ≡ inst_many e (before ++ x ∷ following)
  template_filled e ty before following l a b =
      let n : length (before ++ x ∷ following) ≡ length before + (1 + length following) = omega (arith, length_joined before (x ∷ following)) in
      let same : change (instantiating_many (x ∷ [])) (length (before ++ x ∷ following)) e ≡ e = change_closed (instantiating_many (x ∷ [])) (keeps_many (x ∷ [])) (length (before ++ x ∷ following)) e (omega (arith, n, l)) in
      sym (inst_is_many (inst_many e (before ++ Bound 0 ty ∷ following)) x)
      ∙ inst_many_inst_many (x ∷ []) ((closed, term), tt) (before ++ Bound 0 ty ∷ following) (patterns before following ty a b) e
      ∙ ap (λ (es : List Tree). inst_many e (x ∷ es)) (filled before following ty a b)
      ∙ sym (inst_many_under (x ∷ []) (before ++ x ∷ following) (length (before ++ x ∷ following)) ((closed, term), tt) refl e)
      ∙ ap (λ (z : Tree). inst_many z (before ++ x ∷ following)) same
