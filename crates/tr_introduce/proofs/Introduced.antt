-- One introduction more, over a store that grows.
use Rattle.std.proofs.Common.{◌≡◌, ℕ, zero, suc, ◌+◌, ◌<◌, ◌⊎◌, inl, inr, List, [], ◌∷◌, ◌++◌, All, length, refl, sym, ap, subst, ◌∙◌, arith}
use Rattle.std.proofs.lemmas.Bool.{cases_order}
use Rattle.std.proofs.lemmas.List.{map-append, length-map}
use Rattle.std.proofs.lemmas.List.Elements.{All-push}
use Rattle.trees.specs.declared.Op.TheVariants.{Imp}
use Rattle.trees.specs.declared.TermId.{TermId}
use Rattle.trees.specs.Tree.{Tree, Leaf, One, Two, Three, Head, HTyVar, HBound, HParam, HForall, HJoin}
use Rattle.trees.specs.Binding.{change, leaf_by, one_by, inst, instantiating, Param}
use Rattle.trees.specs.Node.{tree_at, Holds, Grows}
use Rattle.trees.specs.laws.Indices.{inst_below, inst_at, inst_above}
use Rattle.tasks.specs.Meaning.{trees_at}
use Rattle.tasks.proofs.Growth.{trees_later, all_held_later}
use Rattle.tr_introduce.specs.Introduce.{Judgement, introduced_from, introduced_once, introduced_by, introduced, prefix, judgement_at}
use Rattle.tr_introduce.specs.Held.{IsHeld}

-- a parameter put in leaves what a formula begins with
module _ (n : ℕ) (ty : Tree) where
  bound_none : (d i : ℕ) (x : Tree) → (i ≡ d) ⊎ ((i < d) ⊎ (d < i)) → prefix ((instantiating (Param n ty)).bound d i x) ≡ 0
  bound_none d i x (inl e) = ap prefix (inst_at (Param n ty) d i x e)
  bound_none d i x (inr (inl l)) = ap prefix (inst_below (Param n ty) d i x l)
  bound_none d i x (inr (inr l)) = ap prefix (inst_above (Param n ty) d i x l)

  leaf_none : (h : Head) → prefix (leaf_by (instantiating (Param n ty)) h) ≡ 0
  leaf_none (HTyVar j) = refl
  leaf_none _ = refl

  one_none : (d : ℕ) (h : Head) (x : Tree) → prefix (one_by (instantiating (Param n ty)) d h x) ≡ 0
  one_none d (HBound i) x = bound_none d i x (cases_order i d)
  one_none d (HParam m) x = refl
  one_none d _ x = refl

  prefix_at : (d : ℕ) (e : Tree) → prefix (change (instantiating (Param n ty)) d e) ≡ prefix e
  prefix_at d (Leaf h) = leaf_none h
  prefix_at d (One h a) = one_none d h (change (instantiating (Param n ty)) d a)
  prefix_at d (Two HForall a b) = ap suc (prefix_at (d + 1) b)
  prefix_at d (Two (HJoin Imp) a b) = ap suc (prefix_at (d + 0) b)
  prefix_at d (Two _ a b) = refl
  prefix_at d (Three h a b c) = refl

  pub prefix_inst : (e : Tree) → prefix (inst e (Param n ty)) ≡ prefix e
  prefix_inst e = prefix_at 0 e

-- what is introduced from a quantifier, and from an implication
pub of_universal : (params locals : List Tree) (goal ty a : Tree) → goal ≡ Two HForall ty a
    → introduced (record { params = params; locals = locals; goal = goal }) ≡ introduced (record { params = params ++ ty ∷ []; locals = locals; goal = inst a (Param (length params) ty) })
of_universal params locals goal ty a e =
    let j : Judgement = record { params = params ++ ty ∷ []; locals = locals; goal = inst a (Param (length params) ty) } in
    ap (λ (g : Tree). introduced (record { params = params; locals = locals; goal = g })) e ∙ ap (λ (n : ℕ). introduced_by n j) (sym (prefix_inst (length params) ty a))

pub of_implication : (params locals : List Tree) (goal a b : Tree) → goal ≡ Two (HJoin Imp) a b
    → introduced (record { params = params; locals = locals; goal = goal }) ≡ introduced (record { params = params; locals = locals ++ a ∷ []; goal = b })
of_implication params locals goal a b e = ap (λ (g : Tree). introduced (record { params = params; locals = locals; goal = g })) e

pub of_neither : (params locals : List Tree) (goal : Tree) → prefix goal ≡ 0
    → introduced (record { params = params; locals = locals; goal = goal }) ≡ record { params = params; locals = locals; goal = goal }
of_neither params locals goal e = ap (λ (n : ℕ). introduced_by n (record { params = params; locals = locals; goal = goal })) e

-- nothing is left to introduce
from_less : (j : Judgement) (e : Tree) (n : ℕ) → j.goal ≡ e → prefix e ≡ suc n → prefix (introduced_from j e).goal ≡ n
from_less j (Two HForall ty a) n g q = prefix_inst (length j.params) ty a ∙ omega (arith, q)
from_less j (Two (HJoin Imp) a b) n g q = omega (arith, q)
from_less j (Leaf h) n g q = absurd (omega (arith, q))
from_less j (One h a) n g q = absurd (omega (arith, q))
from_less j (Three h a b c) n g q = absurd (omega (arith, q))
from_less j (Two _ a b) n g q = absurd (omega (arith, q))

by_all : (n : ℕ) (j : Judgement) → prefix j.goal ≡ n → prefix (introduced_by n j).goal ≡ 0
by_all zero j q = q
by_all (suc n) j q = by_all n (introduced_once j) (from_less j j.goal n refl q)

pub nothing_left : (j : Judgement) → prefix (introduced j).goal ≡ 0
nothing_left j = by_all (prefix j.goal) j refl

-- ---- numbers
abbrev judged : List Tree → List Tree → Tree → Judgement
judged params locals goal = record { params = params; locals = locals; goal = goal }

same_judgement : (a b c d : List Tree) (e f : Tree) → a ≡ b → c ≡ d → e ≡ f → judged a c e ≡ judged b d f
same_judgement a b c d e f p q r = ap (λ (z : List Tree). judged z c e) p ∙ ap (λ (z : List Tree). judged b z e) q ∙ ap (judged b d) r

module _ (s s' : List Tree) (params locals : List TermId) (goal : TermId) (g : Grows s s') (h : IsHeld s params locals goal) where
  pub held_universal : (ty opened : TermId) (ps : List TermId) → Holds s ty → Holds s' opened → ps ≡ params ++ ty ∷ [] → IsHeld s' ps locals opened
  held_universal ty opened ps k o e = record {
    params = subst (All (Holds s')) (sym e) (all_held_later s s' g (params ++ ty ∷ []) (All-push (Holds s) params ty h.params k));
    locals = all_held_later s s' g locals h.locals;
    goal = o;
  }

  pub is_universal : (ty a opened : TermId) (ps : List TermId) → Holds s ty → ps ≡ params ++ ty ∷ [] → tree_at s goal ≡ Two HForall (tree_at s ty) (tree_at s a)
      → tree_at s' opened ≡ inst (tree_at s a) (Param (length params) (tree_at s ty)) → introduced (judgement_at s' ps locals opened) ≡ introduced (judgement_at s params locals goal)
  is_universal ty a opened ps k e q o =
      let n : length (trees_at s params) ≡ length params = length-map params (tree_at s) in
      let t : tree_at s' ty ≡ tree_at s ty = g.same ty.0 k in
      let ps_are : trees_at s' ps ≡ trees_at s params ++ tree_at s ty ∷ [] = ap (trees_at s') e ∙ map-append (tree_at s') params (ty ∷ []) ∙ cc (trees_later s s' g params h.params, t) in
      let goal_is : tree_at s' opened ≡ inst (tree_at s a) (Param (length (trees_at s params)) (tree_at s ty)) = o ∙ ap (λ (m : ℕ). inst (tree_at s a) (Param m (tree_at s ty))) (sym n) in
      let j : judgement_at s' ps locals opened ≡ record { params = trees_at s params ++ tree_at s ty ∷ []; locals = trees_at s locals; goal = inst (tree_at s a) (Param (length (trees_at s params)) (tree_at s ty)) } =
      same_judgement _ _ _ _ _ _ ps_are (trees_later s s' g locals h.locals) goal_is in
      ap introduced j ∙ sym (of_universal (trees_at s params) (trees_at s locals) (tree_at s goal) (tree_at s ty) (tree_at s a) q)

  pub held_implication : (a b : TermId) (ls : List TermId) → Holds s a → Holds s b → ls ≡ locals ++ a ∷ [] → IsHeld s params ls b
  held_implication a b ls x y e = record { params = h.params; locals = subst (All (Holds s)) (sym e) (All-push (Holds s) locals a h.locals x); goal = y }

  pub is_implication : (a b : TermId) (ls : List TermId) → ls ≡ locals ++ a ∷ [] → tree_at s goal ≡ Two (HJoin Imp) (tree_at s a) (tree_at s b)
      → introduced (judgement_at s params ls b) ≡ introduced (judgement_at s params locals goal)
  is_implication a b ls e q =
      let ls_are : trees_at s ls ≡ trees_at s locals ++ tree_at s a ∷ [] = ap (trees_at s) e ∙ map-append (tree_at s) locals (a ∷ []) in
      ap (λ (z : List Tree). introduced (judged (trees_at s params) z (tree_at s b))) ls_are ∙ sym (of_implication (trees_at s params) (trees_at s locals) (tree_at s goal) (tree_at s a) (tree_at s b) q)
