-- Types at the types of a use, and at assigned unknowns.
use Rattle.std.proofs.Common.{◌≡◌, ℕ, ◌+◌, ◌<◌, zero, suc, Bool, true, List, [], ◌∷◌, map, length, get_or, refl, sym, ap, subst, ◌∙◌, arith}
use Rattle.elab_groups.specs.trees.Tree.{Tree, Leaf, One, Two, Three, Head, HTyVar, HBound, HParam, binders_over}
use Rattle.elab_groups.specs.trees.Binding.{inst_types, typing, change, leaf_by, one_by, TyVar}
use Rattle.elab_groups.specs.trees.Facts.{TyVarsBelow, leaf_below}
use Rattle.elab_groups.specs.tasks.Equations.{cells, type_variables}
use Rattle.elab_groups.specs.tasks.Vocabulary.{Vocabulary}
use Rattle.elab_groups.specs.open_types.unify_types.Assigned.{assign, leaf_assigned}
use Rattle.elab_groups.proofs.open_types.unify_types.Assigning.{assign-unknown}
use Rattle.elaboration_laws.proofs.Over.{IsOver, AreOver, over_assigned}

-- the types of a use in place of type variables, as an assignment
module _ (ts : List Tree) where
  abbrev pub put : ℕ → Tree
  put j = get_or ts j (TyVar j)

  leaf_put : (h : Head) → leaf_by (typing ts) h ≡ leaf_assigned 0 put h
  leaf_put (HTyVar j) = sym (assign-unknown 0 put j (omega arith))
  leaf_put _ = refl

  one_put : (d : ℕ) (h : Head) (a : Tree) → one_by (typing ts) d h a ≡ One h a
  one_put d (HBound i) a = refl
  one_put d (HParam n) a = refl
  one_put d _ a = refl

  pub put_assigns : (d : ℕ) (e : Tree) → change (typing ts) d e ≡ assign 0 put e
  put_assigns d (Leaf h) = leaf_put h
  put_assigns d (One h a) = one_put d h (change (typing ts) d a) ∙ ap (One h) (put_assigns d a)
  put_assigns d (Two h a b) = cc (put_assigns d a, put_assigns (d + binders_over h a) b)
  put_assigns d (Three h a b c) = cc (put_assigns d a, put_assigns d b, put_assigns d c)

module _ (v : Vocabulary) where
  pub put_over : (ts : List Tree) → AreOver v ts → (j : ℕ) (d : Tree) → IsOver v true d → IsOver v true (get_or ts j d)
  put_over [] o j d h = h
  put_over (t ∷ ts) o zero d h = o.0
  put_over (t ∷ ts) o (suc j) d h = put_over ts o.1 j d h

  pub inst_over : (k : Bool) (ts : List Tree) → AreOver v ts → (e : Tree) → IsOver v k e → IsOver v k (inst_types e ts)
  inst_over k ts o e h = subst (IsOver v k) (sym (put_assigns ts 0 e)) (over_assigned v 0 (put ts) (λ j. put_over ts o j (TyVar j) tt) k e h)

  pub variables_over : (n k : ℕ) → AreOver v (type_variables n k)
  variables_over n zero = tt
  variables_over n (suc k) = (tt, variables_over (n + 1) k)

  pub all_assigned_over : (r : ℕ) (f : ℕ → Tree) → ((j : ℕ) → IsOver v true (f j)) → (ts : List Tree) → AreOver v ts → AreOver v (map (assign r f) ts)
  all_assigned_over r f g [] o = tt
  all_assigned_over r f g (t ∷ ts) o = (over_assigned v r f g true t o.0, all_assigned_over r f g ts o.1)

-- ---- at assigned unknowns
module _ (r : ℕ) (f : ℕ → Tree) where
  pub cells_assigned : (ts : List Tree) → assign r f (cells ts) ≡ cells (map (assign r f) ts)
  cells_assigned [] = refl
  cells_assigned (t ∷ ts) = cc (cells_assigned ts)

  got_assigned : (ts : List Tree) (j : ℕ) (d d' : Tree) → j < length ts → assign r f (get_or ts j d) ≡ get_or (map (assign r f) ts) j d'
  got_assigned [] j d d' l = absurd (omega arith)
  got_assigned (t ∷ ts) zero d d' l = refl
  got_assigned (t ∷ ts) (suc j) d d' l = got_assigned ts j d d' (omega arith)

  module _ (ts : List Tree) where
    leaf_inst : (h : Head) → leaf_below h (length ts) → assign r f (leaf_by (typing ts) h) ≡ leaf_by (typing (map (assign r f) ts)) h
    leaf_inst (HTyVar j) l = got_assigned ts j (TyVar j) (TyVar j) l
    leaf_inst _ l = refl

    one_inst : (d : ℕ) (h : Head) (a b : Tree) → assign r f a ≡ b → assign r f (one_by (typing ts) d h a) ≡ one_by (typing (map (assign r f) ts)) d h b
    one_inst d (HBound i) a b q = ap (One (HBound i)) q
    one_inst d (HParam n) a b q = ap (One (HParam n)) q
    one_inst d h a b q = ap (One h) q

    change_assigned : (d : ℕ) (e : Tree) → TyVarsBelow (length ts) e → assign r f (change (typing ts) d e) ≡ change (typing (map (assign r f) ts)) d e
    change_assigned d (Leaf h) l = leaf_inst h l
    change_assigned d (One h a) l = one_inst d h (change (typing ts) d a) _ (change_assigned d a l)
    change_assigned d (Two h a b) l = cc (change_assigned d a l.0, change_assigned (d + binders_over h a) b l.1)
    change_assigned d (Three h a b c) l = cc (change_assigned d a l.0, change_assigned d b l.1, change_assigned d c l.2)

    pub inst_assigned : (e : Tree) → TyVarsBelow (length ts) e → assign r f (inst_types e ts) ≡ inst_types e (map (assign r f) ts)
    inst_assigned e l = change_assigned 0 e l
