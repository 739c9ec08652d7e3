-- A universal formula taken at a closed term: the script, and that the instance is a formula.
use Rattle.std.proofs.Common.{◌≡◌, ℕ, List, [], ◌∷◌, Some, subst, refl, sym, ap, ◌∙◌, arith}
use Rattle.trees.specs.declared.TermId.{TermId}
use Rattle.trees.specs.Tree.{Tree, Two, HCell, HForall}
use Rattle.trees.specs.declared.Node.{Node}
use Rattle.trees.specs.declared.Node.TheVariants.{Cell}
use Rattle.trees.specs.Node.{tree_at, node_tree, Holds}
use Rattle.trees.specs.Binding.{inst}
use Rattle.trees.specs.Sorts.{type_of}
use Rattle.tasks.specs.Task.{TaskTree, neg}
use Rattle.tasks.specs.Typing.{members}
use Rattle.tasks.specs.Vocabulary.{of_task}
use Rattle.tasks.specs.Valid.{IsGroundFormula}
use Rattle.tasks.proofs.Closing.{typed_closed}
use Rattle.congruence.specs.tasks.typed_trees.instances.Instances.{IsTermOf, IsClosedTerm, IsInstance}
use Rattle.congruence.specs.kernel.Right.{IsGroundExpression}
use Rattle.congruence.specs.kernel.rules.Trees.{RForall, RClash}
use Rattle.congruence.proofs.Later.{tree_later}
use Rattle.evidence.specs.Drafts.{DraftTree, Extends, Refutes, IsFormulaAt}
use Rattle.evidence.proofs.Formulas.{formula_later}
use Rattle.evidence.proofs.Rules.{refutes_later}
use Rattle.inlining.specs.images.Instances.{for_all_at}
use Rattle.evidence.specs.proof_scripts.Scripts.{KeptLine, CutLine, TailLine, Follows}
use Rattle.evidence.proofs.proof_scripts.Lines.{clash_line, forall_line}
use Rattle.tr_inline.specs.declared.lemmas.Lemma.{Lemma}
use Rattle.tr_inline.specs.Lemmas.{IsLemma, TakesTerm, TakesTerms}

module _ (d : DraftTree) (step : ℕ) where
  taken : (ty b u : Tree) → type_of u ≡ Some ty → IsGroundExpression d.task u → Refutes d step (neg (Two HForall ty b) ∷ [])
      → Follows d [] (CutLine (Two HForall ty b) ∷ TailLine (RForall 1 u) ∷ TailLine (RClash 2 0) ∷ KeptLine step (1 ∷ []) ∷ []) ((neg (inst b u) ∷ []) ∷ [])
  taken ty b u q g r =
      let f = Two HForall ty b in
      let e = inst b u in
      (forall_line d.task (neg e ∷ f ∷ []) 1 ty b u refl q g, tt, (clash_line d.task (neg e ∷ f ∷ e ∷ []) 2 0 e refl refl, tt, (record { kept = neg f ∷ []; are = refl; refutes = r }, tt)))

  -- the same, of trees that are these
  pub taken_at : (w t n ty b u : Tree) → w ≡ Two HForall ty b → t ≡ u → n ≡ neg (inst b u) → type_of u ≡ Some ty → IsGroundExpression d.task u → Refutes d step (neg (Two HForall ty b) ∷ [])
      → Follows d [] (CutLine w ∷ TailLine (RForall 1 t) ∷ TailLine (RClash 2 0) ∷ KeptLine step (1 ∷ []) ∷ []) ((n ∷ []) ∷ [])
  taken_at w t n ty b u e p q o g r =
      let f = Two HForall ty b in
      let by_n = subst (λ (z : Tree). Follows d [] (CutLine f ∷ TailLine (RForall 1 u) ∷ TailLine (RClash 2 0) ∷ KeptLine step (1 ∷ []) ∷ []) ((z ∷ []) ∷ [])) (sym q) (taken ty b u o g r) in
      let by_t = subst (λ (z : Tree). Follows d [] (CutLine f ∷ TailLine (RForall 1 z) ∷ TailLine (RClash 2 0) ∷ KeptLine step (1 ∷ []) ∷ []) ((n ∷ []) ∷ [])) (sym p) by_n in
      subst (λ (z : Tree). Follows d [] (CutLine z ∷ TailLine (RForall 1 t) ∷ TailLine (RClash 2 0) ∷ KeptLine step (1 ∷ []) ∷ []) ((n ∷ []) ∷ [])) (sym e) by_t

-- the instance is a formula
module _ (t : TaskTree) (f a : Tree) (w : TakesTerm t f a) where
  pub closed_term : IsClosedTerm a
  closed_term = let l = typed_closed (of_task t) [] a w.ground.typed in record { sort = w.term; closed = omega (arith, l) }

  pub taken_formula : (body made : Tree) → body ≡ w.body → IsGroundFormula t f → IsInstance body a made → IsGroundFormula t made
  taken_formula body made q g i =
      let h : IsGroundFormula t (Two HForall w.ty body) = subst (λ (z : Tree). IsGroundFormula t (Two HForall w.ty z)) (sym q) (subst (IsGroundFormula t) w.is g) in
      let term : IsTermOf (of_task t) w.ty a = record { sort = w.term; typed = w.ground.typed; type = w.type } in
      record {
        sort = i.sort ∙ h.typed.0.0.1;
        typed = i.typed (of_task t) w.ty term h.typed.3;
        ground = i.variables 0 w.ground.ground h.ground.1;
      }

-- ---- lists of terms
-- what the first term of a list is for, and the others
pub first_taken : (t : TaskTree) (f ts a b : Tree) → ts ≡ Two HCell a b → TakesTerms t f ts → TakesTerm t f a
first_taken t f ts a b q h = (subst (TakesTerms t f) q h).0

pub rest_taken : (t : TaskTree) (f ts a b next : Tree) → ts ≡ Two HCell a b → (h : TakesTerms t f ts) → ((ty body : Tree) → f ≡ Two HForall ty body → next ≡ inst body a) → TakesTerms t next b
rest_taken t f ts a b next q h e =
    let all : TakesTerms t f (Two HCell a b) = subst (TakesTerms t f) q h in
    subst (λ (z : Tree). TakesTerms t z b) (sym (e all.0.ty all.0.body all.0.is)) all.1

pub all_taken : (t : TaskTree) (f ts a b next made : Tree) → ts ≡ Two HCell a b → (h : TakesTerms t f ts) → ((ty body : Tree) → f ≡ Two HForall ty body → next ≡ inst body a) → made ≡ for_all_at next (members b) → made ≡ for_all_at f (members ts)
all_taken t f ts a b next made q h e m =
    let w : TakesTerm t f a = first_taken t f ts a b q h in
    m ∙ ap (λ (z : Tree). for_all_at z (members b)) (e w.ty w.body w.is) ∙ ap (λ (z : Tree). for_all_at z (a ∷ members b)) (sym w.is) ∙ ap (λ (z : Tree). for_all_at f (members z)) (sym q)

-- a list without members
pub none_taken : (f : Tree) (s : List Tree) (n : Node) → ((a b : TermId) → n ≡ Cell a b → ⊥) → for_all_at f (members (node_tree s n)) ≡ f
none_taken f s (Cell a b) g = absurd (g a b refl)
none_taken f s _ g = refl

-- ---- later
module _ (d d1 : DraftTree) (x : Extends d d1) where
  pub lemma_later : (m : Lemma) → IsLemma d m → IsLemma d1 m
  lemma_later m h = record { formula = formula_later d d1 x m.formula h.formula; refutes = subst (λ (z : Tree). Refutes d1 m.step (neg z ∷ [])) (sym (tree_later d d1 x m.formula h.formula.held)) (refutes_later d d1 x m.step _ h.refutes) }

  pub takes_terms_later : (f : Tree) (terms : TermId) → Holds d.trees terms → TakesTerms d.task f (tree_at d.trees terms) → TakesTerms d1.task f (tree_at d1.trees terms)
  takes_terms_later f terms h w = subst (λ (t : TaskTree). TakesTerms t f (tree_at d1.trees terms)) (sym x.task) (subst (TakesTerms d.task f) (sym (tree_later d d1 x terms h)) w)

  module _ (formula term : TermId) where
    pub takes_term_later : Holds d.trees formula → Holds d.trees term → TakesTerm d.task (tree_at d.trees formula) (tree_at d.trees term) → TakesTerm d1.task (tree_at d1.trees formula) (tree_at d1.trees term)
    takes_term_later hf ht w =
        subst (λ (t : TaskTree). TakesTerm t (tree_at d1.trees formula) (tree_at d1.trees term)) (sym x.task)
        (subst (λ (z : Tree). TakesTerm d.task z (tree_at d1.trees term)) (sym (tree_later d d1 x formula hf)) (subst (TakesTerm d.task (tree_at d.trees formula)) (sym (tree_later d d1 x term ht)) w))

    pub instance_formula : IsFormulaAt d formula → (w : TakesTerm d.task (tree_at d.trees formula) (tree_at d.trees term)) → (body : Tree) → body ≡ w.body → (made : TermId) → Holds d1.trees made → IsInstance body (tree_at d.trees term) (tree_at d1.trees made) → IsFormulaAt d1 made
    instance_formula f w body q made h i = record {
      held = h;
      ground = subst (λ (t : TaskTree). IsGroundFormula t (tree_at d1.trees made)) (sym x.task) (taken_formula d.task (tree_at d.trees formula) (tree_at d.trees term) w body (tree_at d1.trees made) q f.ground i);
    }
