-- Starts of a task and of the rewritten one, in drafts that grow.
use Rattle.std.proofs.Common.{◌≡◌, ℕ, zero, suc, ◌+◌, ◌<◌, ◌≤◌, List, [], ◌∷◌, ◌++◌, map, take, length, get_or, slice_get, Some, All, refl, sym, ap, subst, ◌∙◌, arith, append_assoc}
use Rattle.std.proofs.lemmas.List.{map-append, length-map, get_or-map, get_or_default, take_more}
use Rattle.tasks.specs.trees.declared.TermId.{TermId}
use Rattle.tasks.specs.trees.Tree.{Tree, Leaf, HEnd, above_params}
use Rattle.tasks.specs.trees.Node.{tree_at, Holds, Grows}
use Rattle.tasks.specs.declared.task.Task.{Task}
use Rattle.tasks.specs.Task.{TaskTree, neg, start}
use Rattle.tasks.specs.Meaning.{trees_at}
use Rattle.tasks.specs.Valid.{IsGroundFormula}
use Rattle.evidence.specs.Drafts.{DraftTree, Extends, Refutes, IsFormulaAt, AreFormulas}
use Rattle.evidence.proofs.Rules.{refutes_later}
use Rattle.evidence.proofs.Formulas.{same, formula_later, formulas_later, both_formulas}
use Rattle.evidence.proofs.Owned.{own_locals}
use Rattle.evidence.proofs.Lifted.{own_later}
use Rattle.evidence.proofs.Ends.{wider_formulas}
use Rattle.evidence.proofs.task_parts.Own.{own_below}
use Rattle.evidence.proofs.task_parts.Own.{own_count as params_count}
use Rattle.walking.specs.declared.rewriting.gluing.Half.{Half}
use Rattle.walking.specs.rewriting.Starts.{CanGlueStart, AreLocalImages, IsHalf, IsHalfFor, tree_or}

-- ---- later
module _ (d d1 : DraftTree) (x : Extends d d1) where
  pub ready_later : (ready : TaskTree → List Tree → Type 0) → ((t : TaskTree) (s s1 : List Tree) → Grows s s1 → ready t s → ready t s1) → ready d.task d.trees → ready d1.task d1.trees
  ready_later ready stays r = subst (λ (t : TaskTree). ready t d1.trees) (sym x.task) (stays d.task d.trees d1.trees x.trees r)

  pub can_glue_later : (ready : TaskTree → List Tree → Type 0) → ((t : TaskTree) (s s1 : List Tree) → Grows s s1 → ready t s → ready t s1) → (from : Task) (n : TermId) → CanGlueStart ready d from n → CanGlueStart ready d1 from n
  can_glue_later ready stays from n c = record {
    is_ready = ready_later ready stays c.is_ready;
    own = own_later d d1 from x c.own;
    negated = formula_later d d1 x n c.negated;
    is = x.trees.same n.0 c.negated.held ∙ c.is ∙ ap (λ (t : TaskTree). neg t.goal) (sym x.task);
  }

  pub images_later : (g : TaskTree → Tree → Tree) (done : List TermId) → AreLocalImages d (g d.task) done → AreLocalImages d1 (g d1.task) done
  images_later g done a = record {
    formulas = formulas_later d d1 x done a.formulas;
    within = subst (λ (t : TaskTree). length done ≤ length t.locals) (sym x.task) a.within;
    are = same d d1 x done a.formulas ∙ a.are ∙ ap (λ (t : TaskTree). map (g t) (take (length done) t.locals)) (sym x.task);
  }

  pub half_later : (old new : Tree) (h : Half) → IsHalf d old new h → IsHalf d1 old new h
  half_later old new h a = record {
    formula = formula_later d d1 x h.image a.formula;
    is = x.trees.same h.image.0 a.formula.held ∙ a.is;
    refutes = refutes_later d d1 x h.step _ a.refutes;
  }

-- ---- sequents
module _ (d : DraftTree) (from : Task) (n : TermId) (ready : TaskTree → List Tree → Type 0) (c : CanGlueStart ready d from n) where
  abbrev starts : List TermId
  starts = from.locals ++ n ∷ []

  pub own_count : length from.locals ≡ length d.task.locals
  own_count = sym (length-map from.locals (tree_at d.trees)) ∙ ap (λ (t : TaskTree). length t.locals) c.own.is

  pub own_trees : trees_at d.trees from.locals ≡ d.task.locals
  own_trees = ap (λ (t : TaskTree). t.locals) c.own.is

  pub start_formulas : (ids : List TermId) → ids ≡ starts → AreFormulas d ids
  start_formulas ids e = wider_formulas d from.locals ids n e (own_locals d from c.own) c.negated

  pub start_trees : (ids : List TermId) → ids ≡ starts → trees_at d.trees ids ≡ start d.task
  start_trees ids e =
      ap (trees_at d.trees) e ∙ map-append (tree_at d.trees) from.locals (n ∷ []) ∙ ap (λ (z : List Tree). z ++ tree_at d.trees n ∷ []) own_trees ∙ ap (λ (z : Tree). d.task.locals ++ z ∷ []) c.is

  pub with_formulas : (done ids : List TermId) → ids ≡ starts ++ done → AreFormulas d done → AreFormulas d ids
  with_formulas done ids e f = both_formulas d starts done ids e (start_formulas starts refl) f

  pub with_trees : (done ids : List TermId) → ids ≡ starts ++ done → trees_at d.trees ids ≡ start d.task ++ trees_at d.trees done
  with_trees done ids e = ap (trees_at d.trees) e ∙ map-append (tree_at d.trees) starts done ∙ ap (λ (z : List Tree). z ++ trees_at d.trees done) (start_trees starts refl)

  -- a local of the task
  pub local_at : (i : ℕ) (id : TermId) → i < length from.locals → id ≡ get_or from.locals i id → tree_at d.trees id ≡ tree_or d.task.locals i
  local_at i id l q = ap (tree_at d.trees) q ∙ sym (get_or-map (tree_at d.trees) from.locals i id (Leaf HEnd) l) ∙ ap (λ (z : List Tree). tree_or z i) own_trees

  pub local_formula : (i : ℕ) (id : TermId) → i < length from.locals → id ≡ get_or from.locals i id → IsFormulaAt d id
  local_formula i id l q =
      let f = own_locals d from c.own in
      let m = length-map from.locals (tree_at d.trees) in
      let e : get_or (trees_at d.trees from.locals) i (tree_at d.trees id) ≡ tree_at d.trees id = get_or-map (tree_at d.trees) from.locals i id (tree_at d.trees id) l ∙ ap (tree_at d.trees) (sym q) in
      record { held = subst (Holds d.trees) (sym q) (f.held i id l); ground = subst (IsGroundFormula d.task) e (f.ground i (tree_at d.trees id) (omega (arith, l, m))) }

  -- parameters are those of the task
  pub local_below : (i : ℕ) (id : TermId) → i < length from.locals → id ≡ get_or from.locals i id → above_params (tree_at d.trees id) ≤ length d.task.params
  local_below i id l q =
      let m = length-map from.locals (tree_at d.trees) in
      let e : get_or (trees_at d.trees from.locals) i (tree_at d.trees id) ≡ tree_at d.trees id = get_or-map (tree_at d.trees) from.locals i id (tree_at d.trees id) l ∙ ap (tree_at d.trees) (sym q) in
      subst (λ (z : Tree). above_params z ≤ length d.task.params) e ((own_below d from (length d.task.params) (params_count d from c.own) c.own).front i (tree_at d.trees id) (omega (arith, l, m)))

  pub goal_below : above_params (tree_at d.trees from.goal) ≤ length d.task.params
  goal_below = (own_below d from (length d.task.params) (params_count d from c.own) c.own).goal

  pub goal_tree : tree_at d.trees from.goal ≡ d.task.goal
  goal_tree = ap (λ (t : TaskTree). t.goal) c.own.is

-- what is read of a list that is the other one
pub read_local : (from locals : List TermId) (i : ℕ) (z : TermId) → locals ≡ from → i < length from → get_or locals i z ≡ get_or from i (get_or locals i z)
read_local from locals i z e l = ap (λ (x : List TermId). get_or x i z) e ∙ get_or_default from i z (get_or locals i z) l

-- ---- places
place_left : (xs ys : List Tree) (i : ℕ) → i < length xs → slice_get (xs ++ ys) i ≡ Some (tree_or xs i)
place_left [] ys i l = absurd (omega arith)
place_left (x ∷ xs) ys zero l = refl
place_left (x ∷ xs) ys (suc i) l = place_left xs ys i (omega arith)

place_end : (xs : List Tree) (x : Tree) (ys : List Tree) → slice_get ((xs ++ x ∷ []) ++ ys) (length xs) ≡ Some x
place_end [] x ys = refl
place_end (y ∷ xs) x ys = place_end xs x ys

-- a local, and the negation of the goal, in the start with further formulas
pub local_place : (t : TaskTree) (done : List Tree) (i : ℕ) → i < length t.locals → slice_get (start t ++ done) i ≡ Some (tree_or t.locals i)
local_place t done i l = ap (λ (z : List Tree). slice_get z i) (append_assoc t.locals (neg t.goal ∷ []) done) ∙ place_left t.locals (neg t.goal ∷ done) i l

pub goal_place : (t : TaskTree) (done : List Tree) (i : ℕ) → i ≡ length t.locals → slice_get (start t ++ done) i ≡ Some (neg t.goal)
goal_place t done i e = ap (slice_get (start t ++ done)) e ∙ place_end t.locals (neg t.goal) done

-- ---- images of the first locals, one more
pub images_more : (g : Tree → Tree) (es : List Tree) (n : ℕ) → n < length es → map g (take n es) ++ g (tree_or es n) ∷ [] ≡ map g (take (n + 1) es)
images_more g es n l = sym (ap (map g) (take_more es n _ l) ∙ map-append g (take n es) (tree_or es n ∷ []))
