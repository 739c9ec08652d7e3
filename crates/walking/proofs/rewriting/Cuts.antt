-- Sequents with an image at the end, and without it, in drafts that grow.
use Rattle.std.proofs.Common.{◌≡◌, ℕ, ◌+◌, ◌<◌, ◌≤◌, List, [], ◌∷◌, ◌++◌, map, take, length, slice_get, Some, refl, sym, ap, subst, ◌∙◌, arith, append_assoc}
use Rattle.std.proofs.lemmas.List.{map-append, length-append, append-nil}
use Rattle.tasks.specs.trees.declared.TermId.{TermId}
use Rattle.tasks.specs.trees.Tree.{Tree}
use Rattle.tasks.specs.trees.Node.{tree_at, Grows}
use Rattle.tasks.specs.declared.task.Task.{Task}
use Rattle.tasks.specs.Task.{TaskTree, neg, start}
use Rattle.tasks.specs.Meaning.{trees_at}
use Rattle.tasks.specs.Copying.{with_goal}
use Rattle.tasks.proofs.TypeInstances.{further}
use Rattle.evidence.specs.Drafts.{DraftTree, Extends, Refutes, IsFormulaAt, AreFormulas, RefutesAt}
use Rattle.evidence.specs.Stages.{IsOwnTask}
use Rattle.evidence.specs.Laws.{Extends_trans}
use Rattle.evidence.proofs.Rules.{refutes_later}
use Rattle.evidence.proofs.Formulas.{same, formula_later, formulas_later, after_ids}
use Rattle.evidence.proofs.Owned.{own_locals}
use Rattle.evidence.proofs.Lifted.{own_later}
use Rattle.evidence.proofs.Ends.{wider_formulas}
use Rattle.evidence.specs.changed_tasks.Changed.{changed_task}
use Rattle.walking.specs.declared.rewriting.gluing.Half.{Half}
use Rattle.walking.specs.rewriting.Starts.{CanGlueStart, AreLocalImages, IsHalf, IsHalfFor, tree_or}
use Rattle.walking.proofs.rewriting.Starts.{can_glue_later, images_later, half_later, own_count, start_formulas, start_trees, with_formulas, with_trees, local_place, goal_place, images_more}

-- ---- the sequent with the negation of an image after it
module _ (d d1 : DraftTree) (x : Extends d d1) (sequent all : List TermId) (s : AreFormulas d sequent) (place : ℕ) (h : Half) (k : IsHalfFor d (trees_at d.trees sequent) place h)
    (n : TermId) (f : IsFormulaAt d1 n) (ne : tree_at d1.trees n ≡ neg (tree_at d.trees h.image)) (e : all ≡ sequent ++ n ∷ []) where
  pub all_formulas : AreFormulas d1 all
  all_formulas = wider_formulas d1 sequent all n e (formulas_later d d1 x sequent s) f

  pub all_trees : trees_at d1.trees all ≡ trees_at d.trees sequent ++ neg (tree_at d.trees h.image) ∷ []
  all_trees =
      ap (trees_at d1.trees) e ∙ map-append (tree_at d1.trees) sequent (n ∷ []) ∙ ap (λ (z : List Tree). z ++ tree_at d1.trees n ∷ []) (same d d1 x sequent s)
      ∙ ap (λ (z : Tree). trees_at d.trees sequent ++ z ∷ []) ne

  last_there : slice_get (trees_at d.trees sequent ++ neg (tree_at d.trees h.image) ∷ []) (length sequent) ≡ Some (neg (tree_at d.trees h.image))
  last_there =
      let q : length sequent ≡ length sequent + 0 = omega arith in
      ap (slice_get (trees_at d.trees sequent ++ neg (tree_at d.trees h.image) ∷ [])) q ∙ after_ids d sequent (neg (tree_at d.trees h.image) ∷ []) 0

  both_there : map Some (k.old ∷ neg (tree_at d.trees h.image) ∷ []) ≡ map (slice_get (trees_at d.trees sequent ++ neg (tree_at d.trees h.image) ∷ [])) (place ∷ length sequent ∷ [])
  both_there = let p = further (trees_at d.trees sequent) (neg (tree_at d.trees h.image) ∷ []) place k.old k.there in let q = last_there in cc

  pub kept_at : RefutesAt d1 (trees_at d1.trees all) (place ∷ length sequent ∷ []) h.step
  kept_at = subst (λ (z : List Tree). RefutesAt d1 z (place ∷ length sequent ∷ []) h.step) (sym all_trees)
      (record { kept = k.old ∷ neg (tree_at d.trees h.image) ∷ []; are = both_there; refutes = refutes_later d d1 x h.step _ k.half_is.refutes })

  module _ (d2 : DraftTree) (y : Extends d1 d2) where
    xy : Extends d d2
    xy = Extends_trans d d1 d2 x y

    pub holds_cut : (step : ℕ) → Refutes d step (trees_at d.trees sequent ++ tree_at d.trees h.image ∷ []) → Refutes d2 step (trees_at d2.trees sequent ++ tree_at d2.trees h.image ∷ [])
    holds_cut step r =
        let q = refutes_later d d2 xy step _ r in
        let a = same d d2 xy sequent s in
        let b : tree_at d2.trees h.image ≡ tree_at d.trees h.image = xy.trees.same h.image.0 k.half_is.formula.held in
        record { within = q.within; is = q.is ∙ sym (cc (a, b)) }

    pub fails_cut : (step : ℕ) → Refutes d2 step (trees_at d1.trees all) → Refutes d2 step (trees_at d2.trees sequent ++ neg (tree_at d2.trees h.image) ∷ [])
    fails_cut step r =
        let a = same d d2 xy sequent s in
        let b : tree_at d2.trees h.image ≡ tree_at d.trees h.image = xy.trees.same h.image.0 k.half_is.formula.held in
        record { within = r.within; is = r.is ∙ all_trees ∙ sym (cc (a, b)) }

    pub cut_done : (d3 : DraftTree) (step : ℕ) → Refutes d3 step (trees_at d2.trees sequent) → Refutes d3 step (trees_at d.trees sequent)
    cut_done d3 step r = record { within = r.within; is = r.is ∙ same d d2 xy sequent s }

-- ---- the start with images after it
module _ (ready : TaskTree → List Tree → Type 0) (stays : (t : TaskTree) (s s1 : List Tree) → Grows s s1 → ready t s → ready t s1)
    (d d1 : DraftTree) (x : Extends d d1) (from : Task) (n : TermId) (c : CanGlueStart ready d from n) where
  c1 : CanGlueStart ready d1 from n
  c1 = can_glue_later d d1 x ready stays from n c

  abbrev starts : List TermId
  starts = from.locals ++ n ∷ []

  -- the sequent, in a later draft
  pub now_formulas : (done ids : List TermId) → ids ≡ starts ++ done → AreFormulas d done → AreFormulas d1 ids
  now_formulas done ids e a = with_formulas d1 from n ready c1 done ids e (formulas_later d d1 x done a)

  pub now_trees : (done ids : List TermId) → ids ≡ starts ++ done → AreFormulas d done → trees_at d1.trees ids ≡ start d.task ++ trees_at d.trees done
  now_trees done ids e a =
      with_trees d1 from n ready c1 done ids e ∙ ap (λ (t : TaskTree). start t ++ trees_at d1.trees done) x.task ∙ ap (λ (z : List Tree). start d.task ++ z) (same d d1 x done a)

  -- a half that was made before
  moved_half : (old new : Tree) (h : Half) → IsHalf d1 old new h → IsHalf d1 old (tree_at d1.trees h.image) h
  moved_half old new h k = record { formula = k.formula; is = refl; refutes = subst (λ (z : Tree). Refutes d1 h.step (old ∷ neg z ∷ [])) (sym k.is) k.refutes }

  pub local_half_for : (done ids : List TermId) (i : ℕ) → ids ≡ starts ++ done → AreFormulas d done → i < length d.task.locals → (new : Tree) (h : Half) → IsHalf d1 (tree_or d.task.locals i) new h → IsHalfFor d1 (trees_at d1.trees ids) i h
  local_half_for done ids i e a l new h k = record {
    old = tree_or d.task.locals i;
    there = ap (λ (z : List Tree). slice_get z i) (now_trees done ids e a) ∙ local_place d.task (trees_at d.trees done) i l;
    half_is = moved_half (tree_or d.task.locals i) new h k;
  }

  pub goal_half_for : (done ids : List TermId) (i : ℕ) → ids ≡ starts ++ done → AreFormulas d done → i ≡ length from.locals → (new : Tree) (h : Half) → IsHalf d1 (neg d.task.goal) new h → IsHalfFor d1 (trees_at d1.trees ids) i h
  goal_half_for done ids i e a q new h k = record {
    old = neg d.task.goal;
    there = ap (λ (z : List Tree). slice_get z i) (now_trees done ids e a) ∙ goal_place d.task (trees_at d.trees done) i (q ∙ own_count d from n ready c);
    half_is = moved_half (neg d.task.goal) new h k;
  }

  -- the start alone
  pub only_trees : (ids : List TermId) → ids ≡ from.locals ++ n ∷ [] → trees_at d1.trees ids ≡ start d.task
  only_trees ids e = start_trees d1 from n ready c1 ids e ∙ ap start x.task

  pub only_half_for : (ids : List TermId) (i : ℕ) → ids ≡ from.locals ++ n ∷ [] → i ≡ length from.locals → (new : Tree) (h : Half) → IsHalf d1 (neg d.task.goal) new h → IsHalfFor d1 (trees_at d1.trees ids) i h
  only_half_for ids i e q new h k = record {
    old = neg d.task.goal;
    there = ap (λ (z : List Tree). slice_get z i) (only_trees ids e ∙ sym (append-nil (start d.task))) ∙ goal_place d.task [] i (q ∙ own_count d from n ready c);
    half_is = moved_half (neg d.task.goal) new h k;
  }

-- ---- images of all locals, and of the goal
module _ (g : TaskTree → Tree → Tree) (d d1 : DraftTree) (x : Extends d d1) (done : List TermId) (a : AreLocalImages d (g d.task) done) (h : Half) where
  pub wider_formulas_at : (ids : List TermId) → ids ≡ done ++ h.image ∷ [] → IsFormulaAt d1 h.image → AreFormulas d1 ids
  wider_formulas_at ids e f = wider_formulas d1 done ids h.image e (formulas_later d d1 x done a.formulas) f

  wider_trees : (ids : List TermId) → ids ≡ done ++ h.image ∷ [] → trees_at d1.trees ids ≡ map (g d.task) (take (length done) d.task.locals) ++ tree_at d1.trees h.image ∷ []
  wider_trees ids e = ap (trees_at d1.trees) e ∙ map-append (tree_at d1.trees) done (h.image ∷ []) ∙ ap (λ (z : List Tree). z ++ tree_at d1.trees h.image ∷ []) (same d d1 x done a.formulas ∙ a.are)

  -- one more
  pub wider_images : (ids : List TermId) → ids ≡ done ++ h.image ∷ [] → length done < length d.task.locals → IsHalf d1 (tree_or d.task.locals (length done)) (g d.task (tree_or d.task.locals (length done))) h → AreLocalImages d1 (g d1.task) ids
  wider_images ids e l k =
      let m : length ids ≡ length done + 1 = ap length e ∙ length-append done (h.image ∷ []) in
      let w : trees_at d1.trees ids ≡ map (g d.task) (take (length done + 1) d.task.locals) =
      wider_trees ids e ∙ ap (λ (z : Tree). map (g d.task) (take (length done) d.task.locals) ++ z ∷ []) k.is ∙ images_more (g d.task) d.task.locals (length done) l in
      record {
        formulas = wider_formulas_at ids e k.formula;
        within = subst (λ (t : TaskTree). length ids ≤ length t.locals) (sym x.task) (omega (arith, m, l));
        are = w ∙ ap (λ (j : ℕ). map (g d.task) (take j d.task.locals)) (sym m) ∙ ap (λ (t : TaskTree). map (g t) (take (length ids) t.locals)) (sym x.task);
      }

  -- the start of the rewritten task
  pub whole_start : (ids : List TermId) → ids ≡ done ++ h.image ∷ [] → length done ≡ length d.task.locals → IsHalf d1 (neg d.task.goal) (neg (g d.task d.task.goal)) h → trees_at d1.trees ids ≡ start (changed_task (g d.task) d.task)
  whole_start ids e q k =
      wider_trees ids e ∙ ap (λ (z : Tree). map (g d.task) (take (length done) d.task.locals) ++ z ∷ []) k.is
      ∙ ap (λ (z : List Tree). map (g d.task) z ++ neg (g d.task d.task.goal) ∷ []) (ap (λ (j : ℕ). take j d.task.locals) q ∙ all_taken d.task.locals)
    where
      all_taken : (es : List Tree) → take (length es) es ≡ es
      all_taken [] = refl
      all_taken (e ∷ es) = ap (λ (z : List Tree). e ∷ z) (all_taken es)

-- where the goal alone is rewritten
pub locals_start : (d d1 : DraftTree) (x : Extends d d1) (from : Task) (locals : List TermId) (new : Tree) → locals ≡ from.locals → IsOwnTask d from → (old : Tree) (h : Half) → IsHalf d1 old (neg new) h
    → trees_at d1.trees locals ++ trees_at d1.trees (h.image ∷ []) ≡ start (with_goal d.task new)
locals_start d d1 x from locals new e o old h k =
    ap (λ (z : List Tree). z ++ tree_at d1.trees h.image ∷ []) (ap (trees_at d1.trees) e ∙ same d d1 x from.locals (own_locals d from o) ∙ ap (λ (t : TaskTree). t.locals) o.is) ∙ ap (λ (z : Tree). d.task.locals ++ z ∷ []) k.is

-- ---- after the last image
module _ (ready : TaskTree → List Tree → Type 0) (stays : (t : TaskTree) (s s1 : List Tree) → Grows s s1 → ready t s → ready t s1) (d d1 d2 : DraftTree) (x : Extends d d1) (y : Extends d1 d2) (from : Task) (n : TermId)
    (c : CanGlueStart ready d from n) where
  can1 : CanGlueStart ready d1 from n
  can1 = can_glue_later d d1 x ready stays from n c

  pub first_formulas : (ids : List TermId) → ids ≡ from.locals ++ n ∷ [] → AreFormulas d1 ids
  first_formulas ids e = start_formulas d1 from n ready can1 ids e

  first_trees : (ids : List TermId) → ids ≡ from.locals ++ n ∷ [] → trees_at d1.trees ids ≡ start d.task
  first_trees ids e = start_trees d1 from n ready can1 ids e ∙ ap start x.task

  pub last_step : (done sequent firsts images : List TermId) → AreFormulas d done → (h : Half) → IsFormulaAt d1 h.image → firsts ≡ from.locals ++ n ∷ [] → images ≡ done ++ h.image ∷ [] → sequent ≡ (from.locals ++ n ∷ []) ++ done
      → (step : ℕ) → Refutes d2 step (trees_at d1.trees firsts ++ trees_at d1.trees images) → Refutes d2 step (trees_at d2.trees sequent ++ tree_at d2.trees h.image ∷ [])
  last_step done sequent firsts images a h f ef ei es step r =
      let xy = Extends_trans d d1 d2 x y in
      let p = first_trees firsts ef in
      let q : trees_at d1.trees images ≡ trees_at d.trees done ++ tree_at d1.trees h.image ∷ [] =
      ap (trees_at d1.trees) ei ∙ map-append (tree_at d1.trees) done (h.image ∷ []) ∙ ap (λ (z : List Tree). z ++ tree_at d1.trees h.image ∷ []) (same d d1 x done a) in
      let u = now_trees ready stays d d2 xy from n c done sequent es a in
      let v : tree_at d2.trees h.image ≡ tree_at d1.trees h.image = y.trees.same h.image.0 f.held in
      let w : (start d.task ++ trees_at d.trees done) ++ tree_at d1.trees h.image ∷ [] ≡ start d.task ++ (trees_at d.trees done ++ tree_at d1.trees h.image ∷ []) = append_assoc (start d.task) (trees_at d.trees done) (tree_at d1.trees h.image ∷ []) in
      record { within = r.within; is = r.is ∙ cc (p, q, u, v, w) }

  -- after one local more
  pub more_step : (done sequent wider : List TermId) → AreFormulas d done → (h : Half) → IsFormulaAt d1 h.image → wider ≡ done ++ h.image ∷ [] → sequent ≡ (from.locals ++ n ∷ []) ++ done
      → (step : ℕ) → Refutes d2 step (start d1.task ++ trees_at d1.trees wider) → Refutes d2 step (trees_at d2.trees sequent ++ tree_at d2.trees h.image ∷ [])
  more_step done sequent wider a h f ei es step r =
      last_step done sequent (from.locals ++ n ∷ []) wider a h f refl ei es step
      (record { within = r.within; is = r.is ∙ ap (λ (z : List Tree). z ++ trees_at d1.trees wider) (sym (start_trees d1 from n ready can1 (from.locals ++ n ∷ []) refl)) })

  -- where the goal alone is rewritten
  pub only_step : (locals sequent : List TermId) → locals ≡ from.locals → sequent ≡ locals ++ n ∷ [] → (h : Half) → IsFormulaAt d1 h.image → (step : ℕ) → Refutes d2 step (trees_at d1.trees locals ++ (trees_at d1.trees (n ∷ []) ++ trees_at d1.trees (h.image ∷ [])))
      → Refutes d2 step (trees_at d2.trees sequent ++ tree_at d2.trees h.image ∷ [])
  only_step locals sequent e es h f step r =
      let o = own_later d d1 from x c.own in
      let a : trees_at d2.trees locals ≡ trees_at d1.trees locals = subst (λ (z : List TermId). trees_at d2.trees z ≡ trees_at d1.trees z) (sym e) (same d1 d2 y from.locals (own_locals d1 from o)) in
      let b : tree_at d2.trees n ≡ tree_at d1.trees n = y.trees.same n.0 (formula_later d d1 x n c.negated).held in
      let v : tree_at d2.trees h.image ≡ tree_at d1.trees h.image = y.trees.same h.image.0 f.held in
      let s : trees_at d2.trees sequent ≡ trees_at d2.trees locals ++ tree_at d2.trees n ∷ [] = ap (trees_at d2.trees) es ∙ map-append (tree_at d2.trees) locals (n ∷ []) in
      let w : (trees_at d1.trees locals ++ tree_at d1.trees n ∷ []) ++ tree_at d1.trees h.image ∷ [] ≡ trees_at d1.trees locals ++ (tree_at d1.trees n ∷ tree_at d1.trees h.image ∷ []) = append_assoc (trees_at d1.trees locals) (tree_at d1.trees n ∷ []) (tree_at d1.trees h.image ∷ []) in
      record { within = r.within; is = r.is ∙ cc (a, b, v, s, w) }
