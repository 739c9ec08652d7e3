-- Steps that are lifted are right.
use Rattle.std.proofs.Common.{◌≡◌, ℕ, ◌<◌, ◌≤◌, List, [], ◌∷◌, ◌++◌, ◌+◌, ◌-◌, Option, None, Some, IsSomeAnd, length, map, get_or, slice_get, take, All, inl, inr, refl, sym, ap, subst, ◌∙◌, arith}
use Rattle.std.proofs.lemmas.List.{length-map, length-append, get_or_append_left, get_or-map, take-map, length-take-le, get_or-take}
use Rattle.std.proofs.lemmas.List.Elements.{All-map, All-head}
use Rattle.std.proofs.lemmas.Option.{get_or_from_slice_get, slice_get_within}
use Rattle.std.proofs.lemmas.Bool.{cases_lt}
use Rattle.std.proofs.Math.Seq.{get_or-append_seam}
use Rattle.trees.specs.declared.TermId.{TermId}
use Rattle.trees.specs.Tree.{Tree}
use Rattle.trees.specs.Node.{tree_at, Holds}
use Rattle.tasks.specs.declared.task.Task.{Task}
use Rattle.tasks.specs.declared.facts.Fact.{Fact}
use Rattle.tasks.specs.declared.facts.Fact.TheVariants as fact
use Rattle.tasks.specs.Task.{TaskTree, neg, start}
use Rattle.tasks.specs.Valid.{IsValid, IsTypeOver, IsGroundFormula}
use Rattle.tasks.specs.Meaning.{trees_at, task_at, tasks_at, TaskHeld, TasksHeld}
use Rattle.tasks.proofs.Growth.{map_agree, task_later, task_held_later}
use Rattle.rules.specs.declared.rule.Step.{Step}
use Rattle.rules.specs.Trees.{RuleTree, StepTree, no_step, step_or, sequents, rule_trees, rule_types}
use Rattle.rules.specs.Rows.{IsRuleRow}
use Rattle.kernel.specs.Right.{IsRight, AreRight, Closes}
use Rattle.rules.specs.Meaning.{rule_at, step_at, steps_at, StepsHeld}
use Rattle.kernel.proofs.Growth.{steps_later, steps_held_later}
use Rattle.kernel.proofs.Places.{step_or-at}
use Rattle.rules.proofs.Sequents.{map_twice}
use Rattle.evidence.specs.Drafts.{DraftTree, Extends, Refutes, IsFormulaAt, AreFormulas}
use Rattle.evidence.specs.Facts.{citing, CitesNone, IsFact}
use Rattle.evidence.specs.Stages.{TaskEquation, Gives, HaveSequents, StandFor, EndIn, HasSequents, KeepsDeclared, Keeps, IsAmong, IsOwnTask, InStage, Cites, PartsClose, PartsHeld, parts_at, part_or, task_or, no_task, sequent_of_step, start_of}
use Rattle.evidence.proofs.Typed.{formulas_moved, trees_moved, types_moved}
use Rattle.evidence.proofs.Moved.{row_other}
use Rattle.evidence.proofs.Rules.{refutes_later, row_cited}
use Rattle.evidence.proofs.Formulas.{same}

sequents_lifted : (d : DraftTree) (before : List StepTree) (numbers ps : List ℕ) → StandFor d numbers before → All (λ k. k < length before) ps
    → sequents d.steps (map (λ k. get_or numbers k 0) ps) ≡ sequents before ps
sequents_lifted d before numbers ps f e =
    sym (map_twice (λ (k : ℕ). (step_or d.steps k).sequent) (λ (k : ℕ). get_or numbers k 0) ps)
    ∙ map_agree (λ (k : ℕ). (step_or d.steps (get_or numbers k 0)).sequent) (λ (k : ℕ). (step_or before k).sequent) ps (λ i z h. (f.each _ (e i z h)).is)

pub right_lifted : (d : DraftTree) (t : TaskTree) (before : List StepTree) (st : StepTree) (numbers premises : List ℕ) → KeepsDeclared d.task t → IsRight t before st → CitesNone st.rule
    → StandFor d numbers before → premises ≡ map (λ k. get_or numbers k 0) st.premises
    → IsRight d.task d.steps (record { sequent = st.sequent; rule = st.rule; premises = premises })
right_lifted d t before st numbers premises kept r n f p =
    let q : sequents d.steps premises ≡ sequents before st.premises = ap (sequents d.steps) p ∙ sequents_lifted d before numbers st.premises f r.earlier in
    let earlier : All (λ k. k < length d.steps) premises =
    rw p (All-map (λ k. k < length d.steps) (λ k. get_or numbers k 0) st.premises (λ i z h. (f.each _ (r.earlier i z h)).within)) in
    let row : IsRuleRow d.task st.sequent st.rule (sequents d.steps premises) = rw q (row_other t d.task kept st.sequent st.rule (sequents before st.premises) n r.trees r.row) in
    record {
      formulas = formulas_moved t d.task kept st.sequent r.formulas;
      trees = trees_moved t d.task kept (rule_trees st.rule) r.trees;
      types = types_moved t d.task kept (rule_types st.rule) r.types;
      earlier = earlier;
      row = row;
    }

one_premise : (before : List StepTree) (ps : List ℕ) (q : List Tree) → sequents before ps ≡ q ∷ [] → (p : ℕ) × ((ps ≡ p ∷ []) × ((step_or before p).sequent ≡ q))
one_premise before [] q e = absurd (cc)
one_premise before (p ∷ []) q e = (p, (refl, cc))
one_premise before (p ∷ r ∷ ps) q e = absurd (cc)

pub some_of : {X : Type 0} (o : Option X) (P : X → Type 0) → IsSomeAnd o P → (a : X) × ((o ≡ Some a) × P a)
some_of None P h = absurd h
some_of (Some a) P h = (a, (refl, h))

types_citing : (name : Fact) (types : List Tree) → rule_types (citing name types) ≡ types
types_citing (fact.Proposition k) types = refl
types_citing (fact.Equation k) types = refl
types_citing (fact.Clause k c) types = refl
types_citing (fact.Inversion k) types = refl

-- what a step that cites a fact is lifted from
pub cites : (d : DraftTree) (t : TaskTree) (before : List StepTree) (st : StepTree) (name : Fact) (types : List Tree) (numbers premises : List ℕ) → KeepsDeclared d.task t
    → IsRight t before st → st.rule ≡ citing name types → StandFor d numbers before → premises ≡ map (λ k. get_or numbers k 0) st.premises
    → (0 < length premises) × Cites d t st.sequent name types (get_or premises 0 0)
cites d t before st name types numbers premises kept r e f p =
    let row : IsRuleRow t st.sequent (citing name types) (sequents before st.premises) = subst (λ (z : RuleTree). IsRuleRow t st.sequent z (sequents before st.premises)) e r.row in
    let g = row_cited t st.sequent name types (sequents before st.premises) row in
    let o = one_premise before st.premises (st.sequent ++ g.formula ∷ []) g.premise in
    let n : get_or premises 0 0 ≡ get_or numbers o.0 0 = ap (λ (z : List ℕ). get_or z 0 0) (p ∙ ap (map (λ (z : ℕ). get_or numbers z 0)) o.1.0) in
    let one : length premises ≡ 1 = ap length (p ∙ ap (map (λ (z : ℕ). get_or numbers z 0)) o.1.0) in
    let early : o.0 < length before = All-head (λ z. z < length before) o.0 [] (subst (All (λ z. z < length before)) o.1.0 r.earlier) in
    let stands = f.each o.0 early in
    let own : All (IsTypeOver t 0) types = subst (All (IsTypeOver t 0)) (ap rule_types e ∙ types_citing name types) r.types in (
      omega arith,
      record {
        formula = g.formula;
        fact = record { said = g.said; ground = types_moved t d.task kept types own };
        taken = rw n (record { within = stands.within; is = stands.is ∙ o.1.1 });
      },
    )

-- what a step of the draft cites, itself a fact of the draft's task
pub record OwnCited (d : DraftTree) (k : ℕ) (name : Fact) (types : List Tree) : Type 0 where
  pub premise : ℕ
  pub one : (step_or d.steps k).premises ≡ premise ∷ []
  pub formula : Tree
  pub fact : IsFact d.task d.task name types formula
  pub taken : Refutes d premise ((step_or d.steps k).sequent ++ formula ∷ [])

pub own_cited : (d : DraftTree) (k : ℕ) (name : Fact) (types : List Tree) → AreRight d.task d.steps → k < length d.steps → (step_or d.steps k).rule ≡ citing name types → OwnCited d k name types
own_cited d k name types right within e =
    let st = step_or d.steps k in
    let before = take k d.steps in
    let r = right k within in
    let row : IsRuleRow d.task st.sequent (citing name types) (sequents before st.premises) = subst (λ (z : RuleTree). IsRuleRow d.task st.sequent z (sequents before st.premises)) e r.row in
    let g = row_cited d.task st.sequent name types (sequents before st.premises) row in
    let o = one_premise before st.premises (st.sequent ++ g.formula ∷ []) g.premise in
    let early : o.0 < length before = All-head (λ z. z < length before) o.0 [] (subst (All (λ z. z < length before)) o.1.0 r.earlier) in
    let l : length before ≡ k = length-take-le k d.steps (omega (arith, within)) in
    let there : o.0 < k = omega arith in
    let at : step_or before o.0 ≡ step_or d.steps o.0 = get_or-take k d.steps o.0 no_step there in
    let own : All (IsTypeOver d.task 0) types = subst (All (IsTypeOver d.task 0)) (ap rule_types e ∙ types_citing name types) r.types in
    record {
      premise = o.0;
      one = o.1.0;
      formula = g.formula;
      fact = record { said = g.said; ground = own };
      taken = record { within = omega (arith, there, within); is = ap (λ (z : StepTree). z.sequent) (sym at) ∙ o.1.1 };
    }

-- so it is of the step in code
pub record CitedAt (d : DraftTree) (st : Step) (name : Fact) (types : List Tree) : Type 0 where
  pub premise : ℕ
  pub one : st.premises ≡ premise ∷ []
  pub front : List Tree
  pub formula : Tree
  pub fact : IsFact d.task d.task name types formula
  pub taken : Refutes d premise (front ++ formula ∷ [])

pub cited_at : (d : DraftTree) (steps : List Step) (k : ℕ) (st : Step) (name : Fact) (types : List Tree) → steps_at d.trees steps ≡ d.steps → AreRight d.task d.steps → st ≡ get_or steps k st → k < length d.steps → rule_at d.trees st.rule ≡ citing name types
    → CitedAt d st name types
cited_at d steps k st name types e right is within rule =
    let n : length d.steps ≡ length steps = ap length (sym e) ∙ length-map steps (step_at d.trees) in
    let l : k < length steps = omega arith in
    let t : step_or d.steps k ≡ step_at d.trees st = ap (λ (q : List StepTree). step_or q k) (sym e) ∙ step_or-at d.trees steps k st is l in
    let q = own_cited d k name types right within (ap (λ (z : StepTree). z.rule) t ∙ rule) in
    record {
      premise = q.premise;
      one = ap (λ (z : StepTree). z.premises) (sym t) ∙ q.one;
      front = (step_or d.steps k).sequent;
      formula = q.formula;
      fact = q.fact;
      taken = q.taken;
    }

pub among_keeps : (q : TaskEquation) (from t : TaskTree) → IsValid from → ((ts : List TaskTree) → IsValid from → Gives q from ts → All (Keeps from) ts) → IsAmong (Gives q from) t → KeepsDeclared from t
among_keeps q from t valid all a = (subst (Keeps from) a.there (all a.tasks valid a.is a.place no_task a.within)).declared

-- the formulas of a step of a task, in a draft of the task that it was made from
pub formulas_lifted : (d : DraftTree) (t : TaskTree) (ids : List TermId) → KeepsDeclared d.task t → All (Holds d.trees) ids → All (IsGroundFormula t) (trees_at d.trees ids) → AreFormulas d ids
formulas_lifted d t ids kept h m = record { held = h; ground = formulas_moved t d.task kept (trees_at d.trees ids) m }

-- ---- a cut on a fact, over a draft that has grown
module _ (d d2 : DraftTree) (x : Extends d d2) (ids : List TermId) (f : AreFormulas d ids) where
  pub cut_yes : (a : TermId) (j : ℕ) → IsFormulaAt d a → Refutes d j (trees_at d.trees ids ++ tree_at d.trees a ∷ []) → Refutes d2 j (trees_at d2.trees ids ++ tree_at d2.trees a ∷ [])
  cut_yes a j g r =
      let e : trees_at d2.trees ids ≡ trees_at d.trees ids = same d d2 x ids f in
      let b : tree_at d2.trees a ≡ tree_at d.trees a = x.trees.same a.0 g.held in
      rw (e, b) (refutes_later d d2 x j _ r)

  pub cut_no : (d1 : DraftTree) (y : Extends d d1) (a n : TermId) (k : ℕ) → IsFormulaAt d a → tree_at d1.trees n ≡ neg (tree_at d.trees a) → Refutes d2 k (trees_at d1.trees ids ++ tree_at d1.trees n ∷ [])
      → Refutes d2 k (trees_at d2.trees ids ++ neg (tree_at d2.trees a) ∷ [])
  cut_no d1 y a n k g e r =
      let q : trees_at d2.trees ids ≡ trees_at d1.trees ids = same d d2 x ids f ∙ sym (same d d1 y ids f) in
      let b : neg (tree_at d2.trees a) ≡ tree_at d1.trees n = ap neg (x.trees.same a.0 g.held) ∙ sym e in
      rw (q, b) r

  pub cut_done : (d3 : DraftTree) (k : ℕ) → Refutes d3 k (trees_at d2.trees ids) → Refutes d3 k (trees_at d.trees ids)
  cut_done d3 k r = record { within = r.within; is = r.is ∙ same d d2 x ids f }

pub lemma_later : (d d1 : DraftTree) (x : Extends d d1) (n a : TermId) (k : ℕ) → tree_at d1.trees n ≡ neg (tree_at d.trees a) → Refutes d k (neg (tree_at d.trees a) ∷ []) → Refutes d1 k (tree_at d1.trees n ∷ [])
lemma_later d d1 x n a k e r = rw e (refutes_later d d1 x k _ r)

-- the draft's own task stays
pub own_later : (d d1 : DraftTree) (from : Task) → Extends d d1 → IsOwnTask d from → IsOwnTask d1 from
own_later d d1 from x o =
    let valid : IsValid d1.task = rw x.task o.valid in
    record {
      held = task_held_later d.trees d1.trees x.trees from o.held;
      is = task_later d.trees d1.trees x.trees from o.held ∙ o.is ∙ sym x.task;
      valid = valid;
    }

-- what a task becomes stays
pub in_stage_later : (q : TaskEquation) (d d1 : DraftTree) (from to : Task) → Extends d d1 → InStage q d from to → InStage q d1 from to
in_stage_later q d d1 from to x i =
    let f = task_later d.trees d1.trees x.trees to i.held in
    let among : IsAmong (Gives q d1.task) (task_at d1.trees to) = rw (x.task, f) i.among in
    record { own = own_later d d1 from x i.own; held = task_held_later d.trees d1.trees x.trees to i.held; among = among }

pub have_more : (d d1 : DraftTree) (ns : List ℕ) (q : ℕ → List Tree) (n k : ℕ) → Extends d d1 → HaveSequents d ns q n → Refutes d1 k (q n) → HaveSequents d1 (ns ++ k ∷ []) q (n + 1)
have_more d d1 ns q n k x u r = record {
  as_many = omega (arith, length-append ns (k ∷ []), u.as_many);
  each = λ i h. elim (cases_lt i n) [
    | inl l ↦ let e : get_or (ns ++ k ∷ []) i 0 ≡ get_or ns i 0 = get_or_append_left ns (k ∷ []) 0 i (omega (arith, u.as_many)) in
        rw e (refutes_later d d1 x _ _ (u.each i l))
    | inr l ↦ let m : i ≡ n = omega arith in
        let e : get_or (ns ++ k ∷ []) i 0 ≡ k = ap (λ z. get_or (ns ++ k ∷ []) z 0) (m ∙ sym u.as_many) ∙ get_or-append_seam ns k [] 0 in
        rw (e, m) r
  ];
}

stand_take : (d : DraftTree) (ns : List ℕ) (steps : List StepTree) (j : ℕ) → j ≤ length steps → HaveSequents d ns (sequent_of_step steps) j → StandFor d ns (take j steps)
stand_take d ns steps j h u =
    let l : length (take j steps) ≡ j = length-take-le j steps h in
    record {
      as_many = u.as_many ∙ sym l;
      each = λ i m. let k : i < j = rw l at m in
          let e : step_or (take j steps) i ≡ step_or steps i = get_or-take j steps i no_step k in
          subst (λ (z : StepTree). Refutes d (get_or ns i 0) z.sequent) (sym e) (u.each i k);
    }

module _ (d d1 : DraftTree) (part : List Step) (g : Extends d d1) (ph : StepsHeld d.trees part) where
  front_later : (j : ℕ) → steps_at d1.trees (take j part) ≡ take j (steps_at d.trees part)
  front_later j = sym (take-map (step_at d1.trees) j part) ∙ ap (take j) (steps_later d.trees d1.trees g.trees part ph)

  step_moved : (j : ℕ) (x : Step) → j < length part → x ≡ get_or part j x → step_at d1.trees x ≡ step_or (steps_at d.trees part) j
  step_moved j x l is = sym (step_or-at d1.trees part j x is l) ∙ ap (λ (z : List StepTree). step_or z j) (steps_later d.trees d1.trees g.trees part ph)

  -- a step of a part, over a draft that has grown
  pub part_right : (to : Task) (j : ℕ) (x : Step) → TaskHeld d.trees to → AreRight (task_at d.trees to) (steps_at d.trees part) → j < length part → x ≡ get_or part j x
      → IsRight (task_at d1.trees to) (steps_at d1.trees (take j part)) (step_at d1.trees x)
  part_right to j x th a l is =
      let e1 : task_at d1.trees to ≡ task_at d.trees to = task_later d.trees d1.trees g.trees to th in
      rw (e1, front_later j, step_moved j x l is) (a j (rw (length-map part (step_at d.trees)) l))

  pub stand_part : (j : ℕ) (ns these : List ℕ) → j < length part → these ≡ ns → HaveSequents d1 ns (sequent_of_step (steps_at d.trees part)) j → StandFor d1 these (steps_at d1.trees (take j part))
  stand_part j ns these l e u =
      let h : j ≤ length (steps_at d.trees part) = omega (arith, length-map part (step_at d.trees)) in
      rw (e, front_later j) (stand_take d1 ns (steps_at d.trees part) j h u)

  pub step_sequent : (j : ℕ) (x : Step) → j < length part → x ≡ get_or part j x → trees_at d1.trees x.sequent ≡ sequent_of_step (steps_at d.trees part) j
  step_sequent j x l is = ap (λ (z : StepTree). z.sequent) (step_moved j x l is)

pub have_none : (d : DraftTree) (q : ℕ → List Tree) → HaveSequents d [] q 0
have_none d q = record { as_many = refl; each = λ i h. absurd (omega arith) }

pub stand_all : (d : DraftTree) (ns : List ℕ) (steps : List StepTree) (j : ℕ) → j ≡ length steps → HaveSequents d ns (sequent_of_step steps) j → StandFor d ns steps
stand_all d ns steps j e u = record { as_many = u.as_many ∙ e; each = λ i m. u.each i (rw e m) }

-- the last step of a derivation
pub record Last (t : TaskTree) (steps : List StepTree) : Type 0 where
  pub some : 0 < length steps
  pub starts : sequent_of_step steps (length steps - 1) ≡ start t

pub closes_last : (t : TaskTree) (steps : List StepTree) → Closes t steps → Last t steps
closes_last t steps c =
    let f : StepTree → List Tree = λ st. st.sequent in
    let n : ℕ = length steps - 1 in
    let g = some_of (slice_get (map f steps) n) (λ q. q ≡ start t) c.starts in
    let l : n < length (map f steps) = slice_get_within (map f steps) n g.0 g.1.0 in
    let m : length (map f steps) ≡ length steps = length-map steps f in
    let e : get_or (map f steps) n [] ≡ g.0 = get_or_from_slice_get (map f steps) n g.0 [] g.1.0 in
    let h : get_or (map f steps) n [] ≡ sequent_of_step steps n = get_or-map f steps n no_step [] (omega arith) in
    record { some = omega arith; starts = sym h ∙ e ∙ g.1.1 }

pub has_later : (d d1 : DraftTree) (steps : List StepTree) → Extends d d1 → HasSequents d steps → HasSequents d1 steps
has_later d d1 steps x h j l = ((h j l).0, refutes_later d d1 x (h j l).0 _ (h j l).1)

module _ (d d1 : DraftTree) (g : Extends d d1) where
  pub tasks_later : (to : List Task) → TasksHeld d.trees to → tasks_at d1.trees to ≡ tasks_at d.trees to
  tasks_later to th = map_agree (task_at d1.trees) (task_at d.trees) to (λ i z h. task_later d.trees d1.trees g.trees _ (th i z h))

  pub tasks_held_later : (to : List Task) → TasksHeld d.trees to → TasksHeld d1.trees to
  tasks_held_later to th i z h = task_held_later d.trees d1.trees g.trees _ (th i z h)

  pub start_later : (to : List Task) (i : ℕ) (x : Task) → TasksHeld d.trees to → i < length to → x ≡ get_or to i x → start (task_at d1.trees x) ≡ start_of (tasks_at d.trees to) i
  start_later to i x th l is =
      let h : TaskHeld d.trees x = subst (λ (z : Task). TaskHeld d.trees z) (sym is) (th i x l) in
      let e : task_or (tasks_at d.trees to) i ≡ task_at d.trees x = get_or-map (task_at d.trees) to i x no_task l ∙ ap (task_at d.trees) (sym is) in
      ap start (task_later d.trees d1.trees g.trees x h ∙ sym e)

  pub part_later : (parts : List (List Step)) (i : ℕ) (y these : List Step) → PartsHeld d.trees parts → i < length parts → y ≡ get_or parts i y → these ≡ y
      → steps_at d1.trees these ≡ part_or (parts_at d.trees parts) i
  part_later parts i y these ph m iy e =
      let k : StepsHeld d.trees y = subst (λ (z : List Step). StepsHeld d.trees z) (sym iy) (ph i y m) in
      ap (steps_at d1.trees) e ∙ steps_later d.trees d1.trees g.trees y k ∙ sym (get_or-map (steps_at d.trees) parts i y [] m ∙ ap (steps_at d.trees) (sym iy))

  pub part_held_later : (parts : List (List Step)) (i : ℕ) (y these : List Step) → PartsHeld d.trees parts → i < length parts → y ≡ get_or parts i y → these ≡ y → StepsHeld d1.trees these
  part_held_later parts i y these ph m iy e =
      let k : StepsHeld d.trees y = subst (λ (z : List Step). StepsHeld d.trees z) (sym iy) (ph i y m) in
      subst (StepsHeld d1.trees) (sym e) (steps_held_later d.trees d1.trees g.trees y k)

  pub closes_later : (to : List Task) (parts : List (List Step)) (i : ℕ) (x : Task) (y these : List Step) → TasksHeld d.trees to → PartsHeld d.trees parts
      → PartsClose (tasks_at d.trees to) (parts_at d.trees parts) → i < length to → i < length parts → x ≡ get_or to i x → y ≡ get_or parts i y → these ≡ y
      → Closes (task_at d1.trees x) (steps_at d1.trees these)
  closes_later to parts i x y these th ph c l m is iy e =
      let h : TaskHeld d.trees x = subst (λ (z : Task). TaskHeld d.trees z) (sym is) (th i x l) in
      let at : task_or (tasks_at d.trees to) i ≡ task_at d.trees x = get_or-map (task_at d.trees) to i x no_task l ∙ ap (task_at d.trees) (sym is) in
      let a : task_at d1.trees x ≡ task_or (tasks_at d.trees to) i = task_later d.trees d1.trees g.trees x h ∙ sym at in
      let b : steps_at d1.trees these ≡ part_or (parts_at d.trees parts) i = part_later parts i y these ph m iy e in
      rw (a, b) (c.each i (rw (length-map to (task_at d.trees)) l))

  pub sequents_more : (q : ℕ → List StepTree) (n : ℕ) → ((i : ℕ) → i < n → HasSequents d (q i)) → HasSequents d1 (q n) → (i : ℕ) → i < n + 1 → HasSequents d1 (q i)
  sequents_more q n a h i l = elim (cases_lt i n) [
    | inl k ↦ has_later d d1 (q i) g (a i k)
    | inr k ↦ let e : i ≡ n = omega arith in subst (λ (z : ℕ). HasSequents d1 (q z)) (sym e) h
  ]

  pub end_all : (to : List Task) (ns these : List ℕ) (n : ℕ) → TasksHeld d.trees to → n ≡ length to → these ≡ ns → HaveSequents d1 ns (start_of (tasks_at d.trees to)) n → EndIn d1 these (tasks_at d1.trees to)
  end_all to ns these n th e f u =
      let l : length (tasks_at d.trees to) ≡ n = length-map to (task_at d.trees) ∙ sym e in
      let r : EndIn d1 ns (tasks_at d.trees to) = record { as_many = u.as_many ∙ sym l; each = λ i h. u.each i (rw l at h) } in
      subst (λ (z : List TaskTree). EndIn d1 these z) (sym (tasks_later to th)) (subst (λ (z : List ℕ). EndIn d1 z (tasks_at d.trees to)) (sym f) r)

pub in_stage_of : (q : TaskEquation) (d : DraftTree) (from : Task) (to : List Task) (i : ℕ) (x : Task) → IsOwnTask d from
    → TasksHeld d.trees to → Gives q d.task (tasks_at d.trees to) → i < length to → x ≡ get_or to i x → InStage q d from x
in_stage_of q d from to i x own th p l is = record {
  own = own;
  held = subst (λ (z : Task). TaskHeld d.trees z) (sym is) (th i x l);
  among = record {
    tasks = tasks_at d.trees to;
    is = p;
    place = i;
    within = rw (length-map to (task_at d.trees)) l;
    there = get_or-map (task_at d.trees) to i x no_task l ∙ ap (task_at d.trees) (sym is);
  };
}
