-- One derivation more of those of the tasks of a level.
use Rattle.std.proofs.Common.{◌≡◌, ◌∙◌, ◌<◌, ◌≤◌, ◌+◌, ◌-◌, ℕ, List, [], ◌∷◌, ◌++◌, length, get_or, take, drop, All, Ok, inl, inr, ap, refl, sym, subst, arith, reverse}
use Rattle.std.proofs.lemmas.Bool.{cases_lt}
use Rattle.std.proofs.lemmas.List.{length-append, length-drop, length-map, length-reverse, length-take-le, map-append, reverse-append, drop_all, drop_more, take_all, take-append-drop, take_at, take-map, drop-map, get_or-drop, get_or-take, get_or_append_left}
use Rattle.std.proofs.lemmas.List.Elements.{All-drop, All-nil, All-push, All-take}
use Rattle.std.proofs.Math.Seq.{drop-append_seam, get_or-append_seam}
use Rattle.tasks.specs.trees.Tree.{Tree}
use Rattle.tasks.specs.trees.Node.{Grows}
use Rattle.tasks.specs.declared.task.Task.{Task}
use Rattle.tasks.specs.Task.{TaskTree}
use Rattle.tasks.specs.Meaning.{task_at, tasks_at, TaskHeld, TasksHeld}
use Rattle.tasks.proofs.Growth.{tasks_later, tasks_held_later}
use Rattle.kernel.specs.rules.declared.rule.Step.{Step}
use Rattle.kernel.specs.rules.Meaning.{steps_at, StepsHeld}
use Rattle.kernel.specs.rules.Trees.{StepTree}
use Rattle.kernel.specs.Right.{Closes}
use Rattle.evidence.specs.Stages.{StageEquation, PartsClose, PartsHeld, parts_at, part_or, task_or, no_task}
use Rattle.stages.specs.declared.lifting.Derived.{Derived}
use Rattle.stages.specs.declared.lifting.PartSteps.{PartSteps}
use Rattle.stages.specs.Lifted.{HandedHasSequents, ListsHaveSequents, OneHasSequent, IsDerived, AreDerived}
use Rattle.stages.specs.Levels.{BecomeEach, IsRefutedLevel, IsSoFar}
use Rattle.stages.proofs.CarriedTasks.{rest_from}
use Rattle.stages.proofs.Levels.{become_length, become_none, taken_more, drop_twice}
use Rattle.stages.proofs.Sequents.{have_alone, have_more}
use Rattle.stages.proofs.Copies.{parts_later, parts_held_later}

-- ---- trees
-- so many tasks from a place on, and the lists there
pub group_closed : (us : List TaskTree) (handed : List (List StepTree)) (used n : ℕ) → PartsClose us handed → n ≤ length (drop used us) → PartsClose (take n (drop used us)) (take n (drop used handed))
group_closed us handed used n c l =
    let as_many = c.as_many in
    let m : n ≤ length (drop used handed) = omega (arith, l, as_many, length-drop used us, length-drop used handed) in
    record {
      as_many = length-take-le n (drop used handed) m ∙ sym (length-take-le n (drop used us) l);
      each = λ i k.
          let w : i < n = omega (arith, k, length-take-le n (drop used us) l) in
          let v : used + i < length us = omega (arith, w, l, length-drop used us) in
          let a : task_or (take n (drop used us)) i ≡ task_or us (used + i) = get_or-take n (drop used us) i no_task w ∙ get_or-drop used us i no_task in
          let b : part_or (take n (drop used handed)) i ≡ part_or handed (used + i) = get_or-take n (drop used handed) i [] w ∙ get_or-drop used handed i [] in
          subst (λ (z : TaskTree). Closes z (part_or (take n (drop used handed)) i)) (sym a) (subst (λ (z : List StepTree). Closes (task_or us (used + i)) z) (sym b) (c.each (used + i) v));
    }

closed_more : (ts : List TaskTree) (lists : List (List StepTree)) (t : TaskTree) (steps : List StepTree) → PartsClose ts lists → Closes t steps → PartsClose (ts ++ t ∷ []) (lists ++ steps ∷ [])
closed_more ts lists t steps c d = record {
  as_many = omega (arith, length-append lists (steps ∷ []), length-append ts (t ∷ []), c.as_many);
  each = λ i l. elim (cases_lt i (length ts)) [
    | inl m ↦
        let a : task_or (ts ++ t ∷ []) i ≡ task_or ts i = get_or_append_left ts (t ∷ []) no_task i m in
        let b : part_or (lists ++ steps ∷ []) i ≡ part_or lists i = get_or_append_left lists (steps ∷ []) [] i (omega (arith, c.as_many)) in
        subst (λ (z : TaskTree). Closes z (part_or (lists ++ steps ∷ []) i)) (sym a) (subst (λ (z : List StepTree). Closes (task_or ts i) z) (sym b) (c.each i m))
    | inr m ↦
        let same : i ≡ length ts = omega (arith, l, length-append ts (t ∷ [])) in
        let a : task_or (ts ++ t ∷ []) i ≡ t = ap (λ (z : ℕ). get_or (ts ++ t ∷ []) z no_task) same ∙ get_or-append_seam ts t [] no_task in
        let b : part_or (lists ++ steps ∷ []) i ≡ steps = ap (λ (z : ℕ). get_or (lists ++ steps ∷ []) z []) (same ∙ sym c.as_many) ∙ get_or-append_seam lists steps [] [] in
        subst (λ (z : TaskTree). Closes z (part_or (lists ++ steps ∷ []) i)) (sym a) (subst (λ (z : List StepTree). Closes t z) (sym b) d)
  ];
}

-- before the first task
pub far_none : (f : StageEquation) (ts : List TaskTree) (counts : List ℕ) (us : List TaskTree) (handed : List (List StepTree)) → BecomeEach f ts counts us → IsSoFar f ts counts us handed 0 0 []
far_none f ts counts us handed h = record {
  close = record { as_many = refl; each = λ i l. absurd (omega arith) };
  within = omega arith;
  left = h;
  sequents = All-nil (λ part. All (OneHasSequent []) part);
}

-- one task more
pub far_more : (f : StageEquation) (ts : List TaskTree) (counts : List ℕ) (us : List TaskTree) (handed : List (List StepTree)) (i used n : ℕ) (lists : List (List StepTree)) (t : TaskTree) (steps : List StepTree)
    → PartsClose us handed → IsSoFar f ts counts us handed i used lists → i < length ts → drop i ts ≡ t ∷ drop (i + 1) ts → BecomeEach f (t ∷ drop (i + 1) ts) (n ∷ drop (i + 1) counts) (drop used us)
    → Closes t steps → HandedHasSequents steps (take n (drop used handed)) → IsSoFar f ts counts us handed (i + 1) (used + n) (lists ++ steps ∷ [])
far_more f ts counts us handed i used n lists t steps close far l at next c h =
    let as_many = close.as_many in
    record {
      close = subst (λ (z : List TaskTree). PartsClose z (lists ++ steps ∷ [])) (sym (taken_more ts i t l at)) (closed_more (take i ts) lists t steps far.close c);
      within = omega (arith, next.0, far.within, as_many, length-drop used us);
      left = subst (λ (z : List TaskTree). BecomeEach f (drop (i + 1) ts) (drop (i + 1) counts) z) (drop_twice used n us) next.2;
      sequents = have_more lists handed used n steps far.sequents h;
    }

-- after the last one
pub all_used : (f : StageEquation) (ts : List TaskTree) (counts : List ℕ) (us : List TaskTree) (handed : List (List StepTree)) (i used : ℕ) (lists : List (List StepTree)) → PartsClose us handed → length ts ≤ i
    → IsSoFar f ts counts us handed i used lists → take used handed ≡ handed
all_used f ts counts us handed i used lists close l far =
    let none : drop i ts ≡ [] = drop_all i ts l in
    let left : drop used us ≡ [] = become_none f (drop i counts) (drop used us) (subst (λ (z : List TaskTree). BecomeEach f z (drop i counts) (drop used us)) none far.left) in
    let as_many = close.as_many in
    let n : length (drop used us) ≡ 0 = ap length left in
    take_all used handed (omega (arith, n, as_many, length-drop used us))

-- ---- numbers
-- the last n of a list, in reverse, are the first of the list in reverse
pub split_group : {A : Type 0} (old new tail group : List A) (from n : ℕ) → n ≤ length old → from ≡ length old - n → new ≡ take from old → tail ≡ drop from old → group ≡ reverse tail
    → (length group ≡ n) × (reverse old ≡ group ++ reverse new)
split_group old new tail group from n l f is ts gs =
    let m : length group ≡ length tail = ap length gs ∙ length-reverse tail in
    let k : length tail ≡ length (drop from old) = ap length ts in (
      omega (arith, l, f, m, k, length-drop from old),
      ap reverse (sym (take-append-drop from old)) ∙ reverse-append (take from old) (drop from old)
          ∙ ap (λ z. z ++ reverse (take from old)) (ap reverse (sym ts) ∙ sym gs) ∙ ap (λ z. group ++ reverse z) (sym is),
    )

-- the next group, and what is left after it
pub group_is : {A : Type 0} (made rest group later : List A) (used n : ℕ) → rest ≡ drop used made → rest ≡ group ++ later → length group ≡ n → group ≡ take n (drop used made)
group_is made rest group later used n at is l = sym (take_at group later n l) ∙ ap (take n) (sym is ∙ at)

pub later_is : {A : Type 0} (made rest group later : List A) (used n : ℕ) → rest ≡ drop used made → rest ≡ group ++ later → length group ≡ n → later ≡ drop (used + n) made
later_is made rest group later used n at is l =
    sym (drop-append_seam group later) ∙ ap (λ (k : ℕ). drop k (group ++ later)) l ∙ ap (drop n) (sym is ∙ at) ∙ drop_twice used n made

module _ (s0 s : List Tree) (g : Grows s0 s) (used n : ℕ) where
  pub group_tasks : (made group : List Task) → TasksHeld s0 made → group ≡ take n (drop used made) → tasks_at s group ≡ take n (drop used (tasks_at s0 made))
  group_tasks made group h is =
      ap (tasks_at s) is ∙ sym (take-map (task_at s) n (drop used made)) ∙ ap (take n) (sym (drop-map (task_at s) used made)) ∙ ap (λ (z : List TaskTree). take n (drop used z)) (tasks_later s0 s g made h)

  pub group_held : (made group : List Task) → TasksHeld s0 made → group ≡ take n (drop used made) → TasksHeld s group
  group_held made group h is =
      subst (TasksHeld s) (sym is) (All-take (TaskHeld s) n (drop used made) (All-drop (TaskHeld s) used made (tasks_held_later s0 s g made h)))

  pub group_parts : (parts group : List (List Step)) → PartsHeld s0 parts → group ≡ take n (drop used parts) → parts_at s group ≡ take n (drop used (parts_at s0 parts))
  group_parts parts group h is =
      ap (parts_at s) is ∙ sym (take-map (steps_at s) n (drop used parts)) ∙ ap (take n) (sym (drop-map (steps_at s) used parts)) ∙ ap (λ (z : List (List StepTree)). take n (drop used z)) (parts_later s0 s g parts h)

  pub group_parts_held : (parts group : List (List Step)) → PartsHeld s0 parts → group ≡ take n (drop used parts) → PartsHeld s group
  group_parts_held parts group h is =
      subst (PartsHeld s) (sym is) (All-take (StepsHeld s) n (drop used parts) (All-drop (StepsHeld s) used parts (parts_held_later s0 s g parts h)))

  -- refuted by so many lists from a place on
  pub group_close : (made group : List Task) (parts own : List (List Step)) → TasksHeld s0 made → PartsHeld s0 parts → group ≡ take n (drop used made) → own ≡ take n (drop used parts)
      → n ≤ length (drop used (tasks_at s0 made)) → PartsClose (tasks_at s0 made) (parts_at s0 parts) → PartsClose (tasks_at s group) (parts_at s own)
  group_close made group parts own h ph is os l c =
      subst (λ (z : List TaskTree). PartsClose z (parts_at s own)) (sym (group_tasks made group h is))
      (subst (λ (z : List (List StepTree)). PartsClose (take n (drop used (tasks_at s0 made))) z) (sym (group_parts parts own ph os)) (group_closed (tasks_at s0 made) (parts_at s0 parts) used n c l))

-- the slice up to a place so many further
pub slice_group : {A : Type 0} (parts : List A) (used n next : ℕ) → next ≡ used + n → take (next - used) (drop used parts) ≡ take n (drop used parts)
slice_group parts used n next e = let m : next - used ≡ n = omega (arith, e) in ap (λ (k : ℕ). take k (drop used parts)) m

abbrev pub Far : StageEquation → List Tree → List Tree → List Task → List ℕ → List Task → List (List Step) → ℕ → ℕ → List (List Step) → Type 0
Far f s0 s tasks counts made parts i used lists = IsSoFar f (tasks_at s0 tasks) counts (tasks_at s0 made) (parts_at s0 parts) i used (parts_at s lists)

pub counted : (f : StageEquation) (s : List Tree) (tasks : List Task) (counts : List ℕ) (made : List Task) (parts : List (List Step)) (i : ℕ) → IsRefutedLevel f s tasks counts made parts → i < length tasks → i < length counts
counted f s tasks counts made parts i level l =
    let n = become_length f (tasks_at s tasks) counts (tasks_at s made) level.become in
    omega (arith, n, l, length-map tasks (task_at s))

-- the next task, which becomes n of the tasks that are left
module _ (f : StageEquation) (s0 s : List Tree) (g : Grows s0 s) (tasks : List Task) (counts : List ℕ) (made : List Task) (parts : List (List Step)) (i used : ℕ) (lists : List (List Step))
    (level : IsRefutedLevel f s0 tasks counts made parts) (far : Far f s0 s tasks counts made parts i used lists) (t : Task) (is : t ≡ get_or tasks i t) (l : i < length tasks) (n : ℕ) (ns : n ≡ get_or counts i 0) where
  next : BecomeEach f (task_at s t ∷ drop (i + 1) (tasks_at s0 tasks)) (n ∷ drop (i + 1) counts) (drop used (tasks_at s0 made))
  next =
      subst (λ (z : List ℕ). BecomeEach f (task_at s t ∷ drop (i + 1) (tasks_at s0 tasks)) z (drop used (tasks_at s0 made))) (drop_more counts i 0 (counted f s0 tasks counts made parts i level l) ∙ ap (λ (k : ℕ). k ∷ drop (i + 1) counts) (sym ns))
      (subst (λ (z : List TaskTree). BecomeEach f z (drop i counts) (drop used (tasks_at s0 made))) (rest_from s0 s g tasks i t level.are.held is l) far.left)

  pub next_fits : n ≤ length (drop used made)
  next_fits = omega (arith, next.0, length-drop used (tasks_at s0 made), length-drop used made, length-map made (task_at s0))

  pub next_end : used + n ≤ length parts
  next_end =
      let as_many = level.close.as_many in
      let within = far.within in
      omega (arith, next.0, within, as_many, length-map parts (steps_at s0), length-drop used (tasks_at s0 made))

  pub next_gives : (group : List Task) → group ≡ take n (drop used made) → f (task_at s t) ≡ Ok (tasks_at s group)
  next_gives group at = next.1 ∙ ap (λ (z : List TaskTree). Ok z) (sym (group_tasks s0 s g used n made group level.made_held at))

  pub next_close : (group : List Task) (own : List (List Step)) → group ≡ take n (drop used made) → own ≡ take n (drop used parts) → PartsClose (tasks_at s group) (parts_at s own)
  next_close group own at os = group_close s0 s g used n made group parts own level.made_held level.parts_held at os next.0 level.close

  pub next_far : (own : List (List Step)) (d : Derived) → PartsHeld s lists → own ≡ take n (drop used parts) → IsDerived s (task_at s t) (parts_at s own) d
      → Far f s0 d.store tasks counts made parts (i + 1) (used + n) (lists ++ d.steps ∷ [])
  next_far own d lh os made_is =
      let steps = steps_at d.store d.steps in
      let sequents : HandedHasSequents steps (take n (drop used (parts_at s0 parts))) =
      subst (λ (z : List (List StepTree)). HandedHasSequents steps z) (group_parts s0 s g used n parts own level.parts_held os) made_is.sequents in
      let k : i < length (tasks_at s0 tasks) = omega (arith, length-map tasks (task_at s0), l) in
      let trees : parts_at d.store (lists ++ d.steps ∷ []) ≡ parts_at s lists ++ steps ∷ [] =
      map-append (steps_at d.store) lists (d.steps ∷ []) ∙ ap (λ (z : List (List StepTree)). z ++ steps ∷ []) (parts_later s d.store made_is.grows lists lh) in
      subst (λ (z : List (List StepTree)). IsSoFar f (tasks_at s0 tasks) counts (tasks_at s0 made) (parts_at s0 parts) (i + 1) (used + n) z) (sym trees)
      (far_more f (tasks_at s0 tasks) counts (tasks_at s0 made) (parts_at s0 parts) i used n (parts_at s lists) (task_at s t) steps level.close far k (rest_from s0 s g tasks i t level.are.held is l) next made_is.closes sequents)

-- after the last task
pub far_done : (f : StageEquation) (s0 : List Tree) (tasks : List Task) (counts : List ℕ) (made : List Task) (parts : List (List Step)) (i used : ℕ) (lists : List (List Step)) (p : PartSteps)
    → IsRefutedLevel f s0 tasks counts made parts → length tasks ≤ i → lists ≡ p.lists.items → Grows s0 p.store → PartsHeld p.store lists → Far f s0 p.store tasks counts made parts i used lists
    → AreDerived s0 (tasks_at s0 tasks) (parts_at s0 parts) p
far_done f s0 tasks counts made parts i used lists p level l is g h far =
    let ts = tasks_at s0 tasks in
    let handed = parts_at s0 parts in
    let m : length ts ≤ i = omega (arith, length-map tasks (task_at s0), l) in
    let close : PartsClose ts (parts_at p.store lists) = subst (λ (z : List TaskTree). PartsClose z (parts_at p.store lists)) (take_all i ts m) far.close in
    let all : take used handed ≡ handed = all_used f ts counts (tasks_at s0 made) handed i used (parts_at p.store lists) level.close m far in
    let sequents : ListsHaveSequents (parts_at p.store lists) handed = subst (λ (z : List (List StepTree)). ListsHaveSequents (parts_at p.store lists) z) all far.sequents in
    record {
      grows = g;
      held = subst (PartsHeld p.store) is h;
      close = subst (λ (z : List (List Step)). PartsClose ts (parts_at p.store z)) is close;
      sequents = subst (λ (z : List (List Step)). ListsHaveSequents (parts_at p.store z) handed) is sequents;
    }

pub held_next : (s : List Tree) (t : TaskTree) (handed : List (List StepTree)) (lists : List (List Step)) (d : Derived) → PartsHeld s lists → IsDerived s t handed d → PartsHeld d.store (lists ++ d.steps ∷ [])
held_next s t handed lists d lh n = All-push (StepsHeld d.store) lists d.steps (parts_held_later s d.store n.grows lists lh) n.held

-- one list alone
pub alone_of : (s : List Tree) (t : TaskTree) (handed : List (List StepTree)) (store : List Tree) (lists : List (List Step)) (steps : List Step) → Grows s store → PartsHeld store lists
    → PartsClose (t ∷ []) (parts_at store lists) → ListsHaveSequents (parts_at store lists) handed → steps ≡ get_or lists 0 steps → IsDerived s t handed (record { store = store; steps = steps })
alone_of s t handed store [] steps g h c q e = let n = c.as_many in absurd (omega (arith, n))
alone_of s t handed store (x ∷ []) steps g h c q e = record {
  grows = g;
  held = subst (StepsHeld store) (sym e) (h 0 x (omega arith));
  closes = subst (λ (z : List Step). Closes t (steps_at store z)) (sym e) (c.each 0 (omega arith));
  sequents = subst (λ (z : List Step). HandedHasSequents (steps_at store z) handed) (sym e) (have_alone (steps_at store x) handed q);
}
alone_of s t handed store (x ∷ y ∷ ys) steps g h c q e = let n = c.as_many in absurd (omega (arith, n))
