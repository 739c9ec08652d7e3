-- Tasks that are carried through, step by step.
use Rattle.std.proofs.Common.{◌≡◌, ◌∙◌, ℕ, ◌<◌, ◌≤◌, ◌+◌, List, [], ◌∷◌, ◌++◌, length, map, get_or, take, drop, All, Result, Ok, Err, refl, ap, sym, subst, arith, append_assoc}
use Rattle.std.proofs.lemmas.List.{append-nil, length-map, length-append, map-append, get_or-map, get_or_append_left, take_all, drop_more, drop_all}
use Rattle.std.proofs.Math.Seq.{get_or-append_seam}
use Rattle.std.proofs.lemmas.List.Elements.{All-append, All-cons, All-nil, All-push, All-weaker}
use Rattle.tasks.specs.trees.Tree.{Tree}
use Rattle.tasks.specs.trees.Node.{Grows}
use Rattle.tasks.specs.declared.task.Task.{Task}
use Rattle.tasks.specs.Task.{TaskTree}
use Rattle.tasks.specs.Meaning.{task_at, tasks_at, TaskHeld, TasksHeld}
use Rattle.tasks.specs.Valid.{IsValid}
use Rattle.tasks.proofs.Growth.{map_agree, task_later, task_held_later, tasks_later, tasks_held_later}
use Rattle.evidence.specs.Stages.{Refusal, StageEquation, Keeps, no_task, task_or}
use Rattle.stages.specs.declared.transformations.transformation.Transformation.{Transformation}
use Rattle.stages.specs.transformations.Transformations.{equation_of}
use Rattle.stages.specs.transformations.Transformations.{keeps_of}
use Rattle.stages.specs.Carried.{and_then, map_ok, all_tasks, carried_once, StageRefusal, at_stage, carried}
use Rattle.evidence.specs.stage_limits.Limits.{limited}
use Rattle.stages.specs.Faults.{IsCarryFault}
use Rattle.stages.specs.declared.fault.CarryFault.{CarryFault}
use Rattle.stages.specs.declared.fault.CarryFault.TheVariants as fault
use Rattle.stages.specs.Steps.{AreTasks, ArePushed, IsAlone}
use Rattle.stages.specs.declared.task_levels.Level.{Level}
use Rattle.stages.specs.declared.task_levels.TaskLevels.{TaskLevels}
use Rattle.stages.specs.Levels.{LevelTree, level_at, levels_at, BecomeEach, next_tasks, AreLevels, IsLevelHeld, IsCarried, carried_from}
use Rattle.stages.proofs.Levels.{become_more, taken_more, next_more, levels_more, levels_last}

-- in a store that has grown
pub tasks_kept : (s s' : List Tree) (tasks : List Task) → Grows s s' → AreTasks s tasks → AreTasks s' tasks
tasks_kept s s' tasks g a = record {
  held = tasks_held_later s s' g tasks a.held;
  valid = subst (All IsValid) (sym (tasks_later s s' g tasks a.held)) a.valid;
}

-- the tasks of tasks, after those that are there
abbrev pub after_tasks : StageEquation → List TaskTree → List TaskTree → Result (List TaskTree) Refusal
after_tasks equation there ts = map_ok (λ us. there ++ us) (all_tasks equation ts)

map_nothing : {E : Type 0} (r : Result (List TaskTree) E) → map_ok (λ us. [] ++ us) r ≡ r
map_nothing (Ok us) = refl
map_nothing (Err e) = refl

pub after_none : (equation : StageEquation) (ts : List TaskTree) → after_tasks equation [] ts ≡ all_tasks equation ts
after_none equation ts = map_nothing (all_tasks equation ts)

map_joined : (there us : List TaskTree) (r : Result (List TaskTree) Refusal) → map_ok (λ vs. there ++ vs) (map_ok (λ vs. us ++ vs) r) ≡ map_ok (λ vs. (there ++ us) ++ vs) r
map_joined there us (Ok vs) = ap (λ (z : List TaskTree). Ok z) (sym (append_assoc there us vs))
map_joined there us (Err e) = refl

-- one task more
pub after_more : (equation : StageEquation) (there us : List TaskTree) (t : TaskTree) (ts : List TaskTree) → equation t ≡ Ok us → after_tasks equation (there ++ us) ts ≡ after_tasks equation there (t ∷ ts)
after_more equation there us t ts e = rw e (sym (map_joined there us (all_tasks equation ts)))

-- the task at a place, and those from there on
pub rest_from : (s s' : List Tree) (g : Grows s s') (tasks : List Task) (i : ℕ) (t : Task) → TasksHeld s tasks → t ≡ get_or tasks i t → i < length tasks
    → drop i (tasks_at s tasks) ≡ task_at s' t ∷ drop (i + 1) (tasks_at s tasks)
rest_from s s' g tasks i t held is l =
    let same : tasks_at s' tasks ≡ tasks_at s tasks = tasks_later s s' g tasks held in
    let m : i < length (tasks_at s' tasks) = omega (arith, length-map tasks (task_at s'), l) in
    let d = drop_more (tasks_at s' tasks) i no_task m in
    let here : get_or (tasks_at s' tasks) i no_task ≡ task_at s' t = get_or-map (task_at s') tasks i t no_task l ∙ ap (task_at s') (sym is) in
    subst (λ (ts : List TaskTree). drop i ts ≡ task_at s' t ∷ drop (i + 1) ts) same (d ∙ ap (λ (x : TaskTree). x ∷ drop (i + 1) (tasks_at s' tasks)) here)

-- a task that is refused
pub after_refused : (equation : StageEquation) (n : ℕ) (there : List TaskTree) (t : TaskTree) (ts : List TaskTree) (e : CarryFault) → IsCarryFault (at_stage n (equation t)) e
    → IsCarryFault (at_stage n (after_tasks equation there (t ∷ ts))) e
after_refused equation n there t ts e f = by (equation t) e f
  where
    by : (r : Result (List TaskTree) Refusal) (e : CarryFault) → IsCarryFault (at_stage n r) e → IsCarryFault (at_stage n (map_ok (λ us. there ++ us) (and_then r (λ us. map_ok (λ vs. us ++ vs) (all_tasks equation ts))))) e
    by (Err q) fault.Memory h = tt
    by (Err q) (fault.Misplaced k d) h = h
    by (Err q) (fault.TooLarge k) h = h
    by (Ok us) fault.Memory h = tt
    by (Ok us) (fault.Misplaced k d) h = absurd (cc)
    by (Ok us) (fault.TooLarge k) h = absurd (cc)

-- all tasks of a stage, after none, are limited
pub once_limited : (equation : StageEquation) (ts us : List TaskTree) → all_tasks equation ts ≡ Ok us → carried_once equation ts ≡ limited us
once_limited equation ts us e = rw e refl

pub once_refused : (equation : StageEquation) (n : ℕ) (ts : List TaskTree) (e : CarryFault) → IsCarryFault (at_stage n (all_tasks equation ts)) e → IsCarryFault (at_stage n (carried_once equation ts)) e
once_refused equation n ts e f = by (all_tasks equation ts) e f
  where
    by : (r : Result (List TaskTree) Refusal) (e : CarryFault) → IsCarryFault (at_stage n r) e → IsCarryFault (at_stage n (and_then r limited)) e
    by (Err q) fault.Memory h = tt
    by (Err q) (fault.Misplaced k d) h = h
    by (Err q) (fault.TooLarge k) h = h
    by (Ok us) fault.Memory h = tt
    by (Ok us) (fault.Misplaced k d) h = absurd (cc)
    by (Ok us) (fault.TooLarge k) h = absurd (cc)

-- one stage more
pub carried_more : (equations : List StageEquation) (equation : StageEquation) (n : ℕ) (ts us : List TaskTree) → carried_once equation ts ≡ Ok us → carried (equation ∷ equations) n ts ≡ carried equations (n + 1) us
carried_more equations equation n ts us e = rw e refl

pub carried_refused : (equations : List StageEquation) (equation : StageEquation) (n : ℕ) (ts : List TaskTree) (e : CarryFault) → IsCarryFault (at_stage n (carried_once equation ts)) e
    → IsCarryFault (carried (equation ∷ equations) n ts) e
carried_refused equations equation n ts e f = by (at_stage n (carried_once equation ts)) e f
  where
    by : (r : Result (List TaskTree) StageRefusal) (e : CarryFault) → IsCarryFault r e → IsCarryFault (and_then r (carried equations (n + 1))) e
    by (Err q) fault.Memory h = tt
    by (Err q) (fault.Misplaced k d) h = h
    by (Err q) (fault.TooLarge k) h = h
    by (Ok us) fault.Memory h = tt
    by (Ok us) (fault.Misplaced k d) h = absurd (cc)
    by (Ok us) (fault.TooLarge k) h = absurd (cc)

-- the equations of the stages from a place on
pub equations_from : {A B : Type 0} (f : A → B) (xs : List A) (i : ℕ) (x : A) → x ≡ get_or xs i x → i < length xs → map f (drop i xs) ≡ f x ∷ map f (drop (i + 1) xs)
equations_from f xs i x is l = ap (map f) (drop_more xs i x l ∙ ap (λ z. z ∷ drop (i + 1) xs) (sym is))

pub task_there_held : (s s' : List Tree) (g : Grows s s') (tasks : List Task) (i : ℕ) (t : Task) → TasksHeld s tasks → t ≡ get_or tasks i t → i < length tasks → TaskHeld s' t
task_there_held s s' g tasks i t held is l = task_held_later s s' g t (subst (TaskHeld s) (sym is) (held i t l))

pub task_there_same : (s s' : List Tree) (g : Grows s s') (tasks : List Task) (i : ℕ) (t : Task) → TasksHeld s tasks → t ≡ get_or tasks i t → i < length tasks → task_at s' t ≡ task_at s t
task_there_same s s' g tasks i t held is l = task_later s s' g t (subst (TaskHeld s) (sym is) (held i t l))

pub task_there_valid : (s s' : List Tree) (g : Grows s s') (tasks : List Task) (i : ℕ) (t : Task) → AreTasks s tasks → t ≡ get_or tasks i t → i < length tasks → IsValid (task_at s' t)
task_there_valid s s' g tasks i t a is l =
    let h : IsValid (get_or (tasks_at s tasks) i (task_at s t)) = a.valid i (task_at s t) (omega (arith, length-map tasks (task_at s), l)) in
    let e : get_or (tasks_at s tasks) i (task_at s t) ≡ task_at s t = get_or-map (task_at s) tasks i t (task_at s t) l ∙ ap (task_at s) (sym is) in
    subst IsValid (e ∙ sym (task_there_same s s' g tasks i t a.held is l)) h

-- the tasks that a task becomes, after others
pub pushed_of : (x : Transformation) (s s' : List Tree) (g : Grows s s') (t : Task) (all made new : List Task) → IsValid (task_at s t) → AreTasks s all → TasksHeld s' made
    → equation_of x (task_at s t) ≡ Ok (tasks_at s' made) → new ≡ all ++ made → ArePushed (equation_of x (task_at s t)) s all s' new (length made)
pushed_of x s s' g t all made new v a h e is =
    let kept = tasks_kept s s' all g a in
    let valid : All IsValid (tasks_at s' made) = All-weaker (Keeps (task_at s t)) IsValid (λ u k. k.valid) (tasks_at s' made) (keeps_of x (task_at s t) (tasks_at s' made) v e) in
    let both : tasks_at s' (all ++ made) ≡ tasks_at s' all ++ tasks_at s' made = map-append (task_at s') all made in
    record {
      are = subst (AreTasks s') (sym is) (record { held = All-append (TaskHeld s') all made kept.held h; valid = subst (All IsValid) (sym both) (All-append IsValid (tasks_at s' all) (tasks_at s' made) kept.valid valid) });
      given = tasks_at s' made;
      gives = e;
      is = ap (tasks_at s') is ∙ both ∙ ap (λ (us : List TaskTree). us ++ tasks_at s' made) (tasks_later s s' g all a.held);
      count = sym (length-map made (task_at s'));
    }

module _ (equation : StageEquation) (s0 : List Tree) (tasks : List Task) where
  abbrev pub SoFar : List Tree → List Task → ℕ → Type 0
  SoFar s all i = after_tasks equation (tasks_at s all) (drop i (tasks_at s0 tasks)) ≡ all_tasks equation (tasks_at s0 tasks)

  pub once_step : (s s' : List Tree) (g : Grows s0 s) (i n : ℕ) (t : Task) (all new : List Task) → TasksHeld s0 tasks → t ≡ get_or tasks i t → i < length tasks
      → ArePushed (equation (task_at s t)) s all s' new n → SoFar s all i → SoFar s' new (i + 1)
  once_step s s' g i n t all new held is l p so =
      let rest = drop (i + 1) (tasks_at s0 tasks) in
      let here : drop i (tasks_at s0 tasks) ≡ task_at s t ∷ rest = rest_from s0 s g tasks i t held is l in
      ap (λ (ts : List TaskTree). after_tasks equation ts rest) p.is ∙ after_more equation (tasks_at s all) p.given (task_at s t) rest p.gives
      ∙ ap (after_tasks equation (tasks_at s all)) (sym here) ∙ so

  abbrev pub Each : List Tree → List Task → List ℕ → ℕ → Type 0
  Each s all counts i = BecomeEach equation (take i (tasks_at s0 tasks)) counts (tasks_at s all)

  pub each_step : (s s' : List Tree) (g : Grows s0 s) (i n : ℕ) (t : Task) (all new : List Task) (counts : List ℕ) → TasksHeld s0 tasks → t ≡ get_or tasks i t → i < length tasks
      → ArePushed (equation (task_at s t)) s all s' new n → Each s all counts i → Each s' new (counts ++ n ∷ []) (i + 1)
  each_step s s' g i n t all new counts held is l p h =
      let ts = tasks_at s0 tasks in
      let m : i < length ts = omega (arith, length-map tasks (task_at s0), l) in
      let taken : take (i + 1) ts ≡ take i ts ++ task_at s t ∷ [] = taken_more ts i (task_at s t) m (rest_from s0 s g tasks i t held is l) in
      subst (λ (us : List TaskTree). BecomeEach equation (take (i + 1) ts) (counts ++ n ∷ []) us) (sym p.is)
      (subst (λ (us : List TaskTree). BecomeEach equation us (counts ++ n ∷ []) (tasks_at s all ++ p.given)) (sym taken)
      (become_more equation (take i ts) counts (tasks_at s all) (task_at s t) p.given n h p.gives p.count))

  pub each_done : (s : List Tree) (i : ℕ) (all made : List Task) (counts : List ℕ) → length tasks ≤ i → tasks_at s made ≡ tasks_at s all → Each s all counts i
      → BecomeEach equation (tasks_at s0 tasks) counts (tasks_at s made)
  each_done s i all made counts l e h =
      let taken : take i (tasks_at s0 tasks) ≡ tasks_at s0 tasks = take_all i (tasks_at s0 tasks) (omega (arith, length-map tasks (task_at s0), l)) in
      subst (λ (us : List TaskTree). BecomeEach equation (tasks_at s0 tasks) counts us) (sym e) (subst (λ (us : List TaskTree). BecomeEach equation us counts (tasks_at s all)) taken h)

  pub once_fault : (s : List Tree) (g : Grows s0 s) (i n : ℕ) (t : Task) (all : List Task) (e : CarryFault) → TasksHeld s0 tasks → t ≡ get_or tasks i t → i < length tasks
      → IsCarryFault (at_stage n (equation (task_at s t))) e → SoFar s all i → IsCarryFault (at_stage n (carried_once equation (tasks_at s0 tasks))) e
  once_fault s g i n t all e held is l f so =
      let rest = drop (i + 1) (tasks_at s0 tasks) in
      let here : drop i (tasks_at s0 tasks) ≡ task_at s t ∷ rest = rest_from s0 s g tasks i t held is l in
      let whole = ap (after_tasks equation (tasks_at s all)) (sym here) ∙ so in
      once_refused equation n (tasks_at s0 tasks) e
      (subst (λ (r : Result (List TaskTree) Refusal). IsCarryFault (at_stage n r) e) whole (after_refused equation n (tasks_at s all) (task_at s t) rest e f))

  pub once_done : (s : List Tree) (i : ℕ) (all : List Task) → length tasks ≤ i → SoFar s all i → carried_once equation (tasks_at s0 tasks) ≡ limited (tasks_at s all)
  once_done s i all l so =
      let none : drop i (tasks_at s0 tasks) ≡ [] = drop_all i (tasks_at s0 tasks) (omega (arith, length-map tasks (task_at s0), l)) in
      let is : all_tasks equation (tasks_at s0 tasks) ≡ Ok (tasks_at s all) = sym so ∙ ap (after_tasks equation (tasks_at s all)) none ∙ ap (λ (ts : List TaskTree). Ok ts) (append-nil (tasks_at s all)) in
      once_limited equation (tasks_at s0 tasks) (tasks_at s all) is

-- before any task
pub once_none : (equation : StageEquation) (s : List Tree) (tasks : List Task) → SoFar equation s tasks s [] 0
once_none equation s tasks = after_none equation (tasks_at s tasks)

pub each_none : (equation : StageEquation) (s0 : List Tree) (tasks : List Task) (s : List Tree) → Each equation s0 tasks s [] [] 0
each_none equation s0 tasks s = refl

pub none_are : (s : List Tree) → AreTasks s []
none_are s = record { held = All-nil (TaskHeld s); valid = All-nil IsValid }

-- the stages from a place on
module _ (stages : List Transformation) (said : Result (List TaskTree) StageRefusal) where
  abbrev pub Left : ℕ → List TaskTree → Type 0
  Left n ts = carried (map equation_of (drop n stages)) n ts ≡ said

  pub left_step : (n : ℕ) (x : Transformation) (ts us : List TaskTree) → x ≡ get_or stages n x → n < length stages → carried_once (equation_of x) ts ≡ Ok us → Left n ts → Left (n + 1) us
  left_step n x ts us is l e so =
      let later = map equation_of (drop (n + 1) stages) in
      sym (ap (λ (es : List StageEquation). carried es n ts) (equations_from equation_of stages n x is l) ∙ carried_more later (equation_of x) n ts us e) ∙ so

  pub left_fault : (n : ℕ) (x : Transformation) (ts : List TaskTree) (e : CarryFault) → x ≡ get_or stages n x → n < length stages → IsCarryFault (at_stage n (carried_once (equation_of x) ts)) e
      → Left n ts → IsCarryFault said e
  left_fault n x ts e is l f so =
      let later = map equation_of (drop (n + 1) stages) in
      let whole = ap (λ (es : List StageEquation). carried es n ts) (sym (equations_from equation_of stages n x is l)) ∙ so in
      subst (λ (r : Result (List TaskTree) StageRefusal). IsCarryFault r e) whole (carried_refused later (equation_of x) n ts e f)

  pub left_done : (n : ℕ) (ts : List TaskTree) → length stages ≤ n → Left n ts → said ≡ Ok ts
  left_done n ts l so = sym so ∙ ap (λ (xs : List Transformation). carried (map equation_of xs) n ts) (drop_all n stages l)

-- ---- levels
level_later : (s s' : List Tree) (g : Grows s s') (l : Level) → IsLevelHeld s l → level_at s' l ≡ level_at s l
level_later s s' g l h = ap (λ (ts : List TaskTree). record { tasks = ts; counts = l.counts.items }) (tasks_later s s' g l.tasks.items h.held)

levels_later : (s s' : List Tree) (g : Grows s s') (levels : List Level) → All (IsLevelHeld s) levels → levels_at s' levels ≡ levels_at s levels
levels_later s s' g levels h = map_agree (level_at s') (level_at s) levels (λ i z l. level_later s s' g (get_or levels i z) (h i z l))

levels_held_later : (s s' : List Tree) (g : Grows s s') (levels : List Level) → All (IsLevelHeld s) levels → All (IsLevelHeld s') levels
levels_held_later s s' g levels h i z l =
    let at : Level = get_or levels i z in
    tasks_kept s s' at.tasks.items g (h i z l)

-- before any stage
pub carried_none : (s : List Tree) (t : Task) (tasks : List Task) → TaskHeld s t → IsValid (task_at s t) → IsAlone t tasks → IsCarried [] s (task_at s t) [] tasks
carried_none s t tasks h v a = record {
  levels_are = All-nil (IsLevelHeld s);
  are = record { held = a.held s h; valid = subst (All IsValid) (sym (a.tree s)) (All-cons IsValid (task_at s t) [] v (All-nil IsValid)) };
  first = a.tree s;
  become = tt;
}

-- one stage more
pub carried_next : (es : List StageEquation) (e : StageEquation) (s s' : List Tree) (g : Grows s s') (t : TaskTree) (levels : List Level) (l : Level) (tasks made : List Task) → l.tasks.items ≡ tasks
    → IsCarried es s t levels tasks → AreTasks s' made → BecomeEach e (tasks_at s tasks) l.counts.items (tasks_at s' made) → IsCarried (es ++ e ∷ []) s' t (levels ++ l ∷ []) made
carried_next es e s s' g t levels l tasks made q c a b =
    let us = tasks_at s' made in
    let own : tasks_at s' l.tasks.items ≡ tasks_at s tasks = ap (tasks_at s') q ∙ tasks_later s s' g tasks c.are.held in
    let all : levels_at s' (levels ++ l ∷ []) ≡ levels_at s levels ++ level_at s' l ∷ [] =
    map-append (level_at s') levels (l ∷ []) ∙ ap (λ (z : List LevelTree). z ++ level_at s' l ∷ []) (levels_later s s' g levels c.levels_are) in
    let each : BecomeEach e (tasks_at s' l.tasks.items) l.counts.items us = subst (λ (z : List TaskTree). BecomeEach e z l.counts.items us) (sym own) b in
    record {
      levels_are = All-push (IsLevelHeld s') levels l (levels_held_later s s' g levels c.levels_are) (tasks_kept s s' l.tasks.items g (subst (AreTasks s) (sym q) c.are));
      are = a;
      first = ap (λ (z : List LevelTree). next_tasks z us) all ∙ next_more (levels_at s levels) (level_at s' l) (tasks_at s tasks) us own ∙ c.first;
      become = subst (λ (z : List LevelTree). AreLevels (es ++ e ∷ []) z us) (sym all) (levels_more es e (levels_at s levels) (level_at s' l) (tasks_at s tasks) us own c.become each);
    }

-- the last level, and those before it
module _ (es : List StageEquation) (e : StageEquation) (s : List Tree) (t : TaskTree) (levels : List Level) (l : Level) (tasks : List Task) (n : length es ≡ length levels) (c : IsCarried (es ++ e ∷ []) s t (levels ++ l ∷ []) tasks) where
  all_levels : levels_at s (levels ++ l ∷ []) ≡ levels_at s levels ++ level_at s l ∷ []
  all_levels = map-append (level_at s) levels (l ∷ [])

  both : AreLevels es (levels_at s levels) (tasks_at s l.tasks.items) × BecomeEach e (tasks_at s l.tasks.items) l.counts.items (tasks_at s tasks)
  both = levels_last es e (levels_at s levels) (level_at s l) (tasks_at s tasks) (n ∙ sym (length-map levels (level_at s))) (subst (λ (z : List LevelTree). AreLevels (es ++ e ∷ []) z (tasks_at s tasks)) all_levels c.become)

  pub last_become : BecomeEach e (tasks_at s l.tasks.items) l.counts.items (tasks_at s tasks)
  last_become = both.1

  pub last_are : AreTasks s l.tasks.items
  last_are = subst (IsLevelHeld s) (get_or-append_seam levels l [] l) (c.levels_are (length levels) l (omega (arith, length-append levels (l ∷ []))))

  pub carried_before : IsCarried es s t levels l.tasks.items
  carried_before = record {
    levels_are = λ i z m. subst (IsLevelHeld s) (get_or_append_left levels (l ∷ []) z i m) (c.levels_are i z (omega (arith, m, length-append levels (l ∷ []))));
    are = last_are;
    first = sym (next_more (levels_at s levels) (level_at s l) (tasks_at s l.tasks.items) (tasks_at s tasks) refl) ∙ ap (λ (z : List LevelTree). next_tasks z (tasks_at s tasks)) (sym all_levels) ∙ c.first;
    become = both.0;
  }

-- after the last one
pub carried_alone : (es : List StageEquation) (s : List Tree) (c : TaskLevels) (tasks : List Task) → IsCarried es s (carried_from s c) [] tasks → tasks_at s tasks ≡ carried_from s c ∷ []
carried_alone es s c tasks h = h.first

-- the task that is carried
pub carried_is : (es : List StageEquation) (s : List Tree) (t : TaskTree) (c : TaskLevels) → IsCarried es s t c.levels.items c.tasks.items → carried_from s c ≡ t
carried_is es s t c h = ap (λ (ts : List TaskTree). task_or ts 0) h.first

-- in a store that has grown
pub carried_later : (es : List StageEquation) (s s' : List Tree) (g : Grows s s') (t : TaskTree) (levels : List Level) (tasks : List Task) → IsCarried es s t levels tasks → IsCarried es s' t levels tasks
carried_later es s s' g t levels tasks c =
    let before : levels_at s levels ≡ levels_at s' levels = sym (levels_later s s' g levels c.levels_are) in
    let last : tasks_at s tasks ≡ tasks_at s' tasks = sym (tasks_later s s' g tasks c.are.held) in
    record {
      levels_are = levels_held_later s s' g levels c.levels_are;
      are = tasks_kept s s' tasks g c.are;
      first = subst (λ (z : List TaskTree). next_tasks (levels_at s' levels) z ≡ t ∷ []) last (subst (λ (z : List LevelTree). next_tasks z (tasks_at s tasks) ≡ t ∷ []) before c.first);
      become = subst (λ (z : List TaskTree). AreLevels es (levels_at s' levels) z) last (subst (λ (z : List LevelTree). AreLevels es z (tasks_at s tasks)) before c.become);
    }
