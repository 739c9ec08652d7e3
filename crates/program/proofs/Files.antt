-- The files of refutations, read one after another.
use Rattle.std.proofs.Common.{◌≡◌, ◌≤◌, ◌<◌, ◌+◌, ◌-◌, ◌∙◌, ℕ, zero, suc, List, [], ◌∷◌, ◌++◌, length, get_or, map, Result, Ok, Err, String, Global, string_bytes, inl, inr, refl, sym, ap, subst, arith, add-one}
use Rattle.std.proofs.lemmas.List.{length-append, get_or-map, get_or_append_left}
use Rattle.std.proofs.lemmas.List.Elements.{All-append, All-cons, All-nil}
use Rattle.std.proofs.lemmas.Bool.{cases_lt}
use Rattle.std.proofs.Math.Seq.{get_or-append_seam}
use Rattle.statuses.specs.outside.State.{LibraryState}
use Rattle.tasks.specs.trees.Tree.{Tree}
use Rattle.tasks.specs.trees.Node.{Grows}
use Rattle.tasks.specs.declared.task.Task.{Task}
use Rattle.tasks.specs.Task.{TaskTree}
use Rattle.tasks.specs.Meaning.{task_at, tasks_at, TaskHeld, TasksHeld}
use Rattle.tasks.proofs.Growth.{map_agree, task_later, task_held_later}
use Rattle.rules.specs.declared.rule.Step.{Step}
use Rattle.rules.specs.Trees.{StepTree}
use Rattle.rules.specs.Meaning.{steps_at, StepsHeld}
use Rattle.step_writing.proofs.kernel.Growth.{steps_later, steps_held_later}
use Rattle.stages.specs.evidence.Stages.{task_or, no_task, parts_at, part_or, PartsHeld, PartsClose}
use Rattle.step_writing.specs.kernel.Right.{Closes}
use Rattle.part_texts.specs.drivers.declared.driver_parts.driver.Driver.{Driver}
use Rattle.statuses.specs.fault_order.Answers.{Answers}
use Rattle.statuses.specs.fault_order.Order.{StageMeaning, Answer, After}
use Rattle.program.specs.Order.{PartFile, FirstFiles, name_with_number}
use Rattle.statuses.specs.declared.fault_order.faults.RunFault.{RunFault}
use Rattle.statuses.specs.declared.fault_order.faults.RunFault.TheVariants as run_fault
use Rattle.statuses.proofs.fault_order.Meeting.{answers_then, answers_stop, answers_value, still_twice}

module _ (s s' : List Tree) (g : Grows s s') where
  -- a part, over a store that has grown
  pub part_later : (parts : List Task) (i : ℕ) (t : Task) → t ≡ get_or parts i t → i < length parts → TasksHeld s parts → task_at s' t ≡ task_or (tasks_at s parts) i
  part_later parts i t is l th =
      let h : TaskHeld s t = subst (TaskHeld s) (sym is) (th i t l) in
      task_later s s' g t h ∙ sym (get_or-map (task_at s) parts i t no_task l ∙ ap (task_at s) (sym is))

  pub part_held : (parts : List Task) (i : ℕ) (t : Task) → t ≡ get_or parts i t → i < length parts → TasksHeld s parts → TaskHeld s' t
  part_held parts i t is l th = task_held_later s s' g t (subst (TaskHeld s) (sym is) (th i t l))

  pub handed_later : (handed : List (List Step)) → PartsHeld s handed → parts_at s' handed ≡ parts_at s handed
  handed_later handed ph = map_agree (steps_at s') (steps_at s) handed (λ i z h. steps_later s s' g _ (ph i z h))

  pub handed_held : (handed : List (List Step)) → PartsHeld s handed → PartsHeld s' handed
  handed_held handed ph i z h = steps_held_later s s' g _ (ph i z h)

-- one list more
pub handed_more : (s : List Tree) (handed : List (List Step)) (steps : List Step) → parts_at s (handed ++ steps ∷ []) ≡ parts_at s handed ++ steps_at s steps ∷ []
handed_more s [] steps = refl
handed_more s (x ∷ xs) steps = ap (λ z. steps_at s x ∷ z) (handed_more s xs steps)

pub held_more : (s : List Tree) (handed : List (List Step)) (steps : List Step) → PartsHeld s handed → StepsHeld s steps → PartsHeld s (handed ++ steps ∷ [])
held_more s handed steps ph h = All-append (StepsHeld s) handed (steps ∷ []) ph (All-cons (StepsHeld s) steps [] h (All-nil (StepsHeld s)))

-- the first n tasks are derived, each by its steps
pub record FirstClose (parts : List TaskTree) (handed : List (List StepTree)) (n : ℕ) : Type 0 where
  pub as_many : length handed ≡ n
  pub each : (i : ℕ) → i < n → Closes (task_or parts i) (part_or handed i)

pub close_none : (parts : List TaskTree) → FirstClose parts [] 0
close_none parts = record { as_many = refl; each = λ i l. absurd (omega arith) }

pub close_more : (parts : List TaskTree) (handed : List (List StepTree)) (n : ℕ) (steps : List StepTree) → FirstClose parts handed n → Closes (task_or parts n) steps → FirstClose parts (handed ++ steps ∷ []) (n + 1)
close_more parts handed n steps a r = record {
  as_many = omega (arith, length-append handed (steps ∷ []), a.as_many);
  each = λ i l. elim (cases_lt i n) [
    | inl m ↦ let e : part_or (handed ++ steps ∷ []) i ≡ part_or handed i = get_or_append_left handed (steps ∷ []) [] i (omega (arith, a.as_many)) in
        subst (Closes (task_or parts i)) (sym e) (a.each i m)
    | inr m ↦ let same : i ≡ n = omega arith in
        let e : part_or (handed ++ steps ∷ []) i ≡ steps = ap (λ (z : ℕ). get_or (handed ++ steps ∷ []) z []) (same ∙ sym a.as_many) ∙ get_or-append_seam handed steps [] [] in
        subst (Closes (task_or parts i)) (sym e) (subst (λ (z : ℕ). Closes (task_or parts z) steps) (sym same) r)
  ];
}

pub close_all : (parts : List TaskTree) (handed : List (List StepTree)) (n : ℕ) → n ≡ length parts → FirstClose parts handed n → PartsClose parts handed
close_all parts handed n e a = record { as_many = a.as_many ∙ e; each = λ i l. a.each i (omega arith) }

-- a name, as the code has it
pub name_at : (names : List (String Global)) (i : ℕ) (x : String Global) (name : List ℕ) → x ≡ get_or names i x → i < length names → name ≡ string_bytes x → name ≡ name_with_number (map string_bytes names) i
name_at names i x name is l e = e ∙ ap string_bytes is ∙ sym (get_or-map string_bytes names i x [] l)

module _ (d : Driver) (parts : List TaskTree) (names : List (List ℕ)) where
  -- what is left after the first k files
  abbrev file_after : ℕ → List (List StepTree) → StageMeaning (List (List StepTree))
  file_after k handed files limit = After (PartFile d k (task_or parts k) (name_with_number names k) files limit) (λ steps. Answer (Ok (handed ++ steps ∷ [])))

  abbrev added : List (List StepTree) → List StepTree → StageMeaning (List (List StepTree))
  added handed steps files limit = Answer (Ok (handed ++ steps ∷ []))

module _ (d : Driver) (parts : List TaskTree) (names : List (List ℕ)) {s0 s1 s2 : LibraryState} where
  -- one file more
  pub files_more : (k : ℕ) (handed : List (List StepTree)) (steps : List StepTree) → Answers (FirstFiles d parts names k) d.next_file (λ _. k + d.next_file) s0 s1 (Ok handed)
      → Answers (PartFile d k (task_or parts k) (name_with_number names k)) (k + d.next_file) (λ _. k + d.next_file + 1) s1 s2 (Ok steps)
      → Answers (FirstFiles d parts names (k + 1)) d.next_file (λ _. k + 1 + d.next_file) s0 s2 (Ok (handed ++ steps ∷ []))
  files_more k handed steps one two =
      let e : k + d.next_file + 1 ≡ k + 1 + d.next_file = omega arith in
      let r : Result (List (List StepTree)) RunFault = Ok (handed ++ steps ∷ []) in
      let whole : Answers (FirstFiles d parts names (suc k)) d.next_file (λ _. k + d.next_file + 1) s0 s2 r = answers_then (file_after d parts names k) one (answers_then (added d parts names handed) two (answers_value {next = λ _. k + d.next_file + 1} (omega arith) (λ files limit. refl))) in
      let here : Answers (FirstFiles d parts names (k + 1)) d.next_file (λ _. k + d.next_file + 1) s0 s2 r = subst (λ (n : ℕ). Answers (FirstFiles d parts names n) d.next_file (λ _. k + d.next_file + 1) s0 s2 r) (sym (add-one k)) whole in
      subst (λ (n : ℕ). Answers (FirstFiles d parts names (k + 1)) d.next_file (λ _. n) s0 s2 r) e here

module _ (d : Driver) (parts : List TaskTree) (names : List (List ℕ)) {s0 s1 : LibraryState} {e : RunFault} where
  stop_on : (k m : ℕ) (next : List (List StepTree) → ℕ) → Answers (FirstFiles d parts names m) d.next_file next s0 s1 (Err e) → Answers (FirstFiles d parts names (k + m)) d.next_file next s0 s1 (Err e)
  stop_on zero m next one = let q : m ≡ 0 + m = omega arith in subst (λ (n : ℕ). Answers (FirstFiles d parts names n) d.next_file next s0 s1 (Err e)) q one
  stop_on (suc k) m next one =
      let q : suc (k + m) ≡ suc k + m = omega arith in
      subst (λ (n : ℕ). Answers (FirstFiles d parts names n) d.next_file next s0 s1 (Err e)) q (answers_stop (file_after d parts names (k + m)) next (stop_on k m next one))

  pub stop_later : (m n : ℕ) (next : List (List StepTree) → ℕ) → m ≤ n → Answers (FirstFiles d parts names m) d.next_file next s0 s1 (Err e) → Answers (FirstFiles d parts names n) d.next_file next s0 s1 (Err e)
  stop_later m n next l one =
      let q : n - m + m ≡ n = omega arith in
      subst (λ (z : ℕ). Answers (FirstFiles d parts names z) d.next_file next s0 s1 (Err e)) q (stop_on (n - m) m next one)

-- a file stops
pub files_stop : (d : Driver) (parts : List TaskTree) (names : List (List ℕ)) {s0 s1 s2 : LibraryState} {e : RunFault} (k n : ℕ) (handed : List (List StepTree)) → k < n → Answers (FirstFiles d parts names k) d.next_file (λ _. k + d.next_file) s0 s1 (Ok handed)
    → Answers (PartFile d k (task_or parts k) (name_with_number names k)) (k + d.next_file) (λ _. k + d.next_file + 1) s1 s2 (Err e)
    → Answers (FirstFiles d parts names n) d.next_file (λ _. n + d.next_file) s0 s2 (Err e)
files_stop d parts names {s0 = s0} {s1 = s1} {s2 = s2} {e = e} k n handed l one two =
    let whole : Answers (FirstFiles d parts names (suc k)) d.next_file (λ _. n + d.next_file) s0 s2 (Err e) =
    answers_then (file_after d parts names k) one (answers_stop (added d parts names handed) (λ _. n + d.next_file) two) in
    stop_later d parts names (suc k) n (λ _. n + d.next_file) (omega arith) whole

-- want of memory after what was read
pub lost_after : {A B C : Type 0} {first : StageMeaning A} {second : StageMeaning B} (whole : StageMeaning C) {start two three : ℕ} {f : A → ℕ} {h : B → ℕ} (next : C → ℕ) {s0 s1 s2 : LibraryState} {a : A} {b : B}
    → Answers first start f s0 s1 (Ok a) → Answers second two h s1 s2 (Ok b) → Answers whole three next s0 s2 (Err run_fault.Memory)
lost_after whole next {s0 = s0} {s1 = s1} {s2 = s2} x y = record { files = y.files ∙ x.files; meets = still_twice s0 s1 s2 x.meets.0 y.meets.0 }
