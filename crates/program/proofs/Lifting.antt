-- The stages of `lift` after the goal's task.
use Rattle.std.proofs.Common.{◌≡◌, ◌≢◌, ◌+◌, ◌∙◌, ◌==◌, ℕ, true, false, List, length, Result, Ok, Err, None, inl, refl, sym, ap, subst, arith}
use Rattle.std.proofs.lemmas.Bool.Decides.{nat_tests}
use Rattle.statuses.specs.outside.State.{LibraryState}
use Rattle.tasks.specs.Task.{TaskTree}
use Rattle.rules.specs.Trees.{StepTree}
use Rattle.step_writing.specs.name_tables.Tables.{task_names}
use Rattle.step_writing.specs.step_reading.Lines.{StepsOf}
use Rattle.stages.specs.Lifted.{HandedHasSequents}
use Rattle.program.specs.Lifted.{IsLifted}
use Rattle.part_texts.specs.drivers.declared.driver_parts.driver.Driver.{Driver}
use Rattle.statuses.specs.fault_order.Answers.{Answers, IsStageAnswer}
use Rattle.statuses.specs.fault_order.Order.{RunStop, refused, StageMeaning, Answer}
use Rattle.program.specs.source_goals.Order.{GoalSettingTree}
use Rattle.program.specs.Order.{if_counted, FirstFiles, Lifts, Handed, PrintableParts, RefutationsRead, Lifting}
use Rattle.statuses.specs.declared.fault_order.faults.Fault.TheVariants.{PartCount}
use Rattle.statuses.specs.declared.fault_order.faults.RunFault.{RunFault}
use Rattle.statuses.specs.declared.fault_order.faults.RunFault.TheVariants as run_fault
use Rattle.statuses.proofs.fault_order.Meeting.{answers_then, answers_stop, answers_value, answers_refused}
use Rattle.statuses.proofs.fault_order.Stages.{answers_stage}

counted_all : (parts : List TaskTree) (n : ℕ) → length parts ≡ n → Ok parts ≡ if_counted parts n
counted_all parts n e =
    let t : (length parts == n) ≡ true = grind (arith, nat_tests) in
    rw t refl

counted_not : (parts : List TaskTree) (n : ℕ) → length parts ≢ n → Err (refused (PartCount (length parts) n)) ≡ if_counted parts n
counted_not parts n e =
    let t : (length parts == n) ≡ false = grind (arith, nat_tests) in
    rw t refl

module _ (d : Driver) (names : List (List ℕ)) (parts : List TaskTree) where
  -- another number of files than of parts
  pub count_refused : {s : LibraryState} (next : List (List StepTree) → ℕ) (want have : ℕ) → want ≡ length parts → have ≡ length names → want ≢ have
      → Answers (Handed d names parts) d.next_file next s s (Err (run_fault.Refused (PartCount want have)))
  count_refused {s = s} next want have w h n =
      let stop : RunStop = refused (PartCount want have) in
      let unlike : length parts ≢ length names = λ e. n (w ∙ e ∙ sym h) in
      let is : Err stop ≡ if_counted parts (length names) =
      ap (λ (z : ℕ). Err (refused (PartCount z have))) w ∙ ap (λ (z : ℕ). Err (refused (PartCount (length parts) z))) h ∙ counted_not parts (length names) unlike in
      answers_refused {meaning = Handed d names parts} {start = d.next_file} {next = next} {s = s} {fault = PartCount want have} (λ files. inl (stop, is, refl))

  abbrev reading : List TaskTree → StageMeaning (List (List StepTree))
  reading counted files limit = FirstFiles d counted names (length names) files limit

  -- as many files as parts, which are read
  pub handed_answers : {s0 s1 : LibraryState} {r : Result (List (List StepTree)) RunFault} (n : ℕ) → length parts ≡ n → n ≡ length names
      → Answers (FirstFiles d parts names n) d.next_file (λ _. n + d.next_file) s0 s1 r → Answers (Handed d names parts) d.next_file (λ _. n + d.next_file) s0 s1 r
  handed_answers {s0 = s0} {s1 = s1} {r = r} n l e one =
      let here : Answers (FirstFiles d parts names (length names)) d.next_file (λ _. n + d.next_file) s0 s1 r = subst (λ (k : ℕ). Answers (FirstFiles d parts names k) d.next_file (λ _. n + d.next_file) s0 s1 r) e one in
      let counts : Answers (λ files limit. Answer (if_counted parts (length names))) d.next_file (λ _. d.next_file) s0 s0 (Ok parts) =
      answers_value {start = d.next_file} {next = λ _. d.next_file} (omega arith) (λ files limit. counted_all parts (length names) (l ∙ e)) in
      answers_then reading counts here

module _ (names : List (List ℕ)) (g : GoalSettingTree) where
  abbrev handing : List TaskTree → StageMeaning (List (List StepTree))
  handing parts = Handed g.driver names parts

  -- the parts, and then their refutations
  pub read_after : {s0 s1 : LibraryState} {r : Result (List (List StepTree)) RunFault} (next : List (List StepTree) → ℕ) (parts : List TaskTree) → IsStageAnswer (PrintableParts g) (Ok parts)
      → Answers (Handed g.driver names parts) g.driver.next_file next s0 s1 r → Answers (RefutationsRead names g) g.driver.next_file next s0 s1 r
  read_after {s0 = s0} next parts h one = answers_then handing (answers_stage (PrintableParts g) g.driver.next_file s0 (Ok parts) h) one

  pub read_stop : {s : LibraryState} (next : List (List StepTree) → ℕ) (e : RunFault) → IsStageAnswer (PrintableParts g) (Err e) → Answers (RefutationsRead names g) g.driver.next_file next s s (Err e)
  read_stop {s = s} next e h = answers_stop handing next (answers_stage (PrintableParts g) g.driver.next_file s (Err e) h)

  abbrev ending : List (List StepTree) → StageMeaning (List ℕ)
  ending handed files limit = Lifts g.task handed

  pub lifted_answers : {s0 s1 : LibraryState} (n : ℕ) (handed : List (List StepTree)) (text : List ℕ) → Answers (RefutationsRead names g) g.driver.next_file (λ _. n + g.driver.next_file) s0 s1 (Ok handed) → IsLifted g.task handed text
      → Answers (Lifting names g) g.driver.next_file (λ _. n + g.driver.next_file) s0 s1 (Ok text)
  lifted_answers n handed text one lifted = answers_then ending one (answers_value {next = λ _. n + g.driver.next_file} (omega arith) (λ files limit. lifted))

  pub lifting_stop : {s0 s1 : LibraryState} {e : RunFault} (n : ℕ) → Answers (RefutationsRead names g) g.driver.next_file (λ _. n + g.driver.next_file) s0 s1 (Err e)
      → Answers (Lifting names g) g.driver.next_file (λ _. n + g.driver.next_file) s0 s1 (Err e)
  lifting_stop n one = answers_stop ending (λ _. n + g.driver.next_file) one

pub lifted_of : (t at : TaskTree) (steps : List StepTree) (handed : List (List StepTree)) (text : List ℕ) → at ≡ t → HandedHasSequents steps handed → StepsOf at (task_names at) None text steps → IsLifted t handed text
lifted_of t at steps handed text e h s = record { steps = steps; derives = subst (λ (z : TaskTree). StepsOf z (task_names z) None text steps) e s; sequents = h }
