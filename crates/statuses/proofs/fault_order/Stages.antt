-- The answer of one stage after another, none of which fetches a file.
use Rattle.std.proofs.Common.{ℕ, Result, Ok, Err, inl, inr, refl, arith}
use Rattle.outside.specs.State.{LibraryState}
use Rattle.statuses.specs.fault_order.Answers.{Answers, IsStageAnswer}
use Rattle.statuses.specs.fault_order.Order.{refused, Stage, After}
use Rattle.statuses.specs.declared.fault_order.faults.RunFault.{RunFault}
use Rattle.statuses.specs.declared.fault_order.faults.RunFault.TheVariants as run_fault
use Rattle.statuses.proofs.fault_order.Meeting.{answers_value, answers_refused, answers_memory}

-- after a stage with a value
pub gives_then : {A B : Type 0} (first : Stage A) (second : A → Stage B) (a : A) (r : Result B RunFault) → first (Ok a) → IsStageAnswer (second a) r → IsStageAnswer (After first second) r
gives_then first second a (Ok b) h g = inr (a, h, g)
gives_then first second a (Err run_fault.Memory) h g = tt
gives_then first second a (Err (run_fault.Refused fault)) h g = inr (a, h, g)
gives_then first second a (Err (run_fault.Absent file)) h g = absurd g
gives_then first second a (Err (run_fault.ReadFault file)) h g = absurd g

-- a stage that stops
pub gives_stop : {A B : Type 0} (first : Stage A) (second : A → Stage B) (e : RunFault) → IsStageAnswer first (Err e) → IsStageAnswer (After first second) (Err e)
gives_stop first second run_fault.Memory g = tt
gives_stop first second (run_fault.Refused fault) g = inl (refused fault, g, refl)
gives_stop first second (run_fault.Absent file) g = absurd g
gives_stop first second (run_fault.ReadFault file) g = absurd g

-- a stage that fetches nothing, as a part of a run
pub answers_stage : {A : Type 0} (stage : Stage A) (start : ℕ) (s : LibraryState) (r : Result A RunFault) → IsStageAnswer stage r → Answers (λ files limit. stage) start (λ _. start) s s r
answers_stage stage start s (Ok value) h = answers_value {next = λ _. start} (omega arith) (λ files limit. h)
answers_stage stage start s (Err run_fault.Memory) h = answers_memory
answers_stage stage start s (Err (run_fault.Refused fault)) h = answers_refused (λ files. h)
answers_stage stage start s (Err (run_fault.Absent file)) h = absurd h
answers_stage stage start s (Err (run_fault.ReadFault file)) h = absurd h
