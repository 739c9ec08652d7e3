-- What `lift` says of made files, as the text of `stress`.
use Rattle.std.proofs.Common.{◌≡◌, ℕ, List, Some, None, IfSome, Result, Ok, Err, refl, subst, arith}
use Rattle.statuses.specs.outside.State.{LibraryState}
use Rattle.statuses.specs.fault_order.Order.{RunStop, refused, absent}
use Rattle.statuses.specs.fault_order.Answers.{EndsAs}
use Rattle.statuses.proofs.fault_order.Meeting.{told_all}
use Rattle.statuses.specs.declared.words.Command.{Command}
use Rattle.statuses.specs.declared.words.Command.TheVariants.{Stress}
use Rattle.statuses.specs.declared.fault_order.faults.Fault.{Fault}
use Rattle.statuses.specs.declared.fault_order.faults.RunFault.TheVariants as run_fault
use Rattle.statuses.specs.Lines.{status_line}
use Rattle.statuses.specs.declared.status.Status.TheVariants as status
use Rattle.stress_gen.specs.Files.{refutation_names, stress_files, accepted_text}
use Rattle.program.specs.Order.{StressLift, IsStressText, StressText, TextOf}

module _ (n : ℕ) (names : List (List ℕ)) (same : names ≡ refutation_names n) (old new : LibraryState) (is : old.files ≡ Some (stress_files n)) where
  answered : (its : Result (List ℕ) RunStop) → IfSome old.files (λ files. StressLift names files None its) → StressLift (refutation_names n) (stress_files n) None its
  answered its h = subst (λ ns. StressLift ns (stress_files n) None its) same (subst (λ o. IfSome o (λ files. StressLift names files None its)) is h)

  pub text_lifted : (derivation text : List ℕ) → EndsAs (StressLift names) old new (Ok derivation) → text ≡ accepted_text n → IsStressText n text
  text_lifted derivation text e w = (Ok derivation, answered (Ok derivation) e.gives.1, w)

  pub text_refused : (fault : Fault) (text : List ℕ) → EndsAs (StressLift names) old new (Err (run_fault.Refused fault)) → text ≡ status_line (status.Refused fault) → IsStressText n text
  text_refused fault text e w = (Err (refused fault), answered (Err (refused fault)) e.gives.1, w)

  pub text_absent : (file : ℕ) (text : List ℕ) → EndsAs (StressLift names) old new (Err (run_fault.Absent file)) → text ≡ status_line (status.Absent file) → IsStressText n text
  text_absent file text e w = (Err (absent file), answered (Err (absent file)) e.gives.1, w)

  -- no fetch fails
  pub none_unread : (file : ℕ) → EndsAs (StressLift names) old new (Err (run_fault.ReadFault file)) → old.faults ≡ 0 → new.faults ≡ 0 → ⊥
  none_unread file e before after = omega (arith, e.gives.0.rose, before, after)

-- the command answers its text without the library
pub ends_stress : (command : Command) (n : ℕ) (words : List (List ℕ)) (library : LibraryState) (text : List ℕ) → command ≡ Stress n → IsStressText n text → EndsAs (TextOf command words) library library (Ok text)
ends_stress command n words library text is h = rw is (record {
  files = refl;
  gives = (record { faults = refl; absents = refl }, told_all library.files (λ files. StressText n files None (Ok text)) (λ files. h));
})
