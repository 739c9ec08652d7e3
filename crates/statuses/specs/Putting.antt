-- What a text, or the line of a status, does to a sink, and the status after it.
use Rattle.std.specs.Prelude.{◌≡◌, ℕ, List, Result, Ok, Err}
use Rattle.outside.specs.State.{SinkState, PutsBytes}
use Rattle.outside.specs.declared.traits.PutFault.{PutFault}
use Rattle.outside.specs.declared.traits.PutFault.TheVariants as put_fault
use Rattle.statuses.specs.declared.fault_order.faults.RunFault.{RunFault}
use Rattle.statuses.specs.declared.fault_order.faults.RunFault.TheVariants as run_fault
use Rattle.statuses.specs.Lines.{status_line}
use Rattle.statuses.specs.declared.status.Status.{Status}
use Rattle.statuses.specs.declared.status.Status.TheVariants as status

-- the status after the last put
abbrev pub after_put : Status → Result Unit PutFault → Status
after_put due (Ok _) = due
after_put due (Err put_fault.Memory) = status.Memory
after_put due (Err put_fault.Failed) = status.WriteFault

-- A text is put on a sink, and then this status is due.
abbrev pub PutsText : List ℕ → Status → SinkState → SinkState → Status → Type 0
PutsText text due old new its =
    (r : Result Unit PutFault) × PutsBytes old text new r × (its ≡ after_put due r)

abbrev pub Reports : Status → SinkState → SinkState → Status → Type 0
Reports due = PutsText (status_line due) due

-- A text goes to the first sink; of what stops a run a line goes to the second.
abbrev pub FinishesRun : Result (List ℕ) RunFault → SinkState → SinkState → SinkState → SinkState
    → Status → Type 0
FinishesRun (Ok text) out0 out1 err0 err1 its =
    PutsText text status.Done out0 out1 its × (err1 ≡ err0)
FinishesRun (Err run_fault.Memory) out0 out1 err0 err1 its =
    (its ≡ status.Memory) × (err1 ≡ err0) × (out1 ≡ out0)
FinishesRun (Err (run_fault.Refused fault)) out0 out1 err0 err1 its =
    Reports (status.Refused fault) err0 err1 its × (out1 ≡ out0)
FinishesRun (Err (run_fault.Absent file)) out0 out1 err0 err1 its =
    Reports (status.Absent file) err0 err1 its × (out1 ≡ out0)
FinishesRun (Err (run_fault.ReadFault file)) out0 out1 err0 err1 its =
    Reports (status.ReadFault file) err0 err1 its × (out1 ≡ out0)
