-- The exit codes.
use Rattle.std.specs.Prelude.{ℕ}
use Rattle.statuses.specs.declared.status.Status.{Status}
use Rattle.statuses.specs.declared.status.Status.TheVariants as status

abbrev pub code_of : Status → ℕ
code_of status.Done = 0
code_of (status.Refused fault) = 1
code_of status.Usage = 2
code_of status.Memory = 3
code_of (status.Absent file) = 4
code_of (status.ReadFault file) = 4
code_of status.WriteFault = 5
