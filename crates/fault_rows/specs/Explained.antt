-- Each fault of a refusal has a row in the table of explanations, with as many numbers.
use Rattle.std.specs.Prelude.{IsSome}
use Rattle.statuses.specs.declared.fault_order.faults.Fault.{Fault}
use Rattle.statuses.specs.Faults.{numbers}
use Rattle.statuses.specs.explain.Message.{row_for}

abbrev pub EachIsExplained : Type 0
EachIsExplained = (fault : Fault) → IsSome (row_for (numbers fault))
