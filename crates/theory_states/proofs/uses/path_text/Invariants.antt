use Rattle.std.proofs.Common.{◌≡◌, ◌++◌, drop}
use Rattle.theory_states.specs.Uses.{parts_after}
use Rattle.theory_states.proofs.uses.path_text.Given as goal

abbrev pub invariant-loop-part : goal.invariant-loop-part
invariant-loop-part l = l.bytes.items ++ parts_after (drop l.part-index l.rest) ≡ l.initial.bytes.items ++ parts_after l.rest
