use Rattle.std.proofs.Common.{◌≡◌, ◌++◌, take, drop}
use Rattle.step_lines.specs.tree_lines.Words.{texts}
use Rattle.step_lines.specs.Steps.{before_colon, after_colon}
use Rattle.step_lines.proofs.words.colon.Given as goal

abbrev pub invariant-loop-i : goal.invariant-loop-i
invariant-loop-i l =
    (before_colon (texts l.words) ≡ texts (take l.i l.words) ++ before_colon (texts (drop l.i l.words)))
    × (after_colon (texts l.words) ≡ after_colon (texts (drop l.i l.words)))
