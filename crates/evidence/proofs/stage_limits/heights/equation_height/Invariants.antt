use Rattle.std.proofs.Common.{◌≡◌, ◌≤◌, max, min, drop}
use Rattle.tasks.specs.Meaning.{definitions_at}
use Rattle.evidence.specs.stage_limits.Limits.{equation_height}
use Rattle.evidence.proofs.stage_limits.heights.equation_height.Given as goal

abbrev pub invariant-loop-def : goal.invariant-loop-def
invariant-loop-def l =
    (l.top ≤ 18446744073709551615)
    × (min (max l.top (equation_height (definitions_at l.store (drop l.def-index l.defs)))) 18446744073709551615
    ≡ min (equation_height (definitions_at l.store l.defs)) 18446744073709551615)
