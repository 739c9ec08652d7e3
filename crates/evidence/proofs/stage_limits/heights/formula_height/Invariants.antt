use Rattle.std.proofs.Common.{◌≡◌, ◌≤◌, max, min, drop}
use Rattle.tasks.specs.Meaning.{trees_at}
use Rattle.evidence.specs.stage_limits.Limits.{formula_height}
use Rattle.evidence.proofs.stage_limits.heights.formula_height.Given as goal

abbrev pub invariant-loop-formula : goal.invariant-loop-formula
invariant-loop-formula l =
    (l.top ≤ 18446744073709551615)
    × (min (max l.top (formula_height (trees_at l.store (drop l.formula-index l.formulas)))) 18446744073709551615
    ≡ min (formula_height (trees_at l.store l.formulas)) 18446744073709551615)
