use Rattle.std.proofs.Common.{◌≡◌}
use Rattle.checks.specs.match_cover.Tables.{unknowns}
use Rattle.checks.specs.match_cover.Meaning.{shapes_of}
use Rattle.checks.proofs.match_cover.shape.unknowns.Given as goal

abbrev pub invariant-loop-made : goal.invariant-loop-made
invariant-loop-made l = shapes_of l.shapes.items ≡ unknowns l._made
