use Rattle.checks.proofs.match_cover.Shapes.{shape_of-roll}
use Rattle.checks.proofs.match_cover.shape.unknown_shape.Goals as goal

pub returns : goal.returns
returns c = shape_of-roll _
