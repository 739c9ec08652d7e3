use Rattle.std.proofs.Common.{ap, ◌∙◌}
use Rattle.checks.specs.match_cover.Meaning.{shapes_of}
use Rattle.checks.specs.match_cover.Shapes.{built}
use Rattle.checks.proofs.match_cover.Shapes.{shape_of-roll}
use Rattle.checks.proofs.match_cover.shape.build_shape.Goals as goal

pub returns : goal.returns
returns c = shape_of-roll _ ∙ ap (λ y. built c.args.con (shapes_of y)) c.from_vec.ensures
