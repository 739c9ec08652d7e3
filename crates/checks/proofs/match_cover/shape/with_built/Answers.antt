use Rattle.std.proofs.Common.{ap, ◌∙◌}
use Rattle.checks.specs.match_cover.Meaning.{shapes_of}
use Rattle.checks.specs.match_cover.Shapes.{built}
use Rattle.checks.proofs.match_cover.Shapes.{built_first}
use Rattle.checks.proofs.match_cover.shape.with_built.Goals as goal

pub returns : goal.returns
returns c =
    built_first c.args.shapes.items c.in_ok-rest.rest.items c.in_ok-all.all.items c.build_shape.result c.args.arity c.args.con c.in_ok-all.ensures c.in_ok-rest.ensures.tail
    (c.build_shape.ensures ∙ ap (λ y. built c.args.con (shapes_of y)) c.in_ok-rest.ensures.items)
