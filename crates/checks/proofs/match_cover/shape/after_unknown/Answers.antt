use Rattle.std.proofs.Common.{Some, ap, sym, ◌∙◌, option_map}
use Rattle.checks.specs.match_cover.Meaning.{shapes_of}
use Rattle.checks.specs.match_cover.Shapes.{unspecified, more_shapes}
use Rattle.checks.proofs.match_cover.shape.after_unknown.Goals as goal

pub returns-in_ok-all-in-Some : goal.returns-in_ok-all-in-Some
returns-in_ok-all-in-Some c =
    ap (λ xs. Some (shapes_of xs)) c.in_ok-all-in-Some.ensures ∙ ap (λ y. Some (more_shapes y (shapes_of c.in-Some.rest.items))) c.unknown_shape.ensures
    ∙ ap (λ o. option_map (λ x. more_shapes unspecified x) (option_map (λ v. shapes_of v.items) o)) (sym c.in-Some.is)
