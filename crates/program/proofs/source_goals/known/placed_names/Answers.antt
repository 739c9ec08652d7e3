use Rattle.std.proofs.Common.{◌<◌, ◌++◌, ◌∙◌, ℕ, List, length, get_or, slice_get, refl, sym, ap, arith}
use Rattle.program.specs.source_goals.Known.{own_names_at}
use Rattle.program.proofs.source_goals.KnownNames.{names_more}
use Rattle.program.proofs.source_goals.known.placed_names.Goals as goal

pub loop-at-preserved : goal.loop-at-preserved
loop-at-preserved c =
    let ds = c.args.decls.now in
    let ks = c.args.places.now in
    let path = c.args.path.now in
    let i = c.loop-at.at in
    let within : i < length ks = omega (arith, c.loop-at-test.true) in
    c.in_ok-push_placed.ensures ∙ ap (λ (z : List (List ℕ)). z ++ own_names_at path (slice_get ds (get_or ks i 0))) c.loop-at.invariant ∙ sym (names_more path ds ks i (get_or ks i 0) within refl)
