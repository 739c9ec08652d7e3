use Rattle.std.proofs.Common.{ℕ, List, ◌∷◌, [], map, reverse, ◌∙◌, append_assoc}
use Rattle.std.proofs.lemmas.Result.{on_ok_weaker}
use Rattle.open_types.specs.Patterns.{LocalTree, place_among, places_among}
use Rattle.open_types.specs.Drafts.{local_at}
use Rattle.open_types.proofs.Branching.{last_reversed}
use Rattle.open_types.proofs.patterns.+push_places.Goals as goal

pub returns : goal.returns
returns t c s =
    let last = last_reversed s c.in-Some.rest.now c.in-Some.last.now in
    let own : List LocalTree = reverse (map (local_at s) c.args.own.now) in
    let rest : List ℕ = places_among (reverse (map (local_at s) c.in-Some.rest.now)) own in
    rw (c.in-Some.ensures.cases.0, last) (on_ok_weaker c.push_places.result (λ e. e ∙ (rw (c.in_ok-push.ensures.ok, c.place_among.ensures.place s) (append_assoc c.args.places.now (place_among c.in-Some.last.now.name.now own ∷ []) rest))) (c.push_places.ensures s))
