use Rattle.std.proofs.Common.{◌≡◌, ◌++◌, drop}
use Rattle.std.specs.List.{flat_map}
use Rattle.tasks.specs.Meaning.{trees_at}
use Rattle.printed_problems.specs.printed_terms.Ranks.{type_places}
use Rattle.printed_problems.proofs.printed_terms.ranks.type_places.Given as goal

abbrev pub invariant-loop-sort : goal.invariant-loop-sort
invariant-loop-sort l =
    l.places.items ++ flat_map (type_places l.names l.types) (trees_at l.store (drop l.sort-index l.sorts)) ≡ flat_map (type_places l.names l.types) (trees_at l.store l.sorts)
