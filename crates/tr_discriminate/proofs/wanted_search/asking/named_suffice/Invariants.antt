use Rattle.std.proofs.Common.{◌≡◌, true, map, filter, []}
use Rattle.trees.specs.Tree.{Tree}
use Rattle.name_tables.specs.Seen.{GainsKeys}
use Rattle.tr_discriminate.specs.wanted_instances.Instances.{types_within}
use Rattle.tr_discriminate.specs.wanted_instances.Wanted.{is_of_symbol, mention_all}
use Rattle.tr_discriminate.specs.wanted_search.Asking.{asking_at}
use Rattle.tr_discriminate.proofs.wanted_search.asking.named_suffice.Given as goal

abbrev pub invariant-loop-number : goal.invariant-loop-number
invariant-loop-number l = (a : Tree) → GainsKeys l.store [] (types_within a) l.inside → mention_all l.number a (filter is_of_symbol (map (asking_at l.store) l.instances)) ≡ true
