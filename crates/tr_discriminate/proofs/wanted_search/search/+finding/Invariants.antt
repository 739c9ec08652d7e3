use Rattle.std.proofs.Common.{◌≡◌, ◌+◌, ◌*◌, map, take}
use Rattle.trees.specs.Node.{tree_at, trees_at}
use Rattle.name_tables.specs.Seen.{seen_occurrences}
use Rattle.tr_discriminate.specs.wanted_search.Search.{key_type, FindsUpTo, found_each}
use Rattle.tr_discriminate.proofs.wanted_search.search.+finding.Given as goal

abbrev pub decreases-find : goal.decreases-find
decreases-find l = 2 * l.left

abbrev pub decreases-find_each : goal.decreases-find_each
decreases-find_each l = 2 * l.left + 1

abbrev pub invariant-find_each-loop-key : goal.invariant-find_each-loop-key
invariant-find_each-loop-key l = record {
  known : l.known.items ≡ l.initial.known.items;
  found : FindsUpTo l.store l.search.most l.initial.found.items
      (found_each (seen_occurrences l.store l.search.set.now) (map (key_type l.store) l.search.types.now) (tree_at l.store l.search.formula) (trees_at l.store l.initial.known.items) l.left (map (key_type l.store) (take l.key-index l.choices)))
      l.found.items;
}
