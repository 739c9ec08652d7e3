use Rattle.std.proofs.Common.{◌≡◌, true}
use Rattle.trees.specs.Node.{tree_at, trees_at}
use Rattle.name_tables.specs.Seen.{seen_occurrences}
use Rattle.tr_discriminate.specs.wanted_instances.Wanted.{each_below}
use Rattle.tr_discriminate.specs.wanted_instances.Search.{may_mention}
use Rattle.tr_discriminate.proofs.wanted_search.search.may_go_on.Given as goal

abbrev pub invariant-loop-number : goal.invariant-loop-number
invariant-loop-number l = each_below l.number (may_mention (seen_occurrences l.store l.set) (tree_at l.store l.fn.a) (trees_at l.store l.known)) ≡ true
