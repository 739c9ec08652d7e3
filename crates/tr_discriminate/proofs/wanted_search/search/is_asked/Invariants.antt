use Rattle.std.proofs.Common.{◌≡◌, ℕ, List, All, drop}
use Rattle.std.specs.List.{list_any}
use Rattle.trees.specs.Node.{trees_at}
use Rattle.name_tables.specs.Seen.{seen_occurrences}
use Rattle.tr_discriminate.specs.declared.wanted_search.asking.AskingInstance.{AskingInstance}
use Rattle.tr_discriminate.specs.wanted_search.Asking.{asking_at, HasCandidates}
use Rattle.tr_discriminate.specs.wanted_search.Search.{may_ask}
use Rattle.tr_discriminate.proofs.wanted_search.search.is_asked.Given as goal

abbrev pub invariant-loop-instance : goal.invariant-loop-instance
invariant-loop-instance l = (set : List (ℕ × ℕ)) → All (HasCandidates set) l.asking.instances
    → list_any (λ (d : AskingInstance). may_ask (seen_occurrences l.store set) l.asking.named_only (trees_at l.store l.known) l.number (asking_at l.store d)) (drop l.instance-index l.asking.instances)
    ≡ list_any (λ (d : AskingInstance). may_ask (seen_occurrences l.store set) l.asking.named_only (trees_at l.store l.known) l.number (asking_at l.store d)) l.asking.instances
