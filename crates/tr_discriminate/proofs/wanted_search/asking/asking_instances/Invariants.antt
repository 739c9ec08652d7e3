use Rattle.std.proofs.Common.{◌≡◌, All, map, take}
use Rattle.name_tables.specs.Seen.{seen_occurrences}
use Rattle.tr_discriminate.specs.wanted_search.Asking.{asking_at, IsAskingInstance, HasCandidates}
use Rattle.tr_discriminate.proofs.wanted_search.asking.asking_instances.Given as goal

abbrev pub invariant-loop-key : goal.invariant-loop-key
invariant-loop-key l = record {
  instances : All (IsAskingInstance l.store) l.made.items;
  candidates : All (HasCandidates l.set) l.made.items;
  are : map (asking_at l.store) l.made.items ≡ seen_occurrences l.store (take l.key-index l.occurring);
}
