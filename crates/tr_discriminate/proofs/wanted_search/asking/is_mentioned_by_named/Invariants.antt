use Rattle.std.proofs.Common.{◌≡◌, ◌&&◌, drop}
use Rattle.std.specs.List.{list_any}
use Rattle.tr_discriminate.specs.wanted_instances.Instances.{mentions}
use Rattle.tr_discriminate.specs.wanted_instances.Wanted.{is_of_symbol}
use Rattle.tr_discriminate.specs.declared.wanted_search.asking.AskingInstance.{AskingInstance}
use Rattle.tr_discriminate.specs.wanted_search.Asking.{asking_at}
use Rattle.tr_discriminate.proofs.wanted_search.asking.is_mentioned_by_named.Given as goal

abbrev pub invariant-loop-instance : goal.invariant-loop-instance
invariant-loop-instance l =
    list_any (λ (d : AskingInstance). is_of_symbol (asking_at l.store d) && mentions l.number (asking_at l.store d)) (drop l.instance-index l.instances)
    ≡ list_any (λ (d : AskingInstance). is_of_symbol (asking_at l.store d) && mentions l.number (asking_at l.store d)) l.instances
