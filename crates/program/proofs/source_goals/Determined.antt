-- The theories of a file, or its first fault, are one.
use Rattle.std.proofs.Common.{Ok, Err, sym, ap, ◌∙◌}
use Rattle.theories.specs.theory_states.goal_tasks.Theories.{TheoriesTree}
use Rattle.statuses.specs.fault_order.Order.{RunStop}
use Rattle.theories.proofs.determined.One.{one_theories, theories_apart, one_fault}
use Rattle.program.specs.source_goals.Order.{AreDetermined}
use Rattle.program.proofs.source_goals.Faults.{source_stop, first_stop}

pub determined : AreDetermined
determined file (Ok a) (Ok b) x y = ap (λ (z : TheoriesTree). Ok z) (one_theories file a b x y)
determined file (Ok a) (Err stop) x y = let n = first_stop file stop y in absurd (theories_apart file a n.its x n.first n.told)
determined file (Err stop) (Ok b) x y = let n = first_stop file stop x in absurd (theories_apart file b n.its y n.first n.told)
determined file (Err stop) (Err other) x y =
    let n = first_stop file stop x in
    let m = first_stop file other y in
    let same = one_fault file n.its m.its n.first m.first n.told m.told in
    ap (λ (z : RunStop). Err z) (n.is ∙ ap source_stop same ∙ sym m.is)
