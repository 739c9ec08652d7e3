use Rattle.std.proofs.Common.{◌≡◌, nat_eq, ap, ◌∙◌}
use Rattle.std.specs.Map.{lookup}
use Rattle.indexmap.specs.IndexMap.{get}
use Rattle.clones.specs.clone_copies.Origins.{no_axioms, with_axioms}
use Rattle.clones.proofs.clone_copies.origins.axioms_of.Goals as goal
use Rattle.tasks.proofs.outside.Passed.{no_value}

pub returns : goal.returns
returns c =
    let none : get nat_eq c.new-places.result ≡ no_axioms = λ i q. ap (lookup (nat_eq q)) c.new-places.ensures.empty i in
    c.in_ok-enter_axioms.ensures ∙ ap (with_axioms c.args.axioms.now) none

pub returns-in_err-enter_axioms : goal.returns-in_err-enter_axioms
returns-in_err-enter_axioms c = no_value _ _ c.from_residual.result c.from_residual.ensures.1
