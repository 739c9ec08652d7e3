use Rattle.std.proofs.lemmas.Result.{on_ok_weaker}
use Rattle.open_types.specs.Drafts.{HoldsType}
use Rattle.elab_groups.proofs.parts.Putting.{all_first, all_rest}
use Rattle.elab_groups.proofs.BodyLocals.{locals_held}
use Rattle.elab_groups.proofs.bodies.+push_locals.Goals as goal

pub returns-clause-held : goal.returns-clause-held
returns-clause-held t c =
    on_ok_weaker c.push_locals.result
    (λ k s types held. k s (all_rest (HoldsType s) c.args.types.now c.in-Some-split_first.ty.now c.in-Some-split_first.rest.now c.in-Some-split_first.ensures.cases.0 types)
    (rw c.in_ok-push.ensures.items (locals_held s c.args.list.now.items _ held (all_first (HoldsType s) c.args.types.now c.in-Some-split_first.ty.now c.in-Some-split_first.rest.now c.in-Some-split_first.ensures.cases.0 types)))) c.push_locals.ensures.held
