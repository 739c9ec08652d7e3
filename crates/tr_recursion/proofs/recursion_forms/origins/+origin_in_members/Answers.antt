use Rattle.tr_recursion.proofs.recursion_forms.Sought.{members_here, members_after}
use Rattle.tr_recursion.proofs.recursion_forms.origins.+origin_in_members.Goals as goal

pub returns-in-Here : goal.returns-in-Here
returns-in-Here t c = λ symbols. rw c.in-Some.ensures.cases.0 (members_here c.args.store.now symbols c.in-Some.first.now c.in-Some.rest.now c.args.k c.in-Here.name (c.in-Here.ensures symbols))

pub returns-in-After : goal.returns-in-After
returns-in-After t c = λ symbols.
    rw c.in-Some.ensures.cases.0 (members_after c.args.store.now symbols c.in-Some.first.now c.in-Some.rest.now c.args.k c.in-After.left c.origin_in_members.result (c.in-After.ensures symbols) (c.origin_in_members.ensures symbols))
