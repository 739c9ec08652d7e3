use Rattle.std.proofs.Common.{Some}
use Rattle.std.proofs.lemmas.List.Elements.{All-pop}
use Rattle.open_types.specs.declared.locals.Local.{Local}
use Rattle.open_types.specs.Drafts.{HoldsType}
use Rattle.open_types.proofs.locals.+locals.Goals as goal

pub local_among-returns-in-Some-checked_add-clause-held : goal.local_among-returns-in-Some-checked_add-clause-held
local_among-returns-in-Some-checked_add-clause-held t c s h k =
    let p = All-pop (λ (l : Local). HoldsType s l.ty) c.args.inner.now c.in-Some.rest.now (Some c.in-Some.last.now) c.in-Some.ensures.cases.0 h in
    rw c.in-Some-2.is at c.in_ok-local_among.ensures.held s p.0 k
