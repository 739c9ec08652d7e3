use Rattle.std.proofs.Common.{sym, ap, ◌∙◌, arith}
use Rattle.tokens_why.proofs.Lists.{get_or-default}
use Rattle.drivers.proofs.driver_parts.Placing.{Template, none, place-found, place-none}
use Rattle.drivers.proofs.driver_parts.parts.place_of.Goals as goal

pub returns-then-template-entry : goal.returns-then-template-entry
returns-then-template-entry c =
    let ts = c.args.templates.now in
    let i = c.loop-place.place in
    let same = c.index-templates-place.is ∙ get_or-default ts i c.index-templates-place.result none c.loop-place-test.true in
    place-found ts c.args.entry i c.loop-place.invariant c.loop-place-test.true (ap (λ (t : Template). t.0) (sym same) ∙ c.if-template-entry.true)

pub returns : goal.returns
returns c = place-none c.args.templates.now c.args.entry c.loop-place.place c.loop-place.invariant (omega arith) (omega arith)
