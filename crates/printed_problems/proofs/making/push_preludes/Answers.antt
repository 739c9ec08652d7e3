use Rattle.std.proofs.Common.{◌++◌, Bool, ap, ◌∙◌}
use Rattle.tasks.specs.Meaning.{declarations_at}
use Rattle.printed_problems.specs.Made.{text_if, is_told}
use Rattle.printed_problems.proofs.FactList.{texts_step, texts_end}
use Rattle.printed_problems.proofs.making.push_preludes.Goals as goal
use Rattle.tasks.proofs.outside.Passed.{no_ok}

pub loop-prelude-preserved : goal.loop-prelude-preserved
loop-prelude-preserved c s =
    let p = c.prelude-item.result in
    texts_step (is_told c.args.special (declarations_at s c.args.decls.now)) c.args.from.now c.loop-prelude.prelude-index p c.loop-prelude.made.items _ _ c.loop-prelude-test.true c.prelude-item.is
    (c.in_ok-push_if.ensures ∙ ap (λ (b : Bool). c.loop-prelude.made.items ++ text_if p.1 b) (c.is_told.ensures s)) (c.loop-prelude.invariant s)

pub returns : goal.returns
returns c s = texts_end (is_told c.args.special (declarations_at s c.args.decls.now)) c.args.from.now c.loop-prelude.prelude-index _ _ c.loop-prelude-test.false (c.loop-prelude.invariant s)

pub returns-in_err-push_if : goal.returns-in_err-push_if
returns-in_err-push_if c = no_ok _ _ c.from_residual.result c.from_residual.ensures.1
