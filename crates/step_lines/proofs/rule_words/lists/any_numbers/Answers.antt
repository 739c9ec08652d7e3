use Rattle.step_lines.specs.rule_words.Arguments.{number_in}
use Rattle.step_lines.proofs.rule_words.Making.{each_more, each_none}
use Rattle.step_lines.proofs.rule_words.lists.any_numbers.Goals as goal

pub loop-argument-preserved : goal.loop-argument-preserved
loop-argument-preserved c =
    let l = c.loop-argument in
    each_more number_in c.args.store.now c.args.args.now l.argument-index _ l.all.items _ c.in-Some.i _ c.loop-argument-test.true (c.in-Some.ensures c.args.store.now) c.in_ok-push-in-Some.ensures.items l.invariant

pub returns-in-None : goal.returns-in-None
returns-in-None c =
    let l = c.loop-argument in
    each_none number_in c.args.store.now c.args.args.now l.argument-index _ l.all.items _ c.loop-argument-test.true (c.in-None.ensures c.args.store.now) l.invariant
