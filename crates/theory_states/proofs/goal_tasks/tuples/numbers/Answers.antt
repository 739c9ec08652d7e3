use Rattle.std.proofs.Common.{◌≡◌, length, ap, ◌∙◌, arith}
use Rattle.std.specs.List.{range_with_len}
use Rattle.theory_states.proofs.goal_tasks.TuplesMade.{numbers_more}
use Rattle.theory_states.proofs.goal_tasks.tuples.numbers.Goals as goal
use Rattle.tasks.proofs.outside.Passed.{no_value}

pub loop-number-preserved : goal.loop-number-preserved
loop-number-preserved c = numbers_more c.args.from c.loop-number.number c.loop-number.all.items c.push.new.self.items c.in_ok-push.ensures.items c.loop-number.invariant

pub returns-in_err-push : goal.returns-in_err-push
returns-in_err-push c = no_value _ _ c.from_residual.result c.from_residual.ensures.1

pub returns : goal.returns
returns c =
    let l = c.loop-number in
    let count : length l.all.items ≡ c.args.count = omega (arith, l.invariant.1, c.loop-number-test.false) in
    c.from_vec.ensures ∙ l.invariant.0 ∙ ap (range_with_len c.args.from) count
