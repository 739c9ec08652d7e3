use Rattle.std.proofs.Common.{arith}
use Rattle.drivers.proofs.driver_tokens.Onto.{turn-within, turn-begins}
use Rattle.drivers.proofs.driver_tokens.file.cut.Goals as goal
use Rattle.drivers.proofs.driver_tokens.file.cut.Goals.{in-Within, in-Begins+in_ok-put_line-in-Begins}

pub loop-i-preserved : goal.loop-i-preserved
loop-i-preserved c =
    let ts = c.args.tokens.now in
    let l = c.loop-i in
    elim c.match-step.branch [
      | in-Within w ↦ rw (w.lines-is, w.first-is, w.state-is) (record {
        ordered = omega arith;
        within = omega arith;
        same = turn-within ts l.lines.items l.state w.in-Within.next l.first l.i _ l.invariant.ordered (omega arith) w.in-Within.ensures l.invariant.same;
      })
      | in-Begins+in_ok-put_line-in-Begins w ↦ rw (w.lines-is, w.first-is, w.state-is) (record {
        ordered = omega arith;
        within = omega arith;
        same = turn-begins ts l.lines.items w.put_line.new.lines.items l.state w.in-Begins.next l.first l.i _ l.invariant.ordered (omega arith) w.in_ok-put_line-in-Begins.ensures w.in-Begins.ensures l.invariant.same;
      })
    ]
