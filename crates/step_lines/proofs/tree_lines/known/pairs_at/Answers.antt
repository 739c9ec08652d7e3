use Rattle.std.proofs.Common.{◌+◌, ◌<◌, ◌≤◌, length, arith}
use Rattle.step_lines.specs.tree_lines.Words.{at_number}
use Rattle.step_lines.proofs.tree_lines.Lists.{pairs_more, pairs_no_first, pairs_odd, pairs_no_second, pairs_done}
use Rattle.step_lines.proofs.tree_lines.known.pairs_at.Goals as goal

pub loop-i-preserved : goal.loop-i-preserved
loop-i-preserved c =
    let lt : c.loop-i.i + 1 < length c.args.words.now = omega (arith, c.loop-i-test.true, c.if-i-words.false) in
    rw (c.in_ok-push.ensures.items) (record {
      within = omega arith;
      made = pairs_more (at_number c.args.firsts.now) (at_number c.args.seconds.now) c.args.words.now c.loop-i.i _ c.loop-i.all.items _ c.loop-i.invariant.made c.in-Some.first c.in-Some-thing.second lt c.in-Some.ensures.number c.in-Some-thing.ensures.number;
    })

pub returns-in_default : goal.returns-in_default
returns-in_default c = pairs_no_first (at_number c.args.firsts.now) (at_number c.args.seconds.now) c.args.words.now c.loop-i.i _ c.loop-i.all.items _ c.loop-i.invariant.made c.loop-i-test.true c.in_default.ensures.number

pub returns-then-i-words : goal.returns-then-i-words
returns-then-i-words c =
    let le : length c.args.words.now ≤ c.loop-i.i + 1 = omega (arith, c.if-i-words.true) in
    pairs_odd (at_number c.args.firsts.now) (at_number c.args.seconds.now) c.args.words.now c.loop-i.i c.loop-i.all.items _ c.loop-i.invariant.made c.loop-i-test.true le

pub returns-in_default-thing : goal.returns-in_default-thing
returns-in_default-thing c =
    let lt : c.loop-i.i + 1 < length c.args.words.now = omega (arith, c.loop-i-test.true, c.if-i-words.false) in
    pairs_no_second (at_number c.args.firsts.now) (at_number c.args.seconds.now) c.args.words.now c.loop-i.i _ c.loop-i.all.items _ c.loop-i.invariant.made c.in-Some.first lt c.in-Some.ensures.number c.in_default-thing.ensures.number

pub returns : goal.returns
returns c = pairs_done (at_number c.args.firsts.now) (at_number c.args.seconds.now) c.args.words.now c.loop-i.i c.loop-i.all.items _ c.loop-i.invariant.made c.loop-i-test.false
