use Rattle.std.proofs.Common.{rules, FitsSigned}
use Rattle.std.specs.Int.{w128}
use Rattle.std.proofs.lemmas.Int.{to_z-of_z}
use Rattle.step_lines.proofs.rule_words.Making.{pairs_number, pairs_integer}
use Rattle.step_lines.proofs.rule_words.lists.any_pairs.Goals as goal

pub loop-argument-preserved-in-None : goal.loop-argument-preserved-in-None
loop-argument-preserved-in-None c =
    pairs_number c.args.store.now c.args.args.now c.loop-argument.argument-index _ c.loop-argument.all.items c.loop-argument.place _ _ c.loop-argument-test.true c.in-None.is (c.in-Some-number.ensures c.args.store.now) c.loop-argument.invariant

pub loop-argument-preserved : goal.loop-argument-preserved
loop-argument-preserved c =
    let made = c.in_ok-push-in-Some.ensures.items in
    let n = c.in-Some-integer.n in
    let g : FitsSigned w128 n = search rules in
    let exact = rw (to_z-of_z w128 n g) at made in
    pairs_integer c.args.store.now c.args.args.now c.loop-argument.argument-index _ c.loop-argument.all.items _ c.loop-argument.place _ _ _ c.loop-argument-test.true c.in-Some.is (c.in-Some-integer.ensures c.args.store.now) exact c.loop-argument.invariant
