use Rattle.stress_gen.specs.Texts.{implication_line}
use Rattle.stress_gen.proofs.Filling.{one_more}
use Rattle.stress_gen.proofs.refutations.push_implications.Goals as goal

pub loop-i-preserved : goal.loop-i-preserved
loop-i-preserved c = one_more implication_line c.args.text.now.items c.loop-i.text.items c.push_filled.new.text.items c.loop-i.i c.loop-i.invariant c.in_ok-push_filled.ensures
