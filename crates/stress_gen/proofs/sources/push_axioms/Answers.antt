use Rattle.stress_gen.specs.Texts.{chain_axiom}
use Rattle.stress_gen.proofs.Filling.{one_more}
use Rattle.stress_gen.proofs.sources.push_axioms.Goals as goal

pub loop-j-preserved : goal.loop-j-preserved
loop-j-preserved c = one_more chain_axiom c.args.text.now.items c.loop-j.text.items c.push_filled.new.text.items c.loop-j.j c.loop-j.invariant c.in_ok-push_filled.ensures
