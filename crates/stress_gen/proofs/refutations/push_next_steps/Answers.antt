use Rattle.stress_gen.proofs.Filling.{four_more}
use Rattle.stress_gen.proofs.refutations.push_next_steps.Goals as goal

pub returns : goal.returns
returns c =
    four_more c.args.text.now.items _ _ _ _ c.push_filled.new.text.items c.push_filled-2.new.text.items c.push_filled-3.new.text.items c.push_filled-4.new.text.items
    c.in_ok-push_filled.ensures c.in_ok-push_filled-2.ensures c.in_ok-push_filled-3.ensures c.in_ok-push_filled-4.ensures
