use Rattle.std.proofs.Common.{◌++◌, sym, ◌∙◌}
use Rattle.std.proofs.lemmas.List.{append-nil}
use Rattle.stress_gen.specs.Texts.{first_steps, next_steps}
use Rattle.stress_gen.proofs.Filling.{one_more}
use Rattle.stress_gen.proofs.refutations.push_steps.Goals as goal

pub loop-j-init : goal.loop-j-init
loop-j-init c = c.in_ok-push_filled.ensures ∙ sym (append-nil (c.args.text.now.items ++ first_steps c.args.part))

pub loop-j-preserved : goal.loop-j-preserved
loop-j-preserved c =
    one_more (next_steps c.args.part) (c.args.text.now.items ++ first_steps c.args.part) c.loop-j.text.items c.push_next_steps.new.text.items c.loop-j.j c.loop-j.invariant c.in_ok-push_next_steps.ensures
