use Rattle.tr_discriminate.proofs.instance_sets.Ready.{first_gathered}
use Rattle.tr_discriminate.proofs.instance_sets.sets.first_set.Goals as goal

pub returns : goal.returns
returns c =
    let s = c.args.store.now in
    first_gathered s c.args.task.now c.as_slice.result.now c.as_slice-2.result.now c.new-keys.result.keys c.add_said.new.keys.keys c.add_formulas.new.keys.keys c.gather.new.keys.keys
    c.new-keys.ensures.empty c.as_slice.ensures c.as_slice-2.ensures c.in_ok-add_said.ensures c.in_ok-add_formulas.ensures c.in_ok-gather.ensures
