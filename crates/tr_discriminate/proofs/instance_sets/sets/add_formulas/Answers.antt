use Rattle.tasks.proofs.plain_laws.Lists.{flat_more}
use Rattle.tasks.specs.trees.declared.TermId.{TermId}
use Rattle.tasks.specs.trees.Node.{tree_at}
use Rattle.name_tables.proofs.Steps.{gains_none}
use Rattle.name_tables.proofs.Loops.{gains_step}
use Rattle.tr_discriminate.specs.wanted_instances.Instances.{inner_instances}
use Rattle.tr_discriminate.proofs.instance_sets.sets.add_formulas.Goals as goal

pub loop-formula-init : goal.loop-formula-init
loop-formula-init c = gains_none c.args.store.now c.args.keys.now.keys c.requires.keys_held

pub loop-formula-preserved : goal.loop-formula-preserved
loop-formula-preserved c =
    let s = c.args.store.now in
    let none : TermId = record { 0 = 0 } in
    gains_step s _ _ _ _ _ _ (flat_more inner_instances (tree_at s) c.args.formulas.now c.loop-formula.formula-index none c.loop-formula-test.true) c.loop-formula.invariant c.in_ok-gather.ensures
