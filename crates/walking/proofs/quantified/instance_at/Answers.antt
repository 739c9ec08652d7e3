use Rattle.trees.specs.Node.{tree_at, trees_at}
use Rattle.tasks.specs.Vocabulary.{of_task}
use Rattle.walking.proofs.Instances.{hold_terms, instance_fits}
use Rattle.walking.proofs.quantified.instance_at.Goals as goal

pub inst_many-requires-clause-terms : goal.inst_many-requires-clause-terms
inst_many-requires-clause-terms c =
    let d = c.args.draft.now in
    hold_terms (of_task d.task) c.requires.terms.0 d.trees c.args.env.now c.requires.terms.1 c.requires.env_held

pub inst_many-requires-clause-fits : goal.inst_many-requires-clause-fits
inst_many-requires-clause-fits c =
    let d = c.args.draft.now in
    instance_fits (of_task d.task) c.requires.terms.0 (trees_at d.trees c.args.env.now) (tree_at d.trees c.args.e) c.requires.terms.1 c.requires.sorted
