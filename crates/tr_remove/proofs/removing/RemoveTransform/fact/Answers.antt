use Rattle.tr_remove.specs.Kept.{removal_keeps}
use Rattle.tr_remove.proofs.Left.{left_props, left_facts}
use Rattle.tr_remove.proofs.removing.RemoveTransform.fact.Goals as goal

pub cite_old-requires-clause-keeps : goal.cite_old-requires-clause-keeps
cite_old-requires-clause-keeps c = removal_keeps c.args.self.now.props

pub cite_old-requires-clause-said : goal.cite_old-requires-clause-said
cite_old-requires-clause-said c = left_props c.args.self.now.props

pub cite_old-requires-clause-facts : goal.cite_old-requires-clause-facts
cite_old-requires-clause-facts c = left_facts c.args.self.now.props
