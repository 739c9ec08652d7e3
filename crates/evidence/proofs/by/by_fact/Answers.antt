use Rattle.std.proofs.Common.{◌++◌}
use Rattle.trees.specs.Node.{tree_at}
use Rattle.tasks.specs.Meaning.{trees_at}
use Rattle.evidence.proofs.Formulas.{citing_names, fact_added}
use Rattle.evidence.proofs.by.by_fact.Goals as goal

pub by_rule-requires-clause-held : goal.by_rule-requires-clause-held
by_rule-requires-clause-held c = c.citation-rule.ensures.held c.args.draft.now.trees (rw c.in_ok-list.ensures c.requires.types_held)

pub by_rule-requires-clause-names : goal.by_rule-requires-clause-names
by_rule-requires-clause-names c =
    let d = c.args.draft.now in
    rw (c.citation-rule.ensures.tree d.trees, c.in_ok-list.ensures) (citing_names d.task c.args.name (trees_at d.trees c.args.types.now) c.requires.fact.ground)

pub by_rule-requires-clause-added : goal.by_rule-requires-clause-added
by_rule-requires-clause-added c =
    let d = c.args.draft.now in
    rw (c.citation-rule.ensures.tree d.trees, c.in_ok-list.ensures)
    (fact_added d (trees_at d.trees c.args.front.now ++ trees_at d.trees c.args.tail.now) c.args.name (trees_at d.trees c.args.types.now) (tree_at d.trees c.args.formula) c.args.premise c.requires.fact c.requires.premise)
