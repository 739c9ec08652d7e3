use Rattle.trees.specs.Node.{tree_at}
use Rattle.evidence.specs.Laws.{AddsTrees_trans, AddsTrees_extends}
use Rattle.congruence.proofs.Later.{held_later}
use Rattle.tr_recursion.proofs.branch_steps.NewBodies.{type_sort, opened_formula, opened_tree}
use Rattle.tr_recursion.proofs.branch_steps.universal.body_at.Goals as goal

pub parameter-requires-clause-kind : goal.parameter-requires-clause-kind
parameter-requires-clause-kind c =
    let d = c.args.draft.now in
    type_sort d.task (tree_at d.trees c.args.formula) (tree_at d.trees c.args.ty) (tree_at d.trees c.args.body) c.requires.is c.requires.formula.ground

pub instance-requires-clause-body_held : goal.instance-requires-clause-body_held
instance-requires-clause-body_held c = held_later c.args.draft.now c.parameter.new.g (AddsTrees_extends _ _ c.in_ok-term.ensures.grows) c.args.body c.requires.body_held

pub returns-clause-formula : goal.returns-clause-formula
returns-clause-formula c =
    let m = c.in_ok-made in
    let p = c.in_ok-term in
    opened_formula c.args.draft.now c.parameter.new.g c.instance.new.g (AddsTrees_extends _ _ p.ensures.grows) (AddsTrees_extends _ _ m.ensures.grows) c.args.formula c.args.ty c.args.body c.requires.formula c.requires.is c.requires.body_held c.args.number p.term p.ensures.tree m.made m.ensures.held m.ensures.keeps

pub returns-clause-tree : goal.returns-clause-tree
returns-clause-tree c =
    let m = c.in_ok-made in
    let p = c.in_ok-term in
    opened_tree c.args.draft.now c.parameter.new.g c.instance.new.g (AddsTrees_extends _ _ p.ensures.grows) (AddsTrees_extends _ _ m.ensures.grows) c.args.formula c.args.ty c.args.body c.requires.formula c.requires.is c.requires.body_held c.args.number p.term p.ensures.tree m.made m.ensures.tree

pub returns-in_err-made-clause-grows : goal.returns-in_err-made-clause-grows
returns-in_err-made-clause-grows c = AddsTrees_trans _ _ _ c.in_ok-term.ensures.grows c.instance.ensures.grows

pub returns-clause-grows : goal.returns-clause-grows
returns-clause-grows c = AddsTrees_trans _ _ _ c.in_ok-term.ensures.grows c.in_ok-made.ensures.grows
