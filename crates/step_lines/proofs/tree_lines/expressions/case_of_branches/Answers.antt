use Rattle.std.proofs.Common.{Option, IfOk, subst}
use Rattle.trees.specs.Tree.{Tree}
use Rattle.step_lines.specs.tree_lines.Made.{IsTreeMade}
use Rattle.step_lines.proofs.tree_lines.Branches.{case_made, case_refused}
use Rattle.step_lines.proofs.tree_lines.expressions.case_of_branches.Goals as goal

pub returns-in-Some-clause-made : goal.returns-in-Some-clause-made
returns-in-Some-clause-made c =
    let e = case_made c.args.store.now c.branch_list.new.store c.in_ok-list.ensures.grows c.args.scrutinee c.args.branches.now c.in_ok-list.field-0 c.in_ok-list.ensures.made c.requires.scrutinee c.in-Some.list c.in-Some.is in
    subst (λ (m : Option Tree). IfOk c.add_node.result (IsTreeMade c.add_node.new.store m)) e c.add_node.ensures.made

pub returns-in-None-clause-made : goal.returns-in-None-clause-made
returns-in-None-clause-made c =
    case_refused c.args.store.now c.branch_list.new.store c.in_ok-list.ensures.grows c.args.scrutinee c.args.branches.now c.in_ok-list.field-0 c.in_ok-list.ensures.made c.in-None.is
