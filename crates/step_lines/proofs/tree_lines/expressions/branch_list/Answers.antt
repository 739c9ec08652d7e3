use Rattle.std.proofs.Common.{◌≡◌, ◌-◌, ◌<◌, Some, Option, List, get_or, subst, ◌∙◌, arith}
use Rattle.trees.specs.declared.TermId.{TermId}
use Rattle.trees.specs.Tree.{Tree, Two, HCell}
use Rattle.trees.specs.Node.{tree_at}
use Rattle.trees.proofs.Nodes.{Grows_trans}
use Rattle.step_lines.specs.tree_lines.Made.{IsTreeMade, branch_at}
use Rattle.step_lines.proofs.tree_lines.Growing.{branch_more, branches_refused}
use Rattle.step_lines.proofs.tree_lines.expressions.branch_list.Goals as goal

abbrev no_pair : TermId × TermId
no_pair = (record { 0 = 0 }, record { 0 = 0 })

made_is : (s' : List Tree) (e : Tree) (o : Option TermId) (l : TermId) → o ≡ Some l → IsTreeMade s' (Some e) o → tree_at s' l ≡ e
made_is s' e o l is m =
    let k : IsTreeMade s' (Some e) (Some l) = subst (IsTreeMade s' (Some e)) is m in
    let n : Some e ≡ Some (tree_at s' l) = k.0 in
    cc

pub loop-i-preserved : goal.loop-i-preserved
loop-i-preserved c =
    let i = c.loop-i.invariant in
    let s = c.loop-i.store in
    let s' = c.add_branch.new.store in
    let some : 0 < c.loop-i.i = omega (arith, c.loop-i-test.true) in
    let m : IsTreeMade s' (Some (Two HCell (branch_at s (get_or c.args.branches.now (c.loop-i.i - 1) no_pair)) (tree_at s c.loop-i.list))) (Some c.in-Some.longer) = rw c.in-Some.is at c.in_ok-longer.ensures.made in
    record {
      within = omega (arith, i.within);
      grows = Grows_trans c.args.store.now s s' i.grows c.in_ok-longer.ensures.grows;
      held = m.1;
      tree = made_is s' _ c.in_ok-longer.field-0 c.in-Some.longer c.in-Some.is c.in_ok-longer.ensures.made ∙ branch_more c.args.store.now s i.grows c.args.branches.now c.loop-i.i no_pair c.loop-i.list some i.within c.requires i.tree;
    }

pub returns-in-None-clause-made : goal.returns-in-None-clause-made
returns-in-None-clause-made c =
    let i = c.loop-i.invariant in
    let some : 0 < c.loop-i.i = omega (arith, c.loop-i-test.true) in
    branches_refused c.args.store.now c.loop-i.store c.add_branch.new.store i.grows c.args.branches.now c.loop-i.i no_pair c.loop-i.list some i.within c.requires i.tree c.in_ok-longer.field-0 c.in-None.is c.in_ok-longer.ensures.made
