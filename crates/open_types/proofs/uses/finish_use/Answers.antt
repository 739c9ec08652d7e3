use Rattle.std.proofs.Common.{◌≡◌}
use Rattle.std.proofs.lemmas.Result.{IfOk-weaker}
use Rattle.trees.specs.Tree.{Two, Three, HFun, HPred}
use Rattle.trees.specs.Node.{tree_at}
use Rattle.trees.proofs.Nodes.{tree_at-grows}
use Rattle.tasks.specs.Meaning.{trees_at}
use Rattle.tasks.specs.Equations.{cells}
use Rattle.open_types.proofs.Using.{made_after}
use Rattle.open_types.proofs.uses.finish_use.Goals as goal

pub returns-in-Some-clause-made : goal.returns-in-Some-clause-made
returns-in-Some-clause-made c =
    let g = c.list_of.ensures.grows in
    let a = tree_at-grows _ _ c.args.args g c.requires.args in
    let w = rw c.in-Some.is at c.requires.wanted in
    let b = tree_at-grows _ _ c.in-Some.ty g w.held in
    let s1 = c.list_of.new.store in
    let q : Three (HFun c.args.symbol) (tree_at s1 c.in_ok-list.list) (tree_at s1 c.args.args) (tree_at s1 c.in-Some.ty) ≡ Three (HFun c.args.symbol) (cells (trees_at c.args.store.now c.args.types.now)) (tree_at c.args.store.now c.args.args) (tree_at c.args.store.now c.in-Some.ty) = cc (c.in_ok-list.ensures.tree, a, b) in
    IfOk-weaker c.make.result _ _ (λ id m. rw c.in-Some.is (made_after g c.requires.ready m _ q)) c.make.ensures.made

pub returns-in-None-clause-made : goal.returns-in-None-clause-made
returns-in-None-clause-made c =
    let g = c.list_of.ensures.grows in
    let a = tree_at-grows _ _ c.args.args g c.requires.args in
    let s1 = c.list_of.new.store in
    let q : Two (HPred c.args.symbol) (tree_at s1 c.in_ok-list.list) (tree_at s1 c.args.args) ≡ Two (HPred c.args.symbol) (cells (trees_at c.args.store.now c.args.types.now)) (tree_at c.args.store.now c.args.args) = cc (c.in_ok-list.ensures.tree, a) in
    IfOk-weaker c.make-in-None.result _ _ (λ id m. rw c.in-None.is (made_after g c.requires.ready m _ q)) c.make-in-None.ensures.made
