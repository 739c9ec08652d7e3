use Rattle.std.proofs.Common.{◌≡◌, List, sym, ap, subst, ◌∙◌, arith}
use Rattle.trees.specs.Tree.{Tree, Two, Three, HCell, HArm, HIf}
use Rattle.trees.specs.Node.{tree_at, Grows}
use Rattle.trees.specs.Binding.{inst_many}
use Rattle.trees.specs.Sorts.{Fits}
use Rattle.tasks.specs.MatchTests.{test, bind}
use Rattle.tr_match.specs.match_forms.Forms.{if_form}
use Rattle.tr_match.specs.match_forms.Held.{look_task}
use Rattle.tr_match.proofs.match_forms.Opening.{first_is, can_open, has_rest, is_last, if_same, can_later, task_same, held_after, no_cell, branch_there, there}
use Rattle.tr_match.proofs.match_forms.forms.+if_form.Goals as goal

pub first_branch-first-requires-clause-branches : goal.first_branch-first-requires-clause-branches
first_branch-first-requires-clause-branches g t c =
    let s = g.G.Grow.trees c.args.g.now in
    subst (λ (z : List Tree). (p : Tree) × ((a : Tree) × ((r : Tree) × (tree_at z c.args.branches ≡ Two HCell (Two HArm p a) r)))) (sym c.store.ensures) (first_is s c.args.look c.args.scrutinee c.args.branches c.requires)

pub open_branch-requires : goal.open_branch-requires
open_branch-requires g t c =
    let s = g.G.Grow.trees c.args.g.now in
    let b = c.first_branch-first.result in
    let e = c.first_branch-first.ensures in
    can_open s c.args.look c.args.scrutinee c.args.branches c.requires b (branch_there s c.store.result.now c.args.branches b c.store.ensures e.tree) (there s c.store.result.now b.pattern c.store.ensures e.pattern_held) (there s c.store.result.now b.body c.store.ensures e.body_held)

pub if_form-requires : goal.if_form-requires
if_form-requires g t c κs within =
    let s = g.G.Grow.trees c.args.g.now in
    let s1 = g.G.Grow.trees c.open_branch.new.g in
    let w : Grows s s1 = g.met.G.Grow.keeps_trees _ _ c.in_ok-opened.ensures.grows in
    let b = c.first_branch-first.result in
    let e = c.first_branch-first.ensures in
    let ho = there s c.store.result.now b.others c.store.ensures e.others_held in
    let n : tree_at s1 b.others ≡ Two HCell (tree_at s1 c.in-Cell.field-0) (tree_at s1 c.in-Cell.field-1) = rw c.store-2.ensures at c.in-Cell.ensures.tree in
    let r = has_rest s c.args.look c.args.scrutinee c.args.branches c.requires b (branch_there s c.store.result.now c.args.branches b c.store.ensures e.tree) _ _ (sym (w.same b.others.0 ho) ∙ n) ho in
    (omega (arith, e.others_below), (within, can_later s s1 w c.args.look c.args.scrutinee b.others r.can))

pub add-requires-clause-fits : goal.add-requires-clause-fits
add-requires-clause-fits g t c =
    let s = g.G.Grow.trees c.args.g.now in
    let s1 = g.G.Grow.trees c.open_branch.new.g in
    let s2 = g.G.Grow.trees c.if_form.new.g in
    let w : Grows s s1 = g.met.G.Grow.keeps_trees _ _ c.in_ok-opened.ensures.grows in
    let y : Grows s1 s2 = g.met.G.Grow.keeps_trees _ _ c.in_ok-rest-in-Cell.ensures.grows in
    let b = c.first_branch-first.result in
    let e = c.first_branch-first.ensures in
    let o = c.in_ok-opened.ensures in
    let ho = there s c.store.result.now b.others c.store.ensures e.others_held in
    let n : tree_at s1 b.others ≡ Two HCell (tree_at s1 c.in-Cell.field-0) (tree_at s1 c.in-Cell.field-1) = rw c.store-2.ensures at c.in-Cell.ensures.tree in
    let r = has_rest s c.args.look c.args.scrutinee c.args.branches c.requires b (branch_there s c.store.result.now c.args.branches b c.store.ensures e.tree) _ _ (sym (w.same b.others.0 ho) ∙ n) ho in
    let x : tree_at s2 c.in_ok-opened.opened.test ≡ test (look_task s c.args.look) (tree_at s b.pattern) (tree_at s c.args.scrutinee) = y.same c.in_ok-opened.opened.test.0 o.test_held ∙ o.test in
    let z : tree_at s2 c.in_ok-opened.opened.body ≡ inst_many (tree_at s b.body) (bind (look_task s c.args.look) (tree_at s b.pattern) (tree_at s c.args.scrutinee)) = y.same c.in_ok-opened.opened.body.0 o.body_held ∙ o.body in
    let f : tree_at s2 c.in_ok-rest-in-Cell.rest ≡ if_form (look_task s c.args.look) (tree_at s c.args.scrutinee) (tree_at s b.others) =
    c.in_ok-rest-in-Cell.ensures.tree ∙ cc (task_same s s1 w c.args.look c.requires.look_held, w.same c.args.scrutinee.0 c.requires.scrutinee_held, w.same b.others.0 ho) in
    let q : Three HIf (tree_at s2 c.in_ok-opened.opened.test) (tree_at s2 c.in_ok-opened.opened.body) (tree_at s2 c.in_ok-rest-in-Cell.rest)
    ≡ Three HIf (test (look_task s c.args.look) (tree_at s b.pattern) (tree_at s c.args.scrutinee)) (inst_many (tree_at s b.body) (bind (look_task s c.args.look) (tree_at s b.pattern) (tree_at s c.args.scrutinee))) (if_form (look_task s c.args.look) (tree_at s c.args.scrutinee) (tree_at s b.others)) = if_same _ _ _ _ _ _ x z f in
    subst Fits (sym q) r.fits

pub returns-in_ok-made-in-Cell-clause-tree : goal.returns-in_ok-made-in-Cell-clause-tree
returns-in_ok-made-in-Cell-clause-tree g t c =
    let s = g.G.Grow.trees c.args.g.now in
    let s1 = g.G.Grow.trees c.open_branch.new.g in
    let s2 = g.G.Grow.trees c.if_form.new.g in
    let w : Grows s s1 = g.met.G.Grow.keeps_trees _ _ c.in_ok-opened.ensures.grows in
    let y : Grows s1 s2 = g.met.G.Grow.keeps_trees _ _ c.in_ok-rest-in-Cell.ensures.grows in
    let b = c.first_branch-first.result in
    let e = c.first_branch-first.ensures in
    let o = c.in_ok-opened.ensures in
    let ho = there s c.store.result.now b.others c.store.ensures e.others_held in
    let n : tree_at s1 b.others ≡ Two HCell (tree_at s1 c.in-Cell.field-0) (tree_at s1 c.in-Cell.field-1) = rw c.store-2.ensures at c.in-Cell.ensures.tree in
    let r = has_rest s c.args.look c.args.scrutinee c.args.branches c.requires b (branch_there s c.store.result.now c.args.branches b c.store.ensures e.tree) _ _ (sym (w.same b.others.0 ho) ∙ n) ho in
    let x : tree_at s2 c.in_ok-opened.opened.test ≡ test (look_task s c.args.look) (tree_at s b.pattern) (tree_at s c.args.scrutinee) = y.same c.in_ok-opened.opened.test.0 o.test_held ∙ o.test in
    let z : tree_at s2 c.in_ok-opened.opened.body ≡ inst_many (tree_at s b.body) (bind (look_task s c.args.look) (tree_at s b.pattern) (tree_at s c.args.scrutinee)) = y.same c.in_ok-opened.opened.body.0 o.body_held ∙ o.body in
    let f : tree_at s2 c.in_ok-rest-in-Cell.rest ≡ if_form (look_task s c.args.look) (tree_at s c.args.scrutinee) (tree_at s b.others) =
    c.in_ok-rest-in-Cell.ensures.tree ∙ cc (task_same s s1 w c.args.look c.requires.look_held, w.same c.args.scrutinee.0 c.requires.scrutinee_held, w.same b.others.0 ho) in
    c.in_ok-made-in-Cell.ensures.tree ∙ if_same _ _ _ _ _ _ x z f ∙ sym r.form

pub returns-in_default-clause-tree : goal.returns-in_default-clause-tree
returns-in_default-clause-tree g t c =
    let s = g.G.Grow.trees c.args.g.now in
    let s1 = g.G.Grow.trees c.open_branch.new.g in
    let w : Grows s s1 = g.met.G.Grow.keeps_trees _ _ c.in_ok-opened.ensures.grows in
    let b = c.first_branch-first.result in
    let e = c.first_branch-first.ensures in
    let ho = there s c.store.result.now b.others c.store.ensures e.others_held in
    let n : tree_at s1 b.others ≡ tree_at c.store-2.result.now b.others = ap (λ (z : List Tree). tree_at z b.others) (sym c.store-2.ensures) in
    c.in_ok-opened.ensures.body
    ∙ sym (is_last s c.args.look c.args.scrutinee c.args.branches c.requires b (branch_there s c.store.result.now c.args.branches b c.store.ensures e.tree) (no_cell c.store-2.result.now c.node.result (tree_at s b.others) (sym (w.same b.others.0 ho) ∙ n ∙ c.node.ensures.tree) c.in_default.not-Cell))

pub add-requires-clause-held : goal.add-requires-clause-held
add-requires-clause-held g t c =
    let s1 = g.G.Grow.trees c.open_branch.new.g in
    let s2 = g.G.Grow.trees c.if_form.new.g in
    let y : Grows s1 s2 = g.met.G.Grow.keeps_trees _ _ c.in_ok-rest-in-Cell.ensures.grows in
    let o = c.in_ok-opened in
    (held_after s1 s2 y c.args.look o.opened.test o.ensures.test_held, held_after s1 s2 y c.args.look o.opened.body o.ensures.body_held, c.in_ok-rest-in-Cell.ensures.held)

pub returns-in_ok-made-in-Cell-clause-held : goal.returns-in_ok-made-in-Cell-clause-held
returns-in_ok-made-in-Cell-clause-held g t c = c.in_ok-made-in-Cell.ensures.held

pub returns-in_ok-made-in-Cell-clause-grows : goal.returns-in_ok-made-in-Cell-clause-grows
returns-in_ok-made-in-Cell-clause-grows g t c = g.met.G.Grow.grows_trans _ _ _ c.in_ok-opened.ensures.grows (g.met.G.Grow.grows_trans _ _ _ c.in_ok-rest-in-Cell.ensures.grows c.in_ok-made-in-Cell.ensures.grows)

pub returns-in_err-rest-in-Cell-clause-grows : goal.returns-in_err-rest-in-Cell-clause-grows
returns-in_err-rest-in-Cell-clause-grows g t c = g.met.G.Grow.grows_trans _ _ _ c.in_ok-opened.ensures.grows c.if_form.ensures.grows

pub returns-in_err-made-in-Cell-clause-grows : goal.returns-in_err-made-in-Cell-clause-grows
returns-in_err-made-in-Cell-clause-grows g t c = g.met.G.Grow.grows_trans _ _ _ c.in_ok-opened.ensures.grows (g.met.G.Grow.grows_trans _ _ _ c.in_ok-rest-in-Cell.ensures.grows c.add.ensures.grows)

pub returns-in_default-clause-held : goal.returns-in_default-clause-held
returns-in_default-clause-held g t c = c.in_ok-opened.ensures.body_held

pub returns-in_default-clause-grows : goal.returns-in_default-clause-grows
returns-in_default-clause-grows g t c = c.in_ok-opened.ensures.grows
