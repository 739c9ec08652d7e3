use Rattle.std.proofs.Common.{◌≡◌, ◌↔◌, ◌<◌, ◌≤◌, List, IsTrue, refl, subst, arith}
use Rattle.trees.specs.Tree.{Tree, loose}
use Rattle.trees.specs.Binding.{instantiating_many}
use Rattle.trees.specs.Node.{tree_at}
use Rattle.tasks.specs.MatchTests.{bind}
use Rattle.trees.proofs.binders.Telling.{left_told, is_above, bound_told}
use Rattle.trees.proofs.binders.Reading.{many_left}
use Rattle.rules.specs.Meaning.{task_of}
use Rattle.rules.proofs.term_rules.binds.BindingsPut.is_put.Goals as goal

pub returns-then-loose-depth : goal.returns-then-loose-depth
returns-then-loose-depth c =
    let s = c.args.s.now in
    let v = c.args.self.now in
    let e = tree_at s c.args.e in
    let ts = bind (task_of v.x.now) (tree_at s v.pattern) (tree_at s v.term) in
    let l : loose e ≤ c.args.depth = omega (arith, c.loose.ensures, c.if-loose-depth.true) in
    left_told (instantiating_many ts) e c.args.depth (many_left ts c.args.depth e l) (tree_at s c.args.made) c.same.result c.same.ensures.trees

pub is_put_bound-requires-clause-above : goal.is_put_bound-requires-clause-above
is_put_bound-requires-clause-above c =
    let s = c.args.s.now in
    let e = tree_at s c.args.e in
    let l : c.args.depth < loose e = omega (arith, c.loose.ensures, c.if-loose-depth.false) in
    is_above e (tree_at s c.in-Bound.ty) c.in-Bound.index c.in-Bound.ensures.sorted c.in-Bound.ensures.tree c.args.depth l

pub returns-in-Bound : goal.returns-in-Bound
returns-in-Bound c =
    let s = c.args.s.now in
    let v = c.args.self.now in
    let e = tree_at s c.args.e in
    let ty = tree_at s c.in-Bound.ty in
    let i = c.in-Bound.index in
    let w = c.in-Bound.ensures.sorted in
    let q = c.in-Bound.ensures.tree in
    let l : c.args.depth < loose e = omega (arith, c.loose.ensures, c.if-loose-depth.false) in
    let above : c.args.depth ≤ i = is_above e ty i w q c.args.depth l in
    let r = c.is_put_bound.result in
    let made = c.args.made in
    let P : List Tree → Type 0 = λ z. IsTrue r ↔ (tree_at z made ≡ (instantiating_many (bind (task_of v.x.now) (tree_at z v.pattern) (tree_at z v.term))).bound c.args.depth i (tree_at z c.in-Bound.ty)) in
    bound_told e ty i w q (instantiating_many (bind (task_of v.x.now) (tree_at s v.pattern) (tree_at s v.term))) (λ _. refl) c.args.depth above (tree_at s made) r (subst P c.requires.ready.store c.is_put_bound.ensures)
