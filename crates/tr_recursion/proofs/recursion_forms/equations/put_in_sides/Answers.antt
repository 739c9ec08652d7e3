use Rattle.std.proofs.lemmas.Result.{IfOk-weaker}
use Rattle.trees.specs.declared.Op.TheVariants.{Iff}
use Rattle.trees.specs.declared.Sort.TheVariants.{Term}
use Rattle.trees.specs.Tree.{HEq, HJoin}
use Rattle.trees.specs.Node.{tree_at}
use Rattle.trees.specs.binders.Visits.{held_stays}
use Rattle.tr_recursion.proofs.recursion_forms.Making.{sides_put}
use Rattle.tr_recursion.proofs.recursion_forms.equations.put_in_sides.Goals as goal

pub put_terms-requires-in-Eq-clause-terms : goal.put_terms-requires-in-Eq-clause-terms
put_terms-requires-in-Eq-clause-terms c = held_stays Term c.args.store.now c.put_terms.new.store c.args.right.now c.in_ok-one-in-Eq.ensures.grows c.requires.right

pub put_terms-requires-in-Join-Iff-default-default-2-clause-terms : goal.put_terms-requires-in-Join-Iff-default-default-2-clause-terms
put_terms-requires-in-Join-Iff-default-default-2-clause-terms c =
    held_stays Term c.args.store.now c.put_terms-in-Join-Iff-default-default.new.store c.args.right.now c.in_ok-one-in-Join-Iff-default-default.ensures.grows c.requires.right

pub returns-in_ok-other-in-Eq-clause-tree : goal.returns-in_ok-other-in-Eq-clause-tree
returns-in_ok-other-in-Eq-clause-tree c =
    let s = c.args.store.now in
    let n = c.in-Eq in
    let a = c.in_ok-one-in-Eq.ensures in
    let b = c.in_ok-other-in-Eq.ensures in
    IfOk-weaker c.add.result _ _ (λ id h.
    sides_put s c.put_terms.new.store c.put_terms-in-Eq.new.store a.grows b.grows HEq (tree_at s c.args.sides) (tree_at s n.first) (tree_at s n.field-1) c.args.body c.in_ok-one-in-Eq.one c.in_ok-other-in-Eq.other c.args.left.now c.args.right.now _ n.ensures.tree a.held a.tree
    c.requires.body c.requires.right b.tree h) c.add.ensures.tree

pub returns-in_ok-other-in-Join-Iff-default-default-clause-tree : goal.returns-in_ok-other-in-Join-Iff-default-default-clause-tree
returns-in_ok-other-in-Join-Iff-default-default-clause-tree c =
    let s = c.args.store.now in
    let n = c.in-Join-Iff-default-default in
    let a = c.in_ok-one-in-Join-Iff-default-default.ensures in
    let b = c.in_ok-other-in-Join-Iff-default-default.ensures in
    IfOk-weaker c.add-in-Join-Iff-default-default.result _ _ (λ id h.
    sides_put s c.put_terms-in-Join-Iff-default-default.new.store c.put_terms-in-Join-Iff-default-default-2.new.store a.grows b.grows (HJoin Iff) (tree_at s c.args.sides) (tree_at s n.first) (tree_at s n.field-2) c.args.body c.in_ok-one-in-Join-Iff-default-default.one
    c.in_ok-other-in-Join-Iff-default-default.other c.args.left.now c.args.right.now _ (rw n.field-0-is at n.ensures.tree) a.held a.tree c.requires.body c.requires.right b.tree h) c.add-in-Join-Iff-default-default.ensures.tree
