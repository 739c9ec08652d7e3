use Rattle.std.proofs.Common.{◌≡◌, sym, ap, ◌∙◌, arith}
use Rattle.std.proofs.lemmas.Bool.Decides.{nat_tests}
use Rattle.trees.specs.declared.Parts.TheVariants.{Two}
use Rattle.trees.specs.Node.{tree_at, parts_of, head_of_node, assemble}
use Rattle.tasks.proofs.typed_trees.Variables.{bound_at, two_at, two_can}
use Rattle.tasks.proofs.typed_trees.open.+variable_has.Goals as goal

pub returns-then-index-depth-clause-is : goal.returns-then-index-depth-clause-is
returns-then-index-depth-clause-is t c v =
    let s = c.args.store.now in
    bound_at c.args.depth c.in-Bound.index (tree_at s c.args.ty) (tree_at s c.in-Bound.known) (tree_at s c.args.e) c.in-Bound.ensures.sorted c.in-Bound.ensures.tree (λ m. absurd (grind (arith, nat_tests)))

pub returns-else-index-depth-clause-is : goal.returns-else-index-depth-clause-is
returns-else-index-depth-clause-is t c v =
    let s = c.args.store.now in
    bound_at c.args.depth c.in-Bound.index (tree_at s c.args.ty) (tree_at s c.in-Bound.known) (tree_at s c.args.e) c.in-Bound.ensures.sorted c.in-Bound.ensures.tree (λ m. c.same.ensures.trees.0 v)

pub returns-then-variable_has : goal.returns-then-variable_has
returns-then-variable_has t c =
    let s = c.args.store.now in
    let node = c.node-node.result in
    let node_parts : parts_of node ≡ Two c.in-Two.a c.in-Two.b = sym c.parts.ensures ∙ c.in-Two.is in
    let e = c.node-node.ensures.tree ∙ ap (assemble s (head_of_node node)) node_parts in
    record {
      is = λ v. two_at c.args.depth c.depth_under-under.result (tree_at s c.args.ty) (tree_at s c.in-Two.a) (tree_at s c.in-Two.b) (tree_at s c.args.e) (head_of_node node) e c.depth_under-under.ensures
          (c.variable_has-in-Two.ensures.is c.if-variable_has.true) (c.variable_has-then-variable_has.ensures.is v);
      can = λ k. c.variable_has-then-variable_has.ensures.can (two_can c.args.depth c.depth_under-under.result (tree_at s c.args.ty) (tree_at s c.in-Two.a) (tree_at s c.in-Two.b) (tree_at s c.args.e) (head_of_node node) e c.depth_under-under.ensures k).1;
    }
