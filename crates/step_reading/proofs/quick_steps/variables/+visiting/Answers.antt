use Rattle.std.proofs.Common.{◌≡◌, sym, subst, ap, ◌∙◌, arith}
use Rattle.tasks.specs.trees.declared.Parts.TheVariants as parts
use Rattle.tasks.specs.trees.Tree.{One, Two, Three}
use Rattle.tasks.specs.trees.Node.{tree_at, parts_of, head_of_node, assemble}
use Rattle.trees.proofs.binders.Telling.{is_above}
use Rattle.step_reading.specs.quick_steps.Variables.{types_bound, ToldOfTree}
use Rattle.step_reading.proofs.quick_steps.Seen.{closed_told, no_variable, one_told, two_first, two_told, three_first, three_second, three_told, seen_more}
use Rattle.step_reading.proofs.quick_steps.variables.+visiting.Goals as goal

pub variables_have-returns-then-loose-depth-clause-told : goal.variables_have-returns-then-loose-depth-clause-told
variables_have-returns-then-loose-depth-clause-told t c =
    let s = c.args.store.now in
    closed_told c.args.depth (types_bound s c.args.binder) (tree_at s c.args.e) (omega arith)

pub variables_have-returns-in_ok-insert-clause-seen : goal.variables_have-returns-in_ok-insert-clause-seen
variables_have-returns-in_ok-insert-clause-seen t c =
    let s = c.args.store.now in
    seen_more (types_bound s c.args.binder) s c.variables_have_inside.new.seen c.insert.new.self c.args.e c.args.depth c.in_ok-have.ensures.seen (c.in_ok-have.ensures.told.is c.if-have.true) c.in_ok-insert.ensures.updates.0

pub variables_have_inside-is_typed_variable-requires-clause-above : goal.variables_have_inside-is_typed_variable-requires-clause-above
variables_have_inside-is_typed_variable-requires-clause-above t c =
    let s = c.args.store.now in
    is_above (tree_at s c.args.e) (tree_at s c.in-Bound.ty) c.in-Bound.index c.in-Bound.ensures.sorted c.in-Bound.ensures.tree c.args.depth c.requires.open

pub variables_have_inside-returns-then-not-branch : goal.variables_have_inside-returns-then-not-branch
variables_have_inside-returns-then-not-branch t c =
    let s = c.args.store.now in
    let node = c.node-node.result in
    let node_parts : parts_of node ≡ parts.Two c.in-Two.a c.in-Two.b = sym c.parts.ensures ∙ c.in-Two.is in
    let e : tree_at s c.args.e ≡ Two (head_of_node node) (tree_at s c.in-Two.a) (tree_at s c.in-Two.b) = c.node-node.ensures.tree ∙ ap (assemble s (head_of_node node)) node_parts in
    record {
      told = two_first c.args.depth (types_bound s c.args.binder) (tree_at s c.args.e) (head_of_node node) (tree_at s c.in-Two.a) (tree_at s c.in-Two.b) c.depth_under-under.result e c.depth_under-under.ensures
          (subst (ToldOfTree c.args.depth (types_bound s c.args.binder) (tree_at s c.in-Two.a)) c.if-not-branch.true c.in_ok-variables_have-in-Two.ensures.told);
      seen = c.in_ok-variables_have-in-Two.ensures.seen;
    }

pub variables_have_inside-returns-then-not-branch-2 : goal.variables_have_inside-returns-then-not-branch-2
variables_have_inside-returns-then-not-branch-2 t c =
    let s = c.args.store.now in
    let node = c.node-node.result in
    let node_parts : parts_of node ≡ parts.Three c.in-Three.a c.in-Three.b c.in-Three.c = sym c.parts.ensures ∙ c.in-Three.is in
    let e : tree_at s c.args.e ≡ Three (head_of_node node) (tree_at s c.in-Three.a) (tree_at s c.in-Three.b) (tree_at s c.in-Three.c) = c.node-node.ensures.tree ∙ ap (assemble s (head_of_node node)) node_parts in
    record {
      told = three_first c.args.depth (types_bound s c.args.binder) (tree_at s c.args.e) (head_of_node node) (tree_at s c.in-Three.a) (tree_at s c.in-Three.b) (tree_at s c.in-Three.c) e
          (subst (ToldOfTree c.args.depth (types_bound s c.args.binder) (tree_at s c.in-Three.a)) c.if-not-branch-2.true c.in_ok-variables_have-in-Three.ensures.told);
      seen = c.in_ok-variables_have-in-Three.ensures.seen;
    }

pub variables_have_inside-returns-then-not-branch-3 : goal.variables_have_inside-returns-then-not-branch-3
variables_have_inside-returns-then-not-branch-3 t c =
    let s = c.args.store.now in
    let node = c.node-node.result in
    let node_parts : parts_of node ≡ parts.Three c.in-Three.a c.in-Three.b c.in-Three.c = sym c.parts.ensures ∙ c.in-Three.is in
    let e : tree_at s c.args.e ≡ Three (head_of_node node) (tree_at s c.in-Three.a) (tree_at s c.in-Three.b) (tree_at s c.in-Three.c) = c.node-node.ensures.tree ∙ ap (assemble s (head_of_node node)) node_parts in
    record {
      told = three_second c.args.depth (types_bound s c.args.binder) (tree_at s c.args.e) (head_of_node node) (tree_at s c.in-Three.a) (tree_at s c.in-Three.b) (tree_at s c.in-Three.c) e
          (subst (ToldOfTree c.args.depth (types_bound s c.args.binder) (tree_at s c.in-Three.b)) c.if-not-branch-3.true c.in_ok-variables_have-in-Three-2.ensures.told);
      seen = c.in_ok-variables_have-in-Three-2.ensures.seen;
    }

pub variables_have_inside-returns-in_ok-have-in-One : goal.variables_have_inside-returns-in_ok-have-in-One
variables_have_inside-returns-in_ok-have-in-One t c =
    let s = c.args.store.now in
    let node = c.node-node.result in
    let node_parts : parts_of node ≡ parts.One c.in-One.a = sym c.parts.ensures ∙ c.in-One.is in
    let e : tree_at s c.args.e ≡ One (head_of_node node) (tree_at s c.in-One.a) = c.node-node.ensures.tree ∙ ap (assemble s (head_of_node node)) node_parts in
    record { told = one_told c.args.depth (types_bound s c.args.binder) (tree_at s c.args.e) (head_of_node node) (tree_at s c.in-One.a) c.in_ok-have-in-One.have e (no_variable node c.in_default.not-Bound) c.in_ok-have-in-One.ensures.told; seen = c.in_ok-have-in-One.ensures.seen }

pub variables_have_inside-returns-in_ok-have-in-Two : goal.variables_have_inside-returns-in_ok-have-in-Two
variables_have_inside-returns-in_ok-have-in-Two t c =
    let s = c.args.store.now in
    let node = c.node-node.result in
    let node_parts : parts_of node ≡ parts.Two c.in-Two.a c.in-Two.b = sym c.parts.ensures ∙ c.in-Two.is in
    let e : tree_at s c.args.e ≡ Two (head_of_node node) (tree_at s c.in-Two.a) (tree_at s c.in-Two.b) = c.node-node.ensures.tree ∙ ap (assemble s (head_of_node node)) node_parts in
    record {
      told = two_told c.args.depth (types_bound s c.args.binder) (tree_at s c.args.e) (head_of_node node) (tree_at s c.in-Two.a) (tree_at s c.in-Two.b) c.depth_under-under.result e c.depth_under-under.ensures c.in_ok-have-in-Two.have
          (subst (ToldOfTree c.args.depth (types_bound s c.args.binder) (tree_at s c.in-Two.a)) c.if-not-branch.false c.in_ok-variables_have-in-Two.ensures.told) c.in_ok-have-in-Two.ensures.told;
      seen = c.in_ok-have-in-Two.ensures.seen;
    }

pub variables_have_inside-returns-in_ok-have-in-Three : goal.variables_have_inside-returns-in_ok-have-in-Three
variables_have_inside-returns-in_ok-have-in-Three t c =
    let s = c.args.store.now in
    let node = c.node-node.result in
    let node_parts : parts_of node ≡ parts.Three c.in-Three.a c.in-Three.b c.in-Three.c = sym c.parts.ensures ∙ c.in-Three.is in
    let e : tree_at s c.args.e ≡ Three (head_of_node node) (tree_at s c.in-Three.a) (tree_at s c.in-Three.b) (tree_at s c.in-Three.c) = c.node-node.ensures.tree ∙ ap (assemble s (head_of_node node)) node_parts in
    record {
      told = three_told c.args.depth (types_bound s c.args.binder) (tree_at s c.args.e) (head_of_node node) (tree_at s c.in-Three.a) (tree_at s c.in-Three.b) (tree_at s c.in-Three.c) e c.in_ok-have-in-Three.have
          (subst (ToldOfTree c.args.depth (types_bound s c.args.binder) (tree_at s c.in-Three.a)) c.if-not-branch-2.false c.in_ok-variables_have-in-Three.ensures.told)
          (subst (ToldOfTree c.args.depth (types_bound s c.args.binder) (tree_at s c.in-Three.b)) c.if-not-branch-3.false c.in_ok-variables_have-in-Three-2.ensures.told) c.in_ok-have-in-Three.ensures.told;
      seen = c.in_ok-have-in-Three.ensures.seen;
    }
