use Rattle.std.proofs.Common.{rules, ◌≡◌, ◌<◌, length, true, false, subst, sym, ap, ◌∙◌, arith}
use Rattle.trees.specs.declared.Parts.{Parts}
use Rattle.trees.specs.declared.Parts.TheVariants as node_parts
use Rattle.trees.specs.declared.Sort.TheVariants.{Term}
use Rattle.trees.specs.Tree.{Tree, Leaf, One, Two, Three, HCell, HBound}
use Rattle.trees.specs.Sorts.{sort_of, IsList}
use Rattle.trees.specs.Binding.{inst_types, inst_many}
use Rattle.trees.specs.Node.{tree_at, node_tree, Holds, Grows, assemble, head_of_node, IsLike, AreBelow}
use Rattle.trees.proofs.Nodes.{Grows_refl, Grows_trans}
use Rattle.tasks.specs.Typing.{members}
use Rattle.tasks.proofs.outside.Passed.{no_value}
use Rattle.trees.proofs.binders.Rebuilt.{held_later}
use Rattle.inlining.specs.images.Images.{image}
use Rattle.inlining.specs.images.image_trees.Imaged.{RuleOver, AreImages}
use Rattle.inlining.proofs.images.image_trees.ImagedParts.{known_later, known_more, one_part, two_parts, three_parts, one_fit, two_fit, three_fit, one_over, two_over, three_over}
use Rattle.tr_inline.specs.declared.full_bodies.fault.InlineFault.TheVariants as fault
use Rattle.tr_inline.specs.full_bodies.Least.{is_used}
use Rattle.tr_inline.specs.full_bodies.Arguments.{ArePutFor}
use Rattle.tr_inline.specs.full_bodies.Faults.{IsFaultOf, IsArgumentFault, IsArgumentsFault}
use Rattle.tr_inline.specs.full_bodies.FullBodies.{IsFull, IsUseAt, IsArgument, AreArguments}
use Rattle.tr_inline.specs.full_bodies.Inlined.{rule_of, inlined_at, CanInline, IsInlined}
use Rattle.tr_inline.proofs.full_bodies.Bodies.{rule_keeps}
use Rattle.tr_inline.proofs.full_bodies.ListMembers.{cell_parts}
use Rattle.tr_inline.proofs.full_bodies.Steps.{rule_same, go, back, inlined_same, fault_as, fault_within, err_passed, none_full, use_made, whole_large, argument_large, arguments_fault, argument_fault_used, argument_fault_first, argument_fault_rest, image_sort, cell_fits, cell_arguments, end_arguments, not_bound, one_large, two_large_first, two_large_second, three_large_first, three_large_second, three_large_third, variable_left, leaf_left, typed_cell}
use Rattle.tr_inline.proofs.full_bodies.imaging.+imaging.Goals as goal

pub inline_tree-returns-in-Some-clause-inlined : goal.inline_tree-returns-in-Some-clause-inlined
inline_tree-returns-in-Some-clause-inlined t c =
    let k = c.requires.known c.args.e.0 c.in-Some.made.now (sym c.in-Some.ensures.value) in
    record { held = k.1.0; is = k.1.1; known = c.requires.known }

pub inline_tree-returns-in_err-made-clause-fault : goal.inline_tree-returns-in_err-made-clause-fault
inline_tree-returns-in_err-made-clause-fault t c =
    let s = c.args.store.now in
    let x = c.args.inlining.now in
    err_passed (IsFaultOf (inlined_at s x c.args.e)) c.from_residual.result c.in_err-made.field-0.0 c.from_residual.ensures.1 c.in_err-made.ensures.fault

pub inline_tree-returns-in-Ok-clause-inlined : goal.inline_tree-returns-in-Ok-clause-inlined
inline_tree-returns-in-Ok-clause-inlined t c =
    let s = c.args.store.now in
    let x = c.args.inlining.now in
    let s1 = c.inline_node.new.store in
    let w : Grows s s1 = c.in_ok-made.ensures.grows in
    let k : IsInlined s x c.args.e s1 c.inline_node.new.known c.in_ok-made.made = c.in_ok-made.ensures.inlined in
    let same : tree_at s1 c.args.e ≡ tree_at s c.args.e = w.same c.args.e.0 c.requires.held in
    record {
      held = k.held;
      is = k.is;
      known = known_more (rule_of s x) s1 c.inline_node.new.known c.insert.new.self c.args.e c.in_ok-made.made k.known (held_later s s1 c.args.e w c.requires.held) k.held
          (k.is ∙ ap (image (rule_of s x).rule) (sym same)) c.in-Ok.ensures.updates.0;
    }

pub inline_node-inline_use-requires : goal.inline_node-inline_use-requires
inline_node-inline_use-requires t c =
    let s = c.args.store.now in
    let x = c.args.inlining.now in
    let at : IsUseAt s (rule_of s x) c.args.e c.in-Some.at = c.in-Some.ensures in
    let can : CanInline s x c.args.known.now c.args.e = c.requires in
    (omega arith, (can, at))

pub inline_node-inline_parts-requires : goal.inline_node-inline_parts-requires
inline_node-inline_parts-requires t c =
    let s = c.args.store.now in
    let x = c.args.inlining.now in
    let over = c.in-None.ensures in
    let can : CanInline s x c.args.known.now c.args.e = c.requires in
    (omega arith, (can, over))

pub inline_use-returns-in_default-clause-fault : goal.inline_use-returns-in_default-clause-fault
inline_use-returns-in_default-clause-fault t c =
    let s = c.args.store.now in
    let x = c.args.inlining.now in
    let r = rule_of s x in
    let u : IsUseAt s r c.args.e c.args.at = c.requires.at in
    whole_large s r c.args.e c.args.at u (none_full s u.whole c.args.at.full c.in_default.not-Some u.full)

pub inline_use-put_types-requires-clause-body_held : goal.inline_use-put_types-requires-clause-body_held
inline_use-put_types-requires-clause-body_held t c =
    let s = c.args.store.now in
    let x = c.args.inlining.now in
    let r = rule_of s x in
    let u : IsUseAt s r c.args.e c.args.at = c.requires.at in
    let full : Holds s c.in-Some.full × (tree_at s c.in-Some.full ≡ u.whole) = subst (IsFull s u.whole) c.in-Some.is u.full in
    full.0

pub inline_use-put_types-requires-clause-types_held : goal.inline_use-put_types-requires-clause-types_held
inline_use-put_types-requires-clause-types_held t c =
    let s = c.args.store.now in
    let x = c.args.inlining.now in
    let r = rule_of s x in
    let u : IsUseAt s r c.args.e c.args.at = c.requires.at in
    omega (arith, u.below.0, c.requires.can.held)

pub inline_use-put_types-requires-clause-types : goal.inline_use-put_types-requires-clause-types
inline_use-put_types-requires-clause-types t c =
    let s = c.args.store.now in
    let x = c.args.inlining.now in
    let r = rule_of s x in
    let u : IsUseAt s r c.args.e c.args.at = c.requires.at in
    u.types

pub inline_use-returns-in_err-body-clause-fault : goal.inline_use-returns-in_err-body-clause-fault
inline_use-returns-in_err-body-clause-fault t c =
    let s = c.args.store.now in
    let x = c.args.inlining.now in
    err_passed (IsFaultOf (inlined_at s x c.args.e)) c.from_residual.result fault.Memory c.from_residual.ensures.1 tt

pub inline_use-inline_arguments-requires : goal.inline_use-inline_arguments-requires
inline_use-inline_arguments-requires t c =
    let s = c.args.store.now in
    let x = c.args.inlining.now in
    let r = rule_of s x in
    let u : IsUseAt s r c.args.e c.args.at = c.requires.at in
    let full : Holds s c.in-Some.full × (tree_at s c.in-Some.full ≡ u.whole) = subst (IsFull s u.whole) c.in-Some.is u.full in
    let s1 = c.put_types.new.g in
    let w1 : Grows s s1 = c.in_ok-body.ensures.grows in
    let body = c.in_ok-body.body in
    let body_is : tree_at s1 body ≡ inst_types u.whole (members (tree_at s c.args.at.types)) = c.in_ok-body.ensures.tree ∙ ap (λ (z : Tree). inst_types z (members (tree_at s c.args.at.types))) full.1 in
    let held_args : Holds s c.args.at.args = omega (arith, u.below.1, c.requires.can.held) in
    let args_same : tree_at s1 c.args.at.args ≡ tree_at s c.args.at.args = w1.same c.args.at.args.0 held_args in
    let ready = c.requires.can.is_ready in
    let below : c.args.at.args.0 < c.args.e.0 = u.below.1 in
    let can : CanInline s1 x c.args.known.now c.args.at.args = go x s s1 w1 ready c.args.at.args held_args c.args.known.now u.typed (known_later r s s1 c.args.known.now w1 c.requires.can.known) in
    let held : Holds s1 body = c.in_ok-body.ensures.held in
    let list : IsList Term (tree_at s1 c.args.at.args) = subst (IsList Term) (sym args_same) u.args in
    (omega (arith, below), (can, (held, list)))

pub inline_use-returns-in_err-args-clause-fault : goal.inline_use-returns-in_err-args-clause-fault
inline_use-returns-in_err-args-clause-fault t c =
    let s = c.args.store.now in
    let x = c.args.inlining.now in
    let r = rule_of s x in
    let u : IsUseAt s r c.args.e c.args.at = c.requires.at in
    let full : Holds s c.in-Some.full × (tree_at s c.in-Some.full ≡ u.whole) = subst (IsFull s u.whole) c.in-Some.is u.full in
    let s1 = c.put_types.new.g in
    let w1 : Grows s s1 = c.in_ok-body.ensures.grows in
    let body = c.in_ok-body.body in
    let body_is : tree_at s1 body ≡ inst_types u.whole (members (tree_at s c.args.at.types)) = c.in_ok-body.ensures.tree ∙ ap (λ (z : Tree). inst_types z (members (tree_at s c.args.at.types))) full.1 in
    let held_args : Holds s c.args.at.args = omega (arith, u.below.1, c.requires.can.held) in
    let args_same : tree_at s1 c.args.at.args ≡ tree_at s c.args.at.args = w1.same c.args.at.args.0 held_args in
    let ready = c.requires.can.is_ready in
    let e = c.in_err-args.field-0.0 in
    let there : IsArgumentsFault (rule_of s1 x).rule (tree_at s1 body) (members (tree_at s1 c.args.at.args)) e = c.in_err-args.ensures.fault in
    let here : IsArgumentsFault r.rule (tree_at s1 body) (members (tree_at s c.args.at.args)) e =
    subst (λ (z : Tree). IsArgumentsFault r.rule (tree_at s1 body) (members z) e) args_same (subst (λ (z : RuleOver). IsArgumentsFault z.rule (tree_at s1 body) (members (tree_at s1 c.args.at.args)) e) (rule_same x s s1 w1 ready) there) in
    err_passed (IsFaultOf (inlined_at s x c.args.e)) c.from_residual-in_err-args.result e c.from_residual-in_err-args.ensures.1
    (arguments_fault r.rule (tree_at s1 body) (members (tree_at s c.args.at.args)) (inlined_at s x c.args.e) (argument_large s r c.args.e c.args.at u (tree_at s1 body) body_is) e here)

pub inline_use-put_arguments-requires-clause-body_held : goal.inline_use-put_arguments-requires-clause-body_held
inline_use-put_arguments-requires-clause-body_held t c =
    let s1 = c.put_types.new.g in
    let body = c.in_ok-body.body in
    let s2 = c.inline_arguments.new.store in
    let w2 : Grows s1 s2 = c.in_ok-args.ensures.grows in
    held_later s1 s2 body w2 c.in_ok-body.ensures.held

pub inline_use-put_arguments-requires-clause-args_held : goal.inline_use-put_arguments-requires-clause-args_held
inline_use-put_arguments-requires-clause-args_held t c =
    let x = c.args.inlining.now in
    let s1 = c.put_types.new.g in
    let body = c.in_ok-body.body in
    let s2 = c.inline_arguments.new.store in
    let y = c.in_ok-args.args in
    let k : AreArguments (rule_of s1 x) (tree_at s1 body) (members (tree_at s1 c.args.at.args)) s2 c.inline_arguments.new.known y = c.in_ok-args.ensures.arguments in
    k.held

pub inline_use-put_arguments-requires-clause-args : goal.inline_use-put_arguments-requires-clause-args
inline_use-put_arguments-requires-clause-args t c =
    let x = c.args.inlining.now in
    let s1 = c.put_types.new.g in
    let body = c.in_ok-body.body in
    let s2 = c.inline_arguments.new.store in
    let y = c.in_ok-args.args in
    let k : AreArguments (rule_of s1 x) (tree_at s1 body) (members (tree_at s1 c.args.at.args)) s2 c.inline_arguments.new.known y = c.in_ok-args.ensures.arguments in
    k.list

pub inline_use-returns-in_err-body-clause-grows : goal.inline_use-returns-in_err-body-clause-grows
inline_use-returns-in_err-body-clause-grows t c =
    c.put_types.ensures.grows

pub inline_use-returns-in_err-args-clause-grows : goal.inline_use-returns-in_err-args-clause-grows
inline_use-returns-in_err-args-clause-grows t c =
    Grows_trans _ _ _ c.in_ok-body.ensures.grows c.inline_arguments.ensures.grows

pub inline_use-returns-in_err-made-clause-fault : goal.inline_use-returns-in_err-made-clause-fault
inline_use-returns-in_err-made-clause-fault t c =
    let s = c.args.store.now in
    let x = c.args.inlining.now in
    err_passed (IsFaultOf (inlined_at s x c.args.e)) c.from_residual-in_err-made.result fault.Memory c.from_residual-in_err-made.ensures.1 tt

pub inline_use-returns-in_err-made-clause-grows : goal.inline_use-returns-in_err-made-clause-grows
inline_use-returns-in_err-made-clause-grows t c =
    Grows_trans _ _ _ c.in_ok-body.ensures.grows (Grows_trans _ _ _ c.in_ok-args.ensures.grows c.put_arguments.ensures.grows)

pub inline_use-refuse_large-requires : goal.inline_use-refuse_large-requires
inline_use-refuse_large-requires t c =
    c.in_ok-made.ensures.held

pub inline_use-returns-in_err-small-clause-fault : goal.inline_use-returns-in_err-small-clause-fault
inline_use-returns-in_err-small-clause-fault t c =
    let s = c.args.store.now in
    let x = c.args.inlining.now in
    let r = rule_of s x in
    let u : IsUseAt s r c.args.e c.args.at = c.requires.at in
    let full : Holds s c.in-Some.full × (tree_at s c.in-Some.full ≡ u.whole) = subst (IsFull s u.whole) c.in-Some.is u.full in
    let s1 = c.put_types.new.g in
    let w1 : Grows s s1 = c.in_ok-body.ensures.grows in
    let body = c.in_ok-body.body in
    let body_is : tree_at s1 body ≡ inst_types u.whole (members (tree_at s c.args.at.types)) = c.in_ok-body.ensures.tree ∙ ap (λ (z : Tree). inst_types z (members (tree_at s c.args.at.types))) full.1 in
    let held_args : Holds s c.args.at.args = omega (arith, u.below.1, c.requires.can.held) in
    let args_same : tree_at s1 c.args.at.args ≡ tree_at s c.args.at.args = w1.same c.args.at.args.0 held_args in
    let ready = c.requires.can.is_ready in
    let s2 = c.inline_arguments.new.store in
    let w2 : Grows s1 s2 = c.in_ok-args.ensures.grows in
    let y = c.in_ok-args.args in
    let k : AreArguments (rule_of s1 x) (tree_at s1 body) (members (tree_at s1 c.args.at.args)) s2 c.inline_arguments.new.known y = c.in_ok-args.ensures.arguments in
    let s3 = c.put_arguments.new.g in
    let made = c.in_ok-made.made in
    let body_same : tree_at s2 body ≡ tree_at s1 body = w2.same body.0 c.in_ok-body.ensures.held in
    let are : ArePutFor r.rule (tree_at s1 body) (members (tree_at s c.args.at.args)) (members (tree_at s2 y)) =
    subst (λ (z : Tree). ArePutFor r.rule (tree_at s1 body) (members z) (members (tree_at s2 y))) args_same (subst (λ (z : RuleOver). ArePutFor z.rule (tree_at s1 body) (members (tree_at s1 c.args.at.args)) (members (tree_at s2 y))) (rule_same x s s1 w1 ready) k.are) in
    let is : tree_at s3 made ≡ inlined_at s x c.args.e =
    c.in_ok-made.ensures.tree ∙ ap (λ (z : Tree). inst_many z (members (tree_at s2 y))) body_same ∙ use_made s r c.args.e c.args.at u (tree_at s1 body) body_is (members (tree_at s2 y)) are in
    err_passed (IsFaultOf (inlined_at s x c.args.e)) c.from_residual-in_err-small.result c.in_err-small.field-0.0 c.from_residual-in_err-small.ensures.1
    (fault_as (tree_at s3 made) (inlined_at s x c.args.e) is c.in_err-small.field-0.0 c.in_err-small.ensures.fault)

pub inline_use-returns-in_err-small-clause-grows : goal.inline_use-returns-in_err-small-clause-grows
inline_use-returns-in_err-small-clause-grows t c =
    Grows_trans _ _ _ c.in_ok-body.ensures.grows (Grows_trans _ _ _ c.in_ok-args.ensures.grows c.in_ok-made.ensures.grows)

pub inline_use-returns-clause-inlined : goal.inline_use-returns-clause-inlined
inline_use-returns-clause-inlined t c =
    let s = c.args.store.now in
    let x = c.args.inlining.now in
    let r = rule_of s x in
    let u : IsUseAt s r c.args.e c.args.at = c.requires.at in
    let full : Holds s c.in-Some.full × (tree_at s c.in-Some.full ≡ u.whole) = subst (IsFull s u.whole) c.in-Some.is u.full in
    let s1 = c.put_types.new.g in
    let w1 : Grows s s1 = c.in_ok-body.ensures.grows in
    let body = c.in_ok-body.body in
    let body_is : tree_at s1 body ≡ inst_types u.whole (members (tree_at s c.args.at.types)) = c.in_ok-body.ensures.tree ∙ ap (λ (z : Tree). inst_types z (members (tree_at s c.args.at.types))) full.1 in
    let held_args : Holds s c.args.at.args = omega (arith, u.below.1, c.requires.can.held) in
    let args_same : tree_at s1 c.args.at.args ≡ tree_at s c.args.at.args = w1.same c.args.at.args.0 held_args in
    let ready = c.requires.can.is_ready in
    let s2 = c.inline_arguments.new.store in
    let w2 : Grows s1 s2 = c.in_ok-args.ensures.grows in
    let y = c.in_ok-args.args in
    let k : AreArguments (rule_of s1 x) (tree_at s1 body) (members (tree_at s1 c.args.at.args)) s2 c.inline_arguments.new.known y = c.in_ok-args.ensures.arguments in
    let s3 = c.put_arguments.new.g in
    let w3 : Grows s2 s3 = c.in_ok-made.ensures.grows in
    let made = c.in_ok-made.made in
    let body_same : tree_at s2 body ≡ tree_at s1 body = w2.same body.0 c.in_ok-body.ensures.held in
    let are : ArePutFor r.rule (tree_at s1 body) (members (tree_at s c.args.at.args)) (members (tree_at s2 y)) =
    subst (λ (z : Tree). ArePutFor r.rule (tree_at s1 body) (members z) (members (tree_at s2 y))) args_same (subst (λ (z : RuleOver). ArePutFor z.rule (tree_at s1 body) (members (tree_at s1 c.args.at.args)) (members (tree_at s2 y))) (rule_same x s s1 w1 ready) k.are) in
    let is : tree_at s3 made ≡ inlined_at s x c.args.e =
    c.in_ok-made.ensures.tree ∙ ap (λ (z : Tree). inst_many z (members (tree_at s2 y))) body_same ∙ use_made s r c.args.e c.args.at u (tree_at s1 body) body_is (members (tree_at s2 y)) are in
    let same : c.in_ok-small.small ≡ made = c.in_ok-small.ensures.same in
    let known : AreImages r s3 c.inline_arguments.new.known = known_later r s2 s3 c.inline_arguments.new.known w3 (subst (λ (z : RuleOver). AreImages z s2 c.inline_arguments.new.known) (rule_same x s s1 w1 ready) k.known) in
    let all : IsInlined s x c.args.e s3 c.inline_arguments.new.known made = record { held = c.in_ok-made.ensures.held; is = is; known = known } in
    subst (IsInlined s x c.args.e s3 c.inline_arguments.new.known) (sym same) all

pub inline_use-returns-clause-grows : goal.inline_use-returns-clause-grows
inline_use-returns-clause-grows t c =
    Grows_trans _ _ _ c.in_ok-body.ensures.grows (Grows_trans _ _ _ c.in_ok-args.ensures.grows c.in_ok-made.ensures.grows)

pub inline_argument-uses_variable-requires : goal.inline_argument-uses_variable-requires
inline_argument-uses_variable-requires t c =
    c.requires.body

pub inline_argument-returns-in_err-zero-clause-fault : goal.inline_argument-returns-in_err-zero-clause-fault
inline_argument-returns-in_err-zero-clause-fault t c =
    let s = c.args.store.now in
    let x = c.args.inlining.now in
    err_passed (IsArgumentFault (is_used c.args.number (tree_at s c.args.body)) (inlined_at s x c.args.e)) c.from_residual-in_err-zero.result fault.Memory c.from_residual-in_err-zero.ensures.1 tt

pub inline_argument-returns-clause-argument : goal.inline_argument-returns-clause-argument
inline_argument-returns-clause-argument t c =
    let s = c.args.store.now in
    let x = c.args.inlining.now in
    let s1 = c.add.new.self in
    let w : Grows s s1 = c.in_ok-zero.ensures.grows in
    let not_used : is_used c.args.number (tree_at s c.args.body) ≡ false = cc (c.uses_variable.ensures, c.if-uses_variable.false) in
    record {
      held = c.in_ok-zero.ensures.held;
      sort = ap sort_of c.in_ok-zero.ensures.tree;
      is = λ q. absurd (let b : false ≡ true = sym not_used ∙ q in cc);
      known = known_later (rule_of s x) s s1 c.args.known.now w c.requires.can.known;
    }

pub inline_argument-returns-in_err-made-clause-fault : goal.inline_argument-returns-in_err-made-clause-fault
inline_argument-returns-in_err-made-clause-fault t c =
    let s = c.args.store.now in
    let x = c.args.inlining.now in
    let e = c.in_err-made.field-0.0 in
    let used : is_used c.args.number (tree_at s c.args.body) ≡ true = cc (c.uses_variable.ensures, c.if-uses_variable.true) in
    err_passed (IsArgumentFault (is_used c.args.number (tree_at s c.args.body)) (inlined_at s x c.args.e)) c.from_residual.result e c.from_residual.ensures.1
    (argument_fault_used (is_used c.args.number (tree_at s c.args.body)) (inlined_at s x c.args.e) used e c.in_err-made.ensures.fault)

pub inline_argument-returns-then-uses_variable-clause-argument : goal.inline_argument-returns-then-uses_variable-clause-argument
inline_argument-returns-then-uses_variable-clause-argument t c =
    let s = c.args.store.now in
    let x = c.args.inlining.now in
    let k : IsInlined s x c.args.e c.inline_tree.new.store c.inline_tree.new.known c.in_ok-made.made = c.in_ok-made.ensures.inlined in
    record { held = k.held; sort = ap sort_of k.is ∙ image_sort x s c.args.known.now c.args.e c.requires.can c.requires.sort; is = λ q. k.is; known = k.known }

pub inline_arguments-inline_argument-requires : goal.inline_arguments-inline_argument-requires
inline_arguments-inline_argument-requires t c =
    let s = c.args.store.now in
    let x = c.args.inlining.now in
    let r = rule_of s x in
    let first = c.in-Cell.first in
    let rest = c.in-Cell.rest in
    let e : tree_at s c.args.args ≡ Two HCell (tree_at s first) (tree_at s rest) = c.in-Cell.ensures.tree in
    let p : (sort_of (tree_at s first) ≡ Term) × IsList Term (tree_at s rest) = cell_parts Term (tree_at s c.args.args) (tree_at s first) (tree_at s rest) e c.in-Cell.ensures.fits c.requires.list in
    let below : (first.0 < c.args.args.0) × (rest.0 < c.args.args.0) = c.in-Cell.ensures.below in
    let held_first : Holds s first = omega (arith, below.0, c.requires.can.held) in
    let held_rest : Holds s rest = omega (arith, below.1, c.requires.can.held) in
    let ready = c.requires.can.is_ready in
    let parts = typed_cell r (tree_at s c.args.args) (tree_at s first) (tree_at s rest) e c.requires.can.typed in
    let number : c.count_members-number.result ≡ length (members (tree_at s rest)) = c.count_members-number.ensures.number in
    let can : CanInline s x c.args.known.now first = go x s s (Grows_refl s) ready first held_first c.args.known.now parts.0 c.requires.can.known in
    let held : Holds s c.args.body = c.requires.body in
    let sort : sort_of (tree_at s first) ≡ Term = p.0 in
    (omega (arith, below.0), (can, (held, sort)))

pub inline_arguments-returns-in_err-x-in-Cell-clause-fault : goal.inline_arguments-returns-in_err-x-in-Cell-clause-fault
inline_arguments-returns-in_err-x-in-Cell-clause-fault t c =
    let s = c.args.store.now in
    let x = c.args.inlining.now in
    let r = rule_of s x in
    let first = c.in-Cell.first in
    let rest = c.in-Cell.rest in
    let e : tree_at s c.args.args ≡ Two HCell (tree_at s first) (tree_at s rest) = c.in-Cell.ensures.tree in
    let number : c.count_members-number.result ≡ length (members (tree_at s rest)) = c.count_members-number.ensures.number in
    let f = c.in_err-x-in-Cell.field-0.0 in
    err_passed (IsArgumentsFault r.rule (tree_at s c.args.body) (members (tree_at s c.args.args))) c.from_residual.result f c.from_residual.ensures.1
    (argument_fault_first r.rule (tree_at s c.args.body) (tree_at s c.args.args) (tree_at s first) (tree_at s rest) e c.count_members-number.result number f c.in_err-x-in-Cell.ensures.fault)

pub inline_arguments-inline_arguments-requires : goal.inline_arguments-inline_arguments-requires
inline_arguments-inline_arguments-requires t c =
    let s = c.args.store.now in
    let x = c.args.inlining.now in
    let r = rule_of s x in
    let first = c.in-Cell.first in
    let rest = c.in-Cell.rest in
    let e : tree_at s c.args.args ≡ Two HCell (tree_at s first) (tree_at s rest) = c.in-Cell.ensures.tree in
    let p : (sort_of (tree_at s first) ≡ Term) × IsList Term (tree_at s rest) = cell_parts Term (tree_at s c.args.args) (tree_at s first) (tree_at s rest) e c.in-Cell.ensures.fits c.requires.list in
    let below : (first.0 < c.args.args.0) × (rest.0 < c.args.args.0) = c.in-Cell.ensures.below in
    let held_first : Holds s first = omega (arith, below.0, c.requires.can.held) in
    let held_rest : Holds s rest = omega (arith, below.1, c.requires.can.held) in
    let ready = c.requires.can.is_ready in
    let parts = typed_cell r (tree_at s c.args.args) (tree_at s first) (tree_at s rest) e c.requires.can.typed in
    let number : c.count_members-number.result ≡ length (members (tree_at s rest)) = c.count_members-number.ensures.number in
    let s1 = c.inline_argument.new.store in
    let w1 : Grows s s1 = c.in_ok-x-in-Cell.ensures.grows in
    let a : IsArgument r (is_used c.count_members-number.result (tree_at s c.args.body)) (tree_at s first) s1 c.inline_argument.new.known c.in_ok-x-in-Cell.x = c.in_ok-x-in-Cell.ensures.argument in
    let body_same : tree_at s1 c.args.body ≡ tree_at s c.args.body = w1.same c.args.body.0 c.requires.body in
    let rest_same : tree_at s1 rest ≡ tree_at s rest = w1.same rest.0 held_rest in
    let can : CanInline s1 x c.inline_argument.new.known rest = go x s s1 w1 ready rest held_rest c.inline_argument.new.known parts.1 a.known in
    let held : Holds s1 c.args.body = held_later s s1 c.args.body w1 c.requires.body in
    let list : IsList Term (tree_at s1 rest) = subst (IsList Term) (sym rest_same) p.1 in
    (omega (arith, below.1), (can, (held, list)))

pub inline_arguments-returns-in_err-y-in-Cell-clause-fault : goal.inline_arguments-returns-in_err-y-in-Cell-clause-fault
inline_arguments-returns-in_err-y-in-Cell-clause-fault t c =
    let s = c.args.store.now in
    let x = c.args.inlining.now in
    let r = rule_of s x in
    let first = c.in-Cell.first in
    let rest = c.in-Cell.rest in
    let e : tree_at s c.args.args ≡ Two HCell (tree_at s first) (tree_at s rest) = c.in-Cell.ensures.tree in
    let p : (sort_of (tree_at s first) ≡ Term) × IsList Term (tree_at s rest) = cell_parts Term (tree_at s c.args.args) (tree_at s first) (tree_at s rest) e c.in-Cell.ensures.fits c.requires.list in
    let below : (first.0 < c.args.args.0) × (rest.0 < c.args.args.0) = c.in-Cell.ensures.below in
    let held_first : Holds s first = omega (arith, below.0, c.requires.can.held) in
    let held_rest : Holds s rest = omega (arith, below.1, c.requires.can.held) in
    let ready = c.requires.can.is_ready in
    let s1 = c.inline_argument.new.store in
    let w1 : Grows s s1 = c.in_ok-x-in-Cell.ensures.grows in
    let body_same : tree_at s1 c.args.body ≡ tree_at s c.args.body = w1.same c.args.body.0 c.requires.body in
    let rest_same : tree_at s1 rest ≡ tree_at s rest = w1.same rest.0 held_rest in
    let f = c.in_err-y-in-Cell.field-0.0 in
    let there : IsArgumentsFault (rule_of s1 x).rule (tree_at s1 c.args.body) (members (tree_at s1 rest)) f = c.in_err-y-in-Cell.ensures.fault in
    let here : IsArgumentsFault r.rule (tree_at s c.args.body) (members (tree_at s rest)) f =
    subst (λ (z : Tree). IsArgumentsFault r.rule (tree_at s c.args.body) (members z) f) rest_same (subst (λ (z : Tree). IsArgumentsFault r.rule z (members (tree_at s1 rest)) f) body_same (subst (λ (z : RuleOver). IsArgumentsFault z.rule (tree_at s1 c.args.body) (members (tree_at s1 rest)) f) (rule_same x s s1 w1 ready) there)) in
    err_passed (IsArgumentsFault r.rule (tree_at s c.args.body) (members (tree_at s c.args.args))) c.from_residual-in_err-y-in-Cell.result f c.from_residual-in_err-y-in-Cell.ensures.1
    (argument_fault_rest r.rule (tree_at s c.args.body) (tree_at s c.args.args) (tree_at s first) (tree_at s rest) e f here)

pub inline_arguments-returns-in_err-y-in-Cell-clause-grows : goal.inline_arguments-returns-in_err-y-in-Cell-clause-grows
inline_arguments-returns-in_err-y-in-Cell-clause-grows t c =
    Grows_trans _ _ _ c.in_ok-x-in-Cell.ensures.grows c.inline_arguments.ensures.grows

pub inline_arguments-add-requires-clause-held : goal.inline_arguments-add-requires-clause-held
inline_arguments-add-requires-clause-held t c =
    let s = c.args.store.now in
    let x = c.args.inlining.now in
    let r = rule_of s x in
    let first = c.in-Cell.first in
    let rest = c.in-Cell.rest in
    let e : tree_at s c.args.args ≡ Two HCell (tree_at s first) (tree_at s rest) = c.in-Cell.ensures.tree in
    let p : (sort_of (tree_at s first) ≡ Term) × IsList Term (tree_at s rest) = cell_parts Term (tree_at s c.args.args) (tree_at s first) (tree_at s rest) e c.in-Cell.ensures.fits c.requires.list in
    let below : (first.0 < c.args.args.0) × (rest.0 < c.args.args.0) = c.in-Cell.ensures.below in
    let held_first : Holds s first = omega (arith, below.0, c.requires.can.held) in
    let held_rest : Holds s rest = omega (arith, below.1, c.requires.can.held) in
    let ready = c.requires.can.is_ready in
    let parts = typed_cell r (tree_at s c.args.args) (tree_at s first) (tree_at s rest) e c.requires.can.typed in
    let number : c.count_members-number.result ≡ length (members (tree_at s rest)) = c.count_members-number.ensures.number in
    let s1 = c.inline_argument.new.store in
    let w1 : Grows s s1 = c.in_ok-x-in-Cell.ensures.grows in
    let a : IsArgument r (is_used c.count_members-number.result (tree_at s c.args.body)) (tree_at s first) s1 c.inline_argument.new.known c.in_ok-x-in-Cell.x = c.in_ok-x-in-Cell.ensures.argument in
    let body_same : tree_at s1 c.args.body ≡ tree_at s c.args.body = w1.same c.args.body.0 c.requires.body in
    let rest_same : tree_at s1 rest ≡ tree_at s rest = w1.same rest.0 held_rest in
    let s2 = c.inline_arguments.new.store in
    let w2 : Grows s1 s2 = c.in_ok-y-in-Cell.ensures.grows in
    let b : AreArguments (rule_of s1 x) (tree_at s1 c.args.body) (members (tree_at s1 rest)) s2 c.inline_arguments.new.known c.in_ok-y-in-Cell.y = c.in_ok-y-in-Cell.ensures.arguments in
    let x_same : tree_at s2 c.in_ok-x-in-Cell.x ≡ tree_at s1 c.in_ok-x-in-Cell.x = w2.same c.in_ok-x-in-Cell.x.0 a.held in
    (omega (arith, a.held, w2.longer), b.held)

pub inline_arguments-add-requires-clause-fits : goal.inline_arguments-add-requires-clause-fits
inline_arguments-add-requires-clause-fits t c =
    let s = c.args.store.now in
    let x = c.args.inlining.now in
    let r = rule_of s x in
    let first = c.in-Cell.first in
    let rest = c.in-Cell.rest in
    let s1 = c.inline_argument.new.store in
    let a : IsArgument r (is_used c.count_members-number.result (tree_at s c.args.body)) (tree_at s first) s1 c.inline_argument.new.known c.in_ok-x-in-Cell.x = c.in_ok-x-in-Cell.ensures.argument in
    let s2 = c.inline_arguments.new.store in
    let w2 : Grows s1 s2 = c.in_ok-y-in-Cell.ensures.grows in
    let b : AreArguments (rule_of s1 x) (tree_at s1 c.args.body) (members (tree_at s1 rest)) s2 c.inline_arguments.new.known c.in_ok-y-in-Cell.y = c.in_ok-y-in-Cell.ensures.arguments in
    let x_same : tree_at s2 c.in_ok-x-in-Cell.x ≡ tree_at s1 c.in_ok-x-in-Cell.x = w2.same c.in_ok-x-in-Cell.x.0 a.held in
    cell_fits (tree_at s2 c.in_ok-x-in-Cell.x) (tree_at s2 c.in_ok-y-in-Cell.y) (ap sort_of x_same ∙ a.sort) b.list

pub inline_arguments-returns-in_err-made-in-Cell-clause-fault : goal.inline_arguments-returns-in_err-made-in-Cell-clause-fault
inline_arguments-returns-in_err-made-in-Cell-clause-fault t c =
    let s = c.args.store.now in
    let x = c.args.inlining.now in
    err_passed (IsArgumentsFault (rule_of s x).rule (tree_at s c.args.body) (members (tree_at s c.args.args))) c.from_residual-in_err-made-in-Cell.result fault.Memory c.from_residual-in_err-made-in-Cell.ensures.1 tt

pub inline_arguments-returns-in_err-made-in-Cell-clause-grows : goal.inline_arguments-returns-in_err-made-in-Cell-clause-grows
inline_arguments-returns-in_err-made-in-Cell-clause-grows t c =
    Grows_trans _ _ _ c.in_ok-x-in-Cell.ensures.grows (Grows_trans _ _ _ c.in_ok-y-in-Cell.ensures.grows c.add.ensures.grows)

pub inline_arguments-returns-in_ok-made-in-Cell-clause-arguments : goal.inline_arguments-returns-in_ok-made-in-Cell-clause-arguments
inline_arguments-returns-in_ok-made-in-Cell-clause-arguments t c =
    let s = c.args.store.now in
    let x = c.args.inlining.now in
    let r = rule_of s x in
    let first = c.in-Cell.first in
    let rest = c.in-Cell.rest in
    let e : tree_at s c.args.args ≡ Two HCell (tree_at s first) (tree_at s rest) = c.in-Cell.ensures.tree in
    let p : (sort_of (tree_at s first) ≡ Term) × IsList Term (tree_at s rest) = cell_parts Term (tree_at s c.args.args) (tree_at s first) (tree_at s rest) e c.in-Cell.ensures.fits c.requires.list in
    let below : (first.0 < c.args.args.0) × (rest.0 < c.args.args.0) = c.in-Cell.ensures.below in
    let held_first : Holds s first = omega (arith, below.0, c.requires.can.held) in
    let held_rest : Holds s rest = omega (arith, below.1, c.requires.can.held) in
    let ready = c.requires.can.is_ready in
    let number : c.count_members-number.result ≡ length (members (tree_at s rest)) = c.count_members-number.ensures.number in
    let s1 = c.inline_argument.new.store in
    let w1 : Grows s s1 = c.in_ok-x-in-Cell.ensures.grows in
    let a : IsArgument r (is_used c.count_members-number.result (tree_at s c.args.body)) (tree_at s first) s1 c.inline_argument.new.known c.in_ok-x-in-Cell.x = c.in_ok-x-in-Cell.ensures.argument in
    let body_same : tree_at s1 c.args.body ≡ tree_at s c.args.body = w1.same c.args.body.0 c.requires.body in
    let rest_same : tree_at s1 rest ≡ tree_at s rest = w1.same rest.0 held_rest in
    let s2 = c.inline_arguments.new.store in
    let w2 : Grows s1 s2 = c.in_ok-y-in-Cell.ensures.grows in
    let b : AreArguments (rule_of s1 x) (tree_at s1 c.args.body) (members (tree_at s1 rest)) s2 c.inline_arguments.new.known c.in_ok-y-in-Cell.y = c.in_ok-y-in-Cell.ensures.arguments in
    let x_same : tree_at s2 c.in_ok-x-in-Cell.x ≡ tree_at s1 c.in_ok-x-in-Cell.x = w2.same c.in_ok-x-in-Cell.x.0 a.held in
    let s3 = c.add.new.self in
    let w3 : Grows s2 s3 = c.in_ok-made-in-Cell.ensures.grows in
    let are : ArePutFor r.rule (tree_at s c.args.body) (members (tree_at s rest)) (members (tree_at s2 c.in_ok-y-in-Cell.y)) =
    subst (λ (z : Tree). ArePutFor r.rule (tree_at s c.args.body) (members z) (members (tree_at s2 c.in_ok-y-in-Cell.y))) rest_same (subst (λ (z : Tree). ArePutFor r.rule z (members (tree_at s1 rest)) (members (tree_at s2 c.in_ok-y-in-Cell.y))) body_same
    (subst (λ (z : RuleOver). ArePutFor z.rule (tree_at s1 c.args.body) (members (tree_at s1 rest)) (members (tree_at s2 c.in_ok-y-in-Cell.y))) (rule_same x s s1 w1 ready) b.are)) in
    let known : AreImages r s3 c.inline_arguments.new.known = known_later r s2 s3 c.inline_arguments.new.known w3 (subst (λ (z : RuleOver). AreImages z s2 c.inline_arguments.new.known) (rule_same x s s1 w1 ready) b.known) in
    cell_arguments r (tree_at s c.args.body) (tree_at s c.args.args) (tree_at s first) (tree_at s rest) e s3 c.inline_arguments.new.known c.in_ok-made-in-Cell.made (tree_at s2 c.in_ok-x-in-Cell.x) (tree_at s2 c.in_ok-y-in-Cell.y)
    c.in_ok-made-in-Cell.ensures.held c.in_ok-made-in-Cell.ensures.tree (ap sort_of x_same ∙ a.sort) b.list c.count_members-number.result number (λ q. x_same ∙ a.is q) are known

pub inline_arguments-returns-in_ok-made-in-Cell-clause-grows : goal.inline_arguments-returns-in_ok-made-in-Cell-clause-grows
inline_arguments-returns-in_ok-made-in-Cell-clause-grows t c =
    Grows_trans _ _ _ c.in_ok-x-in-Cell.ensures.grows (Grows_trans _ _ _ c.in_ok-y-in-Cell.ensures.grows c.in_ok-made-in-Cell.ensures.grows)

pub inline_arguments-returns-in_default : goal.inline_arguments-returns-in_default
inline_arguments-returns-in_default t c =
    let s = c.args.store.now in
    let x = c.args.inlining.now in
    record {
      arguments = end_arguments (rule_of s x) (tree_at s c.args.body) s c.args.known.now c.args.args c.node.result c.requires.can.held c.requires.list c.node.ensures.tree c.in_default.not-Cell c.requires.can.known;
      fault = tt;
      grows = Grows_refl s;
    }

pub inline_parts-returns-in-Bound-clause-inlined : goal.inline_parts-returns-in-Bound-clause-inlined
inline_parts-returns-in-Bound-clause-inlined t c =
    let s = c.args.store.now in
    let x = c.args.inlining.now in
    let q : tree_at s c.args.e ≡ One (HBound c.in-Bound.field-0) (tree_at s c.in-Bound.field-1) = c.node-node.ensures.tree ∙ ap (node_tree s) c.in-Bound.is in
    record {
      held = c.requires.can.held;
      is = variable_left (rule_of s x) (tree_at s c.args.e) c.in-Bound.field-0 (tree_at s c.in-Bound.field-1) (rule_keeps s x.task.now x.bodies.now c.requires.can.is_ready) c.requires.can.typed c.requires.over q;
      known = c.requires.can.known;
    }

pub inline_parts-inline_tree-requires : goal.inline_parts-inline_tree-requires
inline_parts-inline_tree-requires t c =
    let s = c.args.store.now in
    let x = c.args.inlining.now in
    let r = rule_of s x in
    let h = head_of_node c.node-node.result in
    let e : tree_at s c.args.e ≡ One h (tree_at s c.in-One.a) = c.node-node.ensures.tree ∙ ap (assemble s h) (sym c.in-One.ensures) in
    let below : (c.in-One.a.0 < c.args.e.0) = subst (AreBelow c.args.e.0) (sym c.in-One.ensures) c.node-node.ensures.below in
    let held_a : Holds s c.in-One.a = omega (arith, below, c.requires.can.held) in
    let xs = one_part r (tree_at s c.args.e) c.requires.can.typed h (tree_at s c.in-One.a) e in
    let ready = c.requires.can.is_ready in
    let keeps = rule_keeps s x.task.now x.bodies.now ready in
    let v0 : Grows s s = Grows_refl s in
    let k : CanInline s x c.args.known.now c.in-One.a = go x s s v0 ready c.in-One.a held_a c.args.known.now xs c.requires.can.known in
    (omega (arith, below), k)

pub inline_parts-returns-in_err-x-in-One : goal.inline_parts-returns-in_err-x-in-One
inline_parts-returns-in_err-x-in-One t c =
    let s = c.args.store.now in
    let x = c.args.inlining.now in
    let r = rule_of s x in
    let h = head_of_node c.node-node.result in
    let e : tree_at s c.args.e ≡ One h (tree_at s c.in-One.a) = c.node-node.ensures.tree ∙ ap (assemble s h) (sym c.in-One.ensures) in
    let z = c.in_err-x-in-One.field-0.0 in
    let here : IsFaultOf (inlined_at s x c.in-One.a) z = c.in_err-x-in-One.ensures.fault in
    record {
      inlined = no_value _ _ c.from_residual.result c.from_residual.ensures.1;
      fault = err_passed (IsFaultOf (inlined_at s x c.args.e)) c.from_residual.result z c.from_residual.ensures.1
          (fault_within (inlined_at s x c.in-One.a) (inlined_at s x c.args.e) (one_large r.rule (tree_at s c.args.e) c.requires.over h (tree_at s c.in-One.a) (not_bound c.node-node.result c.in_default.not-Bound) e) z here);
      grows = c.inline_tree.ensures.grows;
    }

pub inline_parts-remake-requires : goal.inline_parts-remake-requires
inline_parts-remake-requires t c =
    let s = c.args.store.now in
    let x = c.args.inlining.now in
    let r = rule_of s x in
    let h = head_of_node c.node-node.result in
    let e : tree_at s c.args.e ≡ One h (tree_at s c.in-One.a) = c.node-node.ensures.tree ∙ ap (assemble s h) (sym c.in-One.ensures) in
    let ready = c.requires.can.is_ready in
    let keeps = rule_keeps s x.task.now x.bodies.now ready in
    let s1 = c.inline_tree.new.store in
    let r1 : IsInlined s x c.in-One.a s1 c.inline_tree.new.known c.in_ok-x-in-One.x = c.in_ok-x-in-One.ensures.inlined in
    let i1 : tree_at s1 c.in_ok-x-in-One.x ≡ image r.rule (tree_at s c.in-One.a) = r1.is in
    let fits = one_fit r keeps (tree_at s c.args.e) c.requires.can.typed h (tree_at s c.in-One.a) _ e i1 c.node-node.ensures.fits in
    let p1 : Holds s1 c.in_ok-x-in-One.x = r1.held in
    record { like = subst (λ (z : Parts). IsLike z (node_parts.One c.in_ok-x-in-One.x)) c.in-One.ensures tt; held = p1; fits = fits }

pub inline_parts-returns-in_err-made-in-One : goal.inline_parts-returns-in_err-made-in-One
inline_parts-returns-in_err-made-in-One t c =
    let s = c.args.store.now in
    let x = c.args.inlining.now in
    let s1 = c.inline_tree.new.store in
    let w1 : Grows s s1 = c.in_ok-x-in-One.ensures.grows in
    let v1 : Grows s s1 = w1 in
    record {
      inlined = no_value _ _ c.from_residual-in_err-made-in-One.result c.from_residual-in_err-made-in-One.ensures.1;
      fault = err_passed (IsFaultOf (inlined_at s x c.args.e)) c.from_residual-in_err-made-in-One.result fault.Memory c.from_residual-in_err-made-in-One.ensures.1 tt;
      grows = Grows_trans s s1 _ v1 c.remake.ensures.grows;
    }

pub inline_parts-returns-in_ok-made-in-One : goal.inline_parts-returns-in_ok-made-in-One
inline_parts-returns-in_ok-made-in-One t c =
    let s = c.args.store.now in
    let x = c.args.inlining.now in
    let r = rule_of s x in
    let h = head_of_node c.node-node.result in
    let e : tree_at s c.args.e ≡ One h (tree_at s c.in-One.a) = c.node-node.ensures.tree ∙ ap (assemble s h) (sym c.in-One.ensures) in
    let s1 = c.inline_tree.new.store in
    let w1 : Grows s s1 = c.in_ok-x-in-One.ensures.grows in
    let v1 : Grows s s1 = w1 in
    let r1 : IsInlined s x c.in-One.a s1 c.inline_tree.new.known c.in_ok-x-in-One.x = c.in_ok-x-in-One.ensures.inlined in
    let i1 : tree_at s1 c.in_ok-x-in-One.x ≡ image r.rule (tree_at s c.in-One.a) = r1.is in
    let u = c.remake.new.store in
    let wu : Grows s1 u = c.in_ok-made-in-One.ensures.grows in
    record {
      inlined = record { held = c.in_ok-made-in-One.ensures.held; is = c.in_ok-made-in-One.ensures.tree ∙ one_over r (tree_at s c.args.e) h (tree_at s c.in-One.a) _ e i1 ∙ sym c.requires.over; known = known_later r s1 u c.inline_tree.new.known wu r1.known };
      fault = tt;
      grows = Grows_trans s s1 u v1 wu;
    }

pub inline_parts-inline_tree-requires-in-Two : goal.inline_parts-inline_tree-requires-in-Two
inline_parts-inline_tree-requires-in-Two t c =
    let s = c.args.store.now in
    let x = c.args.inlining.now in
    let r = rule_of s x in
    let h = head_of_node c.node-node.result in
    let e : tree_at s c.args.e ≡ Two h (tree_at s c.in-Two.a) (tree_at s c.in-Two.b) = c.node-node.ensures.tree ∙ ap (assemble s h) (sym c.in-Two.ensures) in
    let below : (c.in-Two.a.0 < c.args.e.0) × (c.in-Two.b.0 < c.args.e.0) = subst (AreBelow c.args.e.0) (sym c.in-Two.ensures) c.node-node.ensures.below in
    let held_a : Holds s c.in-Two.a = omega (arith, below.0, c.requires.can.held) in
    let held_b : Holds s c.in-Two.b = omega (arith, below.1, c.requires.can.held) in
    let xs = two_parts r (tree_at s c.args.e) c.requires.can.typed h (tree_at s c.in-Two.a) (tree_at s c.in-Two.b) e in
    let ready = c.requires.can.is_ready in
    let keeps = rule_keeps s x.task.now x.bodies.now ready in
    let v0 : Grows s s = Grows_refl s in
    let k : CanInline s x c.args.known.now c.in-Two.a = go x s s v0 ready c.in-Two.a held_a c.args.known.now xs.0 c.requires.can.known in
    (omega (arith, below.0), k)

pub inline_parts-returns-in_err-x-in-Two : goal.inline_parts-returns-in_err-x-in-Two
inline_parts-returns-in_err-x-in-Two t c =
    let s = c.args.store.now in
    let x = c.args.inlining.now in
    let r = rule_of s x in
    let h = head_of_node c.node-node.result in
    let e : tree_at s c.args.e ≡ Two h (tree_at s c.in-Two.a) (tree_at s c.in-Two.b) = c.node-node.ensures.tree ∙ ap (assemble s h) (sym c.in-Two.ensures) in
    let z = c.in_err-x-in-Two.field-0.0 in
    let here : IsFaultOf (inlined_at s x c.in-Two.a) z = c.in_err-x-in-Two.ensures.fault in
    record {
      inlined = no_value _ _ c.from_residual-in_err-x-in-Two.result c.from_residual-in_err-x-in-Two.ensures.1;
      fault = err_passed (IsFaultOf (inlined_at s x c.args.e)) c.from_residual-in_err-x-in-Two.result z c.from_residual-in_err-x-in-Two.ensures.1
          (fault_within (inlined_at s x c.in-Two.a) (inlined_at s x c.args.e) (two_large_first r.rule (tree_at s c.args.e) c.requires.over h (tree_at s c.in-Two.a) (tree_at s c.in-Two.b) e) z here);
      grows = c.inline_tree-in-Two.ensures.grows;
    }

pub inline_parts-inline_tree-requires-in-Two-2 : goal.inline_parts-inline_tree-requires-in-Two-2
inline_parts-inline_tree-requires-in-Two-2 t c =
    let s = c.args.store.now in
    let x = c.args.inlining.now in
    let r = rule_of s x in
    let h = head_of_node c.node-node.result in
    let e : tree_at s c.args.e ≡ Two h (tree_at s c.in-Two.a) (tree_at s c.in-Two.b) = c.node-node.ensures.tree ∙ ap (assemble s h) (sym c.in-Two.ensures) in
    let below : (c.in-Two.a.0 < c.args.e.0) × (c.in-Two.b.0 < c.args.e.0) = subst (AreBelow c.args.e.0) (sym c.in-Two.ensures) c.node-node.ensures.below in
    let held_a : Holds s c.in-Two.a = omega (arith, below.0, c.requires.can.held) in
    let held_b : Holds s c.in-Two.b = omega (arith, below.1, c.requires.can.held) in
    let xs = two_parts r (tree_at s c.args.e) c.requires.can.typed h (tree_at s c.in-Two.a) (tree_at s c.in-Two.b) e in
    let ready = c.requires.can.is_ready in
    let keeps = rule_keeps s x.task.now x.bodies.now ready in
    let v0 : Grows s s = Grows_refl s in
    let s1 = c.inline_tree-in-Two.new.store in
    let w1 : Grows s s1 = c.in_ok-x-in-Two.ensures.grows in
    let v1 : Grows s s1 = w1 in
    let r1 : IsInlined s x c.in-Two.a s1 c.inline_tree-in-Two.new.known c.in_ok-x-in-Two.x = c.in_ok-x-in-Two.ensures.inlined in
    let k : CanInline s1 x c.inline_tree-in-Two.new.known c.in-Two.b = go x s s1 v1 ready c.in-Two.b held_b c.inline_tree-in-Two.new.known xs.1 r1.known in
    (omega (arith, below.1), k)

pub inline_parts-returns-in_err-y-in-Two : goal.inline_parts-returns-in_err-y-in-Two
inline_parts-returns-in_err-y-in-Two t c =
    let s = c.args.store.now in
    let x = c.args.inlining.now in
    let r = rule_of s x in
    let h = head_of_node c.node-node.result in
    let e : tree_at s c.args.e ≡ Two h (tree_at s c.in-Two.a) (tree_at s c.in-Two.b) = c.node-node.ensures.tree ∙ ap (assemble s h) (sym c.in-Two.ensures) in
    let below : (c.in-Two.a.0 < c.args.e.0) × (c.in-Two.b.0 < c.args.e.0) = subst (AreBelow c.args.e.0) (sym c.in-Two.ensures) c.node-node.ensures.below in
    let held_a : Holds s c.in-Two.a = omega (arith, below.0, c.requires.can.held) in
    let held_b : Holds s c.in-Two.b = omega (arith, below.1, c.requires.can.held) in
    let ready = c.requires.can.is_ready in
    let s1 = c.inline_tree-in-Two.new.store in
    let w1 : Grows s s1 = c.in_ok-x-in-Two.ensures.grows in
    let v1 : Grows s s1 = w1 in
    let z = c.in_err-y-in-Two.field-0.0 in
    let here : IsFaultOf (inlined_at s x c.in-Two.b) z = fault_as (inlined_at s1 x c.in-Two.b) (inlined_at s x c.in-Two.b) (inlined_same x s s1 v1 ready c.in-Two.b held_b) z c.in_err-y-in-Two.ensures.fault in
    record {
      inlined = no_value _ _ c.from_residual-in_err-y-in-Two.result c.from_residual-in_err-y-in-Two.ensures.1;
      fault = err_passed (IsFaultOf (inlined_at s x c.args.e)) c.from_residual-in_err-y-in-Two.result z c.from_residual-in_err-y-in-Two.ensures.1
          (fault_within (inlined_at s x c.in-Two.b) (inlined_at s x c.args.e) (two_large_second r.rule (tree_at s c.args.e) c.requires.over h (tree_at s c.in-Two.a) (tree_at s c.in-Two.b) e) z here);
      grows = Grows_trans s s1 _ v1 c.inline_tree-in-Two-2.ensures.grows;
    }

pub inline_parts-remake-requires-in-Two : goal.inline_parts-remake-requires-in-Two
inline_parts-remake-requires-in-Two t c =
    let s = c.args.store.now in
    let x = c.args.inlining.now in
    let r = rule_of s x in
    let h = head_of_node c.node-node.result in
    let e : tree_at s c.args.e ≡ Two h (tree_at s c.in-Two.a) (tree_at s c.in-Two.b) = c.node-node.ensures.tree ∙ ap (assemble s h) (sym c.in-Two.ensures) in
    let below : (c.in-Two.a.0 < c.args.e.0) × (c.in-Two.b.0 < c.args.e.0) = subst (AreBelow c.args.e.0) (sym c.in-Two.ensures) c.node-node.ensures.below in
    let held_a : Holds s c.in-Two.a = omega (arith, below.0, c.requires.can.held) in
    let held_b : Holds s c.in-Two.b = omega (arith, below.1, c.requires.can.held) in
    let ready = c.requires.can.is_ready in
    let keeps = rule_keeps s x.task.now x.bodies.now ready in
    let s1 = c.inline_tree-in-Two.new.store in
    let w1 : Grows s s1 = c.in_ok-x-in-Two.ensures.grows in
    let v1 : Grows s s1 = w1 in
    let r1 : IsInlined s x c.in-Two.a s1 c.inline_tree-in-Two.new.known c.in_ok-x-in-Two.x = c.in_ok-x-in-Two.ensures.inlined in
    let s2 = c.inline_tree-in-Two-2.new.store in
    let w2 : Grows s1 s2 = c.in_ok-y-in-Two.ensures.grows in
    let r2 : IsInlined s x c.in-Two.b s2 c.inline_tree-in-Two-2.new.known c.in_ok-y-in-Two.y = back x s s1 v1 ready c.in-Two.b held_b s2 c.inline_tree-in-Two-2.new.known c.in_ok-y-in-Two.y c.in_ok-y-in-Two.ensures.inlined in
    let i1 : tree_at s2 c.in_ok-x-in-Two.x ≡ image r.rule (tree_at s c.in-Two.a) = w2.same c.in_ok-x-in-Two.x.0 r1.held ∙ r1.is in
    let i2 : tree_at s2 c.in_ok-y-in-Two.y ≡ image r.rule (tree_at s c.in-Two.b) = r2.is in
    let fits = two_fit r keeps (tree_at s c.args.e) c.requires.can.typed h (tree_at s c.in-Two.a) (tree_at s c.in-Two.b) _ _ e i1 i2 c.node-node.ensures.fits in
    let p1 : Holds s2 c.in_ok-x-in-Two.x = held_later s1 s2 c.in_ok-x-in-Two.x w2 r1.held in
    let p2 : Holds s2 c.in_ok-y-in-Two.y = r2.held in
    record { like = subst (λ (z : Parts). IsLike z (node_parts.Two c.in_ok-x-in-Two.x c.in_ok-y-in-Two.y)) c.in-Two.ensures tt; held = (p1, p2); fits = fits }

pub inline_parts-returns-in_err-made-in-Two : goal.inline_parts-returns-in_err-made-in-Two
inline_parts-returns-in_err-made-in-Two t c =
    let s = c.args.store.now in
    let x = c.args.inlining.now in
    let s1 = c.inline_tree-in-Two.new.store in
    let w1 : Grows s s1 = c.in_ok-x-in-Two.ensures.grows in
    let v1 : Grows s s1 = w1 in
    let s2 = c.inline_tree-in-Two-2.new.store in
    let w2 : Grows s1 s2 = c.in_ok-y-in-Two.ensures.grows in
    let v2 : Grows s s2 = Grows_trans s s1 s2 v1 w2 in
    record {
      inlined = no_value _ _ c.from_residual-in_err-made-in-Two.result c.from_residual-in_err-made-in-Two.ensures.1;
      fault = err_passed (IsFaultOf (inlined_at s x c.args.e)) c.from_residual-in_err-made-in-Two.result fault.Memory c.from_residual-in_err-made-in-Two.ensures.1 tt;
      grows = Grows_trans s s2 _ v2 c.remake-in-Two.ensures.grows;
    }

pub inline_parts-returns-in_ok-made-in-Two : goal.inline_parts-returns-in_ok-made-in-Two
inline_parts-returns-in_ok-made-in-Two t c =
    let s = c.args.store.now in
    let x = c.args.inlining.now in
    let r = rule_of s x in
    let h = head_of_node c.node-node.result in
    let e : tree_at s c.args.e ≡ Two h (tree_at s c.in-Two.a) (tree_at s c.in-Two.b) = c.node-node.ensures.tree ∙ ap (assemble s h) (sym c.in-Two.ensures) in
    let below : (c.in-Two.a.0 < c.args.e.0) × (c.in-Two.b.0 < c.args.e.0) = subst (AreBelow c.args.e.0) (sym c.in-Two.ensures) c.node-node.ensures.below in
    let held_a : Holds s c.in-Two.a = omega (arith, below.0, c.requires.can.held) in
    let held_b : Holds s c.in-Two.b = omega (arith, below.1, c.requires.can.held) in
    let ready = c.requires.can.is_ready in
    let s1 = c.inline_tree-in-Two.new.store in
    let w1 : Grows s s1 = c.in_ok-x-in-Two.ensures.grows in
    let v1 : Grows s s1 = w1 in
    let r1 : IsInlined s x c.in-Two.a s1 c.inline_tree-in-Two.new.known c.in_ok-x-in-Two.x = c.in_ok-x-in-Two.ensures.inlined in
    let s2 = c.inline_tree-in-Two-2.new.store in
    let w2 : Grows s1 s2 = c.in_ok-y-in-Two.ensures.grows in
    let v2 : Grows s s2 = Grows_trans s s1 s2 v1 w2 in
    let r2 : IsInlined s x c.in-Two.b s2 c.inline_tree-in-Two-2.new.known c.in_ok-y-in-Two.y = back x s s1 v1 ready c.in-Two.b held_b s2 c.inline_tree-in-Two-2.new.known c.in_ok-y-in-Two.y c.in_ok-y-in-Two.ensures.inlined in
    let i1 : tree_at s2 c.in_ok-x-in-Two.x ≡ image r.rule (tree_at s c.in-Two.a) = w2.same c.in_ok-x-in-Two.x.0 r1.held ∙ r1.is in
    let i2 : tree_at s2 c.in_ok-y-in-Two.y ≡ image r.rule (tree_at s c.in-Two.b) = r2.is in
    let u = c.remake-in-Two.new.store in
    let wu : Grows s2 u = c.in_ok-made-in-Two.ensures.grows in
    record {
      inlined = record { held = c.in_ok-made-in-Two.ensures.held; is = c.in_ok-made-in-Two.ensures.tree ∙ two_over r (tree_at s c.args.e) h (tree_at s c.in-Two.a) (tree_at s c.in-Two.b) _ _ e i1 i2 ∙ sym c.requires.over; known = known_later r s2 u c.inline_tree-in-Two-2.new.known wu r2.known };
      fault = tt;
      grows = Grows_trans s s2 u v2 wu;
    }

pub inline_parts-inline_tree-requires-in-Three : goal.inline_parts-inline_tree-requires-in-Three
inline_parts-inline_tree-requires-in-Three t c =
    let s = c.args.store.now in
    let x = c.args.inlining.now in
    let r = rule_of s x in
    let h = head_of_node c.node-node.result in
    let e : tree_at s c.args.e ≡ Three h (tree_at s c.in-Three.a) (tree_at s c.in-Three.b) (tree_at s c.in-Three.c) = c.node-node.ensures.tree ∙ ap (assemble s h) (sym c.in-Three.ensures) in
    let below : (c.in-Three.a.0 < c.args.e.0) × (c.in-Three.b.0 < c.args.e.0) × (c.in-Three.c.0 < c.args.e.0) = subst (AreBelow c.args.e.0) (sym c.in-Three.ensures) c.node-node.ensures.below in
    let held_a : Holds s c.in-Three.a = omega (arith, below.0, c.requires.can.held) in
    let held_b : Holds s c.in-Three.b = omega (arith, below.1, c.requires.can.held) in
    let held_c : Holds s c.in-Three.c = omega (arith, below.2, c.requires.can.held) in
    let xs = three_parts r (tree_at s c.args.e) c.requires.can.typed h (tree_at s c.in-Three.a) (tree_at s c.in-Three.b) (tree_at s c.in-Three.c) e in
    let ready = c.requires.can.is_ready in
    let keeps = rule_keeps s x.task.now x.bodies.now ready in
    let v0 : Grows s s = Grows_refl s in
    let k : CanInline s x c.args.known.now c.in-Three.a = go x s s v0 ready c.in-Three.a held_a c.args.known.now xs.0 c.requires.can.known in
    (omega (arith, below.0), k)

pub inline_parts-returns-in_err-x-in-Three : goal.inline_parts-returns-in_err-x-in-Three
inline_parts-returns-in_err-x-in-Three t c =
    let s = c.args.store.now in
    let x = c.args.inlining.now in
    let r = rule_of s x in
    let h = head_of_node c.node-node.result in
    let e : tree_at s c.args.e ≡ Three h (tree_at s c.in-Three.a) (tree_at s c.in-Three.b) (tree_at s c.in-Three.c) = c.node-node.ensures.tree ∙ ap (assemble s h) (sym c.in-Three.ensures) in
    let z = c.in_err-x-in-Three.field-0.0 in
    let here : IsFaultOf (inlined_at s x c.in-Three.a) z = c.in_err-x-in-Three.ensures.fault in
    record {
      inlined = no_value _ _ c.from_residual-in_err-x-in-Three.result c.from_residual-in_err-x-in-Three.ensures.1;
      fault = err_passed (IsFaultOf (inlined_at s x c.args.e)) c.from_residual-in_err-x-in-Three.result z c.from_residual-in_err-x-in-Three.ensures.1
          (fault_within (inlined_at s x c.in-Three.a) (inlined_at s x c.args.e) (three_large_first r.rule (tree_at s c.args.e) c.requires.over h (tree_at s c.in-Three.a) (tree_at s c.in-Three.b) (tree_at s c.in-Three.c) e) z here);
      grows = c.inline_tree-in-Three.ensures.grows;
    }

pub inline_parts-inline_tree-requires-in-Three-2 : goal.inline_parts-inline_tree-requires-in-Three-2
inline_parts-inline_tree-requires-in-Three-2 t c =
    let s = c.args.store.now in
    let x = c.args.inlining.now in
    let r = rule_of s x in
    let h = head_of_node c.node-node.result in
    let e : tree_at s c.args.e ≡ Three h (tree_at s c.in-Three.a) (tree_at s c.in-Three.b) (tree_at s c.in-Three.c) = c.node-node.ensures.tree ∙ ap (assemble s h) (sym c.in-Three.ensures) in
    let below : (c.in-Three.a.0 < c.args.e.0) × (c.in-Three.b.0 < c.args.e.0) × (c.in-Three.c.0 < c.args.e.0) = subst (AreBelow c.args.e.0) (sym c.in-Three.ensures) c.node-node.ensures.below in
    let held_a : Holds s c.in-Three.a = omega (arith, below.0, c.requires.can.held) in
    let held_b : Holds s c.in-Three.b = omega (arith, below.1, c.requires.can.held) in
    let held_c : Holds s c.in-Three.c = omega (arith, below.2, c.requires.can.held) in
    let xs = three_parts r (tree_at s c.args.e) c.requires.can.typed h (tree_at s c.in-Three.a) (tree_at s c.in-Three.b) (tree_at s c.in-Three.c) e in
    let ready = c.requires.can.is_ready in
    let keeps = rule_keeps s x.task.now x.bodies.now ready in
    let v0 : Grows s s = Grows_refl s in
    let s1 = c.inline_tree-in-Three.new.store in
    let w1 : Grows s s1 = c.in_ok-x-in-Three.ensures.grows in
    let v1 : Grows s s1 = w1 in
    let r1 : IsInlined s x c.in-Three.a s1 c.inline_tree-in-Three.new.known c.in_ok-x-in-Three.x = c.in_ok-x-in-Three.ensures.inlined in
    let k : CanInline s1 x c.inline_tree-in-Three.new.known c.in-Three.b = go x s s1 v1 ready c.in-Three.b held_b c.inline_tree-in-Three.new.known xs.1.0 r1.known in
    (omega (arith, below.1), k)

pub inline_parts-returns-in_err-y-in-Three : goal.inline_parts-returns-in_err-y-in-Three
inline_parts-returns-in_err-y-in-Three t c =
    let s = c.args.store.now in
    let x = c.args.inlining.now in
    let r = rule_of s x in
    let h = head_of_node c.node-node.result in
    let e : tree_at s c.args.e ≡ Three h (tree_at s c.in-Three.a) (tree_at s c.in-Three.b) (tree_at s c.in-Three.c) = c.node-node.ensures.tree ∙ ap (assemble s h) (sym c.in-Three.ensures) in
    let below : (c.in-Three.a.0 < c.args.e.0) × (c.in-Three.b.0 < c.args.e.0) × (c.in-Three.c.0 < c.args.e.0) = subst (AreBelow c.args.e.0) (sym c.in-Three.ensures) c.node-node.ensures.below in
    let held_a : Holds s c.in-Three.a = omega (arith, below.0, c.requires.can.held) in
    let held_b : Holds s c.in-Three.b = omega (arith, below.1, c.requires.can.held) in
    let ready = c.requires.can.is_ready in
    let s1 = c.inline_tree-in-Three.new.store in
    let w1 : Grows s s1 = c.in_ok-x-in-Three.ensures.grows in
    let v1 : Grows s s1 = w1 in
    let z = c.in_err-y-in-Three.field-0.0 in
    let here : IsFaultOf (inlined_at s x c.in-Three.b) z = fault_as (inlined_at s1 x c.in-Three.b) (inlined_at s x c.in-Three.b) (inlined_same x s s1 v1 ready c.in-Three.b held_b) z c.in_err-y-in-Three.ensures.fault in
    record {
      inlined = no_value _ _ c.from_residual-in_err-y-in-Three.result c.from_residual-in_err-y-in-Three.ensures.1;
      fault = err_passed (IsFaultOf (inlined_at s x c.args.e)) c.from_residual-in_err-y-in-Three.result z c.from_residual-in_err-y-in-Three.ensures.1
          (fault_within (inlined_at s x c.in-Three.b) (inlined_at s x c.args.e) (three_large_second r.rule (tree_at s c.args.e) c.requires.over h (tree_at s c.in-Three.a) (tree_at s c.in-Three.b) (tree_at s c.in-Three.c) e) z here);
      grows = Grows_trans s s1 _ v1 c.inline_tree-in-Three-2.ensures.grows;
    }

pub inline_parts-inline_tree-requires-in-Three-3 : goal.inline_parts-inline_tree-requires-in-Three-3
inline_parts-inline_tree-requires-in-Three-3 t c =
    let s = c.args.store.now in
    let x = c.args.inlining.now in
    let r = rule_of s x in
    let h = head_of_node c.node-node.result in
    let e : tree_at s c.args.e ≡ Three h (tree_at s c.in-Three.a) (tree_at s c.in-Three.b) (tree_at s c.in-Three.c) = c.node-node.ensures.tree ∙ ap (assemble s h) (sym c.in-Three.ensures) in
    let below : (c.in-Three.a.0 < c.args.e.0) × (c.in-Three.b.0 < c.args.e.0) × (c.in-Three.c.0 < c.args.e.0) = subst (AreBelow c.args.e.0) (sym c.in-Three.ensures) c.node-node.ensures.below in
    let held_a : Holds s c.in-Three.a = omega (arith, below.0, c.requires.can.held) in
    let held_b : Holds s c.in-Three.b = omega (arith, below.1, c.requires.can.held) in
    let held_c : Holds s c.in-Three.c = omega (arith, below.2, c.requires.can.held) in
    let xs = three_parts r (tree_at s c.args.e) c.requires.can.typed h (tree_at s c.in-Three.a) (tree_at s c.in-Three.b) (tree_at s c.in-Three.c) e in
    let ready = c.requires.can.is_ready in
    let keeps = rule_keeps s x.task.now x.bodies.now ready in
    let v0 : Grows s s = Grows_refl s in
    let s1 = c.inline_tree-in-Three.new.store in
    let w1 : Grows s s1 = c.in_ok-x-in-Three.ensures.grows in
    let v1 : Grows s s1 = w1 in
    let r1 : IsInlined s x c.in-Three.a s1 c.inline_tree-in-Three.new.known c.in_ok-x-in-Three.x = c.in_ok-x-in-Three.ensures.inlined in
    let s2 = c.inline_tree-in-Three-2.new.store in
    let w2 : Grows s1 s2 = c.in_ok-y-in-Three.ensures.grows in
    let v2 : Grows s s2 = Grows_trans s s1 s2 v1 w2 in
    let r2 : IsInlined s x c.in-Three.b s2 c.inline_tree-in-Three-2.new.known c.in_ok-y-in-Three.y = back x s s1 v1 ready c.in-Three.b held_b s2 c.inline_tree-in-Three-2.new.known c.in_ok-y-in-Three.y c.in_ok-y-in-Three.ensures.inlined in
    let k : CanInline s2 x c.inline_tree-in-Three-2.new.known c.in-Three.c = go x s s2 v2 ready c.in-Three.c held_c c.inline_tree-in-Three-2.new.known xs.1.1 r2.known in
    (omega (arith, below.2), k)

pub inline_parts-returns-in_err-z-in-Three : goal.inline_parts-returns-in_err-z-in-Three
inline_parts-returns-in_err-z-in-Three t c =
    let s = c.args.store.now in
    let x = c.args.inlining.now in
    let r = rule_of s x in
    let h = head_of_node c.node-node.result in
    let e : tree_at s c.args.e ≡ Three h (tree_at s c.in-Three.a) (tree_at s c.in-Three.b) (tree_at s c.in-Three.c) = c.node-node.ensures.tree ∙ ap (assemble s h) (sym c.in-Three.ensures) in
    let below : (c.in-Three.a.0 < c.args.e.0) × (c.in-Three.b.0 < c.args.e.0) × (c.in-Three.c.0 < c.args.e.0) = subst (AreBelow c.args.e.0) (sym c.in-Three.ensures) c.node-node.ensures.below in
    let held_a : Holds s c.in-Three.a = omega (arith, below.0, c.requires.can.held) in
    let held_b : Holds s c.in-Three.b = omega (arith, below.1, c.requires.can.held) in
    let held_c : Holds s c.in-Three.c = omega (arith, below.2, c.requires.can.held) in
    let ready = c.requires.can.is_ready in
    let s1 = c.inline_tree-in-Three.new.store in
    let w1 : Grows s s1 = c.in_ok-x-in-Three.ensures.grows in
    let v1 : Grows s s1 = w1 in
    let s2 = c.inline_tree-in-Three-2.new.store in
    let w2 : Grows s1 s2 = c.in_ok-y-in-Three.ensures.grows in
    let v2 : Grows s s2 = Grows_trans s s1 s2 v1 w2 in
    let z = c.in_err-z-in-Three.field-0.0 in
    let here : IsFaultOf (inlined_at s x c.in-Three.c) z = fault_as (inlined_at s2 x c.in-Three.c) (inlined_at s x c.in-Three.c) (inlined_same x s s2 v2 ready c.in-Three.c held_c) z c.in_err-z-in-Three.ensures.fault in
    record {
      inlined = no_value _ _ c.from_residual-in_err-z-in-Three.result c.from_residual-in_err-z-in-Three.ensures.1;
      fault = err_passed (IsFaultOf (inlined_at s x c.args.e)) c.from_residual-in_err-z-in-Three.result z c.from_residual-in_err-z-in-Three.ensures.1
          (fault_within (inlined_at s x c.in-Three.c) (inlined_at s x c.args.e) (three_large_third r.rule (tree_at s c.args.e) c.requires.over h (tree_at s c.in-Three.a) (tree_at s c.in-Three.b) (tree_at s c.in-Three.c) e) z here);
      grows = Grows_trans s s2 _ v2 c.inline_tree-in-Three-3.ensures.grows;
    }

pub inline_parts-remake-requires-in-Three : goal.inline_parts-remake-requires-in-Three
inline_parts-remake-requires-in-Three t c =
    let s = c.args.store.now in
    let x = c.args.inlining.now in
    let r = rule_of s x in
    let h = head_of_node c.node-node.result in
    let e : tree_at s c.args.e ≡ Three h (tree_at s c.in-Three.a) (tree_at s c.in-Three.b) (tree_at s c.in-Three.c) = c.node-node.ensures.tree ∙ ap (assemble s h) (sym c.in-Three.ensures) in
    let below : (c.in-Three.a.0 < c.args.e.0) × (c.in-Three.b.0 < c.args.e.0) × (c.in-Three.c.0 < c.args.e.0) = subst (AreBelow c.args.e.0) (sym c.in-Three.ensures) c.node-node.ensures.below in
    let held_a : Holds s c.in-Three.a = omega (arith, below.0, c.requires.can.held) in
    let held_b : Holds s c.in-Three.b = omega (arith, below.1, c.requires.can.held) in
    let held_c : Holds s c.in-Three.c = omega (arith, below.2, c.requires.can.held) in
    let ready = c.requires.can.is_ready in
    let keeps = rule_keeps s x.task.now x.bodies.now ready in
    let s1 = c.inline_tree-in-Three.new.store in
    let w1 : Grows s s1 = c.in_ok-x-in-Three.ensures.grows in
    let v1 : Grows s s1 = w1 in
    let r1 : IsInlined s x c.in-Three.a s1 c.inline_tree-in-Three.new.known c.in_ok-x-in-Three.x = c.in_ok-x-in-Three.ensures.inlined in
    let s2 = c.inline_tree-in-Three-2.new.store in
    let w2 : Grows s1 s2 = c.in_ok-y-in-Three.ensures.grows in
    let v2 : Grows s s2 = Grows_trans s s1 s2 v1 w2 in
    let r2 : IsInlined s x c.in-Three.b s2 c.inline_tree-in-Three-2.new.known c.in_ok-y-in-Three.y = back x s s1 v1 ready c.in-Three.b held_b s2 c.inline_tree-in-Three-2.new.known c.in_ok-y-in-Three.y c.in_ok-y-in-Three.ensures.inlined in
    let s3 = c.inline_tree-in-Three-3.new.store in
    let w3 : Grows s2 s3 = c.in_ok-z-in-Three.ensures.grows in
    let r3 : IsInlined s x c.in-Three.c s3 c.inline_tree-in-Three-3.new.known c.in_ok-z-in-Three.z = back x s s2 v2 ready c.in-Three.c held_c s3 c.inline_tree-in-Three-3.new.known c.in_ok-z-in-Three.z c.in_ok-z-in-Three.ensures.inlined in
    let i1 : tree_at s3 c.in_ok-x-in-Three.x ≡ image r.rule (tree_at s c.in-Three.a) = (Grows_trans s1 s2 s3 w2 w3).same c.in_ok-x-in-Three.x.0 r1.held ∙ r1.is in
    let i2 : tree_at s3 c.in_ok-y-in-Three.y ≡ image r.rule (tree_at s c.in-Three.b) = w3.same c.in_ok-y-in-Three.y.0 r2.held ∙ r2.is in
    let i3 : tree_at s3 c.in_ok-z-in-Three.z ≡ image r.rule (tree_at s c.in-Three.c) = r3.is in
    let fits = three_fit r keeps (tree_at s c.args.e) c.requires.can.typed h (tree_at s c.in-Three.a) (tree_at s c.in-Three.b) (tree_at s c.in-Three.c) _ _ _ e i1 i2 i3 c.node-node.ensures.fits in
    let p1 : Holds s3 c.in_ok-x-in-Three.x = held_later s1 s3 c.in_ok-x-in-Three.x (Grows_trans s1 s2 s3 w2 w3) r1.held in
    let p2 : Holds s3 c.in_ok-y-in-Three.y = held_later s2 s3 c.in_ok-y-in-Three.y w3 r2.held in
    let p3 : Holds s3 c.in_ok-z-in-Three.z = r3.held in
    record { like = subst (λ (z : Parts). IsLike z (node_parts.Three c.in_ok-x-in-Three.x c.in_ok-y-in-Three.y c.in_ok-z-in-Three.z)) c.in-Three.ensures tt; held = (p1, p2, p3); fits = fits }

pub inline_parts-returns-in_err-made-in-Three : goal.inline_parts-returns-in_err-made-in-Three
inline_parts-returns-in_err-made-in-Three t c =
    let s = c.args.store.now in
    let x = c.args.inlining.now in
    let s1 = c.inline_tree-in-Three.new.store in
    let w1 : Grows s s1 = c.in_ok-x-in-Three.ensures.grows in
    let v1 : Grows s s1 = w1 in
    let s2 = c.inline_tree-in-Three-2.new.store in
    let w2 : Grows s1 s2 = c.in_ok-y-in-Three.ensures.grows in
    let v2 : Grows s s2 = Grows_trans s s1 s2 v1 w2 in
    let s3 = c.inline_tree-in-Three-3.new.store in
    let w3 : Grows s2 s3 = c.in_ok-z-in-Three.ensures.grows in
    let v3 : Grows s s3 = Grows_trans s s2 s3 v2 w3 in
    record {
      inlined = no_value _ _ c.from_residual-in_err-made-in-Three.result c.from_residual-in_err-made-in-Three.ensures.1;
      fault = err_passed (IsFaultOf (inlined_at s x c.args.e)) c.from_residual-in_err-made-in-Three.result fault.Memory c.from_residual-in_err-made-in-Three.ensures.1 tt;
      grows = Grows_trans s s3 _ v3 c.remake-in-Three.ensures.grows;
    }

pub inline_parts-returns-in_ok-made-in-Three : goal.inline_parts-returns-in_ok-made-in-Three
inline_parts-returns-in_ok-made-in-Three t c =
    let s = c.args.store.now in
    let x = c.args.inlining.now in
    let r = rule_of s x in
    let h = head_of_node c.node-node.result in
    let e : tree_at s c.args.e ≡ Three h (tree_at s c.in-Three.a) (tree_at s c.in-Three.b) (tree_at s c.in-Three.c) = c.node-node.ensures.tree ∙ ap (assemble s h) (sym c.in-Three.ensures) in
    let below : (c.in-Three.a.0 < c.args.e.0) × (c.in-Three.b.0 < c.args.e.0) × (c.in-Three.c.0 < c.args.e.0) = subst (AreBelow c.args.e.0) (sym c.in-Three.ensures) c.node-node.ensures.below in
    let held_a : Holds s c.in-Three.a = omega (arith, below.0, c.requires.can.held) in
    let held_b : Holds s c.in-Three.b = omega (arith, below.1, c.requires.can.held) in
    let held_c : Holds s c.in-Three.c = omega (arith, below.2, c.requires.can.held) in
    let ready = c.requires.can.is_ready in
    let s1 = c.inline_tree-in-Three.new.store in
    let w1 : Grows s s1 = c.in_ok-x-in-Three.ensures.grows in
    let v1 : Grows s s1 = w1 in
    let r1 : IsInlined s x c.in-Three.a s1 c.inline_tree-in-Three.new.known c.in_ok-x-in-Three.x = c.in_ok-x-in-Three.ensures.inlined in
    let s2 = c.inline_tree-in-Three-2.new.store in
    let w2 : Grows s1 s2 = c.in_ok-y-in-Three.ensures.grows in
    let v2 : Grows s s2 = Grows_trans s s1 s2 v1 w2 in
    let r2 : IsInlined s x c.in-Three.b s2 c.inline_tree-in-Three-2.new.known c.in_ok-y-in-Three.y = back x s s1 v1 ready c.in-Three.b held_b s2 c.inline_tree-in-Three-2.new.known c.in_ok-y-in-Three.y c.in_ok-y-in-Three.ensures.inlined in
    let s3 = c.inline_tree-in-Three-3.new.store in
    let w3 : Grows s2 s3 = c.in_ok-z-in-Three.ensures.grows in
    let v3 : Grows s s3 = Grows_trans s s2 s3 v2 w3 in
    let r3 : IsInlined s x c.in-Three.c s3 c.inline_tree-in-Three-3.new.known c.in_ok-z-in-Three.z = back x s s2 v2 ready c.in-Three.c held_c s3 c.inline_tree-in-Three-3.new.known c.in_ok-z-in-Three.z c.in_ok-z-in-Three.ensures.inlined in
    let i1 : tree_at s3 c.in_ok-x-in-Three.x ≡ image r.rule (tree_at s c.in-Three.a) = (Grows_trans s1 s2 s3 w2 w3).same c.in_ok-x-in-Three.x.0 r1.held ∙ r1.is in
    let i2 : tree_at s3 c.in_ok-y-in-Three.y ≡ image r.rule (tree_at s c.in-Three.b) = w3.same c.in_ok-y-in-Three.y.0 r2.held ∙ r2.is in
    let i3 : tree_at s3 c.in_ok-z-in-Three.z ≡ image r.rule (tree_at s c.in-Three.c) = r3.is in
    let u = c.remake-in-Three.new.store in
    let wu : Grows s3 u = c.in_ok-made-in-Three.ensures.grows in
    record {
      inlined = record { held = c.in_ok-made-in-Three.ensures.held; is = c.in_ok-made-in-Three.ensures.tree ∙ three_over r (tree_at s c.args.e) h (tree_at s c.in-Three.a) (tree_at s c.in-Three.b) (tree_at s c.in-Three.c) _ _ _ e i1 i2 i3 ∙ sym c.requires.over; known = known_later r s3 u c.inline_tree-in-Three-3.new.known wu r3.known };
      fault = tt;
      grows = Grows_trans s s3 u v3 wu;
    }

pub inline_parts-returns-in-None : goal.inline_parts-returns-in-None
inline_parts-returns-in-None t c =
    let s = c.args.store.now in
    let x = c.args.inlining.now in
    let h = head_of_node c.node-node.result in
    let e : tree_at s c.args.e ≡ Leaf h = c.node-node.ensures.tree ∙ ap (assemble s h) (sym c.in-None.ensures) in
    record {
      inlined = record { held = c.requires.can.held; is = leaf_left (rule_of s x) (tree_at s c.args.e) h c.requires.over e; known = c.requires.can.known };
      fault = tt;
      grows = Grows_refl s;
    }
