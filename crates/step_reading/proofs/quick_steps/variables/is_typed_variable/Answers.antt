use Rattle.std.proofs.Common.{sym, ap, ◌∙◌}
use Rattle.std.specs.Option.{option_map}
use Rattle.tasks.specs.trees.Node.{tree_at}
use Rattle.step_reading.specs.quick_steps.Variables.{types_bound}
use Rattle.step_reading.proofs.quick_steps.Seen.{some_told, none_told}
use Rattle.step_reading.proofs.quick_steps.variables.is_typed_variable.Goals as goal

pub returns-in-Some : goal.returns-in-Some
returns-in-Some c =
    let s = c.args.store.now in
    some_told c.args.index (tree_at s c.args.ty) (tree_at s c.args.e) (c.laws.ensures.sorted c.args.e c.requires.e_held) c.requires.tree c.args.depth (types_bound s c.args.binder) c.requires.above
    (tree_at s c.in-Some.known) c.same.result (sym c.bound_type.ensures.tree ∙ ap (option_map (tree_at s)) c.in-Some.is) c.same.ensures.trees

pub returns-in-None : goal.returns-in-None
returns-in-None c =
    let s = c.args.store.now in
    none_told c.args.index (tree_at s c.args.ty) (tree_at s c.args.e) (c.laws.ensures.sorted c.args.e c.requires.e_held) c.requires.tree c.args.depth (types_bound s c.args.binder) c.requires.above
    (sym c.bound_type.ensures.tree ∙ ap (option_map (tree_at s)) c.in-None.is)
