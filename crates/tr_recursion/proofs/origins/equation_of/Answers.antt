use Rattle.std.proofs.Common.{◌∙◌}
use Rattle.tr_recursion.proofs.Equations.{none_else, read_role}
use Rattle.tr_recursion.proofs.origins.equation_of.Goals as goal

pub unreachable-requires : goal.unreachable-requires
unreachable-requires c =
    let d = c.args.draft.now in
    let r = c.role.result in
    none_else d.trees r c.in_default.not-Defined c.requires.defined.0 (read_role d c.args.from.now c.without_index-look.result.task.now c.store.result.now c.args.symbol r c.requires.own c.store.ensures c.without_index-look.ensures.task c.role.ensures.tree ∙ c.requires.defined.1)
