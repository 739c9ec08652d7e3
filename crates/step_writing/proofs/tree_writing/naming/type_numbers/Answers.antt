use Rattle.std.proofs.Common.{Bool, sym, subst}
use Rattle.tasks.specs.trees.declared.Sort.TheVariants.{Kind}
use Rattle.tasks.specs.trees.Node.{tree_at}
use Rattle.tasks.specs.Typing.{members}
use Rattle.step_writing.specs.tree_writing.Referring.{ReferAll}
use Rattle.step_writing.specs.tree_writing.Naming.{types_after}
use Rattle.step_writing.proofs.tree_writing.Reading.{if_ok}
use Rattle.step_writing.proofs.tree_writing.naming.type_numbers.Goals as goal

pub returns-then-whole : goal.returns-then-whole
returns-then-whole c =
    if_ok c.list_numbers.result c.list_numbers.ensures
    (λ v h. subst (λ (b : Bool). ReferAll c.args.x.now.store.now c.args.x.now.lines.now Kind v.items (types_after b (members (tree_at c.args.x.now.store.now c.args.list)))) (sym c.if-whole.true) (h Kind c.requires.types))
