use Rattle.std.proofs.Common.{sym}
use Rattle.tasks.specs.Meaning.{trees_at}
use Rattle.tasks.specs.trees.Node.{tree_at}
use Rattle.tr_discriminate.proofs.Searching.{not_noted}
use Rattle.tr_discriminate.proofs.types.note_leaf.Goals as goal

pub returns-in-TyVar-clause-found : goal.returns-in-TyVar-clause-found
returns-in-TyVar-clause-found c = rw c.in-TyVar.ensures.tree c.note_type.ensures.found

pub returns-in_default-clause-found : goal.returns-in_default-clause-found
returns-in_default-clause-found c =
    let s = c.args.store.now in
    rw c.node.ensures.tree (sym (not_noted s c.node.result (tree_at s c.args.e) (trees_at s c.args.types.now.items) c.in_default.not-TyVar))
