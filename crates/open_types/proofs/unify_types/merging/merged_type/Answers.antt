use Rattle.open_types.proofs.unify_types.Merged.{bound_stands}
use Rattle.trees.specs.Node.{tree_at}
use Rattle.open_types.proofs.unify_types.merging.merged_type.Goals as goal

pub returns-in-TyVar : goal.returns-in-TyVar
returns-in-TyVar c = bound_stands c.args.rigid c.args.store.now c.args.bindings.now (tree_at c.args.store.now c.args.ty) c.in-TyVar.unknown c.get.result c.requires.bound c.requires.triangular c.in-TyVar.ensures.tree c.get.ensures
