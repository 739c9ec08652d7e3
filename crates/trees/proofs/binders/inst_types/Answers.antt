use Rattle.trees.specs.declared.TermId.{TermId}
use Rattle.trees.specs.Sorts.{WellSorted}
use Rattle.trees.specs.Node.{tree_at, Holds}
use Rattle.trees.proofs.Sizes.{sorted_fits}
use Rattle.trees.proofs.RaisesNoIndex.{types_fit}
use Rattle.trees.specs.binders.Visits.{trees_at}
use Rattle.trees.proofs.binders.Lists.{types_indices}
use Rattle.trees.proofs.binders.inst_types.Goals as goal

pub change_tree-requires-clause-fits : goal.change_tree-requires-clause-fits
change_tree-requires-clause-fits g c =
    let s = g.G.Grow.trees c.args.g.now in
    let w : (id : TermId) → Holds s id → WellSorted (tree_at s id) = rw c.store.ensures at c.laws.ensures.sorted in
    types_fit (tree_at s c.args.e) (trees_at s c.args.types.now) (sorted_fits (tree_at s c.args.e) (w c.args.e c.requires.e_held)) (λ j. types_indices s c.args.types.now w c.requires.types j j)
