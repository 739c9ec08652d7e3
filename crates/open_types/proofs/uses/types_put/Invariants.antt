use Rattle.std.proofs.Common.{◌≡◌, take, All}
use Rattle.trees.specs.Node.{Grows}
use Rattle.tasks.specs.Meaning.{trees_at}
use Rattle.open_types.specs.Drafts.{HoldsType, instances}
use Rattle.open_types.proofs.uses.types_put.Given as goal

abbrev pub invariant-loop-arg : goal.invariant-loop-arg
invariant-loop-arg l = Grows l.fn.store l.store × All (HoldsType l.store) l.them.items × (trees_at l.store l.them.items ≡ instances (trees_at l.fn.store l.types) (trees_at l.fn.store (take l.arg-index l.args)))
