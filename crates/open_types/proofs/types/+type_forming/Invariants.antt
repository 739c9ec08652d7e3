use Rattle.std.proofs.Common.{◌≡◌, ◌++◌, drop, All}
use Rattle.trees.specs.Node.{Grows}
use Rattle.tasks.specs.Meaning.{trees_at}
use Rattle.name_resolution.specs.Abstract.{forms_of}
use Rattle.open_types.specs.Pieces.{types_at}
use Rattle.open_types.specs.Drafts.{HoldsType, WorldHeld}
use Rattle.name_resolution.specs.Naming.{where_at}
use Rattle.open_types.proofs.types.+type_forming.Given as goal

abbrev pub invariant-types_of_forms-loop-ty : goal.invariant-types_of_forms-loop-ty
invariant-types_of_forms-loop-ty l = Grows l.fn.store l.store × WorldHeld l.store l.world × All (HoldsType l.store) l.types.items
    × (trees_at l.store l.types.items ++ types_at (where_at l.fn.store l.world) (forms_of (drop l.ty-index l.list)) ≡ types_at (where_at l.fn.store l.world) (forms_of l.list))
