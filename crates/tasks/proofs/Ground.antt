-- A tree without schematic type variables, by the least number above them.
use Rattle.std.proofs.Common.{◌≡◌, ◌≤◌, arith}
use Rattle.trees.specs.Tree.{Tree, Leaf, One, Two, Three, Head, HTyVar, above_ty_vars, leaf_ty_vars}
use Rattle.tasks.specs.Valid.{LeafBelow, IsGround}

leaf_ground : (h : Head) → leaf_ty_vars h ≤ 0 → LeafBelow 0 h
leaf_ground (HTyVar j) l = absurd (omega arith)
leaf_ground _ l = tt

pub ground : (e : Tree) → above_ty_vars e ≤ 0 → IsGround e
ground (Leaf h) l = leaf_ground h l
ground (One h a) l = ground a l
ground (Two h a b) l = (ground a (omega arith), ground b (omega arith))
ground (Three h a b c) l = (ground a (omega arith), ground b (omega arith), ground c (omega arith))

ground_leaf : (h : Head) → LeafBelow 0 h → leaf_ty_vars h ≡ 0
ground_leaf (HTyVar j) l = absurd (omega arith)
ground_leaf _ l = omega arith

pub above_ground : (e : Tree) → IsGround e → above_ty_vars e ≡ 0
above_ground (Leaf h) g = ground_leaf h g
above_ground (One h a) g = above_ground a g
above_ground (Two h a b) g = omega (arith, above_ground a g.0, above_ground b g.1)
above_ground (Three h a b c) g = omega (arith, above_ground a g.0, above_ground b g.1, above_ground c g.2)
