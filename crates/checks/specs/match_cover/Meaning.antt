-- What shapes and tables in code stand for.
use Rattle.std.specs.Prelude.{ℕ, zero, suc, List, [], ◌∷◌, map, drop, Option, Some, None, All}
use Rattle.trees.specs.declared.TermId.{TermId}
use Rattle.trees.specs.Tree.{Tree}
use Rattle.trees.specs.Node.{Holds}
use Rattle.tasks.specs.Meaning.{trees_at}
use Rattle.checks.specs.declared.match_cover.shape.ValueShape.{ValueShape as StoredShape, ValueShape-F, fold-ValueShape}
use Rattle.checks.specs.match_cover.Shapes.{ShapeTree, unspecified, built, Shapes, no_shapes, more_shapes}

abbrev pub shapes : List ShapeTree → Shapes
shapes [] = no_shapes
shapes (s ∷ ss) = more_shapes s (shapes ss)

abbrev pub known : Option ℕ → Shapes → ShapeTree
known None ss = unspecified
known (Some k) ss = built k ss

abbrev pub shape_step : ValueShape-F ShapeTree → ShapeTree
shape_step f = known f.con (shapes f.parts)

-- the shape that a stored one stands for
unfoldable pub shape_of : StoredShape → ShapeTree
shape_of = fold-ValueShape ShapeTree shape_step

abbrev pub shapes_of : List StoredShape → Shapes
shapes_of ss = shapes (map shape_of ss)

-- the first so many shapes, and those after them
abbrev pub first_shapes : ℕ → Shapes → Shapes
first_shapes zero ss = no_shapes
first_shapes (suc n) no_shapes = no_shapes
first_shapes (suc n) (more_shapes s ss) = more_shapes s (first_shapes n ss)

abbrev pub shapes_after : ℕ → Shapes → Shapes
shapes_after zero ss = ss
shapes_after (suc n) no_shapes = no_shapes
shapes_after (suc n) (more_shapes s ss) = shapes_after n ss

-- a row of patterns from a column on
abbrev pub row_at : List Tree → ℕ → List TermId → List Tree
row_at s at row = trees_at s (drop at row)

abbrev pub table_at : List Tree → ℕ → List (List TermId) → List (List Tree)
table_at s at rows = map (row_at s at) rows

-- the numbers of a row are held
pub record RowHeld (s : List Tree) (row : List TermId) : Type 0 where
  pub each : All (Holds s) row

abbrev pub TableHeld : List Tree → List (List TermId) → Type 0
TableHeld s rows = All (RowHeld s) rows

-- a row of one pattern
abbrev pub single_pattern : TermId → List TermId
single_pattern p = p ∷ []
