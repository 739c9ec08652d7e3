-- Declarations that may not be there where algebraic types become symbols with their laws:
-- definitions and inductive predicates.
use Rattle.std.specs.Prelude.{ℕ, ◌+◌, List, [], ◌∷◌, Option, Some, None}
use Rattle.tasks.specs.Task.{BodyTree, Defines, Induces, DeclarationTree}

-- the place of the first one, counted from this one
abbrev pub refused_by : ℕ → BodyTree → Option ℕ → Option ℕ
refused_by n (Defines ds) o = Some n
refused_by n (Induces is) o = Some n
refused_by n _ o = o

abbrev pub refused_from : ℕ → List DeclarationTree → Option ℕ
refused_from n [] = None
refused_from n (d ∷ ds) = refused_by n d.body (refused_from (n + 1) ds)
