-- The inversion formula of a predicate by the parts that the code has of it.
use Rattle.std.specs.Prelude.{ℕ, List, All, length}
use Rattle.trees.specs.declared.Op.TheVariants.{Imp}
use Rattle.trees.specs.Tree.{Tree, Two, HPred, HJoin}
use Rattle.trees.specs.Node.{Holds}
use Rattle.trees.specs.Binding.{inst_types}
use Rattle.tasks.specs.Equations.{cells, type_variables, bound_variables, for_all}
use Rattle.tasks.specs.Inversion.{given_by_any}
use Rattle.tasks.specs.Meaning.{trees_at}
use Rattle.rules.specs.declared.fact_rules.inversion.Inversion.{Inversion}

-- the predicate on its variables
abbrev pub predicate_use : ℕ → ℕ → List Tree → Tree
predicate_use p vars args =
    Two (HPred p) (cells (type_variables 0 vars)) (cells (bound_variables args))

-- under the quantifiers
abbrev pub body_of : ℕ → ℕ → List Tree → List Tree → Tree
body_of p vars args clauses =
    Two (HJoin Imp) (predicate_use p vars args) (given_by_any (bound_variables args) clauses)

abbrev pub formula_at : Inversion → List Tree → Tree
formula_at v s =
    inst_types (for_all (trees_at s v.args.now)
    (body_of v.symbol (length v.types.now) (trees_at s v.args.now) (trees_at s v.clauses.now)))
    (trees_at s v.types.now)

pub record InversionHeld (v : Inversion) (s : List Tree) : Type 0 where
  pub args : All (Holds s) v.args.now
  pub clauses : All (Holds s) v.clauses.now
  pub types : All (Holds s) v.types.now
