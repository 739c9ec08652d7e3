-- What groups say, over a store.
use Rattle.std.specs.Prelude.{◌≡◌, ℕ, List, map}
use Rattle.tasks.specs.declared.declaration.Decl.{Decl}
use Rattle.tasks.specs.declared.declaration.Body.{Body}
use Rattle.trees.specs.Tree.{Tree}
use Rattle.trees.specs.Node.{tree_at, Holds}
use Rattle.tasks.specs.Facts.{FactTree}
use Rattle.declarations.specs.declared.spelled_groups.said.Said.{Said}

abbrev pub fact_at : List Tree → Said → FactTree
fact_at s x = record { name = x.name; vars = x.vars; formula = tree_at s x.formula }

abbrev pub facts_at : List Tree → List Said → List FactTree
facts_at s xs = map (fact_at s) xs

abbrev pub SaidHeld : List Tree → Said → Type 0
SaidHeld s x = Holds s x.formula

-- a declaration of the theory and name of another
pub record IsDeclaredAs (decl : Decl) (vars : ℕ) (body : Body) (made : Decl) : Type 0 where
  pub theory : made.theory ≡ decl.theory
  pub name : made.name ≡ decl.name
  pub count : made.vars ≡ vars
  pub says : made.body ≡ body
