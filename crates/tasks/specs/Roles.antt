-- What the declarations of a task make a symbol as. No symbol of a valid task is made twice, so the
-- first declaration that makes a symbol is the only one.
use Rattle.std.specs.Prelude.{ℕ, ◌==◌, Bool, true, false, if◌then◌else◌, List, [], ◌∷◌, Option, Some, None}
use Rattle.std.specs.List.{list_any, find, position_from}
use Rattle.trees.specs.Tree.{Tree}
use Rattle.tasks.specs.Task.{DefinitionTree, InductiveTree, ConstructorTree, AlgebraicTree, BodyTree, Defines, Induces, Constructs, DeclarationTree, TaskTree, made_by}

-- abstract, or made by no declaration; defined by an equation; defined by clauses; an algebraic
-- type; a constructor; the projection to a field, by its place
pub data RoleTree : Type 0 where
  PlainRole : RoleTree
  DefinedRole : (equation : Tree) → RoleTree
  InductiveRole : (clauses : List Tree) → RoleTree
  AlgebraicRole : (cons : List ConstructorTree) → RoleTree
  ConstructorRole : (con : ConstructorTree) → RoleTree
  ProjectionRole : (con : ConstructorTree) → (field : ℕ) → RoleTree

abbrev pub is_plain : RoleTree → Bool
is_plain PlainRole = true
is_plain _ = false

abbrev pub is_constructor : RoleTree → Bool
is_constructor (ConstructorRole c) = true
is_constructor _ = false

abbrev pub or_role : RoleTree → RoleTree → RoleTree
or_role q r = if is_plain q then r else q

abbrev pub defined_as : ℕ → List DefinitionTree → RoleTree
defined_as k [] = PlainRole
defined_as k (d ∷ ds) = if d.symbol == k then DefinedRole d.equation else defined_as k ds

abbrev pub inductive_as : ℕ → List InductiveTree → RoleTree
inductive_as k [] = PlainRole
inductive_as k (i ∷ is) = if i.symbol == k then InductiveRole i.clauses else inductive_as k is

abbrev pub projection_at : ConstructorTree → Option ℕ → RoleTree
projection_at c None = PlainRole
projection_at c (Some n) = ProjectionRole c n

-- among the projections of a constructor
abbrev pub projected_as : ℕ → ConstructorTree → RoleTree
projected_as k c = projection_at c (position_from (λ j. j == k) 0 c.projections)

abbrev pub constructed_as : ℕ → List ConstructorTree → RoleTree
constructed_as k [] = PlainRole
constructed_as k (c ∷ cs) =
    if c.symbol == k then ConstructorRole c else or_role (projected_as k c) (constructed_as k cs)

abbrev pub algebraic_as : ℕ → List AlgebraicTree → RoleTree
algebraic_as k [] = PlainRole
algebraic_as k (a ∷ ts) = if a.symbol == k then AlgebraicRole a.cons else or_role
    (constructed_as k a.cons) (algebraic_as k ts)

-- what a declaration makes it as
abbrev pub role_in : ℕ → BodyTree → RoleTree
role_in k (Defines ds) = defined_as k ds
role_in k (Induces is) = inductive_as k is
role_in k (Constructs ts) = algebraic_as k ts
role_in k _ = PlainRole

-- whether a declaration makes it
abbrev pub is_made_by : ℕ → BodyTree → Bool
is_made_by k b = list_any (λ j. j == k) (made_by b)

-- the first declaration that makes it
abbrev pub maker : List DeclarationTree → ℕ → Option DeclarationTree
maker ds k = find (λ (d : DeclarationTree). is_made_by k d.body) ds

abbrev pub role_by : ℕ → Option DeclarationTree → RoleTree
role_by k None = PlainRole
role_by k (Some d) = role_in k d.body

abbrev pub role : TaskTree → ℕ → RoleTree
role t k = role_by k (maker t.decls k)
