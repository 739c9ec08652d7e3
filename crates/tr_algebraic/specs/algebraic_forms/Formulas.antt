-- The laws of algebraic types as formulas: each projection gives its field, no value is made by two
-- constructors, and each value is made by a constructor on its own fields (Why3 manual,
-- "eliminate_algebraic").
use Rattle.std.specs.Prelude.{ℕ, ◌+◌, List, [], ◌∷◌, ◌++◌, map, length}
use Rattle.trees.specs.declared.Op.TheVariants.{Or}
use Rattle.trees.specs.Tree.{Tree, Leaf, Two, Three, HFun, HEq, HFalse, HJoin, HForall}
use Rattle.trees.specs.Binding.{Bound}
use Rattle.tasks.specs.Task.{ConstructorTree, neg}
use Rattle.tasks.specs.Equations.{cells, type_variables, for_all}
use Rattle.tasks.specs.Valid.{own_type}

-- ---- terms at so many type variables of the type's own
abbrev pub own_type_list : ℕ → Tree
own_type_list vars = cells (type_variables 0 vars)

-- the variable of a quantifier over this type, in which there are quantifiers over those and so
-- many more
abbrev pub variable_under : ℕ → Tree → List Tree → Tree
variable_under n ty inner = Bound (n + length inner) ty

-- the variables of quantifiers over these types, the outermost first, in which there are so many
-- more
abbrev pub variables_under : ℕ → List Tree → List Tree
variables_under n [] = []
variables_under n (ty ∷ types) = variable_under n ty types ∷ variables_under n types

-- a constructor of a type on terms
abbrev pub con_on : ℕ → ℕ → ConstructorTree → List Tree → Tree
con_on type vars c ts = Three (HFun c.symbol) (own_type_list vars) (cells ts) (own_type type vars)

-- a projection of a term to a field of this type
abbrev pub field_of : ℕ → ℕ → Tree → Tree → Tree
field_of vars p ty x = Three (HFun p) (own_type_list vars) (cells (x ∷ [])) ty

-- the projections of a term to fields of these types
abbrev pub projected_fields : ℕ → List ℕ → List Tree → Tree → List Tree
projected_fields vars (p ∷ ps) (ty ∷ types) x =
    field_of vars p ty x ∷ projected_fields vars ps types x
projected_fields vars _ _ x = []

-- ---- a projection of a constructor gives the field
abbrev pub projection_law : ℕ → ℕ → ConstructorTree → ℕ → Tree → Tree → Tree
projection_law type vars c p ty x =
    for_all c.fields (Two HEq
    (field_of vars p ty (con_on type vars c (variables_under 0 c.fields))) x)

-- by these projections to the constructor's last fields, which have these types
abbrev pub projection_laws : ℕ → ℕ → ConstructorTree → List ℕ → List Tree → List Tree
projection_laws type vars c (p ∷ ps) (ty ∷ types) =
    projection_law type vars c p ty (variable_under 0 ty types)
    ∷ projection_laws type vars c ps types
projection_laws type vars c _ _ = []

abbrev pub all_projection_laws : ℕ → ℕ → List ConstructorTree → List Tree
all_projection_laws type vars [] = []
all_projection_laws type vars (c ∷ cs) =
    projection_laws type vars c c.projections c.fields ++ all_projection_laws type vars cs

-- ---- two constructors differ, whatever they are on
-- below the quantifiers
abbrev pub different : ℕ → ℕ → ConstructorTree → ConstructorTree → Tree
different type vars c d = neg
    (Two HEq (con_on type vars c (variables_under (length d.fields) c.fields))
    (con_on type vars d (variables_under 0 d.fields)))

abbrev pub distinctness_law : ℕ → ℕ → ConstructorTree → ConstructorTree → Tree
distinctness_law type vars c d = for_all (c.fields ++ d.fields) (different type vars c d)

-- each pair in order
abbrev pub distinctness_laws : ℕ → ℕ → List ConstructorTree → List Tree
distinctness_laws type vars [] = []
distinctness_laws type vars (c ∷ cs) =
    map (distinctness_law type vars c) cs ++ distinctness_laws type vars cs

-- ---- each value is made by a constructor
-- a term is this constructor on its own fields
abbrev pub case_equation : ℕ → ℕ → Tree → ConstructorTree → Tree
case_equation type vars x c =
    Two HEq x (con_on type vars c (projected_fields vars c.projections c.fields x))

-- the disjunction of formulas, nested to the right
abbrev pub disjunction : List Tree → Tree
disjunction [] = Leaf HFalse
disjunction (a ∷ []) = a
disjunction (a ∷ es) = Two (HJoin Or) a (disjunction es)

abbrev pub own_variable : ℕ → ℕ → Tree
own_variable type vars = Bound 0 (own_type type vars)

abbrev pub exhaustion_law : ℕ → ℕ → List ConstructorTree → Tree
exhaustion_law type vars cs =
    Two HForall (own_type type vars)
    (disjunction (map (case_equation type vars (own_variable type vars)) cs))
