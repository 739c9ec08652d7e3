-- The test of a pattern, and the terms for its variables (Why3 manual, "pattern matching"): both by
-- constructors on their own fields, told by projections.
use Rattle.std.specs.Prelude.{ℕ, ◌==◌, if◌then◌else◌, List, [], ◌∷◌, ◌++◌, map, Option, Some, None}
use Rattle.trees.specs.Tree.{Tree, Leaf, One, Two, Three, Head, HEnd, HCell, HEq, HFun, HPatVar, HPatAlias, HPatCon, loose}
use Rattle.trees.specs.Binding.{inst_types}
use Rattle.tasks.specs.Task.{TaskTree, symbol_or}
use Rattle.tasks.specs.Roles.{RoleTree, ConstructorRole, role}
use Rattle.tasks.specs.Typing.{members}
use Rattle.tasks.specs.Equations.{cells}
use Rattle.tasks.specs.Conjunctions.{conjunction}

-- the result type of an entry at a list of types; the empty list where it has none, or one that
-- isn't closed, as each type is
abbrev pub result_at : Option Tree → Tree → Tree
result_at (Some r) types = if loose r == 0 then inst_types r (members types) else Leaf HEnd
result_at None types = Leaf HEnd

-- a function at a list of types on a list of arguments
abbrev pub apply_list : TaskTree → ℕ → Tree → Tree → Tree
apply_list t f types args =
    Three (HFun f) types args (result_at (symbol_or t.symbols f).result types)

-- a projection of a term
abbrev pub field : TaskTree → ℕ → Tree → Tree → Tree
field t j types s = apply_list t j types (cells (s ∷ []))

-- the fields of a term, by these projections
abbrev pub fields : TaskTree → List ℕ → Tree → Tree → List Tree
fields t projections types s = map (λ j. field t j types s) projections

-- a constructor on the fields of a term
abbrev pub rebuilt : TaskTree → ℕ → List ℕ → Tree → Tree → Tree
rebuilt t c projections types s = apply_list t c types (cells (fields t projections types s))

abbrev pub projections_by : RoleTree → List ℕ
projections_by (ConstructorRole c) = c.projections
projections_by _ = []

-- the projections of a constructor
abbrev pub constructor_projections : TaskTree → ℕ → List ℕ
constructor_projections t k = projections_by (role t k)

-- the first of a list of terms, and the others
abbrev pub top : List Tree → Tree
top [] = Leaf HEnd
top (s ∷ ss) = s

abbrev pub other_terms : List Tree → List Tree
other_terms [] = []
other_terms (s ∷ ss) = ss

-- what the parts of a constructor's pattern are asked of
abbrev pub parts : TaskTree → Head → Tree → List Tree → List Tree
parts t (HPatCon k) types ss = fields t (constructor_projections t k) types (top ss)
parts t _ types ss = []

-- that a term is a constructor on its own fields
abbrev pub con_equation : TaskTree → ℕ → Tree → Tree → Tree
con_equation t k types s = Two HEq s (rebuilt t k (constructor_projections t k) types s)

abbrev pub one_tests : Head → List Tree → List Tree
one_tests HPatAlias inner = inner
one_tests _ inner = []

abbrev pub two_tests : Head → List Tree → List Tree → List Tree
two_tests HCell first more = first ++ more
two_tests _ first more = []

abbrev pub three_tests : TaskTree → Head → Tree → List Tree → List Tree → List Tree
three_tests t (HPatCon k) types ss inner = con_equation t k types (top ss) ∷ inner
three_tests t _ types ss inner = []

-- The equations that make a list of terms match a pattern, or a list of patterns, in reading order:
-- of each constructor's pattern, that the term is that constructor on its own fields.
abbrev pub tests : TaskTree → Tree → List Tree → List Tree
tests t (Leaf h) ss = []
tests t (One h p) ss = one_tests h (tests t p ss)
tests t (Two h p q) ss = two_tests h (tests t p (top ss ∷ [])) (tests t q (other_terms ss))
tests t (Three h a p c) ss = three_tests t h a ss (tests t p (parts t h a ss))

-- the test of a pattern, asked of a term
abbrev pub test : TaskTree → Tree → Tree → Tree
test t p s = conjunction (tests t p (s ∷ []))

abbrev pub one_binds : Head → List Tree → List Tree → List Tree
one_binds HPatVar inner ss = top ss ∷ []
one_binds HPatAlias inner ss = inner ++ top ss ∷ []
one_binds _ inner ss = []

abbrev pub two_binds : Head → List Tree → List Tree → List Tree
two_binds HCell first more = first ++ more
two_binds _ first more = []

abbrev pub three_binds : Head → List Tree → List Tree
three_binds (HPatCon k) inner = inner
three_binds _ inner = []

-- the terms for the variables of a pattern, or of a list of patterns, in reading order
abbrev pub pattern_terms : TaskTree → Tree → List Tree → List Tree
pattern_terms t (Leaf h) ss = []
pattern_terms t (One h p) ss = one_binds h (pattern_terms t p ss) ss
pattern_terms t (Two h p q) ss =
    two_binds h (pattern_terms t p (top ss ∷ [])) (pattern_terms t q (other_terms ss))
pattern_terms t (Three h a p c) ss = three_binds h (pattern_terms t p (parts t h a ss))

-- those for a pattern, asked of a term
abbrev pub bind : TaskTree → Tree → Tree → List Tree
bind t p s = pattern_terms t p (s ∷ [])
