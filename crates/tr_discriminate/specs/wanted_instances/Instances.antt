-- The instances of symbols in a term or formula, the types in it, and its type variables.
use Rattle.std.specs.Prelude.{ℕ, ◌==◌, Bool, false, ◌||◌, List, [], ◌∷◌, ◌++◌, map, Option, Some, None}
use Rattle.std.specs.List.{flat_map}
use Rattle.tasks.specs.trees.Tree.{Tree, Leaf, One, Two, Three, Head, HTyVar, HTyRigid, HTyApp, HEnd, HFun, HPred, HEq, HPatCon}
use Rattle.tasks.specs.trees.Sorts.{type_of}
use Rattle.tasks.specs.trees.Binding.{inst_types}
use Rattle.name_tables.specs.Occurrences.{Occurrence, occurrence}
use Rattle.name_tables.specs.Seen.{with_all}

-- The instance of `=` at a type. Entry 0 of a signature is the type `int`, so it is no symbol of a
-- term.
abbrev pub equality_at : Tree → Occurrence
equality_at type = occurrence 0 type

abbrev pub type_or_end : Option Tree → Tree
type_or_end None = Leaf HEnd
type_or_end (Some type) = type

-- what the operator of a node adds: a symbol with its types, or `=` with the type of its sides
abbrev pub two_instance : Head → Tree → List Occurrence
two_instance (HPred p) a = occurrence p a ∷ []
two_instance HEq a = equality_at (type_or_end (type_of a)) ∷ []
two_instance _ a = []

abbrev pub three_instance : Head → Tree → List Occurrence
three_instance (HFun f) a = occurrence f a ∷ []
three_instance (HPatCon f) a = occurrence f a ∷ []
three_instance _ a = []

-- those in a term or formula, in preorder; a constructor in a pattern is one like any other
abbrev pub inner_instances : Tree → List Occurrence
inner_instances (Leaf h) = []
inner_instances (One h a) = inner_instances a
inner_instances (Two h a b) = two_instance h a ++ (inner_instances a ++ inner_instances b)
inner_instances (Three h a b c) =
    three_instance h a ++ (inner_instances a ++ (inner_instances b ++ inner_instances c))

abbrev pub at_types : List Tree → Occurrence → Occurrence
at_types ys o = occurrence o.symbol (inst_types o.types ys)

-- ---- types, each told by the instance of `=` at it
abbrev pub leaf_types : Head → List Occurrence
leaf_types (HTyVar j) = equality_at (Leaf (HTyVar j)) ∷ []
leaf_types (HTyRigid k) = equality_at (Leaf (HTyRigid k)) ∷ []
leaf_types _ = []

abbrev pub one_types : Head → Tree → List Occurrence
one_types (HTyApp k) a = equality_at (One (HTyApp k) a) ∷ []
one_types _ a = []

-- those in a tree: arguments stand before the type that has them
abbrev pub types_within : Tree → List Occurrence
types_within (Leaf h) = leaf_types h
types_within (One h a) = types_within a ++ one_types h a
types_within (Two h a b) = types_within a ++ types_within b
types_within (Three h a b c) = types_within a ++ (types_within b ++ types_within c)

abbrev pub instance_types : Occurrence → List Occurrence
instance_types o = types_within o.types

-- the types of instances, each once; the rank of a type is its place here
abbrev pub types_of : List Occurrence → List Tree
types_of s = map (λ (o : Occurrence). o.types) (with_all [] (flat_map instance_types s))

-- ---- type variables
abbrev pub leaf_has_variable : ℕ → Head → Bool
leaf_has_variable j (HTyVar i) = j == i
leaf_has_variable j _ = false

-- whether a type variable is in a tree
abbrev pub has_variable : ℕ → Tree → Bool
has_variable j (Leaf h) = leaf_has_variable j h
has_variable j (One h a) = has_variable j a
has_variable j (Two h a b) = has_variable j a || has_variable j b
has_variable j (Three h a b c) = has_variable j a || (has_variable j b || has_variable j c)

abbrev pub mentions : ℕ → Occurrence → Bool
mentions j o = has_variable j o.types
