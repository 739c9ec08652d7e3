-- Which symbols occur in a task, each at its types, in the order in which a table of names has
-- them.
use Rattle.std.specs.Prelude.{ℕ, List, [], ◌∷◌, ◌++◌, Option, Some, None}
use Rattle.std.specs.List.{flat_map}
use Rattle.trees.specs.Tree.{Tree, Leaf, One, Two, Three, Head, HTyApp, HTyRigid, HEnd, HCell, HParam, HNum, HFun, HPred, HEq, HForall, HExists, HPatCon}
use Rattle.trees.specs.Sorts.{type_of}
use Rattle.tasks.specs.Task.{TaskTree, PropositionTree, props}

-- a symbol at the list of its types
pub record Occurrence : Type 0 where
  pub symbol : ℕ
  pub types : Tree

abbrev pub occurrence : ℕ → Tree → Occurrence
occurrence k types = record { symbol = k; types = types }

-- a symbol at no types, as `int` and the type variables of a goal are
abbrev pub whole_occurrence : ℕ → Occurrence
whole_occurrence k = occurrence k (Leaf HEnd)

abbrev pub leaf_in_type : Head → List Occurrence
leaf_in_type (HTyRigid k) = whole_occurrence k ∷ []
leaf_in_type _ = []

abbrev pub one_in_type : Head → Tree → List Occurrence → List Occurrence
one_in_type (HTyApp k) args inner = inner ++ occurrence k args ∷ []
one_in_type _ args inner = []

abbrev pub two_in_type : Head → List Occurrence → List Occurrence → List Occurrence
two_in_type HCell first rest = first ++ rest
two_in_type _ first rest = []

-- those in a type or a list of types: arguments are before the type that has them
abbrev pub in_type : Tree → List Occurrence
in_type (Leaf h) = leaf_in_type h
in_type (One h a) = one_in_type h a (in_type a)
in_type (Two h a b) = two_in_type h (in_type a) (in_type b)
in_type (Three h a b c) = []

abbrev pub in_option : Option Tree → List Occurrence
in_option None = []
in_option (Some type) = in_type type

abbrev pub two_in_types_of : Head → List Occurrence → List Occurrence → List Occurrence
two_in_types_of HCell first rest = first ++ rest
two_in_types_of _ first rest = []

-- those in the types of the members of a list
abbrev pub in_types_of : Tree → List Occurrence
in_types_of (Leaf h) = []
in_types_of (One h a) = []
in_types_of (Two h a b) = two_in_types_of h (in_option (type_of a)) (in_types_of b)
in_types_of (Three h a b c) = []

-- a symbol at types, after those in the types
abbrev pub occurrences_at : ℕ → Tree → List Occurrence
occurrences_at k types = in_type types ++ occurrence k types ∷ []

-- what the operator of a node adds: a literal is of type `int`; an equation has the type of its
-- sides; a symbol has the types of its arguments, that of its result, and its own type arguments
abbrev pub of_leaf : Head → List Occurrence
of_leaf (HNum z) = whole_occurrence 0 ∷ []
of_leaf _ = []

abbrev pub of_one : Head → Tree → List Occurrence
of_one (HParam n) a = in_type a
of_one _ a = []

abbrev pub of_two : Head → Tree → Tree → List Occurrence
of_two (HPred p) a b = in_types_of b ++ occurrences_at p a
of_two HEq a b = in_option (type_of a)
of_two HForall a b = in_type a
of_two HExists a b = in_type a
of_two _ a b = []

abbrev pub of_three : Head → Tree → Tree → Tree → List Occurrence
of_three (HFun f) a b c = in_types_of b ++ (in_type c ++ occurrences_at f a)
of_three (HPatCon f) a b c = in_types_of b ++ (in_type c ++ occurrences_at f a)
of_three _ a b c = []

-- those in a term or formula, in preorder
abbrev pub occurrences : Tree → List Occurrence
occurrences (Leaf h) = of_leaf h
occurrences (One h a) = of_one h a ++ occurrences a
occurrences (Two h a b) = of_two h a b ++ (occurrences a ++ occurrences b)
occurrences (Three h a b c) =
    of_three h a b c ++ (occurrences a ++ (occurrences b ++ occurrences c))

abbrev pub in_proposition : PropositionTree → List Occurrence
in_proposition p = occurrences p.formula

-- those in a task: in its propositions, the types of its parameters, its locals and its goal
abbrev pub task_occurrences : TaskTree → List Occurrence
task_occurrences t = flat_map in_proposition (props t)
    ++ (flat_map in_type t.params ++ (flat_map occurrences t.locals ++ occurrences t.goal))
