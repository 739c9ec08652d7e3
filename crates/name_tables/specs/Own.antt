-- What occurs in a term, by its operator and its children.
use Rattle.std.specs.Prelude.{List, [], ◌++◌}
use Rattle.trees.specs.Tree.{Tree, Leaf, One, Two, Three}
use Rattle.tasks.specs.Task.{BodyTree, Says}
use Rattle.name_tables.specs.Occurrences.{Occurrence, of_leaf, of_one, of_two, of_three, occurrences}

-- what the operator at the top adds
abbrev pub own : Tree → List Occurrence
own (Leaf h) = of_leaf h
own (One h a) = of_one h a
own (Two h a b) = of_two h a b
own (Three h a b c) = of_three h a b c

-- what occurs in the children
abbrev pub inner : Tree → List Occurrence
inner (Leaf h) = []
inner (One h a) = occurrences a
inner (Two h a b) = occurrences a ++ occurrences b
inner (Three h a b c) = occurrences a ++ (occurrences b ++ occurrences c)

-- what occurs in what a declaration says
abbrev pub said_occurrences : BodyTree → List Occurrence
said_occurrences (Says e) = occurrences e
said_occurrences _ = []
