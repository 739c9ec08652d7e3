-- Trees that have no `match` outside their types and patterns, and declarations over which a
-- pattern can name nothing.
use Rattle.std.specs.Prelude.{◌≤◌}
use Rattle.trees.specs.Tree.{Tree, Leaf, One, Two, Three, Head, HNot, HPred, HForall, HExists, HArm, HCase, HFun, HIf, size}
use Rattle.tasks.specs.Task.{BodyTree, Defines, Induces, Says, DeclarationTree}

abbrev pub NoMatchInOne : Head → Type 0 → Type 0
NoMatchInOne HNot a = a
NoMatchInOne _ a = Unit {0}

abbrev pub NoMatchInTwo : Head → Type 0 → Type 0 → Type 0
NoMatchInTwo HCase a b = ⊥
NoMatchInTwo (HPred p) a b = b
NoMatchInTwo HForall a b = b
NoMatchInTwo HExists a b = b
NoMatchInTwo HArm a b = b
NoMatchInTwo _ a b = a × b

abbrev pub NoMatchInThree : Head → Type 0 → Type 0 → Type 0 → Type 0
NoMatchInThree (HFun f) a b c = b
NoMatchInThree HIf a b c = a × b × c
NoMatchInThree _ a b c = Unit {0}

abbrev pub HasNoMatch : Tree → Type 0
HasNoMatch (Leaf h) = Unit {0}
HasNoMatch (One h a) = NoMatchInOne h (HasNoMatch a)
HasNoMatch (Two h a b) = NoMatchInTwo h (HasNoMatch a) (HasNoMatch b)
HasNoMatch (Three h a b c) = NoMatchInThree h (HasNoMatch a) (HasNoMatch b) (HasNoMatch c)

-- no definition, and a proposition has no `match` and is no larger than a stage allows
abbrev pub IsMatchFreeBody : BodyTree → Type 0
IsMatchFreeBody (Says a) = (size a ≤ 1048576) × HasNoMatch a
IsMatchFreeBody (Defines ds) = ⊥
IsMatchFreeBody (Induces is) = ⊥
IsMatchFreeBody _ = Unit {0}

abbrev pub IsMatchFree : DeclarationTree → Type 0
IsMatchFree d = IsMatchFreeBody d.body
