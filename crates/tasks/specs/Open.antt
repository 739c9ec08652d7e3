-- A tree that is typed as far as it goes: each operator's children fit, and each variable that a
-- binder in it binds has the type that the binder gives it. It may have open variables; where it
-- has none, it is well typed.
use Rattle.std.specs.Prelude.{◌≡◌, ℕ, ◌+◌, List, [], ◌∷◌}
use Rattle.trees.specs.Tree.{Tree, Leaf, One, Two, Three, Head, HBound, binders_over}
use Rattle.trees.specs.Sorts.{Fits}
use Rattle.tasks.specs.Vocabulary.{Vocabulary}
use Rattle.tasks.specs.Typing.{LeafTyped, OneTyped, TwoTyped, ThreeTyped, bound_types}

abbrev pub one_has : ℕ → Tree → Head → Tree → Type 0
one_has d ty (HBound i) a = i ≡ d → a ≡ ty
one_has d ty _ a = Unit {0}

-- the variable of so many binders up has this type wherever it stands
abbrev pub VariableHas : ℕ → Tree → Tree → Type 0
VariableHas d ty (Leaf h) = Unit {0}
VariableHas d ty (One h a) = one_has d ty h a × VariableHas d ty a
VariableHas d ty (Two h a b) = VariableHas d ty a × VariableHas (d + binders_over h a) ty b
VariableHas d ty (Three h a b c) = VariableHas d ty a × VariableHas d ty b × VariableHas d ty c

-- the variables from so many binders up on have these types
abbrev pub VariablesHave : ℕ → List Tree → Tree → Type 0
VariablesHave d [] e = Unit {0}
VariablesHave d (ty ∷ types) e = VariableHas d ty e × VariablesHave (d + 1) types e

-- as typing asks, but nothing of a variable
abbrev pub OneOpen : Vocabulary → Head → Tree → Type 0
OneOpen v (HBound i) a = Unit {0}
OneOpen v h a = OneTyped v [] h a

-- what an operator asks of its children
abbrev pub TopOpen : Vocabulary → Tree → Type 0
TopOpen v (Leaf h) = LeafTyped v h
TopOpen v (One h a) = OneOpen v h a
TopOpen v (Two h a b) = TwoTyped v h a b × VariablesHave 0 (bound_types h a) b
TopOpen v (Three h a b c) = ThreeTyped v h a b c

abbrev pub OpenTyped : Vocabulary → Tree → Type 0
OpenTyped v (Leaf h) = Fits (Leaf h) × TopOpen v (Leaf h)
OpenTyped v (One h a) = Fits (One h a) × TopOpen v (One h a) × OpenTyped v a
OpenTyped v (Two h a b) = Fits (Two h a b) × TopOpen v (Two h a b) × OpenTyped v a × OpenTyped v b
OpenTyped v (Three h a b c) =
    Fits (Three h a b c) × TopOpen v (Three h a b c) × OpenTyped v a × OpenTyped v b × OpenTyped v c

-- each child is so
abbrev pub PartsAreOpen : Vocabulary → Tree → Type 0
PartsAreOpen v (Leaf h) = Unit {0}
PartsAreOpen v (One h a) = OpenTyped v a
PartsAreOpen v (Two h a b) = OpenTyped v a × OpenTyped v b
PartsAreOpen v (Three h a b c) = OpenTyped v a × OpenTyped v b × OpenTyped v c
