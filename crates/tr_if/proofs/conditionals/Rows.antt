-- Worked rows by computation: formulas with conditionals, and tasks.
use Rattle.std.proofs.Common.{◌≡◌, ℕ, List, [], ◌∷◌, pos, refl}
use Rattle.trees.specs.Tree.{Tree, Leaf, Two, Three, HEnd, HNum, HFun, HPred, HEq, HTrue, HJoin, HForall, HIf}
use Rattle.trees.specs.Binding.{Bound}
use Rattle.trees.specs.Sorts.{int_type}
use Rattle.trees.specs.declared.Op.TheVariants.{And, Imp, Or}
use Rattle.tasks.specs.Task.{neg}
use Rattle.tasks.specs.Equations.{cells}
use Rattle.tr_if.specs.conditionals.Conditionals.{implications, without_ifs}

abbrev bound : ℕ → Tree
bound i = Bound i int_type

abbrev number : ℕ → Tree
number n = Leaf (HNum (pos n))

abbrev function : ℕ → List Tree → Tree
function f args = Three (HFun f) (Leaf HEnd) (cells args) int_type

abbrev predicate : ℕ → List Tree → Tree
predicate p args = Two (HPred p) (Leaf HEnd) (cells args)

abbrev equals : Tree → Tree → Tree
equals a b = Two HEq a b

abbrev conditional : Tree → Tree → Tree → Tree
conditional c a b = Three HIf c a b

abbrev forall_int : Tree → Tree
forall_int a = Two HForall int_type a

abbrev implies : Tree → Tree → Tree
implies a b = Two (HJoin Imp) a b

-- `forall x. p (if x = 0 then 1 else if x = 1 then 1 else 2)`: the outer one first, and the inner one at its place
nested-row : without_ifs (forall_int (predicate 9 (conditional (equals (bound 0) (number 0)) (number 1) (conditional (equals (bound 0) (number 1)) (number 1) (number 2)) ∷ [])))
    ≡ forall_int (Two (HJoin And) (implies (equals (bound 0) (number 0)) (predicate 9 (number 1 ∷ [])))
    (implies (neg (equals (bound 0) (number 0))) (Two (HJoin And) (implies (equals (bound 0) (number 1)) (predicate 9 (number 1 ∷ []))) (implies (neg (equals (bound 0) (number 1))) (predicate 9 (number 2 ∷ []))))))
nested-row = refl

-- of two in an atom the left one first: `f (if q then 1 else 2) = if r then 3 else 4`
order-row : without_ifs (equals (function 3 (conditional (predicate 5 []) (number 1) (number 2) ∷ [])) (conditional (predicate 6 []) (number 3) (number 4)))
    ≡ implications (predicate 5 [])
    (implications (predicate 6 []) (equals (function 3 (number 1 ∷ [])) (number 3)) (equals (function 3 (number 1 ∷ [])) (number 4)))
    (implications (predicate 6 []) (equals (function 3 (number 2 ∷ [])) (number 3)) (equals (function 3 (number 2 ∷ [])) (number 4)))
order-row = refl

-- equal ones one after the other: `p (if q then 1 else 2) (if q then 1 else 2)` has the atom `p 1 2` too
equal-row : without_ifs (predicate 9 (conditional (predicate 5 []) (number 1) (number 2) ∷ conditional (predicate 5 []) (number 1) (number 2) ∷ []))
    ≡ implications (predicate 5 [])
    (implications (predicate 5 []) (predicate 9 (number 1 ∷ number 1 ∷ [])) (predicate 9 (number 1 ∷ number 2 ∷ [])))
    (implications (predicate 5 []) (predicate 9 (number 2 ∷ number 1 ∷ [])) (predicate 9 (number 2 ∷ number 2 ∷ [])))
equal-row = refl

-- a condition is a formula, whose own conditionals go
condition-row : without_ifs (predicate 9 (conditional (equals (conditional (predicate 5 []) (number 1) (number 2)) (number 0)) (number 3) (number 4) ∷ []))
    ≡ implications (implications (predicate 5 []) (equals (number 1) (number 0)) (equals (number 2) (number 0))) (predicate 9 (number 3 ∷ [])) (predicate 9 (number 4 ∷ []))
condition-row = refl

-- a conditional formula, under a connective
formula-row : without_ifs (Two (HJoin Or) (conditional (predicate 5 []) (predicate 6 []) (Leaf HTrue)) (predicate 7 []))
    ≡ Two (HJoin Or) (Two (HJoin And) (implies (predicate 5 []) (predicate 6 [])) (implies (neg (predicate 5 [])) (Leaf HTrue))) (predicate 7 [])
formula-row = refl
