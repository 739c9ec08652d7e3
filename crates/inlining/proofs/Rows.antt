-- Worked rows by computation: one definition with_uses_unfolded, which bodies are trivial, and tasks.
use Rattle.std.proofs.Common.{◌≡◌, ℕ, List, [], ◌∷◌, None, pos, true, false, refl, codes, Ok}
use Rattle.tasks.specs.trees.Tree.{Tree, Leaf, Two, Three, HTyVar, HEnd, HNum, HFun, HPred, HEq, HTrue, HJoin, HForall, HExists, HIf, HLet}
use Rattle.tasks.specs.trees.Binding.{Bound, Param}
use Rattle.tasks.specs.trees.Sorts.{int_type}
use Rattle.tasks.specs.trees.declared.Op.TheVariants.{Iff, Or}
use Rattle.tasks.specs.Task.{DefinitionTree, BodyTree, Defines, Says, DeclarationTree, TaskTree}
use Rattle.tasks.specs.Equations.{cells}
use Rattle.inlining.specs.declared.modes.InlineMode.TheVariants as mode
use Rattle.checks.specs.recursive_groups.Groups.{is_recursive}
use Rattle.inlining.specs.Inlining.{with_uses_unfolded, inlined, is_trivial, inlined_task, inline_equation}

abbrev bound : ℕ → Tree
bound i = Bound i int_type

abbrev number : ℕ → Tree
number n = Leaf (HNum (pos n))

abbrev function : ℕ → List Tree → Tree
function f args = Three (HFun f) (Leaf HEnd) (cells args) int_type

abbrev predicate : ℕ → List Tree → Tree
predicate p args = Two (HPred p) (Leaf HEnd) (cells args)

abbrev equals : Tree → Tree → Tree
equals a b = Two HEq a b

abbrev forall_int : Tree → Tree
forall_int a = Two HForall int_type a

-- `function less (x y: int) : int = x - y`, 3 being `-`
abbrev less : DefinitionTree
less = record { symbol = 10; equation = forall_int (forall_int (equals (function 10 (bound 1 ∷ bound 0 ∷ [])) (function 3 (bound 1 ∷ bound 0 ∷ [])))) }

-- arguments in order: `less 7 c0` is `7 - c0`
order-row : with_uses_unfolded less (function 10 (number 7 ∷ Param 0 int_type ∷ [])) ≡ function 3 (number 7 ∷ Param 0 int_type ∷ [])
order-row = refl

-- arguments first: `less (less 1 2) 3` is `(1 - 2) - 3`
inner-row : with_uses_unfolded less (function 10 (function 10 (number 1 ∷ number 2 ∷ []) ∷ number 3 ∷ [])) ≡ function 3 (function 3 (number 1 ∷ number 2 ∷ []) ∷ number 3 ∷ [])
inner-row = refl

-- `predicate above (x: int) = exists y. x < y`, 5 being `<`
abbrev above : DefinitionTree
above = record { symbol = 11; equation = forall_int (Two (HJoin Iff) (predicate 11 (bound 0 ∷ [])) (Two HExists int_type (predicate 5 (bound 1 ∷ bound 0 ∷ [])))) }

-- an open argument is raised under the body's quantifier: `forall y. above (y + 1)` is `forall y. exists z. y + 1 < z`
above-row : with_uses_unfolded above (forall_int (predicate 11 (function 2 (bound 0 ∷ number 1 ∷ []) ∷ []))) ≡ forall_int (Two HExists int_type (predicate 5 (function 2 (bound 1 ∷ number 1 ∷ []) ∷ bound 0 ∷ [])))
above-row = refl

-- `function first (x: 'a) (y: 'b) : 'a = x`, at `int` and `int`: under a `let`, in a condition
abbrev alpha : Tree
alpha = Leaf (HTyVar 0)

abbrev beta : Tree
beta = Leaf (HTyVar 1)

abbrev first : DefinitionTree
first = record {
  symbol = 12;
  equation = Two HForall alpha (Two HForall beta (equals (Three (HFun 12) (cells (alpha ∷ beta ∷ [])) (cells (Bound 1 alpha ∷ Bound 0 beta ∷ [])) alpha) (Bound 1 alpha)));
}

abbrev first_of : Tree → Tree → Tree
first_of a b = Three (HFun 12) (cells (int_type ∷ int_type ∷ [])) (cells (a ∷ b ∷ [])) int_type

first-row : with_uses_unfolded first (Two HLet (first_of (number 1) (number 2)) (Three HIf (equals (first_of (bound 0) (number 3)) (number 4)) (Leaf HTrue) (Leaf HTrue)))
    ≡ Two HLet (number 1) (Three HIf (equals (bound 0) (number 4)) (Leaf HTrue) (Leaf HTrue))
first-row = refl

-- `predicate same (x: 'a) (y: 'a) = x = y`: the types of the body are those of the use
abbrev same : DefinitionTree
same = record {
  symbol = 13;
  equation = Two HForall alpha (Two HForall alpha (Two (HJoin Iff) (Two (HPred 13) (cells (alpha ∷ [])) (cells (Bound 1 alpha ∷ Bound 0 alpha ∷ []))) (Two HForall alpha (equals (Bound 2 alpha) (Bound 1 alpha)))));
}

types-row : with_uses_unfolded same (Two (HPred 13) (cells (int_type ∷ [])) (cells (number 1 ∷ number 2 ∷ []))) ≡ Two HForall int_type (equals (number 1) (number 2))
types-row = refl

-- ---- from the last to the first
-- `constant one : int = 1`, `constant two : int = one + one`
abbrev one : DefinitionTree
one = record { symbol = 14; equation = equals (function 14 []) (number 1) }

abbrev two : DefinitionTree
two = record { symbol = 15; equation = equals (function 15 []) (function 2 (function 14 [] ∷ function 14 [] ∷ [])) }

order-of-definitions-row : inlined (one ∷ two ∷ []) (function 15 []) ≡ function 2 (number 1 ∷ number 1 ∷ [])
order-of-definitions-row = refl

-- ---- trivial bodies: a parameter, an integer, one symbol or `=` on distinct parameters, or on none
parameter-row : is_trivial (bound 3) ≡ true
parameter-row = refl

literal-row : is_trivial (number 12) ≡ true
literal-row = refl

-- truth values are no integers
truth-row : is_trivial (Leaf HTrue) ≡ false
truth-row = refl

symbol-row : is_trivial (function 3 (bound 1 ∷ bound 0 ∷ [])) ≡ true
symbol-row = refl

predicate-row : is_trivial (predicate 5 (bound 0 ∷ bound 2 ∷ bound 1 ∷ [])) ≡ true
predicate-row = refl

constant-row : is_trivial (function 14 []) ≡ true
constant-row = refl

twice-row : is_trivial (function 3 (bound 1 ∷ bound 1 ∷ [])) ≡ false
twice-row = refl

third-row : is_trivial (predicate 5 (bound 0 ∷ bound 2 ∷ bound 0 ∷ [])) ≡ false
third-row = refl

argument-row : is_trivial (function 3 (bound 1 ∷ number 1 ∷ [])) ≡ false
argument-row = refl

equation-row : is_trivial (equals (bound 0) (bound 1)) ≡ true
equation-row = refl

itself-row : is_trivial (equals (bound 0) (bound 0)) ≡ false
itself-row = refl

number-equation-row : is_trivial (equals (bound 0) (number 1)) ≡ false
number-equation-row = refl

negation-row : is_trivial (Two HForall int_type (bound 0)) ≡ false
negation-row = refl

-- ---- tasks
abbrev declares : BodyTree → DeclarationTree
declares b = record { theory = codes "T"; name = codes "d"; vars = 0; body = b }

abbrev task : List BodyTree → Tree → TaskTree
task bodies goal = record { symbols = []; ints = None; rigid = []; decls = declarations bodies; params = []; locals = equals (function 14 []) (function 15 []) ∷ []; goal = goal }
  where
    declarations : List BodyTree → List DeclarationTree
    declarations [] = []
    declarations (b ∷ bs) = declares b ∷ declarations bs

-- all formulas but the definitions' own equations: `two` is used in no equation, and `one` in that of `two`, which stays
all-row : inline_equation mode.All (task (Defines (one ∷ []) ∷ Defines (two ∷ []) ∷ Says (equals (function 15 []) (number 2)) ∷ []) (equals (function 15 []) (function 14 [])))
    ≡ Ok (record (task (Defines (one ∷ []) ∷ Defines (two ∷ []) ∷ Says (equals (function 2 (number 1 ∷ number 1 ∷ [])) (number 2)) ∷ []) (equals (function 2 (number 1 ∷ number 1 ∷ [])) (number 1))) {
      locals = equals (number 1) (function 2 (number 1 ∷ number 1 ∷ [])) ∷ [];
    } ∷ [])
all-row = refl

-- the goal alone
goal-row : inlined_task mode.Goal (task (Defines (one ∷ []) ∷ Defines (two ∷ []) ∷ Says (equals (function 15 []) (number 2)) ∷ []) (equals (function 15 []) (function 14 [])))
    ≡ task (Defines (one ∷ []) ∷ Defines (two ∷ []) ∷ Says (equals (function 15 []) (number 2)) ∷ []) (equals (function 2 (number 1 ∷ number 1 ∷ [])) (number 1))
goal-row = refl

-- `constant three : int = two` is trivial as it is written, though the body of `two` isn't: `three` becomes `two`, which stays
abbrev three : DefinitionTree
three = record { symbol = 16; equation = equals (function 16 []) (function 15 []) }

trivial-row : (inlined_task mode.Trivial (task (Defines (one ∷ []) ∷ Defines (two ∷ []) ∷ Defines (three ∷ []) ∷ []) (equals (function 16 []) (function 14 [])))).goal ≡ equals (function 15 []) (number 1)
trivial-row = refl

-- a recursive definition stays, and so does each member of its group
abbrev loops : DefinitionTree
loops = record { symbol = 17; equation = forall_int (Two (HJoin Iff) (predicate 17 (bound 0 ∷ [])) (Two (HJoin Or) (predicate 17 (bound 0 ∷ [])) (Leaf HTrue))) }

abbrev beside : DefinitionTree
beside = record { symbol = 18; equation = forall_int (Two (HJoin Iff) (predicate 18 (bound 0 ∷ [])) (Leaf HTrue)) }

recursive-row : (inlined_task mode.All (task (Defines (loops ∷ beside ∷ []) ∷ Defines (above ∷ []) ∷ []) (Two (HJoin Or) (predicate 17 (number 1 ∷ [])) (Two (HJoin Or) (predicate 18 (number 1 ∷ [])) (predicate 11 (number 1 ∷ [])))))).goal
    ≡ Two (HJoin Or) (predicate 17 (number 1 ∷ [])) (Two (HJoin Or) (predicate 18 (number 1 ∷ [])) (Two HExists int_type (predicate 5 (number 1 ∷ bound 0 ∷ []))))
recursive-row = refl

-- members of a group that isn't recursive, each in the other's formulas
group-row : is_recursive (one ∷ less ∷ []) ≡ false
group-row = refl
