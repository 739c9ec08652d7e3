-- When two closed expressions agree over a list of pairs: the congruence closure of the pairs,
-- through each operator of terms and formulas. The body of a quantifier is asked at a new
-- parameter, that of a `let` at its value, and that of a branch at the terms for its pattern's
-- variables.
use Rattle.std.specs.Prelude.{◌≡◌, ◌⊎◌, ℕ, ◌+◌, zero, suc, List, [], ◌∷◌, length, All, Option, Some, None, IsSomeAnd, Contains}
use Rattle.trees.specs.Tree.{Tree, Leaf, One, Two, Three, Head, HCell, HEnd, HFun, HPred, HEq, HNot, HJoin, HForall, HExists, HLet, HIf, HCase, HArm}
use Rattle.trees.specs.Binding.{inst, inst_many, Param}
use Rattle.trees.specs.Sorts.{type_of}
use Rattle.tasks.specs.Task.{TaskTree}
use Rattle.tasks.specs.MatchTests.{test, bind}
use Rattle.congruence.specs.kernel.rules.Forms.{negated, connected, universal, existential, equation_sides, let_of, if_of, application_parts}

-- the first member of a list and the others
abbrev pub cell_parts : Tree → Option (Tree × Tree)
cell_parts (Two HCell a b) = Some (a, b)
cell_parts _ = None

-- the pattern and the body of a branch
abbrev pub arm_parts : Tree → Option (Tree × Tree)
arm_parts (Two HArm p a) = Some (p, a)
arm_parts _ = None

-- the scrutinee and the branches of a `match`
abbrev pub case_parts : Tree → Option (Tree × Tree)
case_parts (Two HCase s arms) = Some (s, arms)
case_parts _ = None

-- a predicate's symbol, types and arguments
abbrev pub predicate_parts : Tree → Option (ℕ × Tree × Tree)
predicate_parts (Two (HPred p) types args) = Some (p, types, args)
predicate_parts _ = None

-- the members of two lists, pair by pair
abbrev pub ArePaired : Tree → Tree → List (Tree × Tree) → Type 0
ArePaired (Two HCell a more) r ps =
    IsSomeAnd (cell_parts r) (λ p.
    (qs : List (Tree × Tree)) × ((ps ≡ (a, p.0) ∷ qs) × ArePaired more p.1 qs))
ArePaired (Leaf HEnd) r ps = (r ≡ Leaf HEnd) × (ps ≡ [])
ArePaired _ r ps = ⊥

-- a pair before others, where there are more branches
abbrev pub asked_first : Tree → Tree × Tree → List (Tree × Tree) → List (Tree × Tree)
asked_first (Two HCell a b) x ps = x ∷ ps
asked_first _ x ps = ps

-- Of two lists of branches with the same patterns, for two scrutinees: for each branch but the last
-- the tests, and for each branch the bodies at the terms for the pattern's variables.
abbrev pub ArePairedBranches : TaskTree → (s u : Tree) → Tree → Tree → List (Tree × Tree) → Type 0
ArePairedBranches t s u (Two HCell (Two HArm p a) more) r ps =
    IsSomeAnd (cell_parts r) (λ c.
    IsSomeAnd (arm_parts c.0) (λ b. (b.0 ≡ p) × ((qs : List (Tree × Tree))
    × ((ps ≡ asked_first more (test t p s, test t p u)
    ((inst_many a (bind t p s), inst_many b.1 (bind t p u)) ∷ qs))
    × ArePairedBranches t s u more c.1 qs))))
ArePairedBranches t s u (Leaf HEnd) r ps = (r ≡ Leaf HEnd) × (ps ≡ [])
ArePairedBranches t s u _ r ps = ⊥

abbrev pub OnePaired : Head → Tree → Tree → List (Tree × Tree) → Type 0
OnePaired HNot a r ps = IsSomeAnd (negated (Some r)) (λ b. ps ≡ (a, b) ∷ [])
OnePaired _ a r ps = ⊥

abbrev pub TwoPaired : TaskTree → ℕ → Head → Tree → Tree → Tree → List (Tree × Tree) → Type 0
TwoPaired t n (HJoin op) a c r ps =
    IsSomeAnd (connected (Some r)) (λ p. (p.0 ≡ op) × (ps ≡ (a, p.1) ∷ (c, p.2) ∷ []))
TwoPaired t n HEq a c r ps = IsSomeAnd (equation_sides (Some r))
    (λ p. (type_of p.0 ≡ type_of a) × (ps ≡ (a, p.0) ∷ (c, p.1) ∷ []))
TwoPaired t n (HPred k) types args r ps =
    IsSomeAnd (predicate_parts r) (λ p. (p.0 ≡ k) × ((p.1 ≡ types) × ArePaired args p.2 ps))
TwoPaired t n HForall ty a r ps =
    IsSomeAnd (universal (Some r))
    (λ p. (p.0 ≡ ty) × (ps ≡ (inst a (Param n ty), inst p.1 (Param n ty)) ∷ []))
TwoPaired t n HExists ty a r ps =
    IsSomeAnd (existential (Some r))
    (λ p. (p.0 ≡ ty) × (ps ≡ (inst a (Param n ty), inst p.1 (Param n ty)) ∷ []))
TwoPaired t n HLet v a r ps = IsSomeAnd (let_of r) (λ p. ps ≡ (inst a v, inst p.1 p.0) ∷ [])
TwoPaired t n HCase s arms r ps =
    IsSomeAnd (case_parts r) (λ p. ArePairedBranches t s p.0 arms p.1 ps)
TwoPaired t n _ a c r ps = ⊥

abbrev pub ThreePaired : Head → Tree → Tree → Tree → Tree → List (Tree × Tree) → Type 0
ThreePaired (HFun f) types args ty r ps =
    IsSomeAnd (application_parts r) (λ p. (p.0 ≡ f) × ((p.1 ≡ types) × ArePaired args p.2 ps))
ThreePaired HIf c a b r ps = IsSomeAnd (if_of r) (λ p. ps ≡ (c, p.0) ∷ (a, p.1) ∷ (b, p.2) ∷ [])
ThreePaired _ a b c r ps = ⊥

-- Two trees are of one operator, and these are their parts, pair by pair. A quantifier is opened at
-- the parameter of this number.
abbrev pub ArePartsOf : TaskTree → ℕ → Tree → Tree → List (Tree × Tree) → Type 0
ArePartsOf t n (Leaf h) r ps = ⊥
ArePartsOf t n (One h a) r ps = OnePaired h a r ps
ArePartsOf t n (Two h a c) r ps = TwoPaired t n h a c r ps
ArePartsOf t n (Three h a b c) r ps = ThreePaired h a b c r ps

-- the number of the next parameter under an operator
abbrev pub number_under : ℕ → Tree → ℕ
number_under n (Two HForall ty a) = n + 1
number_under n (Two HExists ty a) = n + 1
number_under n _ = n

-- Within so many levels, where the next parameter has this number: equal, a pair of the list, or of
-- one operator with parts that agree within one level less.
abbrev pub AgreeWithin : ℕ → TaskTree → List (Tree × Tree) → ℕ → Tree → Tree → Type 0
AgreeWithin zero t pairs n l r = ⊥
AgreeWithin (suc m) t pairs n l r =
    (l ≡ r) ⊎ (Contains pairs (l, r)
    ⊎ ((ps : List (Tree × Tree))
    × (ArePartsOf t n l r ps × All (λ p. AgreeWithin m t pairs (number_under n l) p.0 p.1) ps)))

-- two closed expressions agree, with no quantifier around them
abbrev pub AgreeOver : TaskTree → List (Tree × Tree) → Tree → Tree → Type 0
AgreeOver t pairs l r = (m : ℕ) × AgreeWithin m t pairs (length t.params) l r
