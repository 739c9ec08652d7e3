-- The table of rules (tableau calculus on left-sided sequents, with a linear leaf over the
-- integers).
use Rattle.std.specs.Prelude.{◌≡◌, ◌≢◌, ℕ, pos, ◌-◌, ◌^◌, ◌+ℤ◌, ◌<ℤ◌, List, [], ◌∷◌, ◌++◌, map, length, slice_get, All, Contains, Option, Some, None, IsSomeAnd, IsTrue, Bool, true, false}
use Rattle.std.specs.Option.{option_and_then}
use Rattle.trees.specs.declared.Op.{Op}
use Rattle.trees.specs.declared.Op.TheVariants.{And, AndThen, Or, OrElse, Imp, Iff}
use Rattle.trees.specs.declared.Sort.TheVariants.{Term, Formula}
use Rattle.trees.specs.declared.ints.Ints.{Ints}
use Rattle.trees.specs.Tree.{Tree, Leaf, Two, HEnd, HTrue, HFalse, HNum, HCase}
use Rattle.trees.specs.Binding.{inst, inst_many, inst_types, Param}
use Rattle.trees.specs.Facts.{has_param}
use Rattle.trees.specs.Sorts.{sort_of, type_of, int_type}
use Rattle.tasks.specs.Task.{TaskTree, ConstructorTree, props, neg, declared, symbol_or}
use Rattle.tasks.specs.Roles.{RoleTree, DefinedRole, InductiveRole, AlgebraicRole, ProjectionRole, role, is_constructor}
use Rattle.tasks.specs.Inversion.{inversion}
use Rattle.tasks.specs.Vocabulary.{of_task}
use Rattle.tasks.specs.Typing.{TypedUnder, members}
use Rattle.tasks.specs.Valid.{IsGround}
use Rattle.tasks.specs.MatchTests.{bind, test, rebuilt}
use Rattle.linear_leaf.specs.Linear.{ClosesLinear}
use Rattle.rules.specs.Trees.{RuleTree, RFalse, RNotTrue, RClash, RIrrefl, RDistinct, RLinear, RNotNot, RAnd, RNotAnd, RAndThen, RNotAndThen, ROr, RNotOr, ROrElse, RNotOrElse, RImp, RNotImp, RIff, RNotIff, RForall, RNotForall, RExists, RNotExists, RCut, RKeep, RRefl, RReplace, RLetDef, RIfDef, RMatchDef, RFact, RDef, RClause, RInv, RCase, RInject, RProject, RTrichotomy, RBound}
use Rattle.rules.specs.Forms.{negated, connected, universal, existential, equation_sides, let_of, if_of, match_of, application_parts, type_applied, equal, alike, by_cases, comparison}

-- The premises' sequents are the step's own with these formulas after it.
abbrev pub Adds : List Tree → List (List Tree) → List (List Tree) → Type 0
Adds s ps added = ps ≡ map (λ x. s ++ x) added

-- there is one premise, and it is so
abbrev pub Only : List (List Tree) → (List Tree → Type 0) → Type 0
Only (q ∷ []) P = P q
Only _ P = ⊥

-- what a connective gives where it holds
abbrev pub where_true : Op → Tree → Tree → List (List Tree)
where_true And a b = (a ∷ b ∷ []) ∷ []
where_true AndThen a b = (a ∷ b ∷ []) ∷ []
where_true Or a b = (a ∷ []) ∷ (b ∷ []) ∷ []
where_true OrElse a b = (a ∷ []) ∷ (b ∷ []) ∷ []
where_true Imp a b = (neg a ∷ []) ∷ (b ∷ []) ∷ []
where_true Iff a b = (a ∷ b ∷ []) ∷ (neg a ∷ neg b ∷ []) ∷ []

-- what it gives where its negation holds
abbrev pub where_false : Op → Tree → Tree → List (List Tree)
where_false And a b = (neg a ∷ []) ∷ (neg b ∷ []) ∷ []
where_false AndThen a b = (neg a ∷ []) ∷ (neg b ∷ []) ∷ []
where_false Or a b = (neg a ∷ neg b ∷ []) ∷ []
where_false OrElse a b = (neg a ∷ neg b ∷ []) ∷ []
where_false Imp a b = (a ∷ neg b ∷ []) ∷ []
where_false Iff a b = (a ∷ neg b ∷ []) ∷ (neg a ∷ b ∷ []) ∷ []

abbrev pub Holding : Op → List Tree → Option Tree → List (List Tree) → Type 0
Holding op s f ps = IsSomeAnd (connected f) (λ p. (p.0 ≡ op) × Adds s ps (where_true op p.1 p.2))

abbrev pub Failing : Op → List Tree → Option Tree → List (List Tree) → Type 0
Failing op s f ps = IsSomeAnd (connected f) (λ p. (p.0 ≡ op) × Adds s ps (where_false op p.1 p.2))

-- no formula has a parameter of this number
abbrev pub IsNew : ℕ → List Tree → Type 0
IsNew n s = All (λ a. has_param a n ≡ false) s

abbrev pub signed : Bool → Tree → Tree
signed true a = a
signed false a = neg a

-- the body of a quantifier at a term of its type, as it is or negated
abbrev pub AtTerm : Option (Tree × Tree) → List Tree → Tree → Bool → List (List Tree) → Type 0
AtTerm q s t sign ps =
    IsSomeAnd q (λ p. (type_of t ≡ Some p.0) × Adds s ps ((signed sign (inst p.1 t) ∷ []) ∷ []))

-- the body of a quantifier at a parameter that the sequent doesn't have
abbrev pub AtNew : Option (Tree × Tree) → List Tree → ℕ → Bool → List (List Tree) → Type 0
AtNew q s n sign ps =
    IsSomeAnd q (λ p. IsNew n s × Adds s ps ((signed sign (inst p.1 (Param n p.0)) ∷ []) ∷ []))

-- a formula of the task, but that its variable 0 may be open, at this type
pub record IsTemplate (t : TaskTree) (ty e : Tree) : Type 0 where
  pub sort : sort_of e ≡ Formula
  pub typed : TypedUnder (of_task t) (ty ∷ []) e
  pub ground : IsGround e

-- two constructors of algebraic declarations on arguments, so related
abbrev pub Constructors : TaskTree → (ℕ → ℕ → Type 0) → Tree → Tree
    → (List Tree → List Tree → Type 0) → Type 0
Constructors t R a b P =
    IsSomeAnd (application_parts a)
    (λ p. IsSomeAnd (application_parts b)
    (λ q. IsTrue (is_constructor (role t p.0)) × IsTrue (is_constructor (role t q.0))
    × R p.0 q.0 × P (members p.2) (members q.2)))

abbrev pub equal_each : List Tree → List Tree → List Tree
equal_each (t ∷ ts) (u ∷ us) = equal t u ∷ equal_each ts us
equal_each _ _ = []

-- the two kinds of equation by which a `match` is unfolded, by the test and the bound terms of its
-- first pattern: with one branch, and with more
abbrev pub unfolded : Tree → List Tree → Tree → Tree → Tree → Tree → Tree
unfolded c ts e s a (Leaf HEnd) = alike e (inst_many a ts)
unfolded c ts e s a rest = by_cases c e (inst_many a ts) (Two HCase s rest)

-- the equation of a defined symbol, the clauses of an inductive predicate, and the constructors of
-- an algebraic type
abbrev pub equation : RoleTree → Option Tree
equation (DefinedRole e) = Some e
equation _ = None

abbrev pub clauses : RoleTree → Option (List Tree)
clauses (InductiveRole cs) = Some cs
clauses _ = None

abbrev pub constructors : RoleTree → Option (List ConstructorTree)
constructors (AlgebraicRole cs) = Some cs
constructors _ = None

-- the constructor of a projection and the place of its field
abbrev pub projected : RoleTree → Option (ℕ × ℕ)
projected (ProjectionRole c j) = Some (c.symbol, j)
projected _ = None

-- as many types as the symbol has type variables
abbrev pub IsAtTypes : TaskTree → ℕ → List Tree → Type 0
IsAtTypes t k types = length types ≡ (symbol_or t.symbols k).vars

abbrev pub DeclaresFour : TaskTree → ℕ → ℕ → ℕ → ℕ → Type 0
DeclaresFour t a b c d = Contains (declared t) a × Contains (declared t) b × Contains (declared t) c
    × Contains (declared t) d

-- the task declares the eight symbols of int.Int
abbrev pub DeclaresInts : TaskTree → Ints → Type 0
DeclaresInts t z = DeclaresFour t z.neg z.add z.sub z.mul × DeclaresFour t z.lt z.le z.gt z.ge

-- One row a rule. `s` is the step's sequent and `ps` are the sequents of its premises: what the
-- rule asks of its places and trees, and what each premise has after `s`. That a rule's terms,
-- formulas and types are those of the task is asked of all rules alike, in `IsRight`.
abbrev pub IsRuleRow : TaskTree → List Tree → RuleTree → List (List Tree) → Type 0
IsRuleRow t s (RFalse i) ps = (slice_get s i ≡ Some (Leaf HFalse)) × Adds s ps []
IsRuleRow t s (RNotTrue i) ps = (slice_get s i ≡ Some (neg (Leaf HTrue))) × Adds s ps []
IsRuleRow t s (RClash i j) ps =
    IsSomeAnd (negated (slice_get s j)) (λ a. (slice_get s i ≡ Some a) × Adds s ps [])
IsRuleRow t s (RIrrefl i) ps =
    IsSomeAnd (equation_sides (negated (slice_get s i))) (λ e. (e.0 ≡ e.1) × Adds s ps [])
IsRuleRow t s (RDistinct i) ps =
    IsSomeAnd (equation_sides (slice_get s i))
    (λ e. Constructors t (λ c d. c ≢ d) e.0 e.1 (λ as' bs. Adds s ps []))
IsRuleRow t s (RLinear uses) ps =
    IsSomeAnd t.ints (λ z. DeclaresInts t z × ClosesLinear z s uses × Adds s ps [])
IsRuleRow t s (RNotNot i) ps =
    IsSomeAnd (negated (negated (slice_get s i))) (λ a. Adds s ps ((a ∷ []) ∷ []))
IsRuleRow t s (RAnd i) ps = Holding And s (slice_get s i) ps
IsRuleRow t s (RNotAnd i) ps = Failing And s (negated (slice_get s i)) ps
IsRuleRow t s (RAndThen i) ps = Holding AndThen s (slice_get s i) ps
IsRuleRow t s (RNotAndThen i) ps = Failing AndThen s (negated (slice_get s i)) ps
IsRuleRow t s (ROr i) ps = Holding Or s (slice_get s i) ps
IsRuleRow t s (RNotOr i) ps = Failing Or s (negated (slice_get s i)) ps
IsRuleRow t s (ROrElse i) ps = Holding OrElse s (slice_get s i) ps
IsRuleRow t s (RNotOrElse i) ps = Failing OrElse s (negated (slice_get s i)) ps
IsRuleRow t s (RImp i) ps = Holding Imp s (slice_get s i) ps
IsRuleRow t s (RNotImp i) ps = Failing Imp s (negated (slice_get s i)) ps
IsRuleRow t s (RIff i) ps = Holding Iff s (slice_get s i) ps
IsRuleRow t s (RNotIff i) ps = Failing Iff s (negated (slice_get s i)) ps
IsRuleRow t s (RForall i e) ps = AtTerm (universal (slice_get s i)) s e true ps
IsRuleRow t s (RNotForall i n) ps = AtNew (universal (negated (slice_get s i))) s n false ps
IsRuleRow t s (RExists i n) ps = AtNew (existential (slice_get s i)) s n true ps
IsRuleRow t s (RNotExists i e) ps = AtTerm (existential (negated (slice_get s i))) s e false ps
IsRuleRow t s (RCut a) ps = (sort_of a ≡ Formula) × Adds s ps ((a ∷ []) ∷ (neg a ∷ []) ∷ [])
IsRuleRow t s (RKeep places) ps = Only ps (λ q. map Some q ≡ map (slice_get s) places)
IsRuleRow t s (RRefl e) ps = (sort_of e ≡ Term) × Adds s ps ((equal e e ∷ []) ∷ [])
IsRuleRow t s (RReplace i j e) ps =
    IsSomeAnd (equation_sides (slice_get s i))
    (λ p. IsSomeAnd (type_of p.0) (λ ty. IsTemplate t ty e) × (slice_get s j ≡ Some (inst e p.0))
    × Adds s ps ((inst e p.1 ∷ []) ∷ []))
IsRuleRow t s (RLetDef e) ps =
    IsSomeAnd (let_of e) (λ p. Adds s ps ((alike e (inst p.1 p.0) ∷ []) ∷ []))
IsRuleRow t s (RIfDef e) ps =
    IsSomeAnd (if_of e) (λ p. Adds s ps ((by_cases p.0 e p.1 p.2 ∷ []) ∷ []))
IsRuleRow t s (RMatchDef e) ps =
    IsSomeAnd (match_of e) (λ p.
    Adds s ps ((unfolded (test t p.1 p.0) (bind t p.1 p.0) e p.0 p.2 p.3 ∷ []) ∷ []))
IsRuleRow t s (RFact k types) ps =
    IsSomeAnd (slice_get (props t) k)
    (λ p. (length types ≡ p.vars) × Adds s ps ((inst_types p.formula types ∷ []) ∷ []))
IsRuleRow t s (RDef k types) ps =
    IsSomeAnd (equation (role t k))
    (λ e. IsAtTypes t k types × Adds s ps ((inst_types e types ∷ []) ∷ []))
IsRuleRow t s (RClause k c types) ps =
    IsSomeAnd (option_and_then (λ cs. slice_get cs c) (clauses (role t k)))
    (λ a. IsAtTypes t k types × Adds s ps ((inst_types a types ∷ []) ∷ []))
IsRuleRow t s (RInv k types) ps =
    IsSomeAnd (clauses (role t k))
    (λ cs. IsAtTypes t k types
    × Adds s ps ((inst_types (inversion k (symbol_or t.symbols k) cs) types ∷ []) ∷ []))
IsRuleRow t s (RCase e) ps = IsSomeAnd (type_applied (type_of e))
    (λ y. IsSomeAnd (constructors (role t y.0))
    (λ cs. Adds s ps (map (λ (c : ConstructorTree).
    equal e (rebuilt t c.symbol c.projections y.1 e) ∷ []) cs)))
IsRuleRow t s (RInject i) ps =
    IsSomeAnd (equation_sides (slice_get s i))
    (λ e. Constructors t (λ c d. c ≡ d) e.0 e.1 (λ as' bs. Adds s ps (equal_each as' bs ∷ [])))
IsRuleRow t s (RProject e) ps =
    IsSomeAnd (application_parts e)
    (λ p. IsSomeAnd (projected (role t p.0))
    (λ y. IsSomeAnd (slice_get (members p.2) 0)
    (λ x. IsSomeAnd (application_parts x)
    (λ q. (q.0 ≡ y.0) × IsSomeAnd (slice_get (members q.2) y.1)
    (λ a. Adds s ps ((equal e a ∷ []) ∷ []))))))
IsRuleRow t s (RTrichotomy a b) ps =
    (type_of a ≡ Some int_type) × (type_of b ≡ Some int_type)
    × IsSomeAnd t.ints (λ z. DeclaresInts t z
    × Adds s ps ((comparison z.lt a b ∷ []) ∷ (equal a b ∷ []) ∷ (comparison z.lt b a ∷ []) ∷ []))
IsRuleRow t s (RBound e n) ps =
    (type_of e ≡ Some int_type) × (n <ℤ pos (2 ^ 127 - 1))
    × IsSomeAnd t.ints (λ z. DeclaresInts t z
    × Adds s ps ((comparison z.le e (Leaf (HNum n)) ∷ [])
    ∷ (comparison z.le (Leaf (HNum (n +ℤ pos 1))) e ∷ []) ∷ []))
