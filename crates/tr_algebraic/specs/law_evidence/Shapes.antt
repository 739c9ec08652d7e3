-- The shapes of the laws of algebraic types, at types: quantifiers over an equation of a projection
-- of a constructor's application with the argument, or over the negation of an equation of two
-- constructors' applications; a quantifier over the cases of a term.
use Rattle.std.specs.Prelude.{◌≡◌, ◌≢◌, ◌⊎◌, ℕ, zero, suc, List, [], ◌∷◌, map, slice_get, Some, IsTrue}
use Rattle.tasks.specs.trees.declared.Op.TheVariants.{Or}
use Rattle.tasks.specs.trees.Tree.{Tree, Leaf, One, Two, Three, HTyApp, HCell, HFun, HEq, HFalse, HNot, HJoin, HForall}
use Rattle.tasks.specs.trees.Binding.{inst, Param}
use Rattle.tasks.specs.trees.Sorts.{type_of}
use Rattle.tasks.specs.Task.{TaskTree, ConstructorTree, neg}
use Rattle.tasks.specs.Roles.{AlgebraicRole, ProjectionRole, role, is_constructor}
use Rattle.tasks.specs.Typing.{members}
use Rattle.tasks.specs.MatchTests.{rebuilt}
use Rattle.kernel.specs.rules.Forms.{equal}

-- how many quantifiers a formula begins with
abbrev pub leading_quantifiers : Tree → ℕ
leading_quantifiers (Two HForall ty b) = suc (leading_quantifiers b)
leading_quantifiers _ = 0

-- under so many quantifiers it is so
abbrev pub Quantified : (Tree → Type 0) → ℕ → Tree → Type 0
Quantified P zero e = P e
Quantified P (suc n) e = (ty : Tree) × ((b : Tree) × ((e ≡ Two HForall ty b) × Quantified P n b))

-- a projection of its constructor's application equals the argument in its place
pub record IsProjected (t : TaskTree) (e : Tree) : Type 0 where
  pub projection : ℕ
  pub place : ℕ
  pub con : ConstructorTree
  pub types : Tree
  pub rest : Tree
  pub type : Tree
  pub own : Tree
  pub args : Tree
  pub result : Tree
  pub value : Tree
  pub is : e ≡ equal (Three (HFun projection) types
      (Two HCell (Three (HFun con.symbol) own args result) rest) type) value
  pub made : role t projection ≡ ProjectionRole con place
  pub there : slice_get (members args) place ≡ Some value

-- the applications of two constructors aren't equal
pub record AreApart (t : TaskTree) (e : Tree) : Type 0 where
  pub first : ℕ
  pub second : ℕ
  pub types : Tree
  pub args : Tree
  pub type : Tree
  pub own : Tree
  pub others : Tree
  pub result : Tree
  pub is : e ≡ neg (equal (Three (HFun first) types args type)
      (Three (HFun second) own others result))
  pub first_made : IsTrue (is_constructor (role t first))
  pub second_made : IsTrue (is_constructor (role t second))
  pub different : first ≢ second

-- what is below the quantifiers of a law of projections, or of distinctness
abbrev pub IsProjectedOrApart : TaskTree → Tree → Type 0
IsProjectedOrApart t e = IsProjected t e ⊎ AreApart t e

-- it begins with a quantifier, or is an equation or a negation
abbrev pub BeginsOpenLaw : Tree → Type 0
BeginsOpenLaw (Two HForall ty b) = Unit {0}
BeginsOpenLaw (Two HEq a b) = Unit {0}
BeginsOpenLaw (One HNot a) = Unit {0}
BeginsOpenLaw _ = ⊥

-- the formulas of a disjunction that is nested to the right
abbrev pub disjuncts : Tree → List Tree
disjuncts (Two (HJoin Or) a b) = a ∷ disjuncts b
disjuncts (Leaf HFalse) = []
disjuncts e = e ∷ []

-- what the cases of a term of an algebraic type say of it
abbrev pub cases_at : TaskTree → Tree → List ConstructorTree → Tree → List Tree
cases_at t types cons x =
    map (λ (c : ConstructorTree). equal x (rebuilt t c.symbol c.projections types x)) cons

-- a term of an algebraic type, and a disjunction of its cases
pub record HasCasesOf (t : TaskTree) (x whole : Tree) : Type 0 where
  pub symbol : ℕ
  pub types : Tree
  pub cons : List ConstructorTree
  pub type : type_of x ≡ Some (One (HTyApp symbol) types)
  pub made : role t symbol ≡ AlgebraicRole cons
  pub cases : disjuncts whole ≡ cases_at t types cons x

-- it begins with a quantifier
abbrev pub BeginsCases : Tree → Type 0
BeginsCases (Two HForall ty b) = Unit {0}
BeginsCases _ = ⊥

-- each value of a type is one of its constructors on its own fields
pub record AreCases (t : TaskTree) (e : Tree) : Type 0 where
  pub symbol : ℕ
  pub types : Tree
  pub cons : List ConstructorTree
  pub body : Tree
  pub is : e ≡ Two HForall (One (HTyApp symbol) types) body
  pub made : role t symbol ≡ AlgebraicRole cons
  pub cases : (n : ℕ) → disjuncts (inst body (Param n (One (HTyApp symbol) types)))
      ≡ cases_at t types cons (Param n (One (HTyApp symbol) types))
