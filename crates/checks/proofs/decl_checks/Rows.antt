-- Worked rows by computation: clauses, uses in recursive definitions, choices of arguments, finite values.
use Rattle.std.proofs.Common.{◌≡◌, ◌⊎◌, ℕ, zero, suc, false, IsTrue, List, [], ◌∷◌, None, inl, inr, refl, arith, rules, codes}
use Rattle.trees.specs.Tree.{Tree, Leaf, One, Two, Three, HTyApp, HEnd, HBound, HFun, HPred, HEq, HNot, HJoin, HForall, HCase, HArm, HPatVar, HPatCon}
use Rattle.trees.specs.Sorts.{int_type}
use Rattle.trees.specs.declared.Op.TheVariants.{Imp}
use Rattle.tasks.specs.declared.signature.SymbolKind.TheVariants.{Function, Constructor}
use Rattle.tasks.specs.Task.{SymbolTree, DefinitionTree, AlgebraicTree}
use Rattle.tasks.specs.Equations.{cells}
use Rattle.checks.specs.decl_checks.Clauses.{HasClauseForm, IsPositiveClause}
use Rattle.checks.specs.declared.decl_checks.standing.Standing.TheVariants.{Other, Whole, Inside}
use Rattle.checks.specs.decl_checks.Structure.{learned, AllPass, choices, IsStructural}
use Rattle.checks.specs.decl_checks.Values.{HaveValues, IsInhabited}

abbrev predicate : ℕ → List Tree → Tree
predicate p args = Two (HPred p) (Leaf HEnd) (cells args)

abbrev implies : Tree → Tree → Tree
implies a b = Two (HJoin Imp) a b

abbrev bound : ℕ → Tree
bound i = One (HBound i) int_type

-- `inductive p = c: q`: the conclusion is of another predicate
other-row : HasClauseForm (1 ∷ []) 1 0 (Leaf HEnd) (predicate 2 []) → ⊥
other-row h = let e : 2 ≡ 1 = h.conclusion.0 in omega (arith, e)

-- `inductive p = c: not p -> p` has the form, but p is under a negation
negated-row : IsPositiveClause (1 ∷ []) (implies (One HNot (predicate 1 [])) (predicate 1 [])) → ⊥
negated-row h = h.0.0 (0, omega arith, refl)

-- the variables of `Cons y r` are inside what is matched, that of `z` stands as it does
cons-row : learned [] (Whole ∷ []) (bound 0) (Three (HPatCon 3) (Leaf HEnd) (cells (One HPatVar int_type ∷ One HPatVar int_type ∷ [])) int_type) ≡ Inside ∷ Inside ∷ []
cons-row = refl

variable-row : learned [] (Whole ∷ []) (bound 0) (One HPatVar int_type) ≡ Whole ∷ []
variable-row = refl

-- a tuple that is written out goes component by component
abbrev tuple : SymbolTree
tuple = record { theory = codes "BuiltIn"; name = codes "Tuple2"; kind = Constructor; vars = 2; args = []; result = None }

tuple-row : learned (tuple ∷ []) (Whole ∷ Other ∷ []) (Three (HFun 0) (Leaf HEnd) (cells (bound 0 ∷ bound 1 ∷ [])) int_type)
    (Three (HPatCon 0) (Leaf HEnd) (cells (Three (HPatCon 3) (Leaf HEnd) (cells (One HPatVar int_type ∷ [])) int_type ∷ One HPatVar int_type ∷ [])) int_type) ≡ Other ∷ Inside ∷ []
tuple-row = refl

-- twelve predicates of two parameters have 4,096 choices, thirteen have more
abbrev binary : SymbolTree
binary = record { theory = codes "T"; name = codes "p"; kind = Function; vars = 0; args = int_type ∷ int_type ∷ []; result = None }

abbrev def : DefinitionTree
def = record { symbol = 0; equation = Leaf HEnd }

abbrev twelve : List DefinitionTree
twelve = def ∷ def ∷ def ∷ def ∷ def ∷ def ∷ def ∷ def ∷ def ∷ def ∷ def ∷ def ∷ []

twelve-row : choices (binary ∷ []) twelve ≡ 4096
twelve-row = refl

thirteen-row : choices (binary ∷ []) (def ∷ twelve) ≡ 8192
thirteen-row = refl

-- `function f (x: int) : int = f (g x)` isn't structural, and `function f (x: t) : t = match x with S y -> f y end` is
abbrev unary : SymbolTree
unary = record { theory = codes "T"; name = codes "f"; kind = Function; vars = 0; args = int_type ∷ []; result = None }

abbrev call : ℕ → Tree → Tree
call f arg = Three (HFun f) (Leaf HEnd) (cells (arg ∷ [])) int_type

abbrev defined_by : Tree → List DefinitionTree
defined_by body = record { symbol = 0; equation = Two HForall int_type (Two HEq (call 0 (bound 0)) body) } ∷ []

abbrev same : List DefinitionTree
same = defined_by (call 0 (call 1 (bound 0)))

same_at : (k place : ℕ) (ms : List (ℕ × ℕ)) → AllPass (unary ∷ []) ((k, place) ∷ ms) same ((k, place) ∷ ms) → ⊥
same_at k zero ms p = (let e = p.0.2.0.0 p.0.0 in cc)
same_at k (suc place) ms p = (let l = p.0.1 in omega arith)

same_by : (chosen : List (ℕ × ℕ)) → AllPass (unary ∷ []) chosen same chosen → ⊥
same_by [] p = p
same_by (m ∷ ms) p = same_at m.0 m.1 ms p

same-row : IsStructural (unary ∷ []) same → ⊥
same-row s = same_by s.chosen s.pass

smaller-row : IsStructural (unary ∷ []) (defined_by (Two HCase (bound 0) (cells (Two HArm (Three (HPatCon 3) (Leaf HEnd) (cells (One HPatVar int_type ∷ [])) int_type) (call 0 (bound 0)) ∷ []))))
smaller-row = record { chosen = (0, 0) ∷ []; pass = search rules }

-- `type t = A t` has no finite value, as the empty set is closed
abbrev only_itself : AlgebraicTree
only_itself = record { symbol = 1; cons = record { symbol = 2; fields = One (HTyApp 1) (Leaf HEnd) ∷ []; projections = 3 ∷ [] } ∷ [] }

no_value : (HaveValues (1 ∷ []) (λ k. false) (One (HTyApp 1) (Leaf HEnd) ∷ []) ⊎ ⊥) → IsTrue false
no_value (inl v) = v.0 (0, omega arith, refl)
no_value (inr v) = absurd v

itself-row : IsInhabited (only_itself ∷ []) 1 → ⊥
itself-row h = (let e = h (λ k. false) (no_value, tt) in cc)

-- `type t = A | B t` has one
abbrev with_base : AlgebraicTree
with_base = record { symbol = 1; cons = record { symbol = 2; fields = []; projections = [] } ∷ record { symbol = 3; fields = One (HTyApp 1) (Leaf HEnd) ∷ []; projections = 4 ∷ [] } ∷ [] }

base-row : IsInhabited (with_base ∷ []) 1
base-row set closed = closed.0 (inl tt)
