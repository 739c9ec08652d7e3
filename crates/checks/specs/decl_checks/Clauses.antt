-- The form of a clause of an inductive predicate, and where the predicates of its group may stand
-- (Why3 manual, "inductive predicates"): `forall ys. A1 -> .. -> An -> p ts`.
use Rattle.std.specs.Prelude.{◌≡◌, ℕ, List, Contains}
use Rattle.trees.specs.Tree.{Tree, Leaf, One, Two, Three, HPred, HJoin, HForall, HExists}
use Rattle.trees.specs.declared.Op.TheVariants.{And, AndThen, Or, OrElse, Imp}
use Rattle.trees.specs.Facts.{TyVarsBelow, leaf_below}
use Rattle.tasks.specs.Clauses.{TwoFree, IsFree}

-- what comes after the quantifiers of a clause
abbrev pub rule : Tree → Tree
rule (Two HForall a b) = rule b
rule e = e

-- what comes after the premises
abbrev pub conclusion : Tree → Tree
conclusion (Two (HJoin Imp) a b) = conclusion b
conclusion e = e

-- a predicate at these types
abbrev pub IsOfPredicate : ℕ → Tree → Tree → Type 0
IsOfPredicate k types (Two (HPred p) a b) = (p ≡ k) × (a ≡ types)
IsOfPredicate k types _ = ⊥

-- a predicate of the group at the top of a tree is at these types
abbrev pub TopStandsAtTypes : List ℕ → Tree → Tree → Type 0
TopStandsAtTypes group types (Two (HPred p) a b) = Contains group p → a ≡ types
TopStandsAtTypes group types _ = Unit {0}

-- each predicate of the group is at these types
abbrev pub StandAtTypes : List ℕ → Tree → Tree → Type 0
StandAtTypes group types (Leaf h) = Unit {0}
StandAtTypes group types (One h a) = StandAtTypes group types a
StandAtTypes group types (Two h a b) =
    TopStandsAtTypes group types (Two h a b) × StandAtTypes group types a
    × StandAtTypes group types b
StandAtTypes group types (Three h a b c) =
    StandAtTypes group types a × StandAtTypes group types b × StandAtTypes group types c

-- a predicate of the group at the top of a tree is at these types, and a type variable there is
-- below the number
abbrev pub TopHasOwnTypes : List ℕ → Tree → ℕ → Tree → Type 0
TopHasOwnTypes group types vars (Leaf h) = leaf_below h vars
TopHasOwnTypes group types vars e = TopStandsAtTypes group types e

-- The conclusion is of the clause's own predicate; this one and the others of the group are at its
-- type variables in order, and no other type variable occurs.
pub record HasClauseForm (group : List ℕ) (k vars : ℕ) (types : Tree) (clause : Tree) : Type 0 where
  pub conclusion : IsOfPredicate k types (conclusion (rule clause))
  pub uses : StandAtTypes group types clause
  pub variables : TyVarsBelow vars clause

-- no predicate of the group is at the top of a tree
abbrev pub TopIsFree : List ℕ → Tree → Type 0
TopIsFree group (Two h a b) = TwoFree group h
TopIsFree group _ = Unit {0}

-- a formula in which a predicate of the group is in positive places only, on arguments without the
-- group
abbrev pub IsPositive : List ℕ → Tree → Type 0
IsPositive group (Two (HPred p) a b) = IsFree group b
IsPositive group (Two (HJoin And) a b) = IsPositive group a × IsPositive group b
IsPositive group (Two (HJoin AndThen) a b) = IsPositive group a × IsPositive group b
IsPositive group (Two (HJoin Or) a b) = IsPositive group a × IsPositive group b
IsPositive group (Two (HJoin OrElse) a b) = IsPositive group a × IsPositive group b
IsPositive group (Two (HJoin Imp) a b) = IsFree group a × IsPositive group b
IsPositive group (Two HForall a b) = IsPositive group b
IsPositive group (Two HExists a b) = IsPositive group b
IsPositive group e = IsFree group e

-- the group stands positively in each premise, and not in the arguments of the conclusion
abbrev pub ArePositive : List ℕ → Tree → Type 0
ArePositive group (Two (HJoin Imp) a b) = IsPositive group a × ArePositive group b
ArePositive group (Two (HPred p) a b) = IsFree group b
ArePositive group e = IsFree group e

-- of a whole clause
abbrev pub IsPositiveClause : List ℕ → Tree → Type 0
IsPositiveClause group clause = ArePositive group (rule clause)
