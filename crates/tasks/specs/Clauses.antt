-- The clauses of an inductive predicate (Why3 manual, "inductive predicates"): `forall ys. A1 -> ..
-- -> An -> p ts`, in which the predicates of the group are in positive places only, each at the
-- type variables of the clause's own predicate.
use Rattle.std.specs.Prelude.{◌≡◌, ℕ, List, Contains}
use Rattle.trees.specs.Tree.{Tree, Leaf, One, Two, Three, Head, HPred, HJoin, HForall, HExists}
use Rattle.trees.specs.declared.Op.TheVariants.{And, AndThen, Or, OrElse, Imp}

abbrev pub TwoFree : List ℕ → Head → Type 0
TwoFree group (HPred p) = Contains group p → ⊥
TwoFree group _ = Unit {0}

-- no predicate of the group is in it
abbrev pub IsFree : List ℕ → Tree → Type 0
IsFree group (Leaf h) = Unit {0}
IsFree group (One h a) = IsFree group a
IsFree group (Two h a b) = TwoFree group h × IsFree group a × IsFree group b
IsFree group (Three h a b c) = IsFree group a × IsFree group b × IsFree group c

-- a use of a predicate: of the group only at these types, on arguments without the group
abbrev pub IsPlainUse : List ℕ → Tree → ℕ → Tree → Tree → Type 0
IsPlainUse group types p a b = (Contains group p → a ≡ types) × IsFree group b

-- what may be as a premise
abbrev pub IsPremise : List ℕ → Tree → Tree → Type 0
IsPremise group types (Two (HPred p) a b) = IsPlainUse group types p a b
IsPremise group types (Two (HJoin And) a b) = IsPremise group types a × IsPremise group types b
IsPremise group types (Two (HJoin AndThen) a b) = IsPremise group types a × IsPremise group types b
IsPremise group types (Two (HJoin Or) a b) = IsPremise group types a × IsPremise group types b
IsPremise group types (Two (HJoin OrElse) a b) = IsPremise group types a × IsPremise group types b
IsPremise group types (Two (HJoin Imp) a b) = IsFree group a × IsPremise group types b
IsPremise group types (Two HForall a b) = IsPremise group types b
IsPremise group types (Two HExists a b) = IsPremise group types b
IsPremise group types e = IsFree group e

-- `A1 -> .. -> An -> p ts`
abbrev pub IsRule : List ℕ → ℕ → Tree → Tree → Type 0
IsRule group k types (Two (HJoin Imp) a b) = IsPremise group types a × IsRule group k types b
IsRule group k types (Two (HPred p) a b) = (p ≡ k) × ((a ≡ types) × IsFree group b)
IsRule group k types _ = ⊥

-- a clause of a predicate, by its number and its type variables as a list
abbrev pub IsClauseOf : List ℕ → ℕ → Tree → Tree → Type 0
IsClauseOf group k types (Two HForall a b) = IsClauseOf group k types b
IsClauseOf group k types e = IsRule group k types e
