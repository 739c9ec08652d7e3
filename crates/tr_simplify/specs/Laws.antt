-- The laws of `simplify_formula` in the order in which they are named (Why3 manual,
-- "simplify_formula"), and what they make of a node over images. A law that negates a side is
-- followed by the laws of negations; what any other law gives is a part, which is an image already,
-- or a constant.
use Rattle.std.specs.Prelude.{◌≡◌, ◌⊎◌, Bool, true, false, pos, refl}
use Rattle.trees.specs.declared.Op.{Op}
use Rattle.trees.specs.declared.Op.TheVariants.{And, AndThen, Or, OrElse, Imp, Iff}
use Rattle.trees.specs.Tree.{Tree, Leaf, One, Two, Three, Head, HNum, HTrue, HFalse, HNot, HJoin, HForall, HExists, HIf, head_of}
use Rattle.trees.specs.Binding.{inst}
use Rattle.trees.specs.Facts.{is_open}
use Rattle.walking.specs.images.Images.{IsOtherHead}
use Rattle.tr_simplify.specs.declared.laws.TruthValue.{TruthValue}
use Rattle.tr_simplify.specs.declared.laws.TruthValue.TheVariants as side
use Rattle.tr_simplify.specs.declared.laws.LawResult.{LawResult}
use Rattle.tr_simplify.specs.declared.laws.LawResult.TheVariants as outcome

-- which constant a formula is, where it is one
abbrev pub constant : Tree → TruthValue
constant (Leaf HTrue) = side.True
constant (Leaf HFalse) = side.False
constant _ = side.Other

-- `not true`, `not false`
abbrev pub negated_by : TruthValue → Tree → Tree
negated_by side.True a = Leaf HFalse
negated_by side.False a = Leaf HTrue
negated_by side.Other a = One HNot a

-- `/\`, `&&`: `true` beside a side, then `false`
abbrev pub conjunction_law : TruthValue → TruthValue → LawResult
conjunction_law side.True l = outcome.Second
conjunction_law k side.True = outcome.First
conjunction_law side.False l = outcome.False
conjunction_law k side.False = outcome.False
conjunction_law side.Other side.Other = outcome.Stays

-- `\/`, `||`: `false` beside a side, then `true`
abbrev pub disjunction_law : TruthValue → TruthValue → LawResult
disjunction_law side.False l = outcome.Second
disjunction_law k side.False = outcome.First
disjunction_law side.True l = outcome.True
disjunction_law k side.True = outcome.True
disjunction_law side.Other side.Other = outcome.Stays

-- `true -> A`; `false -> A`, `A -> true`; `A -> false`
abbrev pub implication_law : TruthValue → TruthValue → LawResult
implication_law side.True l = outcome.Second
implication_law side.False l = outcome.True
implication_law k side.True = outcome.True
implication_law k side.False = outcome.NotFirst
implication_law side.Other side.Other = outcome.Stays

-- `A <-> true`, `true <-> A`; `A <-> false`, `false <-> A`
abbrev pub equivalence_law : TruthValue → TruthValue → LawResult
equivalence_law k side.True = outcome.First
equivalence_law side.True l = outcome.Second
equivalence_law k side.False = outcome.NotFirst
equivalence_law side.False l = outcome.NotSecond
equivalence_law side.Other side.Other = outcome.Stays

abbrev pub law_for : Op → TruthValue → TruthValue → LawResult
law_for And k l = conjunction_law k l
law_for AndThen k l = conjunction_law k l
law_for Or k l = disjunction_law k l
law_for OrElse k l = disjunction_law k l
law_for Imp k l = implication_law k l
law_for Iff k l = equivalence_law k l

abbrev pub joined_by : LawResult → Op → TruthValue → TruthValue → Tree → Tree → Tree
joined_by outcome.Stays op k l a b = Two (HJoin op) a b
joined_by outcome.First op k l a b = a
joined_by outcome.Second op k l a b = b
joined_by outcome.True op k l a b = Leaf HTrue
joined_by outcome.False op k l a b = Leaf HFalse
joined_by outcome.NotFirst op k l a b = negated_by k a
joined_by outcome.NotSecond op k l a b = negated_by l b

-- an `if` with a constant for its condition
abbrev pub if_by : TruthValue → Tree → Tree → Tree → Tree
if_by side.True c a b = a
if_by side.False c a b = b
if_by side.Other c a b = Three HIf c a b

-- any term, for a variable that isn't used
abbrev pub zero_term : Tree
zero_term = Leaf (HNum (pos 0))

-- a quantifier whose variable is used, or isn't
abbrev pub quantified_by : Bool → Head → Tree → Tree → Tree
quantified_by true h ty b = Two h ty b
quantified_by false h ty b = inst b zero_term

abbrev pub simplify_rule : Tree → Tree
simplify_rule (One HNot a) = negated_by (constant a) a
simplify_rule (Two (HJoin op) a b) =
    joined_by (law_for op (constant a) (constant b)) op (constant a) (constant b) a b
simplify_rule (Two HForall ty b) = quantified_by (is_open 0 b) HForall ty b
simplify_rule (Two HExists ty b) = quantified_by (is_open 0 b) HExists ty b
simplify_rule (Three HIf c a b) = if_by (constant c) c a b
simplify_rule e = e

-- whether there are laws for the node
abbrev pub has_laws : Tree → Bool
has_laws (One HNot a) = true
has_laws (Two (HJoin op) a b) = true
has_laws (Two HForall a b) = true
has_laws (Two HExists a b) = true
has_laws (Three HIf a b c) = true
has_laws _ = false

-- a quantifier over a body
abbrev pub IsQuantifiedOver : Tree → Tree → Type 0
IsQuantifiedOver e b =
    ((ty : Tree) × (e ≡ Two HForall ty b)) ⊎ ((ty : Tree) × (e ≡ Two HExists ty b))

-- it leaves types, patterns, lists and branches as they are
pub simplify_others : (e : Tree) → IsOtherHead (head_of e) → simplify_rule e ≡ e
simplify_others (One HNot a) h = absurd h
simplify_others (Two (HJoin op) a b) h = absurd h
simplify_others (Two HForall a b) h = absurd h
simplify_others (Two HExists a b) h = absurd h
simplify_others (Three HIf a b c) h = absurd h
simplify_others _ h = refl
