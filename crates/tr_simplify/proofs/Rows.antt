-- Worked rows by computation: each law, laws one after another, and quantifiers.
use Rattle.std.proofs.Common.{◌≡◌, ℕ, List, [], ◌∷◌, pos, refl}
use Rattle.trees.specs.declared.Op.{Op}
use Rattle.trees.specs.declared.Op.TheVariants.{And, AndThen, Or, OrElse, Imp, Iff}
use Rattle.trees.specs.Tree.{Tree, Leaf, One, Two, Three, HEnd, HNum, HPred, HTrue, HFalse, HNot, HJoin, HForall, HExists, HIf}
use Rattle.trees.specs.Binding.{Bound}
use Rattle.trees.specs.Sorts.{int_type}
use Rattle.tasks.specs.Equations.{cells}
use Rattle.walking.specs.images.Images.{image}
use Rattle.tr_simplify.specs.Laws.{simplify_rule}

abbrev simplified : Tree → Tree
simplified = image simplify_rule

abbrev yes : Tree
yes = Leaf HTrue

abbrev no : Tree
no = Leaf HFalse

abbrev join : Op → Tree → Tree → Tree
join op a b = Two (HJoin op) a b

abbrev p : Tree → Tree
p e = Two (HPred 5) (Leaf HEnd) (cells (e ∷ []))

abbrev one : Tree
one = Leaf (HNum (pos 1))

abbrev x : ℕ → Tree
x i = Bound i int_type

-- `not true /\ p 1` is `false`, `(p 1 \/ false) && true` is `p 1`
conjunction-row : simplified (join And (One HNot yes) (p one)) ≡ no
conjunction-row = refl

nested-row : simplified (join AndThen (join Or (p one) no) yes) ≡ p one
nested-row = refl

-- `p 1 || true` is `true`
disjunction-row : simplified (join OrElse (p one) yes) ≡ yes
disjunction-row = refl

-- `p 1 -> false` is `not p 1`; `false -> p 1`, `p 1 -> true` are `true`; `false -> false` is `true`
implication-row : simplified (join Imp (p one) no) ≡ One HNot (p one)
implication-row = refl

false-first-row : simplified (join Imp no (p one)) ≡ yes
false-first-row = refl

true-second-row : simplified (join Imp (p one) yes) ≡ yes
true-second-row = refl

false-twice-row : simplified (join Imp no no) ≡ yes
false-twice-row = refl

-- `false <-> p 1` is `not p 1`, `false <-> false` is `true`, `true <-> false` is `false`
equivalence-row : simplified (join Iff no (p one)) ≡ One HNot (p one)
equivalence-row = refl

again-row : simplified (join Iff no no) ≡ yes
again-row = refl

mixed-row : simplified (join Iff yes no) ≡ no
mixed-row = refl

-- `if not false then p 1 else p x` under a quantifier, whose variable isn't used then: `forall x. ..` is `p 1`
if-row : simplified (Two HForall int_type (Three HIf (One HNot no) (p one) (p (x 0)))) ≡ p one
if-row = refl

-- `exists x. forall y. p x` is `exists x. p x`; the index under `y` is one less
lowered-row : simplified (Two HExists int_type (Two HForall int_type (p (x 1)))) ≡ Two HExists int_type (p (x 0))
lowered-row = refl

-- a used variable stays
used-row : simplified (Two HForall int_type (join Or (p (x 0)) no)) ≡ Two HForall int_type (p (x 0))
used-row = refl
