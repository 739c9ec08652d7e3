-- Conditionals brought out of formulas (Why3 manual, "eliminate_if"): a conditional formula becomes
-- two implications, and an atom with conditional terms becomes implications under their conditions,
-- one conditional at a time, the first in preorder first.
use Rattle.std.specs.Prelude.{Bool, true, false, ◌||◌, Option, Some, None}
use Rattle.trees.specs.declared.Op.TheVariants.{And, Imp}
use Rattle.trees.specs.declared.Sort.{Sort}
use Rattle.trees.specs.declared.Sort.TheVariants.{Formula}
use Rattle.trees.specs.Tree.{Tree, Leaf, One, Two, Three, Head, HCell, HFun, HPred, HEq, HJoin, HLet, HIf, HCase}
use Rattle.trees.specs.Sorts.{sort_of}
use Rattle.tasks.specs.Task.{neg}
use Rattle.evidence.specs.images.Images.{image}

-- ---- one conditional
-- what a conditional formula says: `(c -> a) /\ (not c -> b)`
abbrev pub implications : Tree → Tree → Tree → Tree
implications c a b = Two (HJoin And) (Two (HJoin Imp) c a) (Two (HJoin Imp) (neg c) b)

abbrev pub earlier : Option Tree → Option Tree → Option Tree
earlier (Some e) other = Some e
earlier None other = other

-- the first conditional term of an atom, a term or a list of terms, in preorder; what stands within
-- its condition comes after it
abbrev pub first_if : Tree → Option Tree
first_if (Three HIf c a b) = Some (Three HIf c a b)
first_if (Three (HFun f) types args ty) = first_if args
first_if (Two (HPred p) types args) = first_if args
first_if (Two HEq a b) = earlier (first_if a) (first_if b)
first_if (Two HCell a b) = earlier (first_if a) (first_if b)
first_if _ = None

-- one of two children changed: the first one, if a conditional is in it
abbrev pub one_changed : Option Tree → Head → (a b other_a other_b : Tree) → Tree
one_changed (Some e) h a b x y = Two h x b
one_changed None h a b x y = Two h a y

-- another term in the place of the first conditional, and there alone
abbrev pub replace_first : Tree → Tree → Tree
replace_first (Three HIf c a b) x = x
replace_first (Three (HFun f) types args ty) x = Three (HFun f) types (replace_first args x) ty
replace_first (Two (HPred p) types args) x = Two (HPred p) types (replace_first args x)
replace_first (Two HEq a b) x =
    one_changed (first_if a) HEq a b (replace_first a x) (replace_first b x)
replace_first (Two HCell a b) x =
    one_changed (first_if a) HCell a b (replace_first a x) (replace_first b x)
replace_first e x = e

-- ---- all of an atom
-- a formula over an atom, a term or a list of terms, by cases on each conditional term, the first
-- one first
abbrev pub cases_over : Tree → (Tree → Tree) → Tree
cases_over (Three HIf c a b) over = implications c (cases_over a over) (cases_over b over)
cases_over (Three (HFun f) types args ty) over =
    cases_over args (λ xs. over (Three (HFun f) types xs ty))
cases_over (Two (HPred p) types args) over = cases_over args (λ xs. over (Two (HPred p) types xs))
cases_over (Two HEq a b) over = cases_over a (λ x. cases_over b (λ y. over (Two HEq x y)))
cases_over (Two HCell a b) over = cases_over a (λ x. cases_over b (λ y. over (Two HCell x y)))
cases_over e over = over e

-- ---- formulas
abbrev pub if_of_sort : Sort → Tree → Tree → Tree → Tree
if_of_sort Formula c a b = implications c a b
if_of_sort _ c a b = Three HIf c a b

-- what a conditional formula, or an atom, becomes once the formulas in it have no conditionals
abbrev pub if_rule : Tree → Tree
if_rule (Three HIf c a b) = if_of_sort (sort_of a) c a b
if_rule (Two (HPred p) types args) = cases_over (Two (HPred p) types args) (λ e. e)
if_rule (Two HEq a b) = cases_over (Two HEq a b) (λ e. e)
if_rule e = e

-- a formula without its conditionals
abbrev pub without_ifs : Tree → Tree
without_ifs e = image if_rule e

-- ---- `let` and `match`
abbrev pub is_let_or_match : Head → Bool
is_let_or_match HLet = true
is_let_or_match HCase = true
is_let_or_match _ = false

abbrev pub has_let_or_match : Tree → Bool
has_let_or_match (Leaf h) = false
has_let_or_match (One h a) = has_let_or_match a
has_let_or_match (Two h a b) = is_let_or_match h || (has_let_or_match a || has_let_or_match b)
has_let_or_match (Three h a b c) = has_let_or_match a || (has_let_or_match b || has_let_or_match c)
