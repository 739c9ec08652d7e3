-- The laws of the crate, as statements.
use Rattle.std.specs.Prelude.{◌≡◌, ℕ, ◌≤◌, List, ◌∷◌, ◌++◌, length}
use Rattle.tasks.specs.trees.Tree.{Tree, Two, Three, Head, HFun, binders_over, loose}
use Rattle.tasks.specs.trees.Binding.{inst_many, AreClosed}
use Rattle.tasks.specs.Equations.{cells}
use Rattle.declarations.specs.spelled_groups.Spelled.{IsSpelling}
use Rattle.declarations.specs.spelled_groups.Inductives.{IsSmallTree}
use Rattle.inlining.specs.branch_equations.Branches.{ConstructorBranch, parameters_before, parameters_after, branch_parameters, pattern_fields, bound_fields, branch_sides, recursion_facts}

-- only definitions are spelled out, and what is said of valid ones are formulas, where they are
-- small
abbrev pub BranchesAreFormulas : Type 0
BranchesAreFormulas = IsSpelling IsSmallTree recursion_facts

-- the parameters' terms, with the constructor on the fields' terms in the place of the matched one
abbrev pub terms_with : ConstructorBranch → List Tree → List Tree → List Tree → List Tree
terms_with b xs zs ys = xs ++ Three (HFun b.symbol) b.types (cells zs) b.type ∷ ys

-- At closed terms, for the parameters before the matched one, the fields, and the parameters after
-- it, the two sides are the symbol with the constructor on the fields in the place of the matched
-- one, and the branch's body there, whose own variables are the fields.
abbrev pub BranchesAtTerms : Type 0
BranchesAtTerms =
    (args : List Tree) (i : ℕ) (b : ConstructorBranch) (h : Head)
    → ((a : Tree) → binders_over h a ≡ 0) → (left body : Tree) (xs zs ys : List Tree)
    → length xs ≡ length (parameters_before args i) → length zs ≡ length b.fields
    → length ys ≡ length (parameters_after args i) → AreClosed (xs ++ (zs ++ ys))
    → loose b.types ≡ 0 → loose b.type ≡ 0
    → loose left ≤ length (branch_parameters args i b)
    → loose b.body ≤ length (branch_parameters args i b ++ pattern_fields args i b)
    → inst_many (branch_sides args i b (Two h left body)) (xs ++ (zs ++ ys))
    ≡ Two h (inst_many left (terms_with b xs zs ys))
    (inst_many b.body (terms_with b xs zs ys ++ bound_fields b.fields zs))
