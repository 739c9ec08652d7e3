-- What is so of agreement over pairs, and of ranks.
use Rattle.std.specs.Prelude.{◌≡◌, ℕ, ◌<◌, ◌≤◌, suc, List, All, Contains}
use Rattle.trees.specs.Tree.{Tree, Two, HForall, HExists, HLet, HCase, HCell, HArm, loose, pat_vars}
use Rattle.trees.specs.Binding.{inst, inst_many}
use Rattle.trees.specs.Sorts.{sort_of}
use Rattle.trees.specs.declared.Sort.TheVariants.{Term}
use Rattle.tasks.specs.Task.{TaskTree}
use Rattle.tasks.specs.MatchTests.{test, bind}
use Rattle.tasks.specs.Valid.{IsValid}
use Rattle.congruence.specs.kernel.Right.{IsGroundExpression}
use Rattle.agreement.specs.Agreement.{ArePartsOf, number_under, AgreeWithin}
use Rattle.agreement.specs.Ranks.{rank, zero_ranks}

-- two expressions of one operator have one list of parts
abbrev pub PartsAreOne : Type 0
PartsAreOne = (t : TaskTree) (n : ℕ) (l r : Tree) (ps qs : List (Tree × Tree))
    → ArePartsOf t n l r ps → ArePartsOf t n l r qs → ps ≡ qs

-- two that agree and are neither equal nor a pair have parts that agree
abbrev pub PartsAgree : Type 0
PartsAgree =
    (m : ℕ) (t : TaskTree) (pairs : List (Tree × Tree)) (n : ℕ) (l r : Tree)
    → AgreeWithin m t pairs n l r → (l ≡ r → ⊥) → (Contains pairs (l, r) → ⊥)
    → (k : ℕ) × ((ps : List (Tree × Tree))
    × (ArePartsOf t n l r ps × All (λ p. AgreeWithin k t pairs (number_under n l) p.0 p.1) ps))

-- they agree within any more levels, and over any more pairs
abbrev pub MoreLevelsAgree : Type 0
MoreLevelsAgree = (m : ℕ) (t : TaskTree) (pairs : List (Tree × Tree)) (n : ℕ) (l r : Tree)
    → AgreeWithin m t pairs n l r → AgreeWithin (suc m) t pairs n l r

abbrev pub MorePairsAgree : Type 0
MorePairsAgree =
    (m : ℕ) (t : TaskTree) (pairs more : List (Tree × Tree))
    → ((l r : Tree) → Contains pairs (l, r) → Contains more (l, r)) → (n : ℕ) (l r : Tree)
    → AgreeWithin m t pairs n l r → AgreeWithin m t more n l r

-- The body of a binder at a closed term has a lower rank than the binder, where the term stands for
-- what `let` binds, or has the rank of a parameter.
abbrev pub BodiesRankLower : Type 0
BodiesRankLower =
    (v a : Tree) → sort_of v ≡ Term → loose v ≡ 0 → pat_vars v ≡ 0
    → (rank (inst a v) zero_ranks 0 < rank (Two HLet v a) zero_ranks 0)
    × ((ty : Tree) → rank v zero_ranks 0 ≡ 0
    → (rank (inst a v) zero_ranks 0 < rank (Two HForall ty a) zero_ranks 0)
    × (rank (inst a v) zero_ranks 0 < rank (Two HExists ty a) zero_ranks 0))

-- the first test and body of a closed `match` have a lower rank, and the `match` with the other
-- branches has no higher one
abbrev pub BranchesRankLower : Type 0
BranchesRankLower =
    (t : TaskTree) → IsValid t → (s p a r : Tree)
    → IsGroundExpression t (Two HCase s (Two HCell (Two HArm p a) r))
    → (rank (test t p s) zero_ranks 0
    < rank (Two HCase s (Two HCell (Two HArm p a) r)) zero_ranks 0)
    × ((rank (inst_many a (bind t p s)) zero_ranks 0
    < rank (Two HCase s (Two HCell (Two HArm p a) r)) zero_ranks 0)
    × (rank (Two HCase s r) zero_ranks 0
    ≤ rank (Two HCase s (Two HCell (Two HArm p a) r)) zero_ranks 0))
