-- How refutations of the parts of a goal give one of the goal.
use Rattle.std.specs.Prelude.{ℕ, List, [], ◌∷◌, ◌++◌, length, get_or}
use Rattle.trees.specs.declared.Op.TheVariants.{Imp}
use Rattle.trees.specs.Tree.{Tree, Leaf, One, Two, HEnd, HNot, HJoin}
use Rattle.tasks.specs.Task.{neg}
use Rattle.evidence.specs.Drafts.{DraftTree}
use Rattle.evidence.specs.Stages.{HaveSequents}

-- the formulas, and then the negation of a part
abbrev pub sequent_of_part : List Tree → List Tree → ℕ → List Tree
sequent_of_part front parts i = front ++ neg (get_or parts i (Leaf HEnd)) ∷ []

-- steps, by number, that refute each part
abbrev pub EndsOfParts : DraftTree → List ℕ → List Tree → List Tree → Type 0
EndsOfParts d ends front parts = HaveSequents d ends (sequent_of_part front parts) (length parts)

abbrev pub IsNegation : Tree → Type 0
IsNegation (One HNot a) = Unit {0}
IsNegation _ = ⊥

abbrev pub IsImplication : Tree → Type 0
IsImplication (Two (HJoin Imp) a b) = Unit {0}
IsImplication _ = ⊥
