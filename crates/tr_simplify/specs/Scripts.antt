-- Scripts for the laws of connectives: lines that refute the negation of the equivalence of a
-- formula and what a law makes of it. They begin with that negation at the place 0; then the one
-- formula and the negation of the other are at 1 and 2, or the other way round.
use Rattle.std.specs.Prelude.{List, [], ◌∷◌}
use Rattle.trees.specs.declared.Op.{Op}
use Rattle.trees.specs.declared.Op.TheVariants.{And, AndThen, Or, OrElse, Imp, Iff}
use Rattle.trees.specs.Tree.{Tree, Leaf, Two, HTrue, HFalse, HJoin}
use Rattle.tasks.specs.Task.{neg}
use Rattle.tr_simplify.specs.declared.laws.TruthValue.{TruthValue}
use Rattle.tr_simplify.specs.declared.laws.TruthValue.TheVariants as side
use Rattle.evidence.specs.declared.proof_scripts.line.Word.TheVariants as word
use Rattle.evidence.specs.declared.proof_scripts.line.Line.{Line}
use Rattle.evidence.specs.declared.proof_scripts.line.Line.TheVariants as line

-- the negation of the equivalence of two formulas
abbrev pub denied : Tree → Tree → Tree
denied l r = neg (Two (HJoin Iff) l r)

-- a side that is a constant, or any
abbrev pub side_of : TruthValue → Tree → Tree
side_of side.True a = Leaf HTrue
side_of side.False a = Leaf HFalse
side_of side.Other a = a

-- of a connective, by what its sides are
abbrev pub conjunction_lines : Op → TruthValue → TruthValue → List Line
conjunction_lines op side.True l =
    line.Failing Iff 0 ∷ line.Holding op 1 ∷ line.Rule (word.Clash 4 2) ∷ line.Failing op 1
    ∷ line.Rule (word.NotTrue 3) ∷ line.Rule (word.Clash 2 3) ∷ []
conjunction_lines op k side.True =
    line.Failing Iff 0 ∷ line.Holding op 1 ∷ line.Rule (word.Clash 3 2) ∷ line.Failing op 1
    ∷ line.Rule (word.Clash 2 3) ∷ line.Rule (word.NotTrue 3) ∷ []
conjunction_lines op side.False l =
    line.Failing Iff 0 ∷ line.Holding op 1 ∷ line.Rule (word.False 3)
    ∷ line.Rule (word.False 2) ∷ []
conjunction_lines op k side.False =
    line.Failing Iff 0 ∷ line.Holding op 1 ∷ line.Rule (word.False 4)
    ∷ line.Rule (word.False 2) ∷ []
conjunction_lines op side.Other side.Other = []

abbrev pub disjunction_lines : Op → TruthValue → TruthValue → List Line
disjunction_lines op side.False l =
    line.Failing Iff 0 ∷ line.Holding op 1 ∷ line.Rule (word.False 3) ∷ line.Rule (word.Clash 3 2)
    ∷ line.Failing op 1 ∷ line.Rule (word.Clash 2 4) ∷ []
disjunction_lines op k side.False =
    line.Failing Iff 0 ∷ line.Holding op 1 ∷ line.Rule (word.Clash 3 2) ∷ line.Rule (word.False 3)
    ∷ line.Failing op 1 ∷ line.Rule (word.Clash 2 3) ∷ []
disjunction_lines op side.True l =
    line.Failing Iff 0 ∷ line.Rule (word.NotTrue 2) ∷ line.Failing op 1
    ∷ line.Rule (word.NotTrue 3) ∷ []
disjunction_lines op k side.True =
    line.Failing Iff 0 ∷ line.Rule (word.NotTrue 2) ∷ line.Failing op 1
    ∷ line.Rule (word.NotTrue 4) ∷ []
disjunction_lines op side.Other side.Other = []

abbrev pub implication_lines : TruthValue → TruthValue → List Line
implication_lines side.True l =
    line.Failing Iff 0 ∷ line.Holding Imp 1 ∷ line.Rule (word.NotTrue 3)
    ∷ line.Rule (word.Clash 3 2) ∷ line.Failing Imp 1 ∷ line.Rule (word.Clash 2 4) ∷ []
implication_lines side.False l =
    line.Failing Iff 0 ∷ line.Rule (word.NotTrue 2) ∷ line.Failing Imp 1
    ∷ line.Rule (word.False 3) ∷ []
implication_lines k side.True =
    line.Failing Iff 0 ∷ line.Rule (word.NotTrue 2) ∷ line.Failing Imp 1
    ∷ line.Rule (word.NotTrue 4) ∷ []
implication_lines side.Other side.False =
    line.Failing Iff 0 ∷ line.Holding Imp 1 ∷ line.Rule (word.Clash 3 2) ∷ line.Rule (word.False 3)
    ∷ line.Failing Imp 1 ∷ line.Rule (word.Clash 3 2) ∷ []
implication_lines side.Other side.Other = []

abbrev pub equivalence_lines : TruthValue → TruthValue → List Line
equivalence_lines k side.True =
    line.Failing Iff 0 ∷ line.Holding Iff 1 ∷ line.Rule (word.Clash 3 2)
    ∷ line.Rule (word.NotTrue 4) ∷ line.Failing Iff 1 ∷ line.Rule (word.NotTrue 4)
    ∷ line.Rule (word.Clash 2 3) ∷ []
equivalence_lines side.True l =
    line.Failing Iff 0 ∷ line.Holding Iff 1 ∷ line.Rule (word.Clash 4 2)
    ∷ line.Rule (word.NotTrue 3) ∷ line.Failing Iff 1 ∷ line.Rule (word.Clash 2 4)
    ∷ line.Rule (word.NotTrue 3) ∷ []
equivalence_lines side.False side.False =
    line.Failing Iff 0 ∷ line.Rule (word.NotTrue 2) ∷ line.Failing Iff 1 ∷ line.Rule (word.False 3)
    ∷ line.Rule (word.False 4) ∷ []
equivalence_lines side.Other side.False =
    line.Failing Iff 0 ∷ line.Holding Iff 1 ∷ line.Rule (word.False 4) ∷ line.Rule (word.Clash 3 2)
    ∷ line.Failing Iff 1 ∷ line.Rule (word.Clash 3 2) ∷ line.Rule (word.False 4) ∷ []
equivalence_lines side.False side.Other =
    line.Failing Iff 0 ∷ line.Holding Iff 1 ∷ line.Rule (word.False 3) ∷ line.Rule (word.Clash 4 2)
    ∷ line.Failing Iff 1 ∷ line.Rule (word.False 3) ∷ line.Rule (word.Clash 4 2) ∷ []
equivalence_lines side.Other side.Other = []

abbrev pub law_lines : Op → TruthValue → TruthValue → List Line
law_lines And k l = conjunction_lines And k l
law_lines AndThen k l = conjunction_lines AndThen k l
law_lines Or k l = disjunction_lines Or k l
law_lines OrElse k l = disjunction_lines OrElse k l
law_lines Imp k l = implication_lines k l
law_lines Iff k l = equivalence_lines k l

-- of a negation, by what it negates
abbrev pub not_lines : TruthValue → List Line
not_lines side.True =
    line.Failing Iff 0 ∷ line.Rule (word.NotTrue 1) ∷ line.Rule (word.False 2) ∷ []
not_lines side.False = line.Failing Iff 0 ∷ line.Rule (word.NotTrue 2) ∷ line.Rule (word.NotNot 1)
    ∷ line.Rule (word.False 3) ∷ []
not_lines side.Other = []
