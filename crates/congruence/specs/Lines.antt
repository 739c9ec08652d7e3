-- Scripts of the congruence of one level, over steps for the halves of the parts.
use Rattle.std.specs.Prelude.{ℕ, List, [], ◌∷◌}
use Rattle.trees.specs.declared.Op.{Op}
use Rattle.trees.specs.declared.Op.TheVariants.{And, AndThen, Or, OrElse, Imp, Iff}
use Rattle.evidence.specs.declared.proof_scripts.line.Places.TheVariants as places
use Rattle.evidence.specs.declared.proof_scripts.line.Line.{Line}
use Rattle.evidence.specs.declared.proof_scripts.line.Line.TheVariants as line

abbrev pub kept_pair : ℕ → ℕ → ℕ → Line
kept_pair k i j = line.Kept k (places.Two i j)

-- From `a` and `c` joined to `b` and `e` joined: ab refutes [a; not b], and so on.
abbrev pub join_lines : Op → (ab ba ce ec : ℕ) → List Line
join_lines And ab ba ce ec =
    line.Holding And 0 ∷ line.Failing And 1 ∷ kept_pair ab 2 4 ∷ kept_pair ce 3 4 ∷ []
join_lines AndThen ab ba ce ec =
    line.Holding AndThen 0 ∷ line.Failing AndThen 1 ∷ kept_pair ab 2 4 ∷ kept_pair ce 3 4 ∷ []
join_lines Or ab ba ce ec = line.Holding Or 0 ∷ line.Failing Or 1 ∷ kept_pair ab 2 3
    ∷ line.Failing Or 1 ∷ kept_pair ce 2 4 ∷ []
join_lines OrElse ab ba ce ec =
    line.Holding OrElse 0 ∷ line.Failing OrElse 1 ∷ kept_pair ab 2 3 ∷ line.Failing OrElse 1
    ∷ kept_pair ce 2 4 ∷ []
join_lines Imp ab ba ce ec = line.Holding Imp 0 ∷ line.Failing Imp 1 ∷ kept_pair ba 3 2
    ∷ line.Failing Imp 1 ∷ kept_pair ce 2 4 ∷ []
join_lines Iff ab ba ce ec = line.Holding Iff 0 ∷ line.Failing Iff 1 ∷ kept_pair ce 3 5
    ∷ kept_pair ab 2 4 ∷ line.Failing Iff 1 ∷ kept_pair ba 4 2 ∷ kept_pair ec 5 3 ∷ []
