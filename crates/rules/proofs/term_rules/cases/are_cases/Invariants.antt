use Rattle.std.proofs.Common.{◌≡◌, ◌++◌, [], ℕ, ◌<◌, get_or}
use Rattle.rules.specs.term_rules.Cases.{case_of, no_con}
use Rattle.rules.specs.Meaning.{sequent_of, premises_of}
use Rattle.rules.proofs.term_rules.cases.are_cases.Given as goal

abbrev pub invariant-loop-i : goal.invariant-loop-i
invariant-loop-i l = (k : ℕ) → k < l.i → get_or (premises_of l.x) k [] ≡ sequent_of l.x ++ case_of l.x l.types l.term (get_or l.cons k no_con)
