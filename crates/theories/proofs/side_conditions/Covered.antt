-- One match before others.
use Rattle.std.proofs.Common.{◌≡◌, ℕ, List, ◌∷◌, Option, Some, None, Result, Ok, Err, Bool, true, false, not, inr, refl}
use Rattle.std.specs.Option.{is_some}
use Rattle.std.proofs.lemmas.List.Elements.{All-cons}
use Rattle.trees.specs.Tree.{Tree}
use Rattle.tasks.specs.Task.{SymbolTree}
use Rattle.theories.specs.declared.side_conditions.sides.SideFault.{SideFault}
use Rattle.theories.specs.declared.side_conditions.sides.SideFault.TheVariants.{Memory, NotExhaustive, Check}
use Rattle.theories.specs.side_conditions.Sides.{IsCovered, MatchesAnswer}

pub none_true : {A : Type 0} (b : Bool) (o : Option A) → is_some o ≡ not b → b ≡ true → o ≡ None
none_true b None q e = refl
none_true true (Some x) q e = absurd (cc)
none_true false (Some x) q e = absurd (cc)

pub true_none : {A : Type 0} (b : Bool) (o : Option A) → is_some o ≡ not b → o ≡ None → b ≡ true
true_none true o q e = refl
true_none false None q e = absurd (cc)
true_none false (Some x) q e = absurd (cc)

pub covered_then : (symbols : List SymbolTree) (m : ℕ × List Tree) (ms : List (ℕ × List Tree)) (r : Result Unit SideFault) → IsCovered symbols m → MatchesAnswer symbols ms r → MatchesAnswer symbols (m ∷ ms) r
covered_then symbols m ms (Ok u) h a = All-cons (IsCovered symbols) m ms h a
covered_then symbols m ms (Err Memory) h a = tt
covered_then symbols m ms (Err (NotExhaustive token)) h a = inr (h, a)
covered_then symbols m ms (Err (Check f)) h a = absurd a
