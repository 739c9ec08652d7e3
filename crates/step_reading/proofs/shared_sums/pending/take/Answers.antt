use Rattle.std.proofs.Common.{rules, sym, FitsSigned}
use Rattle.std.specs.Int.{w128}
use Rattle.std.proofs.lemmas.Int.{to_z-of_z}
use Rattle.step_reading.proofs.shared_sums.Sums.{weighed_remove, top_remove, terms_remove}
use Rattle.step_reading.proofs.shared_sums.pending.take.Goals as goal

pub returns-in-Some-clause-sum : goal.returns-in-Some-clause-sum
returns-in-Some-clause-sum c =
    let g : FitsSigned w128 c.in-Some.n = search rules in
    λ f. rw (to_z-of_z w128 c.in-Some.n g, c.remove.ensures.entries) (weighed_remove f c.args.k c.args.multiples.now.entries c.in-Some.n (sym c.in-Some.ensures.value))

pub returns-in-Some-clause-top : goal.returns-in-Some-clause-top
returns-in-Some-clause-top c = rw c.remove.ensures.entries (top_remove c.args.k c.args.multiples.now.entries)

pub returns-in-Some-clause-terms : goal.returns-in-Some-clause-terms
returns-in-Some-clause-terms c = λ z s h. rw c.remove.ensures.entries (terms_remove z s c.args.k c.args.multiples.now.entries h)
