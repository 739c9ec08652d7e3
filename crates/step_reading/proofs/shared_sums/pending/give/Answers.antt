use Rattle.std.specs.Int.{w128}
use Rattle.std.proofs.lemmas.Int.{to_z-of_z}
use Rattle.step_reading.proofs.shared_sums.Sums.{weighed_insert, top_insert, terms_insert}
use Rattle.step_reading.proofs.shared_sums.pending.give.Goals as goal

pub returns-clause-sum : goal.returns-clause-sum
returns-clause-sum c = λ f. rw (c.in_ok-insert.ensures.entries, to_z-of_z w128 c.args.n c.ranges.n) (weighed_insert f c.args.k c.args.n c.args.multiples.now.entries c.requires)

pub returns-clause-top : goal.returns-clause-top
returns-clause-top c = λ b l h. rw (c.in_ok-insert.ensures.entries, to_z-of_z w128 c.args.n c.ranges.n) (top_insert b c.args.k c.args.n c.args.multiples.now.entries h l)

pub returns-clause-terms : goal.returns-clause-terms
returns-clause-terms c = λ z s h t. rw (c.in_ok-insert.ensures.entries, to_z-of_z w128 c.args.n c.ranges.n) (terms_insert z s c.args.k c.args.n c.args.multiples.now.entries t h)
