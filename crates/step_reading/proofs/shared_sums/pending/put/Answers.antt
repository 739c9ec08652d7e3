use Rattle.std.proofs.Common.{rules, FitsSigned}
use Rattle.std.specs.Int.{w128}
use Rattle.std.proofs.lemmas.Int.{to_z-of_z}
use Rattle.step_reading.specs.shared_sums.Pending.{weighed}
use Rattle.step_reading.proofs.shared_sums.Steps.{put_sum}
use Rattle.step_reading.proofs.shared_sums.pending.put.Goals as goal

pub returns-in_ok-give-in-Some-clause-sum : goal.returns-in_ok-give-in-Some-clause-sum
returns-in_ok-give-in-Some-clause-sum c =
    let i : FitsSigned w128 c.take-before.result = search rules in let j : FitsSigned w128 c.in-Some.sum = search rules in λ f x y h k.
    put_sum c.args.pending.now.constant (f c.args.k) (weighed f c.args.pending.now.multiples.entries) (weighed f c.take-before.new.multiples.entries) (weighed f c.give.new.multiples.entries)
    c.take-before.result c.in-Some.sum x y h (c.take-before.ensures.sum f) (c.in-Some.ensures c.take-before.result y (to_z-of_z w128 c.take-before.result i) k) (rw (to_z-of_z w128 c.in-Some.sum j) at (c.in_ok-give-in-Some.ensures.sum f))

pub returns-in_ok-give-in-Some-clause-terms : goal.returns-in_ok-give-in-Some-clause-terms
returns-in_ok-give-in-Some-clause-terms c = λ z s h t. c.in_ok-give-in-Some.ensures.terms z s (c.take-before.ensures.terms z s h) t

pub returns-in-None-clause-terms : goal.returns-in-None-clause-terms
returns-in-None-clause-terms c = λ z s h t. c.take-before.ensures.terms z s h
