use Rattle.std.proofs.Common.{◌++◌, [], get_or, map, sym, ap, ◌∙◌, arith}
use Rattle.std.proofs.lemmas.List.{length-map}
use Rattle.rules.specs.term_rules.Cases.{case_by, case_of, no_con}
use Rattle.tasks.specs.Meaning.{con_at}
use Rattle.rules.specs.Meaning.{steps_at, sequent_of, premises_of}
use Rattle.rules.specs.Trees.{step_or}
use Rattle.rules.proofs.After.{each_after, one_after}
use Rattle.rules.proofs.Sequents.{not_so, map_twice}
use Rattle.rules.proofs.term_rules.cases.are_cases.Goals as goal
use Rattle.tasks.proofs.Declared.{yes, no}

pub returns-then-not-is_wider : goal.returns-then-not-is_wider
returns-then-not-is_wider c =
    let x = c.args.x.now in
    let s = sequent_of x in
    let f = case_of x c.args.types c.args.term in
    let m = map_twice (case_by x c.args.types c.args.term) (con_at x.store.now) c.args.cons.now in
    let z = c.index-cons-i in
    no (λ q. not_so c.is_wider.result c.is_wider.ensures c.if-not-is_wider.true
    (c.premise.ensures.trees ∙ ap (λ ps. get_or ps c.loop-i.i []) (q ∙ ap (map (λ z. s ++ z)) (sym m)) ∙ one_after s f z.result c.args.cons.now c.loop-i.i (omega arith) ∙ ap (λ a. s ++ f a) (sym z.is)))

pub returns : goal.returns
returns c =
    let x = c.args.x.now in
    let n = length-map x.premises.now (λ k. (step_or (steps_at x.store.now x.before.now) k).sequent) in
    let m = map_twice (case_by x c.args.types c.args.term) (con_at x.store.now) c.args.cons.now in
    yes (each_after (sequent_of x) (case_of x c.args.types c.args.term) no_con (premises_of x) c.args.cons.now (omega (arith, n)) (λ k h. c.loop-i.invariant k (omega arith)) ∙ ap (map (λ z. sequent_of x ++ z)) m)
