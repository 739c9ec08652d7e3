use Rattle.std.proofs.Common.{◌≤◌, length, arith}
use Rattle.tasks.specs.Meaning.{trees_at}
use Rattle.evidence.proofs.proof_scripts.Following.{given_count, given_last, front_formulas, back_formulas, split_is}
use Rattle.evidence.proofs.proof_scripts.script.by_given.Goals as goal

pub keep_but-requires-clause-middle : goal.keep_but-requires-clause-middle
keep_but-requires-clause-middle c = front_formulas c.args.draft.now c.args.tail.now c.split_at.result.0.now _ c.split_at.ensures.front c.requires.tail

pub keep_but-requires-clause-last : goal.keep_but-requires-clause-last
keep_but-requires-clause-last c = back_formulas c.args.draft.now c.args.tail.now c.split_at.result.1.now _ c.split_at.ensures.back c.requires.tail

pub keep_but-requires-clause-step : goal.keep_but-requires-clause-step
keep_but-requires-clause-step c =
    let d = c.args.draft.now in
    let f = trees_at d.trees c.args.front.now in
    let n : c.args.count ≤ length c.args.tail.now = given_count d f c.args.tail.now c.split_at.result.0.now c.split_at.result.1.now c.args.step c.args.count 0 c.requires.given in
    given_last d f c.args.tail.now c.split_at.result.0.now c.split_at.result.1.now c.args.step c.args.count 0 c.requires.given
    (split_is c.args.tail.now c.split_at.result.0.now c.split_at.result.1.now _ c.split_at.ensures.front c.split_at.ensures.back) (omega (arith, c.split_at.ensures.back_len, n))
