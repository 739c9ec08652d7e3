use Rattle.std.proofs.Common.{rules, ◌≡◌, ◌<◌, length, arith}
use Rattle.std.proofs.lemmas.List.{length-map}
use Rattle.kernel.specs.rules.Meaning.{steps_at}
use Rattle.evidence.specs.Stages.{parts_at}
use Rattle.stages.specs.Levels.{carried_from}
use Rattle.stages.proofs.NextTask.{alone_of}
use Rattle.stages.proofs.lifting.lift.Goals as goal

pub remove-steps-requires : goal.remove-steps-requires
remove-steps-requires c =
    let p = c.in_ok-lifted.lifted in
    let n = c.in_ok-lifted.ensures.close.as_many in
    let one : length p.lists.items ≡ 1 = omega (arith, n, length-map p.lists.items (steps_at p.store)) in
    search (rules, arith)

pub returns : goal.returns
returns c =
    let s = c.args.store in
    let p = c.in_ok-lifted.lifted in
    let d = c.in_ok-lifted.ensures in
    alone_of s (carried_from s c.args.carried) (parts_at s c.args.parts.items) p.store p.lists.items c.remove-steps.result d.grows d.held d.close d.sequents c.remove-steps.ensures.value
