use Rattle.tr_if.specs.Kept.{if_gives}
use Rattle.tr_if.proofs.eliminating.ConditionalsTransform.fact.Goals as goal

pub cite_rewritten-requires-clause-stage : goal.cite_rewritten-requires-clause-stage
cite_rewritten-requires-clause-stage c =
    let d = c.args.draft.now in
    let i = c.requires.stage in
    record { own = i.own; held = i.held; among = record { tasks = i.among.tasks; is = if_gives d.task i.among.tasks i.among.is; place = i.among.place; within = i.among.within; there = i.among.there } }
