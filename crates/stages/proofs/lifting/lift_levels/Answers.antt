use Rattle.std.proofs.Common.{rules, ◌≡◌, ℕ, List, length, get_or, sym, subst, arith}
use Rattle.tasks.specs.declared.task.Task.{Task}
use Rattle.tasks.specs.Meaning.{tasks_at}
use Rattle.kernel.specs.rules.declared.rule.Step.{Step}
use Rattle.evidence.specs.Stages.{parts_at}
use Rattle.stages.specs.transformations.Transformations.{equation_of}
use Rattle.stages.specs.Lifted.{AreDerived}
use Rattle.stages.specs.Levels.{IsRefutedLevel}
use Rattle.stages.proofs.LiftedLevels.{lifted_none, lifted_more, lifted_all, level_refuted}
use Rattle.stages.proofs.lifting.lift_levels.Goals as goal

pub loop-level-init : goal.loop-level-init
loop-level-init c = lifted_none c.args.stages.now c.args.store c.args.carried c.args.parts.items c.requires.carried c.requires.parts_held c.requires.close

pub lift_level-requires : goal.lift_level-requires
lift_level-requires c =
    let s = c.loop-level.store in
    let x = c.index-stages-len.result in
    let levels = c.pop.new.self.items in
    let made = c.loop-level.made.items in
    let e = equation_of x in
    let many : c.len.result ≡ length levels = search rules in
    let at : x ≡ get_or c.args.stages.now (length levels) x = subst (λ (k : ℕ). x ≡ get_or c.args.stages.now k x) many c.index-stages-len.is in
    let r = level_refuted c.args.stages.now c.args.store c.args.carried c.args.parts.items s c.loop-level.levels.items levels c.in-Some.level made c.loop-level.lists.items c.in-Some.ensures.items c.loop-level.invariant x at in
    subst (λ (ts : List Task). IsRefutedLevel e s ts c.deref-in-Some.result.now made c.deref-in-Some-2.result.now) (sym c.deref.ensures.value)
    (subst (λ (ns : List ℕ). IsRefutedLevel e s c.in-Some.level.tasks.items ns made c.deref-in-Some-2.result.now) (sym c.deref-in-Some.ensures.value)
    (subst (λ (z : List (List Step)). IsRefutedLevel e s c.in-Some.level.tasks.items c.in-Some.level.counts.items made z) (sym c.deref-in-Some-2.ensures.value) r))

pub loop-level-preserved : goal.loop-level-preserved
loop-level-preserved c =
    let s = c.loop-level.store in
    let x = c.index-stages-len.result in
    let levels = c.pop.new.self.items in
    let lists = c.loop-level.lists.items in
    let p = c.in_ok-lifted.lifted in
    let many : c.len.result ≡ length levels = search rules in
    let at : x ≡ get_or c.args.stages.now (length levels) x = subst (λ (k : ℕ). x ≡ get_or c.args.stages.now k x) many c.index-stages-len.is in
    let d : AreDerived s (tasks_at s c.in-Some.level.tasks.items) (parts_at s lists) p =
    subst (λ (ts : List Task). AreDerived s (tasks_at s ts) (parts_at s lists) p) c.deref.ensures.value
    (subst (λ (z : List (List Step)). AreDerived s (tasks_at s c.deref.result.now) (parts_at s z) p) c.deref-in-Some-2.ensures.value c.in_ok-lifted.ensures) in
    lifted_more c.args.stages.now c.args.store c.args.carried c.args.parts.items s c.loop-level.levels.items levels c.in-Some.level c.loop-level.made.items lists c.in-Some.ensures.items c.loop-level.invariant x at p d

pub returns : goal.returns
returns c =
    let none : length c.loop-level.levels.items ≡ 0 = search rules in
    lifted_all c.args.stages.now c.args.store c.args.carried c.args.parts.items (record { store = c.loop-level.store; lists = c.loop-level.lists }) c.loop-level.levels.items c.loop-level.made.items none c.loop-level.invariant
