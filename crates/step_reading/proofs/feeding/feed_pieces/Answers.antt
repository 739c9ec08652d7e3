use Rattle.std.proofs.Common.{◌≡◌, ◌++◌, take, [], List, ℕ, length, Option, refl, ap, subst, ◌∙◌, rules}
use Rattle.tasks.specs.Task.{TaskTree}
use Rattle.tasks.specs.Meaning.{task_at}
use Rattle.tasks.proofs.trees.Nodes.{Grows_refl, Grows_trans}
use Rattle.tasks.proofs.Growth.{task_held_later, task_later}
use Rattle.step_reading.specs.Words.{ended_lines}
use Rattle.step_reading.specs.Fed.{IsFed, IsLineFault}
use Rattle.step_reading.proofs.Fed.{fed_whole, fed_all, fault_longer, fault_of_file, passed_on}
use Rattle.step_reading.proofs.feeding.feed_pieces.Goals as goal

pub loop-rest-init : goal.loop-rest-init
loop-rest-init c = record { fed = ([], refl, c.requires.fed); tallest = refl; grows = Grows_refl c.args.store.now }

pub feed-requires-clause-task : goal.feed-requires-clause-task
feed-requires-clause-task c = task_held_later c.args.store.now c.loop-rest.store c.loop-rest.invariant.grows c.args.task.now c.requires.task

pub feed-requires-clause-fed : goal.feed-requires-clause-fed
feed-requires-clause-fed c = (c.loop-rest.invariant.fed.0, c.loop-rest.invariant.fed.2)

pub loop-rest-preserved : goal.loop-rest-preserved
loop-rest-preserved c =
    let k = c.loop-rest.invariant in
    let front = k.fed.0 in
    let rest = c.loop-rest.rest.now in
    let fed = c.in_ok-feed.ensures.fed front k.fed.2 in
    let all : (front ++ c.split_at.result.0.now) ++ c.split_at.result.1.now ≡ c.args.bytes.now =
    ap (λ (l : List ℕ). (front ++ l) ++ c.split_at.result.1.now) c.split_at.ensures.front ∙ ap (λ (l : List ℕ). (front ++ take c.min.result rest) ++ l) c.split_at.ensures.back ∙ fed_whole front rest c.min.result ∙ k.fed.1 in
    record {
      fed = (front ++ c.split_at.result.0.now, all, fed);
      tallest = c.in_ok-feed.ensures.tallest ∙ k.tallest;
      grows = Grows_trans c.args.store.now c.loop-rest.store c.feed.new.store k.grows c.in_ok-feed.ensures.grows;
    }

pub returns-in_err-feed-clause-fault : goal.returns-in_err-feed-clause-fault
returns-in_err-feed-clause-fault c =
    let k = c.loop-rest.invariant in
    let front = k.fed.0 in
    let rest = c.loop-rest.rest.now in
    let s0 = c.args.store.now in
    let task = c.args.task.now in
    let t = task_at s0 task in
    let names = c.args.names.now in
    let tallest = c.args.reader.now.tallest in
    let piece = c.split_at.result.0.now in
    let others = c.split_at.result.1.now in
    let e = c.in_err-feed.field-0.0 in
    let same : task_at c.loop-rest.store task ≡ t = task_later s0 c.loop-rest.store k.grows task c.requires.task in
    let f = c.in_err-feed.ensures.wrong front k.fed.2 in
    let f1 = subst (λ (u : TaskTree). IsLineFault u names tallest (ended_lines (front ++ piece)) e) same (subst (λ (z : Option ℕ). IsLineFault (task_at c.loop-rest.store task) names z (ended_lines (front ++ piece)) e) k.tallest f) in
    let all : (front ++ piece) ++ others ≡ c.args.bytes.now =
    ap (λ (l : List ℕ). (front ++ l) ++ others) c.split_at.ensures.front ∙ ap (λ (l : List ℕ). (front ++ take c.min.result rest) ++ l) c.split_at.ensures.back ∙ fed_whole front rest c.min.result ∙ k.fed.1 in
    passed_on c.from_residual.result e _ c.from_residual.ensures.1
    (fault_of_file t names tallest c.args.bytes.now e (subst (λ (b : List ℕ). IsLineFault t names tallest (ended_lines b) e) all (fault_longer t names tallest (front ++ piece) others e f1)))

pub returns-in_err-feed-clause-tallest : goal.returns-in_err-feed-clause-tallest
returns-in_err-feed-clause-tallest c = c.in_err-feed.ensures.tallest ∙ c.loop-rest.invariant.tallest

pub returns-in_err-feed-clause-grows : goal.returns-in_err-feed-clause-grows
returns-in_err-feed-clause-grows c = Grows_trans c.args.store.now c.loop-rest.store c.feed.new.store c.loop-rest.invariant.grows c.in_err-feed.ensures.grows

pub returns-clause-fed : goal.returns-clause-fed
returns-clause-fed c =
    let k = c.loop-rest.invariant in
    let none : length c.loop-rest.rest.now ≡ 0 = search rules in
    subst (λ (b : List ℕ). IsFed c.loop-rest.store c.args.task.now c.args.names.now b c.loop-rest.reader) (fed_all k.fed.0 c.loop-rest.rest.now c.args.bytes.now k.fed.1 none) k.fed.2
