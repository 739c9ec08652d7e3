use Rattle.std.proofs.Common.{rules, arith, ◌≡◌, ◌+◌, ◌<◌, ◌∙◌, ◌++◌, ◌∷◌, [], ℕ, List, length, map, Ok, Err, Result, string_bytes, sym, ap, subst}
use Rattle.tasks.specs.Task.{TaskTree}
use Rattle.tasks.proofs.trees.Nodes.{Grows_trans}
use Rattle.std.proofs.lemmas.List.{length-map}
use Rattle.tasks.specs.Meaning.{task_at, tasks_at, TaskHeld}
use Rattle.tasks.proofs.Growth.{task_later}
use Rattle.rules.specs.declared.rule.Step.{Step}
use Rattle.rules.specs.Trees.{StepTree}
use Rattle.rules.specs.Meaning.{steps_at}
use Rattle.stages.specs.evidence.Stages.{parts_at, task_or, PartsHeld}
use Rattle.step_writing.specs.kernel.Right.{Closes}
use Rattle.part_texts.specs.printed_problems.declared.printed.Problem.{Problem}
use Rattle.part_texts.specs.printed_problems.Problems.{problem_of}
use Rattle.part_texts.proofs.Parted.{problem_there, names_there}
use Rattle.statuses.specs.fault_order.Answers.{Answers}
use Rattle.program.specs.Order.{PartFile, FirstFiles}
use Rattle.statuses.specs.declared.fault_order.faults.RunFault.{RunFault}
use Rattle.program.proofs.Files.{FirstClose, close_all, part_later, part_held, handed_later, handed_held, handed_more, held_more, close_more, name_at, files_more, files_stop}
use Rattle.program.proofs.refutations.read_files.Goals as goal

pub read_file-requires : goal.read_file-requires
read_file-requires g c =
    let s = c.args.store.now in
    let d = c.args.driver.now in
    let i = c.loop-place.place in
    let t = c.index-parts-place.result in
    let p = c.index-problems-place.result in
    let its = problem_there s d c.args.parts.now c.args.problems.now i t p c.requires.problems c.index-parts-place.is c.index-problems-place.is c.loop-place-test.true in
    let h = subst (TaskHeld s) (sym c.index-parts-place.is) (c.requires.held i t c.loop-place-test.true) in
    let later : task_at c.loop-place.store t ≡ task_at s t = task_later s c.loop-place.store c.loop-place.invariant.grows t h in
    record {
      held = part_held s c.loop-place.store c.loop-place.invariant.grows c.args.parts.now i t c.index-parts-place.is c.loop-place-test.true c.requires.held;
      names = c.as_slice.ensures ∙ ap (λ (q : Problem). q.names) (sym c.index-problems-place.is) ∙ names_there s d (task_at s t) p its ∙ ap (λ (z : TaskTree). (problem_of d z).names) (sym later);
    }

pub returns-in_err-steps-clause-answers : goal.returns-in_err-steps-clause-answers
returns-in_err-steps-clause-answers g c =
    let i = c.loop-place.place in
    let d = c.args.driver.now in
    let parts = tasks_at c.args.store.now c.args.parts.now in
    let names = map string_bytes c.args.names.now in
    let within : i < length c.args.names.now = omega arith in
    let part = part_later c.args.store.now c.loop-place.store c.loop-place.invariant.grows c.args.parts.now i c.index-parts-place.result c.index-parts-place.is c.loop-place-test.true c.requires.held in
    let name = name_at c.args.names.now i c.index-names-place.result c.as_str.result.now c.index-names-place.is within c.as_str.ensures.value in
    let r : Result (List StepTree) RunFault = Err c.in_err-steps.field-0.0 in
    let read = subst (λ (n : List ℕ). Answers (PartFile d i (task_or parts i) n) (i + d.next_file) (λ _. i + d.next_file + 1) (g.L.Library.state c.loop-place.lib) (g.L.Library.state c.read_file.new.lib) r) name
    (subst (λ (t : TaskTree). Answers (PartFile d i t c.as_str.result.now) (i + d.next_file) (λ _. i + d.next_file + 1) (g.L.Library.state c.loop-place.lib) (g.L.Library.state c.read_file.new.lib) r) part c.in_err-steps.ensures.answers) in
    let whole = files_stop d parts names i (length c.args.names.now) (parts_at c.loop-place.store c.loop-place.handed.items) within c.loop-place.invariant.answers read in
    search rules

pub loop-place-preserved : goal.loop-place-preserved
loop-place-preserved g c =
    let i = c.loop-place.place in
    let d = c.args.driver.now in
    let s = c.loop-place.store in
    let s' = c.read_file.new.store in
    let parts = tasks_at c.args.store.now c.args.parts.now in
    let names = map string_bytes c.args.names.now in
    let old = c.loop-place.handed.items in
    let steps = c.in_ok-steps.steps.items in
    let within : i < length c.args.names.now = omega arith in
    let part = part_later c.args.store.now s c.loop-place.invariant.grows c.args.parts.now i c.index-parts-place.result c.index-parts-place.is c.loop-place-test.true c.requires.held in
    let name = name_at c.args.names.now i c.index-names-place.result c.as_str.result.now c.index-names-place.is within c.as_str.ensures.value in
    let r : Result (List StepTree) RunFault = Ok (steps_at s' steps) in
    let read = subst (λ (n : List ℕ). Answers (PartFile d i (task_or parts i) n) (i + d.next_file) (λ _. i + d.next_file + 1) (g.L.Library.state c.loop-place.lib) (g.L.Library.state c.read_file.new.lib) r) name
    (subst (λ (t : TaskTree). Answers (PartFile d i t c.as_str.result.now) (i + d.next_file) (λ _. i + d.next_file + 1) (g.L.Library.state c.loop-place.lib) (g.L.Library.state c.read_file.new.lib) r) part c.in_ok-steps.ensures.answers) in
    let refutes = subst (λ (t : TaskTree). Closes t (steps_at s' steps)) part c.in_ok-steps.ensures.refutes in
    let same = handed_later s s' c.in_ok-steps.ensures.grows old c.loop-place.invariant.held in
    let items : c.push.new.self.items ≡ old ++ steps ∷ [] = c.in_ok-push.ensures.items ∙ ap (λ (z : List Step). old ++ z ∷ []) c.from_vec.ensures in
    let trees : parts_at s' c.push.new.self.items ≡ parts_at s old ++ steps_at s' steps ∷ [] =
    ap (parts_at s') items ∙ handed_more s' old steps ∙ ap (λ (z : List (List StepTree)). z ++ steps_at s' steps ∷ []) same in
    record {
      answers = subst (λ (z : List (List StepTree)). Answers (FirstFiles d parts names (i + 1)) d.next_file (λ _. i + 1 + d.next_file) (g.L.Library.state c.args.lib.now) (g.L.Library.state c.read_file.new.lib) (Ok z)) (sym trees)
          (files_more d parts names i (parts_at s old) (steps_at s' steps) c.loop-place.invariant.answers read);
      held = subst (PartsHeld s') (sym items) (held_more s' old steps (handed_held s s' c.in_ok-steps.ensures.grows old c.loop-place.invariant.held) c.in_ok-steps.ensures.held);
      close = subst (λ (z : List (List StepTree)). FirstClose parts z (i + 1)) (sym trees) (close_more parts (parts_at s old) i (steps_at s' steps) c.loop-place.invariant.close refutes);
      grows = Grows_trans c.args.store.now s s' c.loop-place.invariant.grows c.in_ok-steps.ensures.grows;
    }

pub returns-clause-answers : goal.returns-clause-answers
returns-clause-answers g c =
    let parts = tasks_at c.args.store.now c.args.parts.now in
    let names = map string_bytes c.args.names.now in
    let e : c.loop-place.place ≡ length c.args.names.now = omega arith in
    subst (λ (n : ℕ). Answers (FirstFiles c.args.driver.now parts names n) c.args.driver.now.next_file (λ _. n + c.args.driver.now.next_file) (g.L.Library.state c.args.lib.now) (g.L.Library.state c.loop-place.lib) (Ok (parts_at c.loop-place.store c.loop-place.handed.items))) e c.loop-place.invariant.answers

pub returns-clause-refuted : goal.returns-clause-refuted
returns-clause-refuted g c =
    let parts = tasks_at c.args.store.now c.args.parts.now in
    let e : c.loop-place.place ≡ length parts = omega (arith, length-map c.args.parts.now (task_at c.args.store.now)) in
    close_all parts (parts_at c.loop-place.store c.loop-place.handed.items) c.loop-place.place e c.loop-place.invariant.close
