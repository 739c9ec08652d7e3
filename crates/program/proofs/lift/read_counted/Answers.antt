use Rattle.std.proofs.Common.{rules, ◌≡◌, ◌∙◌, ◌+◌, Err, length, map, string_bytes, sym, subst}
use Rattle.std.proofs.lemmas.List.{length-map}
use Rattle.tasks.specs.Meaning.{task_at, tasks_at}
use Rattle.statuses.specs.fault_order.Answers.{Answers}
use Rattle.program.specs.Order.{Handed}
use Rattle.statuses.specs.declared.fault_order.faults.RunFault.{RunFault}
use Rattle.program.proofs.Lifting.{count_refused, handed_answers}
use Rattle.program.proofs.lift.read_counted.Goals as goal

pub returns-clause-answers : goal.returns-clause-answers
returns-clause-answers g c =
    let n = length c.args.refs.now in
    let names = map string_bytes c.args.refs.now in
    let parts = tasks_at c.args.store.now c.args.parts.now in
    let e : length c.args.parts.now ≡ n = search rules in
    handed_answers c.args.driver.now names parts n (length-map c.args.parts.now (task_at c.args.store.now) ∙ e) (sym (length-map c.args.refs.now string_bytes)) c.read_files.ensures.answers

pub returns-in_err-count_files-clause-answers : goal.returns-in_err-count_files-clause-answers
returns-in_err-count_files-clause-answers g c =
    let n = length c.args.refs.now in
    let names = map string_bytes c.args.refs.now in
    let parts = tasks_at c.args.store.now c.args.parts.now in
    let want : length c.args.parts.now ≡ length parts = sym (length-map c.args.parts.now (task_at c.args.store.now)) in
    let files : n ≡ length names = sym (length-map c.args.refs.now string_bytes) in
    let refused = count_refused c.args.driver.now names parts {s = g.L.Library.state c.args.lib.now} (λ _. n + c.args.driver.now.next_file) (length c.args.parts.now) n want files c.in_err-count_files.ensures.0 in
    let whole = subst (λ (e : RunFault). Answers (Handed c.args.driver.now names parts) c.args.driver.now.next_file (λ _. n + c.args.driver.now.next_file) (g.L.Library.state c.args.lib.now) (g.L.Library.state c.args.lib.now) (Err e)) (sym c.in_err-count_files.ensures.1) refused in
    search rules
