use Rattle.std.proofs.Common.{rules, ◌≡◌, ◌∙◌, ap, sym}
use Rattle.printed_problems.specs.declared.printed.Problem.{Problem}
use Rattle.tasks.specs.declared.signature.Signature.{Signature}
use Rattle.tasks.specs.Meaning.{symbols_at, task_at}
use Rattle.part_texts.proofs.Parted.{problem_there, names_there, names_step}
use Rattle.part_texts.proofs.names.name_texts.Goals as goal

pub loop-place-preserved : goal.loop-place-preserved
loop-place-preserved c =
    let s = c.args.store.now in
    let d = c.args.driver.now in
    let tasks = c.args.tasks.now in
    let i = c.loop-place.place in
    let t = c.index-tasks-place.result in
    let p = c.index-problems-place.result in
    let own : c.deref.result.now ≡ t.sig.value = search rules in
    let symbols : symbols_at s c.deref.result.now.symbols ≡ (task_at s t).symbols = ap (λ (g : Signature). symbols_at s g.symbols) own in
    names_step s d tasks i t (symbols_at s c.deref.result.now.symbols) c.as_slice-names.result.now c.loop-place.out.items c.push_names.new.out.items _ c.index-tasks-place.is c.loop-place-test.true
    (c.as_slice-names.ensures ∙ ap (λ (q : Problem). q.names) (sym c.index-problems-place.is) ∙ names_there s d (task_at s t) p (problem_there s d tasks c.args.problems.now i t p c.requires.problems c.index-tasks-place.is c.index-problems-place.is c.loop-place-test.true))
    symbols (c.in_ok-push_names.ensures s) c.loop-place.invariant
