use Rattle.std.proofs.Common.{◌≡◌, ◌∙◌, ℕ, List, Ok, inr, ap}
use Rattle.tasks.specs.declared.task.Task.{Task}
use Rattle.tasks.specs.Meaning.{tasks_at}
use Rattle.part_texts.specs.Names.{name_texts}
use Rattle.program.specs.Values.{setting_at}
use Rattle.program.proofs.print.name_task.Goals as goal

pub returns : goal.returns
returns c =
    let x = setting_at c.args.store.now c.args.setting.now in
    let s = c.find_parts.new.store in
    let ts = tasks_at s c.in_ok-parts.parts.staged.carried.tasks.items in
    let same : c.in_ok-text.text.items ≡ name_texts x.driver ts = c.in_ok-text.ensures ∙ ap (λ (z : List Task). name_texts x.driver (tasks_at s z)) c.deref.ensures.value in
    inr (ts, c.in_ok-parts.ensures.parts, ap (λ (z : List ℕ). Ok z) same)
