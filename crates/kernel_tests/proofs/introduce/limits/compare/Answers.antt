use Rattle.std.proofs.Common.{◌≡◌, [], ◌∷◌, ◌++◌, sym, subst}
use Rattle.std.proofs.lemmas.List.Elements.{All-push}
use Rattle.tasks.specs.Meaning.{TaskHeld, TasksHeld}
use Rattle.kernel_tests.proofs.introduce.limits.compare.Goals as goal

pub loop-preserved : goal.loop-preserved
loop-preserved g c =
    let s = c.formula-goal.new.store in
    let grown : c.push.new.self.items ≡ c.loop.tasks.items ++ c.task.result ∷ [] = rw c.expect.ensures at c.push.ensures.items in
    subst (TasksHeld s) (sym grown) (All-push (TaskHeld s) c.loop.tasks.items c.task.result c.loop.invariant c.task.ensures)
