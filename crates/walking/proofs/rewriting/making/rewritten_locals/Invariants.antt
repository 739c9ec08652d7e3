use Rattle.std.proofs.Common.{◌≡◌, ◌++◌, map, drop, All}
use Rattle.tasks.specs.trees.Node.{Holds, Grows}
use Rattle.tasks.specs.Meaning.{trees_at, task_at}
use Rattle.walking.proofs.rewriting.making.rewritten_locals.Given as goal

abbrev pub invariant-loop-local : goal.invariant-loop-local
invariant-loop-local g l = record {
  grows : Grows l.fn.store l.store;
  held : All (Holds l.store) l.locals;
  made : trees_at l.store l.locals ++ map (g.F.RewriteFormulas.function l.rewrite (task_at l.fn.store l.task)) (trees_at l.fn.store (drop l.local-index l.task.locals))
      ≡ map (g.F.RewriteFormulas.function l.rewrite (task_at l.fn.store l.task)) (trees_at l.fn.store l.task.locals);
}
