use Rattle.std.proofs.Common.{◌≡◌, ◌++◌, map, drop, All}
use Rattle.tasks.specs.trees.Node.{Grows}
use Rattle.tasks.specs.Task.{DeclarationTree}
use Rattle.tasks.specs.Meaning.{declarations_at, task_at, DeclHeld}
use Rattle.evidence.specs.changed_tasks.Changed.{with_formula}
use Rattle.walking.proofs.rewriting.making.rewritten_decls.Given as goal

abbrev pub invariant-loop-decl : goal.invariant-loop-decl
invariant-loop-decl g l = record {
  grows : Grows l.fn.store l.store;
  held : All (DeclHeld l.store) l.decls;
  made : declarations_at l.store l.decls ++ map (λ (d : DeclarationTree). with_formula (g.F.RewriteFormulas.function l.rewrite (task_at l.fn.store l.task)) d d.body) (declarations_at l.fn.store (drop l.decl-index l.task.decls))
      ≡ map (λ (d : DeclarationTree). with_formula (g.F.RewriteFormulas.function l.rewrite (task_at l.fn.store l.task)) d d.body) (declarations_at l.fn.store l.task.decls);
}
