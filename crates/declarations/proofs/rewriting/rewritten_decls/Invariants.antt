use Rattle.std.specs.List.{flat_map}
use Rattle.std.proofs.Common.{◌≡◌, ◌++◌, drop, All}
use Rattle.trees.specs.Node.{Grows}
use Rattle.tasks.specs.Meaning.{symbols_at, declarations_at, DeclHeld}
use Rattle.declarations.proofs.rewriting.rewritten_decls.Given as goal

abbrev pub invariant-loop-decl : goal.invariant-loop-decl
invariant-loop-decl g l = record {
  grows : Grows l.fn.store l.store;
  held : All (DeclHeld l.store) l.decls.items;
  made : declarations_at l.store l.decls.items ++ flat_map (g.R.RewriteDeclarations.rule l.rule (symbols_at l.fn.store l.task.sig.value.symbols)) (declarations_at l.fn.store (drop l.decl-index l.task.decls))
      ≡ flat_map (g.R.RewriteDeclarations.rule l.rule (symbols_at l.fn.store l.task.sig.value.symbols)) (declarations_at l.fn.store l.task.decls);
}
