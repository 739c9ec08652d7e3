use Rattle.std.proofs.Common.{map, drop}
use Rattle.tasks.specs.trees.Node.{Grows}
use Rattle.surface.specs.SurfaceDeclarations.{decl_of, decls}
use Rattle.theory_states.specs.Meaning.{state_at}
use Rattle.theories.specs.Right.{IsStateRight}
use Rattle.theories.proofs.Walking.{Walk}
use Rattle.theories.proofs.declarations.+typing.Given as goal

abbrev pub invariant-type_decls-loop-decl : goal.invariant-type_decls-loop-decl
invariant-type_decls-loop-decl l = record {
  right : IsStateRight l.store l.typed l.open;
  grows : Grows l.fn.store l.store;
  walk : Walk (state_at l.fn.store l.fn.typed l.fn.open) (state_at l.store l.typed l.open) (decls (map decl_of (drop l.decl-index l.within))) (decls (map decl_of l.within));
}
