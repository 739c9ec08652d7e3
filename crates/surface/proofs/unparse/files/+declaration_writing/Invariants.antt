use Rattle.surface.proofs.unparse.Common.{drop, map, terminals, write_decls, decls, decl_of}
use Rattle.surface.proofs.unparse.files.+declaration_writing.Given as goal
use Rattle.surface.specs.unparse.Putting.{Leaves}

abbrev pub invariant-push_decls-loop-decl : goal.invariant-push_decls-loop-decl
invariant-push_decls-loop-decl l = Leaves l.fn.out l.out (terminals (write_decls (decls (map decl_of (drop l.decl-index l.of))))) (terminals (write_decls (decls (map decl_of l.of))))
