use Rattle.std.proofs.Common.{drop}
use Rattle.tasks.specs.trees.Node.{Grows}
use Rattle.surface.specs.declared.declarations.TheoryTree.{TheoryTree}
use Rattle.surface.specs.SurfaceDeclarations.{theory_of}
use Rattle.theories.specs.Files.{IsNewTheoryBy, IsNewFault}
use Rattle.theories.specs.Sound.{AreSoundlyTyped}
use Rattle.theories.specs.Right.{between_at, AreTheoriesRight}
use Rattle.theories.proofs.Lists.{WalkList}
use Rattle.theories.proofs.files.type_theories.Given as goal

abbrev pub invariant-loop-theory : goal.invariant-loop-theory
invariant-loop-theory l = record {
  right : AreTheoriesRight l.store l.typed;
  grows : Grows l.fn.store l.store;
  walk : WalkList (λ (t : TheoryTree). IsNewTheoryBy AreSoundlyTyped (theory_of t).name.text (theory_of t).decls) (λ (t : TheoryTree). IsNewFault (theory_of t).name.text (theory_of t).name.at (theory_of t).decls) (between_at l.fn.store l.fn.typed 0) (between_at l.store l.typed l.count) (drop l.theory-index l.theories) l.theories;
}
