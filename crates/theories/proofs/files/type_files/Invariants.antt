use Rattle.std.proofs.Common.{ℕ, List, drop}
use Rattle.tasks.specs.trees.Node.{Grows}
use Rattle.surface.specs.declared.declarations.File.{File}
use Rattle.surface.specs.SurfaceDeclarations.{file_of}
use Rattle.theories.specs.Files.{AreEmbeddedInBy, AreEmbeddedFaultyIn}
use Rattle.theories.specs.Sound.{AreSoundlyTyped}
use Rattle.theories.specs.Right.{between_at, AreTheoriesRight}
use Rattle.theories.proofs.Lists.{WalkList}
use Rattle.theories.proofs.files.type_files.Given as goal

abbrev pub invariant-loop-path : goal.invariant-loop-path
invariant-loop-path l = record {
  right : AreTheoriesRight l.store l.typed;
  grows : Grows l.fn.store l.store;
  walk : WalkList (λ (f : List ℕ × File). AreEmbeddedInBy AreSoundlyTyped f.0 (file_of f.1)) (λ (f : List ℕ × File). AreEmbeddedFaultyIn f.0 (file_of f.1)) (between_at l.fn.store l.fn.typed 0) (between_at l.store l.typed 0) (drop l.path-index l.files) l.files;
}
