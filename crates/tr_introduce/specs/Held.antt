-- Judgements whose numbers are held.
use Rattle.std.specs.Prelude.{List, All}
use Rattle.trees.specs.declared.TermId.{TermId}
use Rattle.trees.specs.Tree.{Tree}
use Rattle.trees.specs.Node.{Holds}

pub record IsHeld (s : List Tree) (ps ls : List TermId) (g : TermId) : Type 0 where
  pub params : All (Holds s) ps
  pub locals : All (Holds s) ls
  pub goal : Holds s g
