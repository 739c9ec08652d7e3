use Rattle.std.proofs.Common.{◌≡◌, ℕ, List, drop, None}
use Rattle.tasks.specs.trees.Tree.{Tree}
use Rattle.tasks.specs.Meaning.{symbols_at}
use Rattle.clones.specs.clone_elements.Left.{last_place}
use Rattle.clones.specs.clone_elements.Origins.{origin_at, place_at}
use Rattle.clones.proofs.clone_elements.left.LeftNames.new.Given as goal

abbrev pub invariant-loop-place : goal.invariant-loop-place
invariant-loop-place l = (s : List Tree) (x : List ℕ) → last_place (symbols_at s l.sig.symbols) (origin_at s l.source) x (place_at l.names x) (drop l.place-index l.source.own.now)
    ≡ last_place (symbols_at s l.sig.symbols) (origin_at s l.source) x None l.source.own.now
