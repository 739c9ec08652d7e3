use Rattle.std.proofs.Common.{◌≡◌, ◌++◌, ◌∷◌, [], length, map}
use Rattle.scopes.specs.Names.{find_within}
use Rattle.scopes.proofs.nested.find_within.Given as goal

abbrev pub invariant-loop-name : goal.invariant-loop-name
invariant-loop-name g l = find_within l.scopes l.table l.fn.found (map g.W.Word.word l.fn.names ++ l.last ∷ []) ≡ find_within l.scopes l.table l.found (map g.W.Word.word l.names ++ l.last ∷ [])

abbrev pub decreases-loop-name : goal.decreases-loop-name
decreases-loop-name g l = length l.names
