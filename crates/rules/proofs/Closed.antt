-- What is put in is closed.
use Rattle.std.proofs.Common.{◌≡◌, List}
use Rattle.trees.specs.Tree.{Tree, loose}
use Rattle.rules.specs.declared.term.Term.{Term}
use Rattle.rules.specs.declared.term.Term.TheVariants.{Held, Param}
use Rattle.rules.specs.Terms.{term_at, TermHeld}

pub term_closed : (s : List Tree) (t : Term) → TermHeld s t → loose (term_at s t) ≡ 0
term_closed s (Held a) h = h.1
term_closed s (Param n ty) h = h.1
