use Rattle.std.proofs.Common.{◌≡◌, List, drop}
use Rattle.std.specs.List.{list_any}
use Rattle.tasks.specs.trees.Tree.{Tree}
use Rattle.tasks.specs.Meaning.{declaration_at}
use Rattle.tr_remove.specs.Remove.{is_declaration_named}
use Rattle.tr_remove.proofs.removal.is_among.Given as goal

abbrev pub invariant-loop-name : goal.invariant-loop-name
invariant-loop-name l = (s : List Tree) → list_any (is_declaration_named (declaration_at s l.decl)) (drop l.name-index l.props) ≡ list_any (is_declaration_named (declaration_at s l.decl)) l.props
