-- What the problems of several tasks share.
use Rattle.std.specs.Prelude.{List}
use Rattle.trees.specs.Tree.{Tree}
use Rattle.drivers.specs.declared.driver_items.kinds.Syntax.{Syntax}
use Rattle.name_tables.specs.Fronts.{IsFrontNoted}
use Rattle.printed_problems.specs.declared.making.Shared.{Shared}
use Rattle.printed_problems.specs.Checked.{IsChecked}

-- what was noted of declarations is right, and what was found has no fault for this syntax
pub record IsShared (p : Syntax) (s : List Tree) (shared : Shared) : Type 0 where
  pub noted : IsFrontNoted s shared.noted
  pub checked : IsChecked p s shared.checked
