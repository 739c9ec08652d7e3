-- What the calls promise that append texts.
use Rattle.std.specs.Prelude.{◌≡◌, ℕ, ◌<◌, List, ◌++◌, All}
use Rattle.trees.specs.declared.TermId.{TermId}
use Rattle.trees.specs.Tree.{Tree}
use Rattle.trees.specs.Node.{tree_at}
use Rattle.tasks.specs.Typing.{members}
use Rattle.tasks.specs.Meaning.{trees_at}
use Rattle.name_tables.specs.Seen.{seen_occurrences, KeysHeld}
use Rattle.printed_problems.specs.declared.printed_terms.printer.TermPrinter.{TermPrinter}
use Rattle.printed_problems.specs.printed_terms.Texts.{Printing}

-- how a printer prints
abbrev pub printing : TermPrinter → Printing
printing c = record {
  driver = c.driver.now;
  things =
      seen_occurrences c.store.now c.things.now;
  names = c.names.now;
}

abbrev pub CanPrint : TermPrinter → Type 0
CanPrint c = KeysHeld c.store.now c.things.now

-- a text has grown by another
abbrev pub Appends : List ℕ → List ℕ → List ℕ → Type 0
Appends old more new = new ≡ old ++ more

-- the members of a list, which are parts of it
pub record AreListMembers (s : List Tree) (list : TermId) (ids : List TermId) : Type 0 where
  pub are : trees_at s ids ≡ members (tree_at s list)
  pub below : All (λ (id : TermId). id.0 < list.0) ids
