-- What terms stand for that a pattern is asked of.
use Rattle.std.specs.Prelude.{List, [], ◌∷◌}
use Rattle.trees.specs.Tree.{Tree, Leaf, HEnd}
use Rattle.trees.specs.Node.{tree_at, Holds}
use Rattle.tasks.specs.Task.{TaskTree}
use Rattle.tasks.specs.MatchTests.{field, fields}
use Rattle.rules.specs.declared.term_rules.asked.Asked.{Asked, Nothing, Whole, Field'}
use Rattle.rules.specs.declared.term_rules.asked.AskedList.{AskedList}
use Rattle.rules.specs.declared.term_rules.asked.AskedList.TheVariants.{One, Fields}

abbrev pub asked_at : TaskTree → List Tree → Asked → Tree
asked_at t s Nothing = Leaf HEnd
asked_at t s (Whole a) = tree_at s a
asked_at t s (Field' j types p inner) = field t j (tree_at s types) (asked_at t s inner)

abbrev pub AskedHeld : List Tree → Asked → Type 0
AskedHeld s Nothing = Unit {0}
AskedHeld s (Whole a) = Holds s a
AskedHeld s (Field' j types p inner) = Holds s types × AskedHeld s inner

abbrev pub list_at : TaskTree → List Tree → AskedList → List Tree
list_at t s (One a) = asked_at t s a.now ∷ []
list_at t s (Fields js types a) = fields t js.now (tree_at s types) (asked_at t s a.now)

abbrev pub ListHeld : List Tree → AskedList → Type 0
ListHeld s (One a) = AskedHeld s a.now
ListHeld s (Fields js types a) = Holds s types × AskedHeld s a.now
