-- What code has of a vocabulary.
use Rattle.std.specs.Prelude.{List, All}
use Rattle.trees.specs.Tree.{Tree}
use Rattle.tasks.specs.Vocabulary.{Vocabulary, of_task, of_signature}
use Rattle.tasks.specs.Meaning.{symbols_at, task_at, SymbolHeld}
use Rattle.tasks.specs.Looking.{LookupHeld}
use Rattle.tasks.specs.declared.typed_trees.vocabulary.Vocabulary.{Vocabulary as StoredVocabulary}
use Rattle.tasks.specs.declared.typed_trees.vocabulary.Vocabulary.TheVariants.{OfTask, OfSignature}

abbrev pub vocabulary_at : List Tree → StoredVocabulary → Vocabulary
vocabulary_at s (OfTask l) = of_task (task_at s l.now.task.now)
vocabulary_at s (OfSignature g) = of_signature (symbols_at s g.now.symbols)

abbrev pub VocabularyHeld : List Tree → StoredVocabulary → Type 0
VocabularyHeld s (OfTask l) = LookupHeld s l.now
VocabularyHeld s (OfSignature g) = All (SymbolHeld s) g.now.symbols
