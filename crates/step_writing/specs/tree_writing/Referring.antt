-- What the words of a line refer to: trees that are at numbers among those of the lines before.
use Rattle.std.specs.Prelude.{◌≡◌, ℕ, ◌++◌, List, map, Option, Some, Vec, slice_get}
use Rattle.std.specs.Option.{option_and_then}
use Rattle.tasks.specs.trees.declared.TermId.{TermId}
use Rattle.tasks.specs.trees.declared.Sort.{Sort}
use Rattle.tasks.specs.trees.declared.Sort.TheVariants.{Kind, Pattern}
use Rattle.tasks.specs.trees.Tree.{Tree}
use Rattle.tasks.specs.trees.Node.{tree_at, Holds}
use Rattle.tasks.specs.trees.Sorts.{sort_of}
use Rattle.step_lines.specs.tree_lines.Words.{LineWord, number, each}
use Rattle.step_lines.specs.tree_lines.Lines.{Earlier}

abbrev pub words_of : {Y : Type 0} → List (Vec ℕ Y) → List LineWord
words_of ws = map (λ w. w.items) ws

-- words that write these numbers come at the end
pub record PushesNumbers (old new : List LineWord) (ns : List ℕ) : Type 0 where
  pub more : List LineWord
  pub is : new ≡ old ++ more
  pub numbers : each number more ≡ Some ns

-- the trees among which a number stands for one of a sort
abbrev pub trees_of_sort : Sort → Earlier → List Tree
trees_of_sort Kind r = r.types
trees_of_sort Pattern r = r.patterns
trees_of_sort _ r = r.expressions

-- the number of a tree's line, by its number in the store
abbrev pub line_at : List (Option ℕ) → TermId → Option ℕ
line_at lines id = option_and_then (λ o. o) (slice_get lines id.0)

-- each tree with a line is at the number of that line
abbrev pub AreLines : List Tree → List (Option ℕ) → Earlier → Type 0
AreLines s lines r = (id : TermId) (n : ℕ) → line_at lines id ≡ Some n
    → slice_get (trees_of_sort (sort_of (tree_at s id)) r) n ≡ Some (tree_at s id)

-- a tree has a line
pub record HasLine (s : List Tree) (lines : List (Option ℕ)) (e : Tree) : Type 0 where
  pub id : TermId
  pub held : Holds s id
  pub is : tree_at s id ≡ e
  pub number : ℕ
  pub line : line_at lines id ≡ Some number

-- a number refers to a tree, and numbers to trees, wherever the trees of lines are those
abbrev pub Refers : List Tree → List (Option ℕ) → Sort → ℕ → Tree → Type 0
Refers s lines sort n e =
    (r : Earlier) → AreLines s lines r → slice_get (trees_of_sort sort r) n ≡ Some e

abbrev pub ReferAll : List Tree → List (Option ℕ) → Sort → List ℕ → List Tree → Type 0
ReferAll s lines sort ns es =
    (r : Earlier) → AreLines s lines r → each (slice_get (trees_of_sort sort r)) ns ≡ Some es
