-- Lines of trees written one after another, and read back.
use Rattle.std.specs.Prelude.{◌≡◌, ◌≢◌, ℕ, ◌+◌, ◌<◌, ◌≤◌, List, [], ◌∷◌, ◌++◌, map, length, get_or, slice_get, All, Option, Some, None, codes}
use Rattle.tasks.specs.trees.declared.Sort.{Sort}
use Rattle.tasks.specs.trees.declared.Sort.TheVariants as sort
use Rattle.tasks.specs.trees.Tree.{Tree, Leaf, One, Two, Three, Head, HEnd, HTyVar, HTyRigid, HTyApp, HFun, HPred, HPatCon}
use Rattle.tasks.specs.trees.Sorts.{sort_of}
use Rattle.tasks.specs.Task.{TaskTree}
use Rattle.tasks.specs.Typing.{members}
use Rattle.tasks.specs.Meaning.{trees_at}
use Rattle.name_tables.specs.declared.name_entries.names.NameOf.TheVariants.{Rigid, Symbol}
use Rattle.name_tables.specs.declared.name_entries.names.NameEntry.{NameEntry}
use Rattle.step_lines.specs.tree_lines.Words.{LineWord}
use Rattle.step_lines.specs.tree_lines.Lines.{Earlier, type_of_line, pattern_of_line, expression_of_line}
use Rattle.step_writing.specs.declared.tree_writing.writer.LineKind.{LineKind}
use Rattle.step_writing.specs.declared.tree_writing.writer.LineKind.TheVariants as kind
use Rattle.step_writing.specs.declared.tree_writing.writer.Writing.{Writing}
use Rattle.step_writing.specs.declared.tree_writing.writer.Trees.{Trees}
use Rattle.step_writing.specs.tree_writing.Spelt.{IsSpelt, AreNamesOf}
use Rattle.step_writing.specs.tree_writing.Referring.{AreLines, HasLine}
use Rattle.step_writing.specs.tree_writing.Naming.{type_name, TypeLines}
use Rattle.step_writing.specs.tree_writing.Used.{IsUsed, NodeLines}
use Rattle.step_writing.specs.tree_writing.Parts.{StandsIn, IsMarked, AreMarked}
use Rattle.step_writing.specs.tree_writing.Text.{spaced, whole_text}

-- what the line of a tree makes; lists and branches have none
abbrev pub kind_of_sort : Sort → Option LineKind
kind_of_sort sort.Kind = Some kind.Type
kind_of_sort sort.Pattern = Some kind.Pattern
kind_of_sort sort.Term = Some kind.Expression
kind_of_sort sort.Formula = Some kind.Expression
kind_of_sort sort.List = None
kind_of_sort sort.Branch = None

abbrev pub IsOfKind : LineKind → Tree → Type 0
IsOfKind k e = kind_of_sort (sort_of e) ≡ Some k

abbrev pub letter : LineKind → LineWord
letter kind.Type = codes "y"
letter kind.Pattern = codes "p"
letter kind.Expression = codes "e"

-- the symbol at the top has a name; a schematic type variable has none
abbrev pub leaf_top : List NameEntry → Head → Type 0
leaf_top table (HTyVar j) = ⊥
leaf_top table (HTyRigid k) = IsSpelt table (Rigid k) []
leaf_top table _ = Unit {0}

abbrev pub IsOneTop : List NameEntry → Head → Tree → Type 0
IsOneTop table (HTyApp k) a = IsSpelt table (type_name k) (members a)
IsOneTop table _ a = Unit {0}

abbrev pub IsTwoTop : List NameEntry → Head → Tree → Type 0
IsTwoTop table (HPred k) a = IsSpelt table (Symbol k) (members a)
IsTwoTop table _ a = Unit {0}

abbrev pub three_top : List NameEntry → Head → Tree → Type 0
three_top table (HFun k) a = IsSpelt table (Symbol k) (members a)
three_top table (HPatCon k) a = IsSpelt table (Symbol k) (members a)
three_top table _ a = Unit {0}

abbrev pub TopNamed : List NameEntry → Tree → Type 0
TopNamed table (Leaf h) = leaf_top table h
TopNamed table (One h a) = IsOneTop table h a
TopNamed table (Two h a b) = IsTwoTop table h a
TopNamed table (Three h a b c) = three_top table h a

-- each part that a tree's line refers to has a line
abbrev pub KindLines : List Tree → List (Option ℕ) → LineKind → Tree → Type 0
KindLines s lines kind.Type e = TypeLines s lines e
KindLines s lines _ e = NodeLines s lines e

abbrev pub tree_by : TaskTree → List NameEntry → Earlier → LineKind → List LineWord → Option Tree
tree_by t table r kind.Type ws = type_of_line t table r ws
tree_by t table r kind.Pattern ws = pattern_of_line t table r ws
tree_by t table r kind.Expression ws = expression_of_line t table r ws

-- words are read back as a tree, in a task that has the symbol so, wherever the trees of lines are
-- those
abbrev pub LineBack : List Tree → List NameEntry → List (Option ℕ) → LineKind → Tree
    → List LineWord → Type 0
LineBack s table lines k e ws =
    (t : TaskTree) (r : Earlier) → IsUsed t e → AreLines s lines r → tree_by t table r k ws ≡ Some e

-- a tree more
abbrev pub with_tree : LineKind → Earlier → Tree → Earlier
with_tree kind.Type r e =
    record { types = r.types ++ e ∷ []; patterns = r.patterns; expressions = r.expressions }
with_tree kind.Pattern r e =
    record { types = r.types; patterns = r.patterns ++ e ∷ []; expressions = r.expressions }
with_tree kind.Expression r e =
    record { types = r.types; patterns = r.patterns; expressions = r.expressions ++ e ∷ [] }

abbrev pub nothing_before : Earlier
nothing_before = record { types = []; patterns = []; expressions = [] }

-- a line of a tree: what it makes, and its words after the letter
pub record TreeLine : Type 0 where
  pub kind : LineKind
  pub words : List LineWord

abbrev pub line_bytes : TreeLine → List ℕ
line_bytes l = letter l.kind ++ spaced l.words

-- lines make trees that are in these, one after another
abbrev pub ReadTrees : TaskTree → List NameEntry → List Tree → Earlier → List TreeLine
    → Earlier → Type 0
ReadTrees t table roots r [] end = r ≡ end
ReadTrees t table roots r (l ∷ ls) end =
    (e : Tree) × (tree_by t table r l.kind l.words ≡ Some e) × StandsIn roots e
    × ReadTrees t table roots (with_tree l.kind r e) ls end

-- the trees of a kind
abbrev pub of_kind : LineKind → Earlier → List Tree
of_kind kind.Type r = r.types
of_kind kind.Pattern r = r.patterns
of_kind kind.Expression r = r.expressions

-- no tree is there twice
abbrev pub Differ : List Tree → Type 0
Differ es = (i j : ℕ) (e : Tree) → slice_get es i ≡ Some e → slice_get es j ≡ Some e → i ≡ j

-- A text of lines, which are read back as trees that are in these, in a task that has the symbols
-- of these so; each tree that has a line is at its number; and no two lines make the same tree.
pub record IsWritten (s : List Tree) (table : List NameEntry) (roots : List Tree) (text : List ℕ)
    (numbers : List (Option ℕ)) : Type 0 where
  pub lines : List TreeLine
  pub earlier : Earlier
  pub is : text ≡ whole_text (map line_bytes lines)
  pub numbered : AreLines s numbers earlier
  pub once : (k : LineKind) → Differ (of_kind k earlier)
  pub back : (t : TaskTree) → ((e : Tree) → StandsIn roots e → IsUsed t e)
      → ReadTrees t table roots nothing_before lines earlier

-- each of these that is no list and no branch has a line
abbrev pub HaveLines : List Tree → List (Option ℕ) → List Tree → Type 0
HaveLines s numbers roots =
    All (λ (e : Tree). (k : LineKind) → IsOfKind k e → HasLine s numbers e) roots

-- some tree that is in these has no name at its top
abbrev pub LacksName : List NameEntry → List Tree → Type 0
LacksName table roots = ((e : Tree) → StandsIn roots e → TopNamed table e) → ⊥

abbrev pub count_of : LineKind → Writing → ℕ
count_of kind.Type w = w.types
count_of kind.Pattern w = w.patterns
count_of kind.Expression w = w.expressions

-- what has been counted
pub record AreCounted (earlier : Earlier) (w : Writing) : Type 0 where
  pub types : length earlier.types ≡ w.types
  pub patterns : length earlier.patterns ≡ w.patterns
  pub expressions : length earlier.expressions ≡ w.expressions
  pub few : (k : LineKind) → count_of k w ≤ length w.numbers.items

-- a line of a kind is counted
pub record CountsLine (k : LineKind) (old new : Writing) : Type 0 where
  pub text : new.text.items ≡ old.text.items
  pub numbers : new.numbers.items ≡ old.numbers.items
  pub own : count_of k new ≡ count_of k old + 1
  pub others : (j : LineKind) → j ≢ k → count_of j new ≡ count_of j old
  pub few : (j : LineKind) → count_of j new ≤ count_of j old + 1

-- the names and the marks of what is written are known
pub record TreesHeld (x : Trees) : Type 0 where
  pub names : AreNamesOf x.store.now x.table.now x.names.now
  pub marks : AreMarked x.store.now x.roots.now x.marks.now

-- the tree of a number is marked, and its line is of this kind
pub record IsNextLine (x : Trees) (i : ℕ) (k : LineKind) : Type 0 where
  pub mark : IsMarked x.marks.now i
  pub kind : IsOfKind k (get_or x.store.now i (Leaf HEnd))

abbrev pub next_tree : Trees → Writing → Tree
next_tree x w = get_or x.store.now (length w.numbers.items) (Leaf HEnd)

-- each of these has a number below this one
abbrev pub HaveLesser : List Tree → ℕ → List Tree → Type 0
HaveLesser s n es =
    (i : ℕ) (e : Tree) → slice_get es i ≡ Some e → (j : ℕ) × (j < n) × (get_or s j (Leaf HEnd) ≡ e)

-- the first trees of a store have been written, as far as they are marked
pub record IsWritingOf (x : Trees) (w : Writing) : Type 0 where
  pub written : IsWritten x.store.now x.table.now (trees_at x.store.now x.roots.now) w.text.items
      w.numbers.items
  pub counted : AreCounted written.earlier w
  pub lesser : (k : LineKind)
      → HaveLesser x.store.now (length w.numbers.items) (of_kind k written.earlier)
  pub there : (i : ℕ) (k : LineKind) → i < length w.numbers.items → IsNextLine x i k
      → (n : ℕ) × (slice_get w.numbers.items i ≡ Some (Some n))
