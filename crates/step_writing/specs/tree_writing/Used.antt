-- Lines of patterns, and of symbols with the numbers of their types and parts.
use Rattle.std.specs.Prelude.{◌≡◌, ℕ, List, ◌∷◌, ◌++◌, length, All, Option, Some, IsSomeAnd, Bool, slice_get}
use Rattle.tasks.specs.trees.declared.Sort.{Sort}
use Rattle.tasks.specs.trees.declared.Sort.TheVariants.{Kind}
use Rattle.tasks.specs.trees.Tree.{Tree, Leaf, One, Two, Three, Head, HCase, HFun, HPred, HPatAny, HPatVar, HPatCon, HPatAlias}
use Rattle.tasks.specs.trees.Sorts.{IsList}
use Rattle.tasks.specs.declared.signature.SymbolKind.TheVariants.{Predicate}
use Rattle.tasks.specs.Task.{TaskTree}
use Rattle.tasks.specs.Typing.{members, MakesTerms, HasResult}
use Rattle.name_tables.specs.declared.name_entries.names.NameOf.TheVariants.{Symbol}
use Rattle.name_tables.specs.declared.name_entries.names.NameEntry.{NameEntry}
use Rattle.step_lines.specs.tree_lines.Words.{LineWord, number, each}
use Rattle.step_lines.specs.tree_lines.Lines.{Earlier, pattern_of_line, expression_of_line}
use Rattle.step_writing.specs.tree_writing.Spelt.{Spells, IsSpelt}
use Rattle.step_writing.specs.tree_writing.Referring.{AreLines, HasLine, ReferAll}
use Rattle.step_writing.specs.tree_writing.Naming.{types_after}
use Rattle.step_writing.specs.tree_writing.Branches.{BranchLines}
use Rattle.step_writing.specs.tree_writing.Plain.{leaf_plain, one_plain, two_plain, three_plain}

-- the words of a list's members come at the end
pub record PushesParts (s : List Tree) (lines : List (Option ℕ)) (list : Tree)
    (old new : List LineWord) : Type 0 where
  pub more : List LineWord
  pub ns : List ℕ
  pub is : new ≡ old ++ more
  pub numbers : each number more ≡ Some ns
  pub refer : (sort : Sort) → IsList sort list → ReferAll s lines sort ns (members list)

-- a word, a symbol's name, the types at which it isn't, and the parts
pub record AreUseWords (s : List Tree) (table : List NameEntry) (lines : List (Option ℕ))
    (word : LineWord) (k : ℕ) (types parts : Tree) (ws : List LineWord) : Type 0 where
  pub name : LineWord
  pub whole : Bool
  pub more : List LineWord
  pub ns : List ℕ
  pub last : List LineWord
  pub ms : List ℕ
  pub is : ws ≡ word ∷ name ∷ more ++ last
  pub spells : Spells table (Symbol k) (members types) name whole
  pub numbers : each number more ≡ Some ns
  pub refer : ReferAll s lines Kind ns (types_after whole (members types))
  pub last_numbers : each number last ≡ Some ms
  pub last_refer : (sort : Sort) → IsList sort parts → ReferAll s lines sort ms (members parts)

-- the symbol at the top is one of a task, used at as many types as it has type variables, and of
-- its result there
abbrev pub two_used : TaskTree → Head → Tree → Type 0
two_used t (HPred k) a =
    IsSomeAnd (slice_get t.symbols k) (λ e. (e.kind ≡ Predicate) × (length (members a) ≡ e.vars))
two_used t _ a = Unit {0}

abbrev pub three_used : TaskTree → Head → Tree → Tree → Type 0
three_used t (HFun k) a c = IsSomeAnd (slice_get t.symbols k)
    (λ e. MakesTerms e.kind × (length (members a) ≡ e.vars) × HasResult e a c)
three_used t (HPatCon k) a c =
    IsSomeAnd (slice_get t.symbols k) (λ e. (length (members a) ≡ e.vars) × HasResult e a c)
three_used t _ a c = Unit {0}

abbrev pub IsUsed : TaskTree → Tree → Type 0
IsUsed t (Two h a b) = two_used t h a
IsUsed t (Three h a b c) = three_used t h a c
IsUsed t _ = Unit {0}

-- the symbol at the top has a name
abbrev pub two_named : List NameEntry → Head → Tree → Type 0
two_named table (HPred k) a = IsSpelt table (Symbol k) (members a)
two_named table _ a = Unit {0}

abbrev pub three_named : List NameEntry → Head → Tree → Type 0
three_named table (HFun k) a = IsSpelt table (Symbol k) (members a)
three_named table (HPatCon k) a = IsSpelt table (Symbol k) (members a)
three_named table _ a = Unit {0}

abbrev pub IsNamed : List NameEntry → Tree → Type 0
IsNamed table (Two h a b) = two_named table h a
IsNamed table (Three h a b c) = three_named table h a
IsNamed table _ = Unit {0}

-- each part has a line, and of a symbol's lists each member
abbrev pub two_lines : List Tree → List (Option ℕ) → Head → Tree → Tree → Type 0
two_lines s lines (HPred k) a b =
    All (HasLine s lines) (members a) × All (HasLine s lines) (members b)
two_lines s lines HCase a b = HasLine s lines a × BranchLines s lines b
two_lines s lines _ a b = HasLine s lines a × HasLine s lines b

abbrev pub three_lines : List Tree → List (Option ℕ) → Head → Tree → Tree → Tree → Type 0
three_lines s lines (HFun k) a b c =
    All (HasLine s lines) (members a) × All (HasLine s lines) (members b)
three_lines s lines (HPatCon k) a b c =
    All (HasLine s lines) (members a) × All (HasLine s lines) (members b)
three_lines s lines _ a b c = HasLine s lines a × HasLine s lines b × HasLine s lines c

abbrev pub NodeLines : List Tree → List (Option ℕ) → Tree → Type 0
NodeLines s lines (Leaf h) = Unit {0}
NodeLines s lines (One h a) = HasLine s lines a
NodeLines s lines (Two h a b) = two_lines s lines h a b
NodeLines s lines (Three h a b c) = three_lines s lines h a b c

-- words are read back, in a task that has the symbol so, wherever the trees of lines are those
abbrev pub PatternBack : List Tree → List NameEntry → List (Option ℕ) → Tree
    → List LineWord → Type 0
PatternBack s table lines e ws = (t : TaskTree) (r : Earlier) → IsUsed t e → AreLines s lines r
    → pattern_of_line t table r ws ≡ Some e

abbrev pub ExpressionBack : List Tree → List NameEntry → List (Option ℕ) → Tree
    → List LineWord → Type 0
ExpressionBack s table lines e ws = (t : TaskTree) (r : Earlier) → IsUsed t e → AreLines s lines r
    → expression_of_line t table r ws ≡ Some e

-- a pattern
abbrev pub one_is_pattern : Head → Type 0
one_is_pattern HPatAny = Unit {0}
one_is_pattern HPatVar = Unit {0}
one_is_pattern HPatAlias = Unit {0}
one_is_pattern _ = ⊥

abbrev pub three_is_pattern : Head → Type 0
three_is_pattern (HPatCon k) = Unit {0}
three_is_pattern _ = ⊥

abbrev pub HasPatternForm : Tree → Type 0
HasPatternForm (One h a) = one_is_pattern h
HasPatternForm (Three h a b c) = three_is_pattern h
HasPatternForm _ = ⊥

-- a symbol on terms
abbrev pub two_is_applied : Head → Type 0
two_is_applied (HPred k) = Unit {0}
two_is_applied _ = ⊥

abbrev pub three_is_applied : Head → Type 0
three_is_applied (HFun k) = Unit {0}
three_is_applied _ = ⊥

abbrev pub IsApplied : Tree → Type 0
IsApplied (Two h a b) = two_is_applied h
IsApplied (Three h a b c) = three_is_applied h
IsApplied _ = ⊥

-- a term or a formula
abbrev pub two_is_expression : Head → Type 0
two_is_expression (HPred k) = Unit {0}
two_is_expression HCase = Unit {0}
two_is_expression h = two_plain h

abbrev pub three_is_expression : Head → Type 0
three_is_expression (HFun k) = Unit {0}
three_is_expression h = three_plain h

abbrev pub IsWritable : Tree → Type 0
IsWritable (Leaf h) = leaf_plain h
IsWritable (One h a) = one_plain h
IsWritable (Two h a b) = two_is_expression h
IsWritable (Three h a b c) = three_is_expression h
