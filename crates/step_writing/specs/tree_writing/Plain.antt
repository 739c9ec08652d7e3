-- Lines of terms and formulas without a symbol's name: a word, and the numbers of the parts.
use Rattle.std.specs.Prelude.{◌≡◌, ℕ, ℤ, List, [], ◌∷◌, Option, Some, codes}
use Rattle.tasks.specs.trees.declared.Op.{Op}
use Rattle.tasks.specs.trees.declared.Op.TheVariants.{And, AndThen, Or, OrElse, Imp, Iff}
use Rattle.tasks.specs.trees.Tree.{Tree, Leaf, One, Two, Three, Head, HNum, HTrue, HFalse, HBound, HParam, HNot, HEq, HJoin, HForall, HExists, HLet, HIf}
use Rattle.tasks.specs.trees.Sorts.{sort_of}
use Rattle.tasks.specs.Task.{TaskTree}
use Rattle.name_tables.specs.declared.name_entries.names.NameEntry.{NameEntry}
use Rattle.word_tables.specs.integers.Integers.{integer}
use Rattle.step_lines.specs.tree_lines.Words.{LineWord, number, at_number}
use Rattle.step_lines.specs.tree_lines.Lines.{Earlier, expression_of_line}
use Rattle.step_writing.specs.tree_writing.Referring.{AreLines, HasLine, trees_of_sort}

abbrev pub op_word : Op → LineWord
op_word And = codes "and"
op_word AndThen = codes "andthen"
op_word Or = codes "or"
op_word OrElse = codes "orelse"
op_word Imp = codes "imp"
op_word Iff = codes "iff"

-- a word refers to a tree wherever the trees of lines are those
abbrev pub WordRefers : List Tree → List (Option ℕ) → LineWord → Tree → Type 0
WordRefers s lines w e =
    (r : Earlier) → AreLines s lines r → at_number (trees_of_sort (sort_of e) r) w ≡ Some e

-- a word, and two that refer to these trees
pub record AreTwoWords (s : List Tree) (lines : List (Option ℕ)) (word : LineWord) (a b : Tree)
    (ws : List LineWord) : Type 0 where
  pub first : LineWord
  pub second : LineWord
  pub is : ws ≡ word ∷ first ∷ second ∷ []
  pub a_there : WordRefers s lines first a
  pub b_there : WordRefers s lines second b

-- a word, and one that refers to this tree
pub record IsOneWord (s : List Tree) (lines : List (Option ℕ)) (word : LineWord) (a : Tree)
    (ws : List LineWord) : Type 0 where
  pub first : LineWord
  pub is : ws ≡ word ∷ first ∷ []
  pub a_there : WordRefers s lines first a

-- a word, one that writes this number, and one that refers to this tree
pub record AreVariableWords (s : List Tree) (lines : List (Option ℕ)) (word : LineWord) (n : ℕ)
    (a : Tree) (ws : List LineWord) : Type 0 where
  pub first : LineWord
  pub second : LineWord
  pub is : ws ≡ word ∷ first ∷ second ∷ []
  pub n_there : number first ≡ Some n
  pub a_there : WordRefers s lines second a

-- a word, and three that refer to these trees
pub record AreThreeWords (s : List Tree) (lines : List (Option ℕ)) (word : LineWord) (a b c : Tree)
    (ws : List LineWord) : Type 0 where
  pub first : LineWord
  pub second : LineWord
  pub third : LineWord
  pub is : ws ≡ word ∷ first ∷ second ∷ third ∷ []
  pub a_there : WordRefers s lines first a
  pub b_there : WordRefers s lines second b
  pub c_there : WordRefers s lines third c

-- the word of integers, and one that writes this integer
pub record IsIntegerWord (n : ℤ) (ws : List LineWord) : Type 0 where
  pub first : LineWord
  pub is : ws ≡ codes "num" ∷ first ∷ []
  pub there : integer first ≡ Some n

-- a term or a formula without a symbol's name and without branches
abbrev pub leaf_plain : Head → Type 0
leaf_plain (HNum n) = Unit {0}
leaf_plain HTrue = Unit {0}
leaf_plain HFalse = Unit {0}
leaf_plain _ = ⊥

abbrev pub one_plain : Head → Type 0
one_plain (HBound i) = Unit {0}
one_plain (HParam n) = Unit {0}
one_plain HNot = Unit {0}
one_plain _ = ⊥

abbrev pub two_plain : Head → Type 0
two_plain HEq = Unit {0}
two_plain (HJoin op) = Unit {0}
two_plain HForall = Unit {0}
two_plain HExists = Unit {0}
two_plain HLet = Unit {0}
two_plain _ = ⊥

abbrev pub three_plain : Head → Type 0
three_plain HIf = Unit {0}
three_plain _ = ⊥

abbrev pub IsPlain : Tree → Type 0
IsPlain (Leaf h) = leaf_plain h
IsPlain (One h a) = one_plain h
IsPlain (Two h a b) = two_plain h
IsPlain (Three h a b c) = three_plain h

-- each part has a line
abbrev pub PartLines : List Tree → List (Option ℕ) → Tree → Type 0
PartLines s lines (Leaf h) = Unit {0}
PartLines s lines (One h a) = HasLine s lines a
PartLines s lines (Two h a b) = HasLine s lines a × HasLine s lines b
PartLines s lines (Three h a b c) = HasLine s lines a × HasLine s lines b × HasLine s lines c

-- words are read back as a term or a formula wherever the trees of lines are those
abbrev pub ReadsBack : List Tree → List NameEntry → List (Option ℕ) → Tree → List LineWord → Type 0
ReadsBack s table lines e ws =
    (t : TaskTree) (r : Earlier) → AreLines s lines r → expression_of_line t table r ws ≡ Some e
