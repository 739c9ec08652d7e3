-- The line of a step, its words, and what they refer to.
use Rattle.std.specs.Prelude.{◌≡◌, ℕ, false, List, [], ◌∷◌, ◌++◌, codes, All, Option, Some}
use Rattle.kernel.specs.trees.declared.Sort.TheVariants.{Kind}
use Rattle.kernel.specs.trees.Tree.{Tree}
use Rattle.kernel.specs.trees.Node.{tree_at, Holds}
use Rattle.kernel.specs.trees.Sorts.{sort_of, IsExpression}
use Rattle.kernel.specs.tasks.Task.{TaskTree}
use Rattle.name_tables.specs.declared.name_entries.names.NameOf.TheVariants.{Symbol}
use Rattle.name_tables.specs.declared.name_entries.names.NameEntry.{NameEntry}
use Rattle.step_lines.specs.word_tables.integers.Integers.{integer}
use Rattle.kernel.specs.rules.declared.rule.Step.{Step}
use Rattle.kernel.specs.rules.Trees.{RuleTree, rule_types, StepTree}
use Rattle.kernel.specs.rules.Meaning.{step_at}
use Rattle.step_lines.specs.declared.rule_words.argument.Argument.{Argument}
use Rattle.step_lines.specs.declared.rule_words.argument.Argument.TheVariants as made
use Rattle.step_lines.specs.rule_words.Arguments.{ArgumentTree, ANumber, ASymbol, AInteger, AExpression, AType}
use Rattle.step_lines.specs.tree_lines.Words.{LineWord, number as number_of, at_number, each}
use Rattle.step_lines.specs.tree_lines.Named.{meaning, meaning_by}
use Rattle.step_lines.specs.tree_lines.Lines.{Earlier}
use Rattle.step_lines.specs.Steps.{is_colon, rule_of_words, step_of_line}
use Rattle.step_writing.specs.tree_writing.Spelt.{IsSpelt, AreNamesOf}
use Rattle.step_writing.specs.tree_writing.Referring.{AreLines, HasLine, Refers}
use Rattle.step_writing.specs.tree_writing.Text.{spaced, line_text}
use Rattle.step_writing.specs.declared.words.Lines.{Lines}
use Rattle.step_writing.specs.Named.{AreWords, rule_expressions, rule_symbols}

-- a word writes an argument, where the trees of lines are these
abbrev pub WritesArgument : List NameEntry → Earlier → ArgumentTree → LineWord → Type 0
WritesArgument table r (ANumber n) w = number_of w ≡ Some n
WritesArgument table r (ASymbol k) w = meaning table w ≡ Some (meaning_by (Symbol k) [])
WritesArgument table r (AInteger z) w = integer w ≡ Some z
WritesArgument table r (AExpression e) w = at_number r.expressions w ≡ Some e
WritesArgument table r (AType y) w = at_number r.types w ≡ Some y

abbrev pub WriteArguments : List NameEntry → Earlier → List ArgumentTree → List LineWord → Type 0
WriteArguments table r [] [] = Unit {0}
WriteArguments table r (a ∷ args) (w ∷ ws) =
    WritesArgument table r a w × WriteArguments table r args ws
WriteArguments table r _ _ = ⊥

-- a term or a formula with a line, and a type with one
pub record IsLineOf (s : List Tree) (numbers : List (Option ℕ)) (e : Tree) : Type 0 where
  pub sort : IsExpression (sort_of e)
  pub line : HasLine s numbers e

pub record IsTypeLine (s : List Tree) (numbers : List (Option ℕ)) (e : Tree) : Type 0 where
  pub sort : sort_of e ≡ Kind
  pub line : HasLine s numbers e

-- what an argument refers to is there
abbrev pub IsArgumentReady : Lines → Argument → Type 0
IsArgumentReady x (made.Number n) = Unit {0}
IsArgumentReady x (made.Symbol k) = IsSpelt x.table.now (Symbol k) []
IsArgumentReady x (made.Integer n) = Unit {0}
IsArgumentReady x (made.Expression e) =
    Holds x.store.now e × IsLineOf x.store.now x.numbers.now (tree_at x.store.now e)
IsArgumentReady x (made.Type y) =
    Holds x.store.now y × IsTypeLine x.store.now x.numbers.now (tree_at x.store.now y)

-- the word of a number comes at the end of a text
pub record PushesNumber (old new : List ℕ) (n : ℕ) : Type 0 where
  pub word : LineWord
  pub is : new ≡ old ++ spaced (word ∷ [])
  pub writes : number_of word ≡ Some n

-- the words of these numbers do
pub record PushesNumbers (old new : List ℕ) (ns : List ℕ) : Type 0 where
  pub more : List LineWord
  pub is : new ≡ old ++ spaced more
  pub numbers : each number_of more ≡ Some ns

-- those of these arguments do
pub record PushesArguments (x : Lines) (old new : List ℕ) (args : List ArgumentTree) : Type 0 where
  pub more : List LineWord
  pub is : new ≡ old ++ spaced more
  pub back : (r : Earlier) → AreLines x.store.now x.numbers.now r
      → WriteArguments x.table.now r args more

-- none of these is a colon
abbrev pub NoColon : List LineWord → Type 0
NoColon [] = Unit {0}
NoColon (w ∷ ws) = (is_colon w ≡ false) × NoColon ws

-- a word that refers to a tree comes at the end
pub record PushesReference (x : Lines) (old new : List ℕ) (e : Tree) : Type 0 where
  pub word : LineWord
  pub number : ℕ
  pub is : new ≡ old ++ spaced (word ∷ [])
  pub writes : number_of word ≡ Some number
  pub refers : Refers x.store.now x.numbers.now (sort_of e) number e

-- words that refer to these formulas come at the end
pub record PushesSequent (x : Lines) (old new : List ℕ) (es : List Tree) : Type 0 where
  pub more : List LineWord
  pub ns : List ℕ
  pub is : new ≡ old ++ spaced more
  pub numbers : each number_of more ≡ Some ns
  pub back : (r : Earlier) → AreLines x.store.now x.numbers.now r
      → each (at_number r.expressions) more ≡ Some es

-- the words of a rule come at the end
pub record PushesRule (x : Lines) (old new : List ℕ) (rule : RuleTree) : Type 0 where
  pub more : List LineWord
  pub is : new ≡ old ++ spaced more
  pub plain : AreWords x.table.now → (t : TaskTree) (r : Earlier)
      → AreLines x.store.now x.numbers.now r → NoColon more
  pub back : AreWords x.table.now → (t : TaskTree) (r : Earlier)
      → AreLines x.store.now x.numbers.now r → rule_of_words t x.table.now r more ≡ Some rule

-- what a rule refers to is there
pub record RuleReady (x : Lines) (r : RuleTree) : Type 0 where
  pub expressions : All (IsLineOf x.store.now x.numbers.now) (rule_expressions r)
  pub types : All (IsTypeLine x.store.now x.numbers.now) (rule_types r)
  pub symbols : All (λ k. IsSpelt x.table.now (Symbol k) []) (rule_symbols r)

-- what a step refers to is there
pub record StepReady (x : Lines) (st : StepTree) : Type 0 where
  pub names : AreNamesOf x.store.now x.table.now x.names.now
  pub sequent : All (IsLineOf x.store.now x.numbers.now) st.sequent
  pub rule : RuleReady x st.rule

-- words are read back as a step, wherever the trees of lines are those
abbrev pub StepBack : Lines → Step → List LineWord → Type 0
StepBack x st ws = AreWords x.table.now → (t : TaskTree) (r : Earlier)
    → AreLines x.store.now x.numbers.now r
    → step_of_line t x.table.now r ws ≡ Some (step_at x.store.now st)

-- the line of a step comes at the end
pub record PushesStep (x : Lines) (old new : List ℕ) (st : Step) : Type 0 where
  pub words : List LineWord
  pub is : new ≡ old ++ line_text (codes "s") words
  pub back : StepBack x st words
