-- What the lines of steps make, and what each line makes.
use Rattle.std.specs.Prelude.{Bool, ℕ, if◌then◌else◌, List, [], ◌∷◌, ◌++◌, length, take, drop, map, Option, Some, None, codes}
use Rattle.std.specs.Option.{option_and_then, option_map}
use Rattle.std.specs.Str.{bytes_eq}
use Rattle.trees.specs.Tree.{Tree}
use Rattle.tasks.specs.Task.{TaskTree}
use Rattle.rules.specs.Trees.{RuleTree, StepTree}
use Rattle.name_tables.specs.declared.name_entries.names.NameEntry.{NameEntry}
use Rattle.word_tables.specs.integers.Integers.{integer}
use Rattle.step_lines.specs.declared.rule_words.argument.ArgumentKind.{ArgumentKind}
use Rattle.step_lines.specs.declared.rule_words.argument.ArgumentKind.TheVariants as kind
use Rattle.step_lines.specs.declared.rule_words.name.RuleName.{RuleName}
use Rattle.step_lines.specs.rule_words.Arguments.{ArgumentTree, ANumber, ASymbol, AInteger, AExpression, AType}
use Rattle.step_lines.specs.rule_words.Forms.{KindsOf, argument_kinds}
use Rattle.step_lines.specs.rule_words.Rules.{rule_row, name_by_word, rule_from}
use Rattle.step_lines.specs.tree_lines.Words.{LineWord, number, at_number, each}
use Rattle.step_lines.specs.tree_lines.Named.{NameMeaning, entry_named, meaning}
use Rattle.step_lines.specs.tree_lines.Lines.{Earlier, symbol_number, type_of_line, pattern_of_line, expression_of_line}

-- what a line makes
pub data Thing : Type 0 where
  TypeOf : Tree → Thing
  PatternOf : Tree → Thing
  ExpressionOf : Tree → Thing
  StepOf : StepTree → Thing

-- the words before the first colon, and those after it where there is one
abbrev pub is_colon : LineWord → Bool
is_colon w = bytes_eq w (codes ":")

abbrev pub before_colon : List LineWord → List LineWord
before_colon [] = []
before_colon (w ∷ ws) = if is_colon w then [] else w ∷ before_colon ws

abbrev pub after_colon : List LineWord → Option (List LineWord)
after_colon [] = None
after_colon (w ∷ ws) = if is_colon w then Some ws else after_colon ws

abbrev pub step_by : List Tree → RuleTree → List ℕ → StepTree
step_by sequent rule premises = record { sequent = sequent; rule = rule; premises = premises }

-- the kinds that are left, where there are some, else the repeated ones
abbrev pub next_kinds : List ArgumentKind → List ArgumentKind → List ArgumentKind
next_kinds [] again = again
next_kinds (k ∷ ks) again = k ∷ ks

-- the types at which a name stands
abbrev pub types_named : Option NameMeaning → List ArgumentTree
types_named None = []
types_named (Some n) = map AType n.types

module _ (t : TaskTree) (names : List NameEntry) (r : Earlier) where
  abbrev pub argument : ArgumentKind → LineWord → Option ArgumentTree
  argument kind.Number w = option_map ANumber (number w)
  argument kind.Symbol w =
      option_map ASymbol (option_and_then (λ e. symbol_number e.symbol) (entry_named names w))
  argument kind.Integer w = option_map AInteger (integer w)
  argument kind.Expression w = option_map AExpression (at_number r.expressions w)
  argument kind.Type w = option_map AType (at_number r.types w)

  abbrev pub then_argument : ArgumentKind → LineWord → Option (List ArgumentTree)
      → Option (List ArgumentTree)
  then_argument k w rest = option_and_then (λ a. option_map (λ args. a ∷ args) rest) (argument k w)

  -- arguments of these kinds, in order, and then of the repeated ones in turn, any number of times
  abbrev pub arguments : List ArgumentKind → List ArgumentKind → List LineWord
      → Option (List ArgumentTree)
  arguments [] again [] = Some []
  arguments (k ∷ ks) again [] = None
  arguments (k ∷ ks) again (w ∷ ws) = then_argument k w (arguments ks again ws)
  arguments [] [] (w ∷ ws) = None
  arguments [] (k ∷ ks) (w ∷ ws) = then_argument k w (arguments ks (k ∷ ks) ws)

  -- the types at which the name stands that a rule begins with
  abbrev pub own_types : List ArgumentKind → List LineWord → List ArgumentTree
  own_types (kind.Symbol ∷ ks) (w ∷ ws) = types_named (meaning names w)
  own_types _ _ = []

  -- the arguments of a rule: the first ones, the types of a name among them, and the others
  abbrev pub rule_arguments : KindsOf → List LineWord → Option (List ArgumentTree)
  rule_arguments ks ws =
      option_and_then (λ first.
      option_map (λ rest. first ++ (own_types ks.first ws ++ rest))
      (arguments [] ks.repeated (drop (length ks.first) ws)))
      (arguments ks.first [] (take (length ks.first) ws))

  -- the rule of a name, by the words after it
  abbrev pub rule_named : List LineWord → RuleName → Option RuleTree
  rule_named ws n =
      option_and_then (rule_from n) (rule_arguments (argument_kinds (rule_row n).form) ws)

  abbrev pub rule_of_words : List LineWord → Option RuleTree
  rule_of_words [] = None
  rule_of_words (w ∷ ws) = option_and_then (rule_named ws) (name_by_word w)

  -- the step of a sequent, by the words after the sequent's
  abbrev pub step_ended : List Tree → List LineWord → Option StepTree
  step_ended sequent ws = option_and_then
      (λ last. option_and_then (λ rule. option_map (step_by sequent rule) (each number last))
      (rule_of_words (before_colon ws))) (after_colon ws)

  -- the step of a line `s`: its sequent, its rule and its premises
  abbrev pub step_of_line : List LineWord → Option StepTree
  step_of_line ws = option_and_then
      (λ rest. option_and_then (λ sequent. step_ended sequent rest)
      (each (at_number r.expressions) (before_colon ws))) (after_colon ws)

  -- what a line makes, where it has a form and what it refers to is there
  abbrev pub line_made : List LineWord → Option Thing
  line_made [] = None
  line_made (w ∷ ws) =
      if bytes_eq w (codes "y") then option_map TypeOf (type_of_line t names r ws)
      else (if bytes_eq w (codes "p") then option_map PatternOf (pattern_of_line t names r ws)
      else (if bytes_eq w (codes "e") then option_map ExpressionOf (expression_of_line t names r ws)
      else (if bytes_eq w (codes "s") then option_map StepOf (step_of_line ws)
      else None)))
