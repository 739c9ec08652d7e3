-- What can be written: the grammar of driver files over their terminals (Why3 manual, "Drivers").
-- A file is a list of lines. A block is a line `theory PATH`, lines, and a line `end`.
use Rattle.std.specs.Prelude.{Bool, true, false, not, ◌&&◌, List, [], ◌∷◌, ◌++◌, map}
use Rattle.std.specs.List.{flat_map}
use Rattle.drivers.specs.declared.driver_tokens.terminal.DriverWord.{DriverWord}
use Rattle.drivers.specs.declared.driver_tokens.terminal.DriverWord.TheVariants as w
use Rattle.drivers.specs.declared.driver_tokens.terminal.Heading.{Heading}
use Rattle.drivers.specs.declared.driver_tokens.terminal.NameKind.{NameKind}
use Rattle.drivers.specs.declared.driver_tokens.terminal.DriverTerminal.{DriverTerminal}
use Rattle.drivers.specs.declared.driver_tokens.terminal.DriverTerminal.TheVariants as t

-- a name: words with dots after them, and a word, `(*)`, `( OP )` or `( OP _ )`, where OP is an
-- operator of sources
pub data DriverName : Type 0 where
  scoped_name : DriverWord → DriverName → DriverName
  word_name : DriverWord → DriverName
  star_name : DriverName
  infix_operator : DriverName
  prefix_operator : DriverName

abbrev pub write_name : DriverName → List DriverTerminal
write_name (scoped_name s n) = t.Word s ∷ t.Dot ∷ write_name n
write_name (word_name s) = t.Word s ∷ []
write_name star_name = t.Star ∷ []
write_name infix_operator = t.Open ∷ t.Operator ∷ t.Close ∷ []
write_name prefix_operator = t.Open ∷ t.Operator ∷ t.Word w.Line ∷ t.Close ∷ []

-- a string or a number
pub data Value : Type 0 where
  string_value : Value
  number_value : Value

abbrev pub write_value : Value → DriverTerminal
write_value string_value = t.Text
write_value number_value = t.Number

-- an argument of a `meta_line`
pub data MetaArgument : Type 0 where
  value_argument : Value → MetaArgument
  kind_argument : NameKind → DriverName → MetaArgument
  proposition_argument : DriverName → MetaArgument

abbrev pub write_argument : MetaArgument → List DriverTerminal
write_argument (value_argument v) = write_value v ∷ []
write_argument (kind_argument k n) = t.Word (w.Kind k) ∷ write_name n
write_argument (proposition_argument n) = t.Word w.Prop ∷ write_name n

abbrev pub write_more : List MetaArgument → List DriverTerminal
write_more [] = []
write_more (a ∷ rest) = t.Comma ∷ (write_argument a ++ write_more rest)

abbrev pub write_arguments : List MetaArgument → List DriverTerminal
write_arguments [] = []
write_arguments (a ∷ rest) = write_argument a ++ write_more rest

-- what a `meta_line` is called
pub data MetaName : Type 0 where
  by_string : MetaName
  by_word : DriverWord → MetaName

abbrev pub write_meta_name : MetaName → DriverTerminal
write_meta_name by_string = t.Text
write_meta_name (by_word s) = t.Word s

abbrev pub write_driver_path : List DriverWord → List DriverTerminal
write_driver_path [] = []
write_driver_path (s ∷ ss) = t.Dot ∷ t.Word s ∷ write_driver_path ss

pub data GrammarLine : Type 0 where
  heading_line : Heading → GrammarLine
  prelude_line : GrammarLine
  answer_line : Value → List Value → GrammarLine
  meta_line : MetaName → List MetaArgument → GrammarLine
  theory_line : DriverWord → List DriverWord → GrammarLine
  end_of_block_line : GrammarLine
  template_line : NameKind → DriverName → GrammarLine
  removal_line : DriverName → GrammarLine
  removal_of_all_line : GrammarLine

abbrev pub write_line : GrammarLine → List DriverTerminal
write_line (heading_line h) = t.Word (w.Heading h) ∷ t.Text ∷ []
write_line prelude_line = t.Word w.Prelude ∷ t.Text ∷ []
write_line (answer_line v vs) = t.Word w.Answer ∷ write_value v ∷ map write_value vs
write_line (meta_line c arguments) = t.Word w.Meta ∷ write_meta_name c ∷ write_arguments arguments
write_line (theory_line s ss) = t.Word w.Theory ∷ t.Word s ∷ write_driver_path ss
write_line end_of_block_line = t.Word w.End ∷ []
write_line (template_line k n) = t.Word w.Syntax ∷ t.Word (w.Kind k) ∷ (write_name n ++ t.Text ∷ [])
write_line (removal_line n) = t.Word w.Remove ∷ t.Word w.Prop ∷ write_name n
write_line removal_of_all_line = t.Word w.Remove ∷ t.Word w.Allprops ∷ []

-- whether a line may be in a block, or outside
abbrev pub may_be_in_block : Bool → GrammarLine → Bool
may_be_in_block b (heading_line h) = not b
may_be_in_block b prelude_line = true
may_be_in_block b (answer_line v vs) = not b
may_be_in_block b (meta_line c arguments) = true
may_be_in_block b (theory_line s ss) = not b
may_be_in_block b end_of_block_line = b
may_be_in_block b (template_line k n) = b
may_be_in_block b (removal_line n) = b
may_be_in_block b removal_of_all_line = b

-- whether what comes after a line is in a block
abbrev pub in_block : Bool → GrammarLine → Bool
in_block b (theory_line s ss) = true
in_block b end_of_block_line = false
in_block b _ = b

-- the lines of a file, or of its rest from within a block
abbrev pub are_lines : Bool → List GrammarLine → Bool
are_lines b [] = not b
are_lines b (l ∷ ls) = may_be_in_block b l && are_lines (in_block b l) ls

abbrev pub write_lines : List GrammarLine → List DriverTerminal
write_lines ls = flat_map write_line ls
