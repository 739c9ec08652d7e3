-- What the lines of a driver say.
use Rattle.std.specs.Prelude.{ℕ, ◌-◌, List, length, slice_range, slice_get, Option, Some, None}
use Rattle.drivers.specs.declared.driver_tokens.terminal.DriverTerminal.{DriverTerminal}
use Rattle.drivers.specs.declared.driver_tokens.terminal.DriverTerminal.TheVariants as t
use Rattle.drivers.specs.declared.driver_tokens.terminal.DriverWord.TheVariants as w
use Rattle.drivers.specs.declared.driver_tokens.terminal.Heading.TheVariants as h
use Rattle.drivers.specs.declared.driver_tokens.terminal.NameKind.{NameKind}
use Rattle.drivers.specs.driver_tokens.Tokens.{DriverLexeme}
use Rattle.drivers.specs.driver_items.Items.{string_value_of, written_name}

-- What a line says; numbers are bytes. A line that has no effect is silent.
pub data DriverItem : Type 0 where
  prelude : List ℕ → DriverItem
  printer : ℕ → List ℕ → DriverItem
  transformation : ℕ → List ℕ → DriverItem
  file_import : ℕ → List ℕ → DriverItem
  block : List ℕ → DriverItem
  end_of_block : DriverItem
  template : NameKind → ℕ → List ℕ → ℕ → List ℕ → DriverItem
  removal : ℕ → List ℕ → DriverItem
  removal_of_all : DriverItem
  silent : DriverItem

-- `syntax KIND NAME STRING`, by the tokens after the kind
abbrev pub template_by : NameKind → Option DriverLexeme → Option DriverLexeme → List DriverLexeme
    → DriverItem
template_by k (Some x) (Some z) name = template k x.at (written_name name) z.at (string_value_of z)
template_by k _ _ name = silent

abbrev pub syntax_by : DriverTerminal → List DriverLexeme → DriverItem
syntax_by (t.Word (w.Kind k)) line =
    template_by k (slice_get line 2) (slice_get line (length line - 1))
    (slice_range line 2 (length line - 1))
syntax_by _ line = silent

-- `remove prop NAME`
abbrev pub removed_by : Option DriverLexeme → List DriverLexeme → DriverItem
removed_by (Some x) name = removal x.at (written_name name)
removed_by None name = silent

abbrev pub removal_by : DriverTerminal → List DriverLexeme → DriverItem
removal_by (t.Word w.Prop) line = removed_by (slice_get line 2) (slice_range line 2 (length line))
removal_by (t.Word w.Allprops) line = removal_of_all
removal_by _ line = silent

-- a line by its first token and its second
abbrev pub item_by : DriverTerminal → DriverLexeme → List DriverLexeme → DriverItem
item_by (t.Word w.Prelude) y line = prelude (string_value_of y)
item_by (t.Word (w.Heading h.Printer)) y line = printer y.at (string_value_of y)
item_by (t.Word (w.Heading h.Transformation)) y line = transformation y.at (string_value_of y)
item_by (t.Word (w.Heading h.Import)) y line = file_import y.at (string_value_of y)
item_by (t.Word w.Theory) y line = block (written_name (slice_range line 1 (length line)))
item_by (t.Word w.Syntax) y line = syntax_by y.terminal line
item_by (t.Word w.Remove) y line = removal_by y.terminal line
item_by _ y line = silent

abbrev pub item_alone : DriverTerminal → DriverItem
item_alone (t.Word w.End) = end_of_block
item_alone _ = silent

abbrev pub by_two : Option DriverLexeme → Option DriverLexeme → List DriverLexeme → DriverItem
by_two (Some x) (Some y) line = item_by x.terminal y line
by_two (Some x) None line = item_alone x.terminal
by_two None _ line = silent

-- what a line says
abbrev pub item_of : List DriverLexeme → DriverItem
item_of line = by_two (slice_get line 0) (slice_get line 1) line
