-- What lines of the code say: those of tokens in a text.
use Rattle.std.specs.Prelude.{ℕ, ◌-◌, List, length, map, slice_get, slice_range}
use Rattle.std.specs.Option.{option_map}
use Rattle.drivers.specs.declared.driver_tokens.terminal.DriverTerminal.{DriverTerminal}
use Rattle.drivers.specs.declared.driver_tokens.terminal.DriverTerminal.TheVariants as t
use Rattle.drivers.specs.declared.driver_tokens.terminal.DriverWord.TheVariants as w
use Rattle.drivers.specs.declared.driver_tokens.terminal.Heading.TheVariants as h
use Rattle.drivers.specs.declared.driver_tokens.terminal.NameKind.{NameKind}
use Rattle.drivers.specs.declared.driver_tokens.token.DriverToken.{DriverToken}
use Rattle.drivers.specs.driver_tokens.Tokens.{lexeme_in}
use Rattle.drivers.specs.driver_items.Items.{string_value_of, written_name}
use Rattle.drivers.specs.driver_parts.Items.{DriverItem, prelude, printer, transformation, file_import, block, removal_of_all, silent, template_by, removed_by}

abbrev pub template_item : List ℕ → NameKind → List DriverToken → DriverItem
template_item text kind line =
    template_by kind (option_map (lexeme_in text) (slice_get line 2))
    (option_map (lexeme_in text) (slice_get line (length line - 1)))
    (map (lexeme_in text) (slice_range line 2 (length line - 1)))

abbrev pub removal_in : List ℕ → List DriverToken → DriverItem
removal_in text line = removed_by (option_map (lexeme_in text) (slice_get line 2))
    (map (lexeme_in text) (slice_range line 2 (length line)))

abbrev pub syntax_in : List ℕ → DriverTerminal → List DriverToken → DriverItem
syntax_in text (t.Word (w.Kind kind)) line = template_item text kind line
syntax_in text _ line = silent

abbrev pub remove_in : List ℕ → DriverTerminal → List DriverToken → DriverItem
remove_in text (t.Word w.Prop) line = removal_in text line
remove_in text (t.Word w.Allprops) line = removal_of_all
remove_in text _ line = silent

-- what a line says, by its first token's terminal and its second token
abbrev pub item_in : List ℕ → DriverTerminal → DriverToken → List DriverToken → DriverItem
item_in text (t.Word w.Prelude) y line = prelude (string_value_of (lexeme_in text y))
item_in text (t.Word (w.Heading h.Printer)) y line =
    printer y.start (string_value_of (lexeme_in text y))
item_in text (t.Word (w.Heading h.Transformation)) y line =
    transformation y.start (string_value_of (lexeme_in text y))
item_in text (t.Word (w.Heading h.Import)) y line =
    file_import y.start (string_value_of (lexeme_in text y))
item_in text (t.Word w.Theory) y line =
    block (written_name (map (lexeme_in text) (slice_range line 1 (length line))))
item_in text (t.Word w.Syntax) y line = syntax_in text y.terminal line
item_in text (t.Word w.Remove) y line = remove_in text y.terminal line
item_in text _ y line = silent
