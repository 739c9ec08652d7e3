-- Worked rows by computation: lines of tokens, and where texts go wrong.
use Rattle.std.specs.Prelude.{◌≡◌, [], ◌∷◌, codes, Ok, Err, refl, None, Some, false}
use Rattle.drivers.specs.declared.driver_tokens.terminal.DriverTerminal.TheVariants as t
use Rattle.drivers.specs.declared.driver_tokens.terminal.DriverWord.TheVariants as w
use Rattle.drivers.specs.declared.driver_tokens.terminal.Heading.TheVariants as h
use Rattle.drivers.specs.driver_tokens.Machine.{cut}
use Rattle.drivers.specs.driver_tokens.Strings.{quoted, string_says}
use Rattle.drivers.specs.driver_tokens.File.{driver_lines}

-- `printer "smtv2" foo` is refused at `foo`
no_line : cut (λ x. x) (t.Word (w.Heading h.Printer) ∷ t.Text ∷ t.Word w.Other ∷ []) ≡ Err (t.Word w.Other ∷ [])
no_line = refl

-- a block is three lines
block : cut (λ x. x) (t.Word w.Theory ∷ t.Word w.Other ∷ t.Word w.Remove ∷ t.Word w.Prop ∷ t.Word w.End ∷ t.Word w.End ∷ []) ≡ Ok ((t.Word w.Theory ∷ t.Word w.Other ∷ []) ∷ (t.Word w.Remove ∷ t.Word w.Prop ∷ t.Word w.End ∷ []) ∷ (t.Word w.End ∷ []) ∷ [])
block = refl

-- a block that isn't ended
no_end : driver_lines (codes "theory T") ≡ Err 8
no_end = refl

-- `foo` is no operator
no_operator : driver_lines (codes "theory T syntax function (foo) end") ≡ Err 26
no_operator = refl

-- a connective is no operator, and a longer run is one
connective : driver_lines (codes "meta foo function (<->)") ≡ Err 19
connective = refl

operator : driver_lines (codes "meta m prop (<->>) x") ≡ Err 19
operator = refl

-- a number has no zero in front
zero : driver_lines (codes "meta x 007") ≡ Err 8
zero = refl

-- attributes are no gaps of drivers
no_attribute : driver_lines (codes "[@a]") ≡ Err 0
no_attribute = refl

-- `a\"b"`: the second quote ends the string
escaped_quote : quoted false (codes "a\\\"b\" c") ≡ Some 5
escaped_quote = refl

not_closed : quoted false (codes "a\\\"") ≡ None
not_closed = refl

said_escapes : string_says (codes "\\n\\x\\\\") ≡ 10 ∷ codes "\\x\\"
said_escapes = refl
