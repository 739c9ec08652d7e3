-- Which texts are driver files, in which lines, and where others go wrong: by what can be written.
use Rattle.std.specs.Prelude.{ℕ, ◌≡◌, true, false, List, [], ◌∷◌, ◌++◌, map, length}
use Rattle.std.specs.List.{flat_map}
use Rattle.drivers.specs.declared.driver_tokens.terminal.DriverTerminal.{DriverTerminal}
use Rattle.drivers.specs.driver_tokens.Grammar.{GrammarLine, write_line, write_lines, are_lines}
use Rattle.drivers.specs.driver_tokens.Tokens.{DriverLexeme, driver_lexemes}

abbrev pub driver_terminals : List DriverLexeme → List DriverTerminal
driver_terminals = map (λ x. x.terminal)

-- the terminals are those of a driver file
pub record IsDriverFile (xs : List DriverTerminal) : Type 0 where
  pub lines : List GrammarLine
  pub are : are_lines false lines ≡ true
  pub written : write_lines lines ≡ xs

-- they begin a driver file
pub record BeginsFile (xs : List DriverTerminal) : Type 0 where
  pub more : List DriverTerminal
  pub file : IsDriverFile (xs ++ more)

-- The tokens of a line each make a driver file: they are those of the text, and each line can be
-- written.
pub record AreDriverLines (text : List ℕ) (found : List (List DriverLexeme)) : Type 0 where
  pub lines : List GrammarLine
  pub are : are_lines false lines ≡ true
  pub written : map write_line lines ≡ map driver_terminals found
  pub tokens : flat_map (λ l. l) found ≡ driver_lexemes text

-- and no other lines do
pub record AreOnlyLines (text : List ℕ) (found : List (List DriverLexeme)) : Type 0 where
  pub of : AreDriverLines text found
  pub only : (others : List (List DriverLexeme)) → AreDriverLines text others → others ≡ found

-- where the first of some tokens begins, or the end
abbrev pub byte_of : List DriverLexeme → ℕ → ℕ
byte_of [] end = end
byte_of (x ∷ xs) end = x.at

-- after tokens these can't be there: the first of them, or their end
abbrev pub CannotFollow : List DriverLexeme → List DriverLexeme → Type 0
CannotFollow before [] = IsDriverFile (driver_terminals before) → ⊥
CannotFollow before (x ∷ after) = BeginsFile (driver_terminals before ++ x.terminal ∷ []) → ⊥

-- Where a text goes wrong: the tokens before the byte begin a driver file, and with the token there
-- they begin none; at the end of the text, they are none.
pub record IsSyntaxFault (text : List ℕ) (byte : ℕ) : Type 0 where
  pub before : List DriverLexeme
  pub after : List DriverLexeme
  pub tokens : before ++ after ≡ driver_lexemes text
  pub begins : BeginsFile (driver_terminals before)
  pub stops : CannotFollow before after
  pub at : byte ≡ byte_of after (length text)
