-- The lines of a text, from those of its tokens.
use Rattle.std.proofs.Common.{◌≡◌, ℕ, List, [], ◌∷◌, map, length, Ok, Err, refl, sym, ap, ◌∙◌}
use Rattle.drivers.specs.declared.driver_tokens.fault.DriverSyntaxFault.{DriverSyntaxFault}
use Rattle.drivers.specs.declared.driver_tokens.fault.DriverSyntaxFault.TheVariants as f
use Rattle.drivers.specs.declared.driver_tokens.file.DriverLine.{DriverLine}
use Rattle.drivers.specs.declared.driver_tokens.terminal.DriverTerminal.{DriverTerminal}
use Rattle.drivers.specs.declared.driver_tokens.token.DriverToken.{DriverToken}
use Rattle.drivers.specs.driver_tokens.Machine.{cut}
use Rattle.drivers.specs.driver_tokens.Tokens.{driver_lexemes, lexeme_in}
use Rattle.drivers.specs.driver_tokens.Lines.{byte_of, AreOnlyLines, IsSyntaxFault}
use Rattle.drivers.specs.driver_tokens.File.{or_byte, driver_lines, line_in, Cuts, GivesLines, IsDriverRefusal, tokens_of_lines, token_start}
use Rattle.drivers.proofs.driver_tokens.Cutting.{image_all, cut-map}
use Rattle.drivers.proofs.driver_tokens.Files.{terminal, only_lines, fault_of}

abbrev kind : DriverToken → DriverTerminal
kind x = x.terminal

-- the tokens of a text are those of the code
pub record Lexed (text : List ℕ) (tokens : List DriverToken) : Type 0 where
  pub same : map (lexeme_in text) tokens ≡ driver_lexemes text

cut_text : (text : List ℕ) (tokens : List DriverToken) → Lexed text tokens → cut terminal (driver_lexemes text) ≡ image_all (lexeme_in text) (cut kind tokens)
cut_text text tokens l = ap (cut terminal) (sym l.same) ∙ cut-map (lexeme_in text) terminal tokens

lines-parts : (text : List ℕ) (tokens : List DriverToken) (lines : List DriverLine) → map (map (lexeme_in text)) (tokens_of_lines tokens lines) ≡ map (line_in text tokens) lines
lines-parts text tokens [] = refl
lines-parts text tokens (l ∷ lines) = ap (λ v. line_in text tokens l ∷ v) (lines-parts text tokens lines)

found : (text : List ℕ) (tokens : List DriverToken) (lines : List DriverLine) → Lexed text tokens → cut kind tokens ≡ Ok (tokens_of_lines tokens lines) → cut terminal (driver_lexemes text) ≡ Ok (map (line_in text tokens) lines)
found text tokens lines l e = cut_text text tokens l ∙ ap (image_all (lexeme_in text)) e ∙ ap Ok (lines-parts text tokens lines)

pub found_exact : (text : List ℕ) (tokens : List DriverToken) (lines : List DriverLine) → map (lexeme_in text) tokens ≡ driver_lexemes text → cut (λ x. x.terminal) tokens ≡ Ok (tokens_of_lines tokens lines) → driver_lines text ≡ Ok (map (line_in text tokens) lines)
found_exact text tokens lines l e = ap (or_byte (length text)) (found text tokens lines (record { same = l }) e)

pub found_lines : (text : List ℕ) (tokens : List DriverToken) (lines : List DriverLine) → map (lexeme_in text) tokens ≡ driver_lexemes text → cut (λ x. x.terminal) tokens ≡ Ok (tokens_of_lines tokens lines) → AreOnlyLines text (map (line_in text tokens) lines)
found_lines text tokens lines l e = only_lines text _ (found text tokens lines (record { same = l }) e)

start-byte : (text : List ℕ) (after : List DriverToken) (end : ℕ) → token_start after end ≡ byte_of (map (lexeme_in text) after) end
start-byte text [] end = refl
start-byte text (x ∷ after) end = refl

lost : (text : List ℕ) (tokens after : List DriverToken) → Lexed text tokens → cut kind tokens ≡ Err after → cut terminal (driver_lexemes text) ≡ Err (map (lexeme_in text) after)
lost text tokens after l e = cut_text text tokens l ∙ ap (image_all (lexeme_in text)) e

pub lost_exact : (text : List ℕ) (tokens after : List DriverToken) (byte : ℕ) → map (lexeme_in text) tokens ≡ driver_lexemes text → cut (λ x. x.terminal) tokens ≡ Err after → byte ≡ token_start after (length text) → driver_lines text ≡ Err byte
lost_exact text tokens after byte l e at = ap (or_byte (length text)) (lost text tokens after (record { same = l }) e) ∙ ap Err (sym (at ∙ start-byte text after (length text)))

pub lost_fault : (text : List ℕ) (tokens after : List DriverToken) (byte : ℕ) → map (lexeme_in text) tokens ≡ driver_lexemes text → cut (λ x. x.terminal) tokens ≡ Err after → byte ≡ token_start after (length text) → IsSyntaxFault text byte
lost_fault text tokens after byte l e at = fault_of text _ byte (lost text tokens after (record { same = l }) e) (at ∙ start-byte text after (length text))

-- a refusal of the tokens is one of the text
pub err_exact : (text : List ℕ) (tokens : List DriverToken) (fault : DriverSyntaxFault) → map (lexeme_in text) tokens ≡ driver_lexemes text → Cuts tokens (length text) (Err fault) → GivesLines text (Err fault) (driver_lines text)
err_exact text tokens f.Memory l h = tt
err_exact text tokens (f.Syntax byte) l h = lost_exact text tokens h.0 byte l h.1 h.2

pub err_refused : (text : List ℕ) (tokens : List DriverToken) (fault : DriverSyntaxFault) → map (lexeme_in text) tokens ≡ driver_lexemes text → Cuts tokens (length text) (Err fault) → IsDriverRefusal text fault
err_refused text tokens f.Memory l h = tt
err_refused text tokens (f.Syntax byte) l h = lost_fault text tokens h.0 byte l h.1 h.2
