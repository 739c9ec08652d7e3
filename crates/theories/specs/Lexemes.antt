-- Texts of tokens that are names.
use Rattle.std.specs.Prelude.{List, All}
use Rattle.surface.specs.tokens_why.declared.terminal.Terminal.{Terminal}
use Rattle.surface.specs.tokens_why.declared.terminal.Terminal.TheVariants as t
use Rattle.surface.specs.Lexeme.{Word, Lexeme}
use Rattle.tasks.specs.Words.{IsScopedName}

-- the text of a name or an operator, and of what has none; that of an integer is its value, and no
-- text
abbrev pub SaysWord : Terminal → Word → Type 0
SaysWord t.Int w = Unit {0}
SaysWord _ w = IsScopedName w

abbrev pub IsWordLexeme : Lexeme → Type 0
IsWordLexeme l = SaysWord l.terminal l.text

abbrev pub AreWordLexemes : List Lexeme → Type 0
AreWordLexemes ls = All IsWordLexeme ls
