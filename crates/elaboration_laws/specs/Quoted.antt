-- Names of type variables as they are in a source.
use Rattle.elab_groups.specs.tasks.Valid.{IsQuoted}
use Rattle.elab_groups.specs.tokens_why.declared.terminal.Terminal.{Terminal}
use Rattle.elab_groups.specs.tokens_why.declared.terminal.Terminal.TheVariants as t
use Rattle.elab_groups.specs.surface.Lexeme.{Word, Lexeme}

abbrev pub QuotedAs : Terminal → Word → Type 0
QuotedAs t.TyVar w = IsQuoted w
QuotedAs _ w = Unit {0}

-- the name of a type variable has its quote
abbrev pub IsQuotedLexeme : Lexeme → Type 0
IsQuotedLexeme l = QuotedAs l.terminal l.text
