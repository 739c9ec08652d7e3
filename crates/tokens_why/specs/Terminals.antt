-- What each kind of token is to the grammar.
use Rattle.std.specs.Prelude.{ℕ, suc, true, false, nat_eq, if◌then◌else◌, List, [], ◌∷◌, Option, Some, None}
use Rattle.tokens_why.specs.Common.{get_or, TokenKind, Terminal}
use Rattle.tokens_why.specs.Alphabet.{same}
use Rattle.tokens_why.specs.Reserved.{reserved_terminals}
use Rattle.tokens_why.specs.Strings.{kind_of}
use Rattle.tokens_why.specs.declared.token.TokenKind.TheVariants as k
use Rattle.tokens_why.specs.declared.terminal.Terminal.TheVariants as t

-- an operator's terminal, by its level
abbrev pub level_terminal : ℕ → Terminal
level_terminal l = if nat_eq l 1 then t.Operator1
    else (if nat_eq l 2 then t.Operator2 else (if nat_eq l 3 then t.Operator3 else t.Operator4))

abbrev pub terminal_of : TokenKind → Terminal
terminal_of k.Lident = t.Lident
terminal_of k.Uident = t.Uident
terminal_of k.Wild = t.Wild
terminal_of k.TyVar = t.TyVar
terminal_of k.Int = t.Int
terminal_of k.StarName = t.StarName
terminal_of k.LParen = t.LParen
terminal_of k.RParen = t.RParen
terminal_of k.LBrack = t.LBrack
terminal_of k.RBrack = t.RBrack
terminal_of k.LBrace = t.LBrace
terminal_of k.RBrace = t.RBrace
terminal_of k.Comma = t.Comma
terminal_of k.Dot = t.Dot
terminal_of k.Colon = t.Colon
terminal_of k.Semi = t.Semi
terminal_of k.Bar = t.Bar
terminal_of k.Arrow = t.Arrow
terminal_of k.Equiv = t.Equiv
terminal_of k.Conj = t.Conj
terminal_of k.AndAnd = t.AndAnd
terminal_of k.Disj = t.Disj
terminal_of k.OrOr = t.OrOr
terminal_of k.Equal = t.Equal
terminal_of k.Minus = t.Minus
terminal_of (k.Operator l true) = t.PrefixOperator
terminal_of (k.Operator l false) = level_terminal l
terminal_of (k.Reserved i) = get_or reserved_terminals i t.OtherWord

abbrev pub terminal_if : Option TokenKind → Terminal
terminal_if (Some kind) = terminal_of kind
terminal_if None = t.OtherWord

-- the terminal of a string that is one token, and of any other the terminal of no rule
abbrev pub string_terminal : List ℕ → Terminal
string_terminal w = terminal_if (kind_of w)

-- the place of a terminal's first reserved word
abbrev pub word_place : List Terminal → Terminal → ℕ
word_place [] x = 0
word_place (y ∷ ys) x = if same y x then 0 else suc (word_place ys x)

-- a kind of token that is this terminal: the only one, but for the words that begin no declaration
-- of the grammar
abbrev pub kind_by : Terminal → TokenKind
kind_by t.Lident = k.Lident
kind_by t.Uident = k.Uident
kind_by t.Wild = k.Wild
kind_by t.TyVar = k.TyVar
kind_by t.Int = k.Int
kind_by t.StarName = k.StarName
kind_by t.LParen = k.LParen
kind_by t.RParen = k.RParen
kind_by t.LBrack = k.LBrack
kind_by t.RBrack = k.RBrack
kind_by t.LBrace = k.LBrace
kind_by t.RBrace = k.RBrace
kind_by t.Comma = k.Comma
kind_by t.Dot = k.Dot
kind_by t.Colon = k.Colon
kind_by t.Semi = k.Semi
kind_by t.Bar = k.Bar
kind_by t.Arrow = k.Arrow
kind_by t.Equiv = k.Equiv
kind_by t.Conj = k.Conj
kind_by t.AndAnd = k.AndAnd
kind_by t.Disj = k.Disj
kind_by t.OrOr = k.OrOr
kind_by t.Equal = k.Equal
kind_by t.Minus = k.Minus
kind_by t.Operator1 = k.Operator 1 false
kind_by t.Operator2 = k.Operator 2 false
kind_by t.Operator3 = k.Operator 3 false
kind_by t.Operator4 = k.Operator 4 false
kind_by t.PrefixOperator = k.Operator 4 true
kind_by x = k.Reserved (word_place reserved_terminals x)
