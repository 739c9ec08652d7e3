-- The terminals in order, and the infix operators among them.
use Rattle.std.specs.Prelude.{ℕ, Bool, nat_eq, List, [], ◌∷◌}
use Rattle.tokens_why.specs.Common.{Terminal}
use Rattle.tokens_why.specs.declared.terminal.Terminal.TheVariants as t

abbrev pub terminal_number : Terminal → ℕ
terminal_number t.Lident = 0
terminal_number t.Uident = 1
terminal_number t.Wild = 2
terminal_number t.TyVar = 3
terminal_number t.Int = 4
terminal_number t.StarName = 5
terminal_number t.LParen = 6
terminal_number t.RParen = 7
terminal_number t.LBrack = 8
terminal_number t.RBrack = 9
terminal_number t.LBrace = 10
terminal_number t.RBrace = 11
terminal_number t.Comma = 12
terminal_number t.Dot = 13
terminal_number t.Colon = 14
terminal_number t.Semi = 15
terminal_number t.Bar = 16
terminal_number t.Arrow = 17
terminal_number t.Equiv = 18
terminal_number t.Conj = 19
terminal_number t.AndAnd = 20
terminal_number t.Disj = 21
terminal_number t.OrOr = 22
terminal_number t.Equal = 23
terminal_number t.Minus = 24
terminal_number t.Operator1 = 25
terminal_number t.Operator2 = 26
terminal_number t.Operator3 = 27
terminal_number t.Operator4 = 28
terminal_number t.PrefixOperator = 29
terminal_number t.AsWord = 30
terminal_number t.AxiomWord = 31
terminal_number t.CloneWord = 32
terminal_number t.ConstantWord = 33
terminal_number t.ElseWord = 34
terminal_number t.EndWord = 35
terminal_number t.ExistsWord = 36
terminal_number t.ExportWord = 37
terminal_number t.FalseWord = 38
terminal_number t.ForallWord = 39
terminal_number t.FunctionWord = 40
terminal_number t.GoalWord = 41
terminal_number t.IfWord = 42
terminal_number t.ImportWord = 43
terminal_number t.InWord = 44
terminal_number t.InductiveWord = 45
terminal_number t.LemmaWord = 46
terminal_number t.LetWord = 47
terminal_number t.MatchWord = 48
terminal_number t.ModuleWord = 49
terminal_number t.NotWord = 50
terminal_number t.PredicateWord = 51
terminal_number t.ScopeWord = 52
terminal_number t.ThenWord = 53
terminal_number t.TheoryWord = 54
terminal_number t.TrueWord = 55
terminal_number t.TypeWord = 56
terminal_number t.UseWord = 57
terminal_number t.WithWord = 58
terminal_number t.ProgramWord = 59
terminal_number t.OtherWord = 60

abbrev pub same : Terminal → Terminal → Bool
same a b = nat_eq (terminal_number a) (terminal_number b)

abbrev pub operators : List Terminal
operators = t.Arrow ∷ t.Equiv ∷ t.Disj ∷ t.OrOr ∷ t.Conj ∷ t.AndAnd ∷ t.Equal ∷ t.Operator1
    ∷ t.Minus ∷ t.Operator2 ∷ t.Operator3 ∷ t.Operator4 ∷ []

abbrev pub all_terminals : List Terminal
all_terminals = t.Lident ∷ t.Uident ∷ t.Wild ∷ t.TyVar ∷ t.Int ∷ t.StarName ∷ t.LParen ∷ t.RParen
    ∷ t.LBrack ∷ t.RBrack ∷ t.LBrace ∷ t.RBrace ∷ t.Comma ∷ t.Dot ∷ t.Colon ∷ t.Semi ∷ t.Bar
    ∷ t.Arrow ∷ t.Equiv ∷ t.Conj ∷ t.AndAnd ∷ t.Disj ∷ t.OrOr ∷ t.Equal ∷ t.Minus ∷ t.Operator1
    ∷ t.Operator2 ∷ t.Operator3 ∷ t.Operator4 ∷ t.PrefixOperator ∷ t.AsWord ∷ t.AxiomWord
    ∷ t.CloneWord ∷ t.ConstantWord ∷ t.ElseWord ∷ t.EndWord ∷ t.ExistsWord ∷ t.ExportWord
    ∷ t.FalseWord ∷ t.ForallWord ∷ t.FunctionWord ∷ t.GoalWord ∷ t.IfWord ∷ t.ImportWord ∷ t.InWord
    ∷ t.InductiveWord ∷ t.LemmaWord ∷ t.LetWord ∷ t.MatchWord ∷ t.ModuleWord ∷ t.NotWord
    ∷ t.PredicateWord ∷ t.ScopeWord ∷ t.ThenWord ∷ t.TheoryWord ∷ t.TrueWord ∷ t.TypeWord
    ∷ t.UseWord ∷ t.WithWord ∷ t.ProgramWord ∷ t.OtherWord ∷ []
