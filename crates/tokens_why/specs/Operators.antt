-- The operators among the terminals, and how tightly they bind (Why3 manual, "Syntax", the table of
-- precedences).
use Rattle.tokens_why.specs.Common.{ℕ, Bool, true, false, List, codes, is_same_word, Terminal}
use Rattle.tokens_why.specs.declared.terminal.Terminal.TheVariants as t

-- how tightly an operator binds, and what it needs on its left and on its right
abbrev levels : Terminal → ℕ × ℕ × ℕ
levels t.Arrow = (0, 1, 0)
levels t.Equiv = (0, 1, 0)
levels t.Disj = (1, 2, 1)
levels t.OrOr = (1, 2, 1)
levels t.Conj = (2, 3, 2)
levels t.AndAnd = (2, 3, 2)
levels t.Equal = (4, 5, 5)
levels t.Operator1 = (4, 5, 5)
levels t.Minus = (5, 5, 6)
levels t.Operator2 = (5, 5, 6)
levels t.Operator3 = (6, 6, 7)
levels t.Operator4 = (7, 7, 8)
levels _ = (0, 0, 0)

abbrev pub prec : Terminal → ℕ
prec x = (levels x).0

abbrev pub need : Terminal → ℕ
need x = (levels x).1

abbrev pub right : Terminal → ℕ
right x = (levels x).2

abbrev pub is_infix : Terminal → Bool
is_infix t.Arrow = true
is_infix t.Equiv = true
is_infix t.Disj = true
is_infix t.OrOr = true
is_infix t.Conj = true
is_infix t.AndAnd = true
is_infix t.Equal = true
is_infix t.Operator1 = true
is_infix t.Minus = true
is_infix t.Operator2 = true
is_infix t.Operator3 = true
is_infix t.Operator4 = true
is_infix _ = false

abbrev pub is_prefix : Terminal → Bool
is_prefix t.Minus = true
is_prefix t.PrefixOperator = true
is_prefix _ = false

-- an operator that may be named in parentheses
abbrev pub is_operator : Terminal → Bool
is_operator t.Equal = true
is_operator t.Minus = true
is_operator t.Operator1 = true
is_operator t.Operator2 = true
is_operator t.Operator3 = true
is_operator t.Operator4 = true
is_operator t.PrefixOperator = true
is_operator _ = false

-- the characters of the operator that `(*)` names
abbrev pub is_star : List ℕ → Bool
is_star w = is_same_word w (codes "*")
