-- How deep a token is nested, over terminals alone: the brackets that are open around it, and what
-- is counted in each.
use Rattle.std.specs.Prelude.{ℕ, ◌+◌, ◌<◌, ◌≤◌, List, [], ◌∷◌, length, sum, take}
use Rattle.grammar.specs.recognise.Common.{Terminal, Opens, Closes, Counts, Restarts, Keeps}
use Rattle.tokens_why.specs.declared.terminal.Terminal.TheVariants as t
use Rattle.grammar.specs.declared.recognise.depth.Nesting.{Nesting}

-- Each word with which a declaration begins lets the innermost bracket count from 0, but for those
-- that open one, and so do the tokens between alternatives and between fields.
abbrev pub nesting : Terminal → Nesting
nesting t.LParen = Opens
nesting t.LBrack = Opens
nesting t.LBrace = Opens
nesting t.TheoryWord = Opens
nesting t.ModuleWord = Opens
nesting t.ScopeWord = Opens
nesting t.MatchWord = Opens
nesting t.RParen = Closes
nesting t.RBrack = Closes
nesting t.RBrace = Closes
nesting t.EndWord = Closes
nesting t.IfWord = Counts
nesting t.LetWord = Counts
nesting t.ForallWord = Counts
nesting t.ExistsWord = Counts
nesting t.NotWord = Counts
nesting t.Arrow = Counts
nesting t.Equiv = Counts
nesting t.Conj = Counts
nesting t.AndAnd = Counts
nesting t.Disj = Counts
nesting t.OrOr = Counts
nesting t.Equal = Counts
nesting t.Minus = Counts
nesting t.Operator1 = Counts
nesting t.Operator2 = Counts
nesting t.Operator3 = Counts
nesting t.Operator4 = Counts
nesting t.PrefixOperator = Counts
nesting t.TypeWord = Restarts
nesting t.FunctionWord = Restarts
nesting t.PredicateWord = Restarts
nesting t.ConstantWord = Restarts
nesting t.InductiveWord = Restarts
nesting t.AxiomWord = Restarts
nesting t.LemmaWord = Restarts
nesting t.GoalWord = Restarts
nesting t.UseWord = Restarts
nesting t.CloneWord = Restarts
nesting t.WithWord = Restarts
nesting t.Semi = Restarts
nesting t.Bar = Restarts
nesting _ = Keeps

-- the counters of the open brackets, the innermost first, after a token; outside of brackets
-- nothing is counted
abbrev pub nested : Nesting → List ℕ → List ℕ
nested Opens ns = 0 ∷ ns
nested Closes (n ∷ ns) = ns
nested Counts (n ∷ ns) = (n + 1) ∷ ns
nested Restarts (n ∷ ns) = 0 ∷ ns
nested _ ns = ns

abbrev pub counters : List ℕ → List Terminal → List ℕ
counters ns [] = ns
counters ns (x ∷ xs) = counters (nested (nesting x) ns) xs

-- the number of open brackets and all that is counted in them
abbrev pub depth : List ℕ → ℕ
depth ns = length ns + sum ns

-- the depth at a token, that token counted
abbrev pub depth_at : List Terminal → ℕ → ℕ
depth_at xs i = depth (counters [] (take (i + 1) xs))

abbrev pub most_nested : ℕ
most_nested = 200

-- the first token that is nested too deep
pub record IsTooDeep (xs : List Terminal) (i : ℕ) : Type 0 where
  pub within : i < length xs
  pub deep : most_nested < depth_at xs i
  pub first : (j : ℕ) → j < i → depth_at xs j ≤ most_nested

-- no token is
abbrev pub IsShallow : List Terminal → Type 0
IsShallow xs = (j : ℕ) → j < length xs → depth_at xs j ≤ most_nested
