-- How deep binders and `match`es are in a tree whose `let`s and `match`es are unfolded: by this
-- number a search for agreement ends. Each variable has a rank of its own, that of what may stand
-- for it.
use Rattle.std.specs.Prelude.{ℕ, ◌+◌, ◌-◌, max, if◌then◌else◌, nat_lt}
use Rattle.trees.specs.Tree.{Tree, Leaf, One, Two, Three, Head, HCell, HBound, HParam, HFun, HForall, HExists, HLet, HCase, HArm, binders_over}

-- so many innermost variables of one rank
abbrev pub ranks_put : ℕ → ℕ → (ℕ → ℕ) → ℕ → ℕ
ranks_put m r env i = if nat_lt i m then r else env (i - m)

abbrev pub zero_ranks : ℕ → ℕ
zero_ranks i = 0

abbrev pub one_rank : Head → (ℕ → ℕ) → ℕ → ℕ
one_rank (HBound i) env n = env i
one_rank (HParam m) env n = 0
one_rank _ env n = n

-- binders and `match` raise the rank
abbrev pub raise : Head → ℕ
raise HForall = 1
raise HExists = 1
raise HLet = 1
raise HCase = 1
raise _ = 0

-- the rank of what `match` asks goes to its branches, by lists
abbrev pub passed : Head → ℕ → ℕ
passed HCell w = w
passed _ w = 0

abbrev pub asked : Head → ℕ → ℕ → ℕ
asked HCase n w = n
asked HCell n w = w
asked _ n w = 0

-- the rank of the variables that an operator binds
abbrev pub bound_rank : Head → ℕ → ℕ → ℕ
bound_rank HLet n w = n
bound_rank HArm n w = w
bound_rank _ n w = 0

abbrev pub three_rank : Head → ℕ → ℕ → ℕ → ℕ
three_rank (HFun f) a b c = b
three_rank _ a b c = max a (max b c)

abbrev pub rank : Tree → (ℕ → ℕ) → ℕ → ℕ
rank (Leaf h) env w = 0
rank (One h a) env w = one_rank h env (rank a env 0)
rank (Two h a b) env w = raise h
    + max (rank a env (passed h w))
    (rank b (ranks_put (binders_over h a) (bound_rank h (rank a env (passed h w)) w) env)
    (asked h (rank a env (passed h w)) w))
rank (Three h a b c) env w = three_rank h (rank a env 0) (rank b env 0) (rank c env 0)
