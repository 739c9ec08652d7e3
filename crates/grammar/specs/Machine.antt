-- The machine without trees: a stack of symbols, which takes a terminal or is stuck, and what
-- completes it.
use Rattle.std.specs.Prelude.{Bool, true, false, ◌&&◌, if◌then◌else◌, List, [], ◌∷◌, ◌++◌, Option, Some, None}
use Rattle.grammar.specs.Common.{Terminal, Symbol}
use Rattle.grammar.specs.declared.symbols.Symbol.TheVariants as s
use Rattle.tokens_why.specs.Alphabet.{same}
use Rattle.grammar.specs.Table.{Production, productions, optional, shortest, leftovers}

abbrev pub find_production : List Production → Terminal → Option (List Symbol)
find_production [] x = None
find_production (r ∷ rs) x = if same r.first x then Some r.following else find_production rs x

-- what comes after a terminal where a symbol begins with it
abbrev pub takes : Symbol → Terminal → Option (List Symbol)
takes s x = find_production (productions s) x

abbrev pub is_tail : Symbol → Bool
is_tail (s.Tail m u) = true
is_tail _ = false

abbrev pub is_seal : Symbol → Bool
is_seal s.Seal = true
is_seal _ = false

-- After a seal the tails directly under it are silent.
abbrev pub sealed : Bool → Symbol → Bool
sealed b s = b && is_tail s

abbrev pub on_top : Option (List Symbol) → Bool → List Symbol → Option (List Symbol)
    → Option (List Symbol)
on_top (Some ss) o k r = Some (ss ++ k)
on_top None true k r = r
on_top None false k r = None

abbrev pub step : Bool → List Symbol → Terminal → Option (List Symbol)
step b [] x = None
step b (s ∷ k) x =
    if sealed b s then step true k x else on_top (takes s x) (optional s) k (step (is_seal s) k x)

abbrev pub may_end : List Symbol → Bool
may_end [] = true
may_end (s ∷ k) = optional s && may_end k

abbrev pub next_stack : (List Symbol → Option (List Symbol)) → Option (List Symbol)
    → Option (List Symbol)
next_stack f (Some k) = f k
next_stack f None = None

abbrev pub run : List Symbol → List Terminal → Option (List Symbol)
run k [] = Some k
run k (x ∷ xs) = next_stack (λ j. run j xs) (step false k x)

abbrev pub is_taken : Option (List Symbol) → Bool
is_taken (Some k) = true
is_taken None = false

abbrev pub ends : Option (List Symbol) → Bool
ends (Some k) = may_end k
ends None = false

abbrev pub accepts : List Symbol → List Terminal → Bool
accepts k xs = ends (run k xs)

abbrev pub complete : List Symbol → List Terminal
complete [] = []
complete (s ∷ k) = shortest s ++ complete k

abbrev pub untaken : Option (List Symbol) → Bool
untaken None = true
untaken (Some k) = false

-- what may come after a symbol: nothing that is left of it takes it
abbrev pub none_takes : List Symbol → Terminal → Bool
none_takes [] y = true
none_takes (s ∷ ss) y = untaken (takes s y) && none_takes ss y

abbrev pub may_follow : Symbol → Option Terminal → Bool
may_follow s None = true
may_follow s (Some y) = none_takes (leftovers s) y

abbrev pub first_or : List Terminal → Option Terminal → Option Terminal
first_or [] y = y
first_or (x ∷ xs) y = Some x

abbrev pub lead : List Symbol → Option Terminal → Option Terminal
lead [] y = y
lead (s ∷ k) y = first_or (shortest s) (lead k y)

-- each symbol may be followed by the first terminal of the shortest string after it
abbrev pub is_safe : List Symbol → Option Terminal → Bool
is_safe [] y = true
is_safe (s ∷ k) y = may_follow s (lead k y) && is_safe k y
