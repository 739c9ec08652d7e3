-- The rows, the stack and the shortest strings in code: what private contracts of the machine say.
use Rattle.std.specs.Prelude.{ℕ, Bool, true, false, List, ◌++◌, [], ◌∷◌, Option, Some, None, option_map, reverse, ◌≡◌, ◌&&◌, nat_le, if◌then◌else◌}
use Rattle.grammar.specs.Common.{prec, need, right, is_infix, Terminal, Symbol}
use Rattle.std.specs.Borrow.{Bor}
use Rattle.grammar.specs.declared.symbols.Symbol.TheVariants as s
use Rattle.grammar.specs.Table.{Production, productions, open_productions, prim_productions, shortest}
use Rattle.grammar.specs.Machine.{find_production, step}

abbrev pub production_of : Terminal × Bor (List Symbol) → Production
production_of r = record { first = r.0; following = r.1.now }

abbrev pub HasRows : Symbol → List Production → Type 0
HasRows (s.Take x) rs = Unit {0}
HasRows (s.Expr m) rs = Unit {0}
HasRows (s.Tail m u) rs = Unit {0}
HasRows s.Seal rs = Unit {0}
HasRows s rs = rs ≡ productions s

-- symbols were put on a stack where there are some
abbrev pub IsPut : Option (List Symbol) → Bool → List Symbol → List Symbol → Type 0
IsPut (Some ss) b k l = (b ≡ true) × (l ≡ ss ++ k)
IsPut None b k l = (b ≡ false) × (l ≡ k)

-- the same, of stacks with the top one last
abbrev pub PutsSymbols : Option (List Symbol) → List Symbol → List Symbol → Bool → Type 0
PutsSymbols t old new b = IsPut t b (reverse old) (reverse new)

-- the stack after a step, where there is one
abbrev pub IsStep : Option (List Symbol) → Bool → List Symbol → Type 0
IsStep (Some k) b l = (b ≡ true) × (l ≡ k)
IsStep None b l = b ≡ false

-- a stack with the top one last takes a terminal, where it can
abbrev pub Takes : Terminal → List Symbol → List Symbol → Bool → Type 0
Takes x old new b = IsStep (step false (reverse old) x) b (reverse new)

abbrev pub stack_or_else : Option (List Symbol) → Option (List Symbol) → Option (List Symbol)
stack_or_else (Some ss) o = Some ss
stack_or_else None o = o

-- what comes after a token with which an operand other than `not` and a prefix form begins
abbrev pub operand_takes : ℕ → Terminal → Option (List Symbol)
operand_takes m x = stack_or_else (find_production open_productions x)
    (option_map (λ ss. ss ++ s.Tail m 9 ∷ []) (find_production prim_productions x))

abbrev pub tail_takes : ℕ → ℕ → Terminal → Option (List Symbol)
tail_takes m u x = if is_infix x
    && (nat_le m (prec x) && nat_le (need x) u) then Some
    (s.Expr (right x) ∷ s.Tail m (prec x) ∷ []) else None

abbrev pub HasShortest : Symbol → List Terminal → Type 0
HasShortest (s.Take x) xs = Unit {0}
HasShortest s xs = xs ≡ shortest s
