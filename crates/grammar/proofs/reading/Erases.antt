-- The rows of the machine with values are those of the grammar.
use Rattle.grammar.proofs.reading.Common.{◌≡◌, ℕ, Bool, true, false, cond, List, [], ◌∷◌, ◌++◌, map, refl, ap, nat_le, Terminal, Symbol, operators, prec, right, run, ends, Lexeme, attach, extend, expr_own, link_row, prim_rows, tail_rows, takes_op, read}
use Rattle.tokens_why.specs.declared.terminal.Terminal.TheVariants as t
use Rattle.grammar.specs.declared.symbols.Symbol.TheVariants as s
use Rattle.grammar.specs.Table as table
use Rattle.grammar.specs.Table.{production}
use Rattle.grammar.proofs.reading.Erasure.{Erases, erased, has, lines_of}

expr_lines : (m : ℕ) (b : Bool) → lines_of (expr_own m b ++ extend (s.Expr m) s.Prim (s.Tail m 9 ∷ []) (λ v vs. attach v vs.0) prim_rows) ≡ cond b (production t.NotWord (s.Expr 3 ∷ s.Tail m 3 ∷ []) ∷ []) [] ++ ((production t.Minus (s.Expr 8 ∷ s.Tail m 8 ∷ []) ∷ production t.PrefixOperator (s.Expr 8 ∷ s.Tail m 8 ∷ []) ∷ []) ++ (table.open_productions ++ table.with_symbols_after table.prim_productions (s.Tail m 9 ∷ [])))
expr_lines m true = refl
expr_lines m false = refl

tail_lines : (m u : ℕ) (os : List Terminal) → lines_of (tail_rows m u os) ≡ table.tail_of m u os
tail_lines m u [] = refl
tail_lines m u (o ∷ os) = by_test (takes_op m u o) (tail_lines m u os)
  where
    by_test : (b : Bool) → lines_of (tail_rows m u os) ≡ table.tail_of m u os → lines_of (cond b (link_row m u o ∷ tail_rows m u os) (tail_rows m u os)) ≡ cond b (production o (s.Expr (right o) ∷ s.Tail m (prec o) ∷ []) ∷ table.tail_of m u os) (table.tail_of m u os)
    by_test true h = ap (λ l. production o (s.Expr (right o) ∷ s.Tail m (prec o) ∷ []) ∷ l) h
    by_test false h = h

pub erases : (top : Symbol) → Erases top
erases (s.Take x) = record { lines = refl; empty = refl }
erases (s.Expr m) = record { lines = expr_lines m (nat_le m 3); empty = refl }
erases (s.Tail m u) = record { lines = tail_lines m u operators; empty = refl }
erases (s.HeadRest true) = record { lines = refl; empty = refl }
erases (s.HeadRest false) = record { lines = refl; empty = refl }
erases (s.Head true) = record { lines = refl; empty = refl }
erases (s.Head false) = record { lines = refl; empty = refl }
erases _ = record { lines = refl; empty = refl }

-- What the grammar accepts is read, and nothing else.
pub accepted : (xs : List Lexeme) (i : ℕ) (k : List Symbol) → has (read xs i false k) ≡ ends (run k (map (λ x. x.terminal) xs))
accepted xs i k = erased erases xs i k
