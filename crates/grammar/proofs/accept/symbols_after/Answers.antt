use Rattle.grammar.proofs.Common.{◌≡◌, ℕ, ◌+◌, ◌≤◌, ◌<◌, true, false, cond, List, Some, None, map, drop, length, get_or, refl, sym, ap, ◌∙◌, arith, add-one, drop-cons, drop_of_length-le, Terminal, Symbol, same, find_production, production_of}
use Rattle.std.specs.Borrow.{Bor}
use Rattle.grammar.proofs.accept.symbols_after.Goals as goal

abbrev Rows : Type 0
Rows = List (Terminal × Bor (List Symbol))

-- the rows from one on
find_at : (rows : Rows) (i : ℕ) (x : Terminal) (d : Terminal × Bor (List Symbol)) → i < length rows → find_production (map production_of (drop i rows)) x ≡ cond (same (get_or rows i d).0 x) (Some (get_or rows i d).1.now) (find_production (map production_of (drop (i + 1) rows)) x)
find_at rows i x d h = rw (add-one, drop-cons rows i d) refl

find_end : (rows : Rows) (i : ℕ) (x : Terminal) → length rows ≤ i → find_production (map production_of (drop i rows)) x ≡ None
find_end rows i x h = rw (drop_of_length-le rows h) refl

find_here : (rows : Rows) (i : ℕ) (x : Terminal) (d : Terminal × Bor (List Symbol)) → i < length rows → same (get_or rows i d).0 x ≡ true → find_production (map production_of (drop i rows)) x ≡ Some (get_or rows i d).1.now
find_here rows i x d h e = find_at rows i x d h ∙ ap (λ b. cond b (Some (get_or rows i d).1.now) (find_production (map production_of (drop (i + 1) rows)) x)) e

find_next : (rows : Rows) (i : ℕ) (x : Terminal) (d : Terminal × Bor (List Symbol)) → i < length rows → same (get_or rows i d).0 x ≡ false → find_production (map production_of (drop i rows)) x ≡ find_production (map production_of (drop (i + 1) rows)) x
find_next rows i x d h e = find_at rows i x d h ∙ ap (λ b. cond b (Some (get_or rows i d).1.now) (find_production (map production_of (drop (i + 1) rows)) x)) e

pub returns-then-is_same : goal.returns-then-is_same
returns-then-is_same c = sym (c.loop-row.invariant ∙ find_here c.args.rows.now c.loop-row.row-index c.args.x _ (omega arith) (sym c.is_same.ensures ∙ c.if-is_same.true))

pub loop-row-preserved : goal.loop-row-preserved
loop-row-preserved c = c.loop-row.invariant ∙ find_next c.args.rows.now c.loop-row.row-index c.args.x _ (omega arith) (sym c.is_same.ensures ∙ c.if-is_same.false)

pub returns : goal.returns
returns c = sym (c.loop-row.invariant ∙ find_end c.args.rows.now c.loop-row.row-index c.args.x (omega arith))
