-- What is left of a table after a split has fewer constructors, and without its first column fewer columns.
use Rattle.std.proofs.Common.{◌≡◌, ◌≢◌, ℕ, zero, suc, ◌+◌, ◌*◌, ◌<◌, ◌≤◌, ◌==◌, Bool, true, false, List, [], ◌∷◌, ◌++◌, length, replicate, Option, Some, None, refl, ap, arith}
use Rattle.std.proofs.Math.Nat.{mul-le-mul_left}
use Rattle.std.proofs.lemmas.List.{length-append, length-map}
use Rattle.trees.specs.Tree.{Tree, One, Two, Three, HCell, HPatAny, HPatVar, HPatCon, HPatAlias}
use Rattle.trees.specs.Binding.{inst_types}
use Rattle.tasks.specs.Task.{SymbolTree, symbol_or}
use Rattle.tasks.specs.Typing.{members}
use Rattle.checks.specs.match_cover.Shapes.{type_arguments, field_types, without_aliases}
use Rattle.checks.specs.match_cover.Tables.{BareFits, RowFits, TableFits, opened_if, opened, specialized, tails, symbol_of_type, told, or_told, column_told, constructor_count, row_constructors, table_constructors, all_fields, width, effort}

row_append : (ps qs : List Tree) → row_constructors (ps ++ qs) ≡ row_constructors ps + row_constructors qs
row_append [] qs = omega arith
row_append (p ∷ ps) qs = omega (arith, row_append ps qs)

table_append : (xs ys : List (List Tree)) → table_constructors (xs ++ ys) ≡ table_constructors xs + table_constructors ys
table_append [] ys = omega arith
table_append (x ∷ xs) ys = omega (arith, table_append xs ys)

same_constructors : (p : Tree) → constructor_count (without_aliases p) ≡ constructor_count p
same_constructors (One HPatAlias p) = same_constructors p
same_constructors _ = refl

members_constructors : (parts : Tree) → row_constructors (members parts) ≤ constructor_count parts
members_constructors (Two HCell a b) = omega (arith, members_constructors b)
members_constructors _ = omega arith

none_repeated : (n : ℕ) (p : Tree) → constructor_count p ≡ 0 → row_constructors (replicate n p) ≡ 0
none_repeated zero p e = refl
none_repeated (suc n) p e = omega (arith, none_repeated n p e, e)

abbrev one_or_none : Option ℕ → ℕ
one_or_none None = 0
one_or_none (Some t) = 1

if_small : (b : Bool) (row : List Tree) → table_constructors (opened_if b row) ≤ row_constructors row
if_small true row = omega arith
if_small false row = omega arith

one_at_most : (o : Option ℕ) → one_or_none o ≤ 1
one_at_most None = omega arith
one_at_most (Some t) = omega arith

-- a pattern that tells a type loses a constructor
opened_less : (symbols : List SymbolTree) (t : Tree) (k n : ℕ) (b : Tree) (row : List Tree) → BareFits symbols t b
    → table_constructors (opened k n b row) + one_or_none (told b) ≤ constructor_count b + row_constructors row
opened_less symbols t k n (Three (HPatCon c) types parts type) row x =
    omega (arith, if_small (c == k) (members parts ++ row), row_append (members parts) row, members_constructors parts, one_at_most (symbol_of_type type))
opened_less symbols t k n (One HPatAny a) row x = omega (arith, row_append (replicate n (One HPatAny a)) row, none_repeated n (One HPatAny a) refl)
opened_less symbols t k n (One HPatVar a) row x = omega (arith, row_append (replicate n (One HPatVar a)) row, none_repeated n (One HPatVar a) refl)
opened_less symbols t k n _ row x = absurd x

told_once : (a b : Option ℕ) → one_or_none (or_told a b) ≤ one_or_none a + one_or_none b
told_once None b = omega arith
told_once (Some t) b = omega arith

pub split_less : (symbols : List SymbolTree) (t : Tree) (ts : List Tree) (k n : ℕ) (rows : List (List Tree)) → TableFits symbols (t ∷ ts) rows
    → table_constructors (specialized k n rows) + one_or_none (column_told rows) ≤ table_constructors rows
split_less symbols t ts k n [] x = omega arith
split_less symbols t ts k n ([] ∷ rows) x = absurd x.0
split_less symbols t ts k n ((p ∷ row) ∷ rows) x =
    omega (
      arith,
      opened_less symbols t k n (without_aliases p) row x.0.0,
      same_constructors p,
      split_less symbols t ts k n rows x.1,
      told_once (told (without_aliases p)) (column_told rows),
      table_append (opened k n (without_aliases p) row) (specialized k n rows),
    )

tails_less : (rows : List (List Tree)) → table_constructors (tails rows) ≤ table_constructors rows
tails_less [] = omega arith
tails_less ([] ∷ rows) = omega (arith, tails_less rows)
tails_less ((p ∷ row) ∷ rows) = omega (arith, tails_less rows)

-- no constructor has more fields than all symbols have
pub fields_within : (symbols : List SymbolTree) (k : ℕ) → length (symbol_or symbols k).args ≤ all_fields symbols
fields_within [] k = omega arith
fields_within (e ∷ es) zero = omega arith
fields_within (e ∷ es) (suc k) = omega (arith, fields_within es k)

row_width : (symbols : List SymbolTree) (ts ps : List Tree) → RowFits symbols ts ps → length ps ≡ length ts
row_width symbols [] [] x = refl
row_width symbols [] (p ∷ ps) x = absurd x
row_width symbols (t ∷ ts) [] x = absurd x
row_width symbols (t ∷ ts) (p ∷ ps) x = omega (arith, row_width symbols ts ps x.1)

pub table_width : (symbols : List SymbolTree) (ts : List Tree) (rows : List (List Tree)) → TableFits symbols ts rows → width rows ≤ length ts
table_width symbols ts [] x = omega arith
table_width symbols ts (r ∷ rows) x = omega (arith, row_width symbols ts r x.0)

-- a row more at the top weighs more than all columns
weighs : (a b c v w : ℕ) → a + 1 ≤ b → v < c + 1 + w → a * (c + 1) + v < b * (c + 1) + w
weighs a b c v w h l = let m : (c + 1) * (a + 1) ≤ (c + 1) * b = mul-le-mul_left (c + 1) h in omega (arith, m)

pub tails_effort : (symbols : List SymbolTree) (t : Tree) (ts : List Tree) (rows : List (List Tree)) → TableFits symbols (t ∷ ts) rows → rows ≢ [] → effort symbols (tails rows) < effort symbols rows
tails_effort symbols t ts [] x n = absurd (n refl)
tails_effort symbols t ts ([] ∷ rows) x n = absurd x.0
tails_effort symbols t ts ((p ∷ row) ∷ rows) x n =
    let m = mul-le-mul_left (all_fields symbols + 1) (tails_less ((p ∷ row) ∷ rows)) in
    omega (arith, m)

pub split_effort : (symbols : List SymbolTree) (t : Tree) (ts : List Tree) (k h : ℕ) (rows : List (List Tree)) → TableFits symbols (t ∷ ts) rows → rows ≢ [] → column_told rows ≡ Some h
    → TableFits symbols (field_types symbols t k ++ ts) (specialized k (length (field_types symbols t k)) rows) → effort symbols (specialized k (length (field_types symbols t k)) rows) < effort symbols rows
split_effort symbols t ts k h [] x n e f = absurd (n refl)
split_effort symbols t ts k h (r ∷ rows) x n e f =
    let rs = specialized k (length (field_types symbols t k)) (r ∷ rows) in
    let one : one_or_none (column_told (r ∷ rows)) ≡ 1 = ap one_or_none e in
    let less : table_constructors rs + 1 ≤ table_constructors (r ∷ rows) = omega (arith, split_less symbols t ts k (length (field_types symbols t k)) (r ∷ rows) x, one) in
    let wide : width rs ≤ length (field_types symbols t k ++ ts) = table_width symbols (field_types symbols t k ++ ts) rs f in
    weighs (table_constructors rs) (table_constructors (r ∷ rows)) (all_fields symbols) (width rs) (length r) less
    (omega (arith, wide, length-append (field_types symbols t k) ts, length-map (symbol_or symbols k).args (λ a. inst_types a (type_arguments t)), fields_within symbols k, row_width symbols (t ∷ ts) r x.0))
