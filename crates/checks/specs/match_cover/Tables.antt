-- Tables of patterns: a row of patterns takes as many values at once, and a table is split by the
-- constructors of its first column (Maranget, "Warnings for pattern matching", specialized
-- matrices).
use Rattle.std.specs.Prelude.{◌≡◌, ℕ, ◌+◌, ◌*◌, zero, suc, ◌==◌, Bool, true, false, ◌&&◌, ◌||◌, List, [], ◌∷◌, ◌++◌, length, map, replicate, ◌⊎◌, Option, Some, None, MatchOption, Contains, ◌↔◌}
use Rattle.trees.specs.Tree.{Tree, Leaf, One, Two, Three, Head, HTyApp, HCell, HPatAny, HPatVar, HPatCon, HPatAlias}
use Rattle.tasks.specs.Task.{SymbolTree}
use Rattle.tasks.specs.Vocabulary.{of_signature}
use Rattle.tasks.specs.Typing.{members, TypedUnder}
use Rattle.checks.specs.match_cover.Shapes.{unspecified, Shapes, no_shapes, more_shapes, IsConstructorEntryOf, AreShapes, AreMet, without_aliases}

-- a bare pattern for values of a type
abbrev pub BareFits : List SymbolTree → Tree → Tree → Type 0
BareFits symbols type (One HPatAny a) = Unit {0}
BareFits symbols type (One HPatVar a) = Unit {0}
BareFits symbols type (Three (HPatCon c) types parts t) =
    (t ≡ type) × TypedUnder (of_signature symbols) [] (Three (HPatCon c) types parts t)
BareFits symbols type _ = ⊥

-- patterns for values of as many types
abbrev pub RowFits : List SymbolTree → List Tree → List Tree → Type 0
RowFits symbols [] [] = Unit {0}
RowFits symbols (t ∷ ts) (p ∷ ps) = BareFits symbols t (without_aliases p) × RowFits symbols ts ps
RowFits symbols _ _ = ⊥

abbrev pub TableFits : List SymbolTree → List Tree → List (List Tree) → Type 0
TableFits symbols types [] = Unit {0}
TableFits symbols types (r ∷ rs) = RowFits symbols types r × TableFits symbols types rs

-- the rows are for values of some types, so many
pub record IsTable (symbols : List SymbolTree) (columns : ℕ)
    (rows : List (List Tree)) : Type 0 where
  pub types : List Tree
  pub long : length types ≡ columns
  pub fits : TableFits symbols types rows

-- some row meets shapes, each by its own pattern; no row does
abbrev pub AnyMet : Shapes → List (List Tree) → Type 0
AnyMet ss [] = ⊥
AnyMet ss (r ∷ rs) = AreMet ss r ⊎ AnyMet ss rs

abbrev pub NoneMet : Shapes → List (List Tree) → Type 0
NoneMet ss [] = Unit {0}
NoneMet ss (r ∷ rs) = (AreMet ss r → ⊥) × NoneMet ss rs

-- some row meets each shapes of the types
abbrev pub Covers : List SymbolTree → List Tree → List (List Tree) → Type 0
Covers symbols types rows = (ss : Shapes) → AreShapes symbols ss types → AnyMet ss rows

-- shapes of the types that no row meets
pub record Misses (symbols : List SymbolTree) (types : List Tree) (rows : List (List Tree))
    (ss : Shapes) : Type 0 where
  pub are : AreShapes symbols ss types
  pub unmet : NoneMet ss rows

-- Shapes that no row meets, or none where each is met: whatever the types are, so many, for which
-- the rows are.
abbrev pub Answered : List SymbolTree → ℕ → List (List Tree) → Option Shapes → Type 0
Answered symbols columns rows o = (types : List Tree) → length types ≡ columns
    → TableFits symbols types rows
    → MatchOption o (Covers symbols types rows) (Misses symbols types rows)

-- so many unspecified shapes
abbrev pub unknowns : ℕ → Shapes
unknowns zero = no_shapes
unknowns (suc n) = more_shapes unspecified (unknowns n)

-- the number of shapes
abbrev pub number_of_shapes : Shapes → ℕ
number_of_shapes no_shapes = 0
number_of_shapes (more_shapes s ss) = number_of_shapes ss + 1

-- shapes after others
abbrev pub append_shapes : Shapes → Shapes → Shapes
append_shapes no_shapes ts = ts
append_shapes (more_shapes s ss) ts = more_shapes s (append_shapes ss ts)

abbrev pub opened_if : Bool → List Tree → List (List Tree)
opened_if true row = row ∷ []
opened_if false row = []

-- the constructor of a bare pattern, and the list of its parts
abbrev pub apart : Tree → Option (ℕ × Tree)
apart (Three (HPatCon c) types parts type) = Some (c, parts)
apart _ = None

abbrev pub opened_by : ℕ → ℕ → Option (ℕ × Tree) → Tree → List Tree → List (List Tree)
opened_by k n (Some q) p row = opened_if (q.0 == k) (members q.1 ++ row)
opened_by k n None p row = (replicate n p ++ row) ∷ []

-- a row whose first pattern is taken apart at a constructor with so many fields: none where it is
-- another constructor's
abbrev pub opened : ℕ → ℕ → Tree → List Tree → List (List Tree)
opened k n p row = opened_by k n (apart p) p row

-- a row after the parts of its first pattern, if they are there
abbrev pub parts_with_row : Option (List Tree) → List Tree → List (List Tree)
parts_with_row None row = []
parts_with_row (Some parts) row = (parts ++ row) ∷ []

abbrev pub opened_row : ℕ → ℕ → List Tree → List (List Tree)
opened_row k n [] = []
opened_row k n (p ∷ row) = opened k n (without_aliases p) row

abbrev pub specialized : ℕ → ℕ → List (List Tree) → List (List Tree)
specialized k n [] = []
specialized k n (r ∷ rs) = opened_row k n r ++ specialized k n rs

-- a bare pattern that every value meets: a wildcard or a variable
abbrev pub is_irrefutable : Tree → Bool
is_irrefutable (One HPatAny a) = true
is_irrefutable (One HPatVar a) = true
is_irrefutable _ = false

-- each pattern of a row is such, under the names that it gives
abbrev pub are_irrefutable : List Tree → Bool
are_irrefutable [] = true
are_irrefutable (p ∷ ps) = is_irrefutable (without_aliases p) && are_irrefutable ps

-- some row has such patterns alone
abbrev pub some_irrefutable : List (List Tree) → Bool
some_irrefutable [] = false
some_irrefutable (r ∷ rs) = are_irrefutable r || some_irrefutable rs

-- without the first column
abbrev pub tail : List Tree → List Tree
tail [] = []
tail (p ∷ ps) = ps

abbrev pub tails : List (List Tree) → List (List Tree)
tails rows = map tail rows

-- the first member of a list and the others, if it has one
abbrev pub cell : Tree → Option (Tree × Tree)
cell (Two HCell a b) = Some (a, b)
cell _ = None

-- the type symbol that a bare pattern tells of its values
abbrev pub symbol_of_type : Tree → Option ℕ
symbol_of_type (One (HTyApp t) a) = Some t
symbol_of_type _ = None

abbrev pub told : Tree → Option ℕ
told (Three (HPatCon c) types parts type) = symbol_of_type type
told _ = None

abbrev pub row_told : List Tree → Option ℕ
row_told [] = None
row_told (p ∷ ps) = told (without_aliases p)

abbrev pub or_told : Option ℕ → Option ℕ → Option ℕ
or_told (Some t) o = Some t
or_told None o = o

-- what the first pattern that tells one does
abbrev pub column_told : List (List Tree) → Option ℕ
column_told [] = None
column_told (r ∷ rs) = or_told (row_told r) (column_told rs)

-- a number where a test is passed
abbrev pub one_if : Bool → ℕ → List ℕ
one_if true k = k ∷ []
one_if false k = []

-- by these constructors a table is split: all of the type that its first column tells
abbrev pub Splits : List SymbolTree → List (List Tree) → List ℕ → Type 0
Splits symbols rows ks = MatchOption (column_told rows) (ks ≡ [])
    (λ h. (k : ℕ) → Contains ks k ↔ IsConstructorEntryOf symbols h k)

-- the constructors in a pattern or a list of patterns
abbrev pub one_constructors : Head → ℕ → ℕ
one_constructors HPatAlias n = n
one_constructors _ n = 0

abbrev pub three_constructors : Head → ℕ → ℕ
three_constructors (HPatCon c) n = n + 1
three_constructors _ n = 0

abbrev pub constructor_count : Tree → ℕ
constructor_count (Leaf h) = 0
constructor_count (One h a) = one_constructors h (constructor_count a)
constructor_count (Two h a b) = constructor_count a + constructor_count b
constructor_count (Three h a b c) = three_constructors h (constructor_count b)

abbrev pub row_constructors : List Tree → ℕ
row_constructors [] = 0
row_constructors (p ∷ ps) = constructor_count p + row_constructors ps

abbrev pub table_constructors : List (List Tree) → ℕ
table_constructors [] = 0
table_constructors (r ∷ rs) = row_constructors r + table_constructors rs

-- the fields of all symbols
abbrev pub all_fields : List SymbolTree → ℕ
all_fields [] = 0
all_fields (e ∷ es) = length e.args + all_fields es

-- the number of columns
abbrev pub width : List (List Tree) → ℕ
width [] = 0
width (r ∷ rs) = length r

-- it falls where a table is split or its first column is left out
abbrev pub effort : List SymbolTree → List (List Tree) → ℕ
effort symbols rows = table_constructors rows * (all_fields symbols + 1) + width rows
