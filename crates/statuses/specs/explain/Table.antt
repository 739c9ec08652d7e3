-- The table of faults: what comes after a code, and its words (crates/fault_rows/data/FAULTS.md).
use Rattle.std.specs.Prelude.{ℕ, List, Option, Some, None, if◌then◌else◌, ◌==◌, codes}
use Rattle.statuses.specs.declared.explain.table.Counts.{Counts}
use Rattle.statuses.specs.declared.explain.table.Counts.TheVariants.{Nothing, Bytes, Tokens, Lines}
use Rattle.statuses.specs.declared.explain.table.Row.{Row}

-- a row: how many numbers follow the code, what the last of them counts, and the words
pub record RowText : Type 0 where
  pub fields : ℕ
  pub counts : Counts
  pub words : List ℕ

abbrev pub fault_row : ℕ → Counts → List ℕ → Option RowText
fault_row n c ws = Some (record { fields = n; counts = c; words = ws })

abbrev pub row_text : Row → RowText
row_text r = record { fields = r.fields; counts = r.counts; words = r.words.now }

-- the row of a code, if there is one
abbrev pub row_of : ℕ → Option RowText
row_of code = if code == 10 then fault_row 1 Bytes
    (codes "no token begins here, or a comment or attribute that isn't closed")
    else (if code == 11 then fault_row 1 Bytes (codes "integer literal above 2^127 - 1")
    else (if code == 12 then fault_row 1 Tokens (codes "syntax error")
    else (if code == 13 then fault_row 1 Tokens (codes "nested deeper than 200")
    else (if code == 14 then fault_row 1 Tokens (codes "declaration of a program")
    else (if code == 15 then fault_row 1 Nothing (codes "file longer than 67,108,864 bytes")
    else (if code == 20 then fault_row 2 Tokens (codes "unknown name")
    else (if code == 21 then fault_row 2 Tokens (codes "name that is taken")
    else (if code == 22 then fault_row 2 Tokens
    (codes "formula for a term, term for a formula, no field, or alternative with other names")
    else (if code == 23 then fault_row 2 Tokens (codes "wrong number of arguments")
    else (if code == 30 then fault_row 2 Nothing (codes "types that clash")
    else (if code == 31 then fault_row 2 Tokens (codes "type that is left open")
    else (if code == 32 then fault_row 2 Tokens (codes "match that isn't exhaustive")
    else (if code == 33 then fault_row 2 Nothing (codes "clause of another form")
    else (if code == 34 then fault_row 2 Nothing
    (codes "predicate of the group where none is allowed")
    else (if code == 35 then fault_row 1 Nothing (codes "recursion that doesn't descend")
    else (if code == 36 then fault_row 1 Nothing (codes "recursive group that is too wide")
    else (if code == 37 then fault_row 1 Nothing (codes "type without a finite value")
    else (if code == 40 then fault_row 2 Tokens (codes "clone element that doesn't fit")
    else (if code == 50 then fault_row 2 Bytes (codes "syntax error")
    else (if code == 51 then fault_row 2 Bytes (codes "unknown transformation")
    else (if code == 52 then fault_row 2 Bytes
    (codes "template that lacks an argument, or has one twice")
    else (if code == 53 then fault_row 2 Bytes (codes "unknown symbol")
    else (if code == 54 then fault_row 2 Bytes
    (codes "import of a file that is being read, or too many imports")
    else (if code == 55 then fault_row 2 Bytes (codes "unknown printer, or none")
    else (if code == 60 then fault_row 0 Nothing (codes "no such theory")
    else (if code == 61 then fault_row 0 Nothing (codes "no such goal")
    else (if code == 70 then fault_row 2 Nothing (codes "declaration that the stage doesn't take")
    else (if code == 71 then fault_row 1 Nothing (codes "task that is too large after the stage")
    else (if code == 80 then fault_row 2 Nothing (codes "polymorphic proposition")
    else (if code == 81 then fault_row 2 Nothing
    (codes "declaration or form that the printer lacks")
    else (if code == 82 then fault_row 2 Nothing (codes "symbol without a template")
    else (if code == 90 then fault_row 2 Nothing
    (codes "another number of refutations than of problems")
    else (if code == 91 then fault_row 2 Lines
    (codes "wrong line; after the last line: the steps don't end in the start")
    else None)))))))))))))))))))))))))))))))))
