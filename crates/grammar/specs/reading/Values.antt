-- The machine with values: what it takes, it reads as trees.
use Rattle.std.specs.Prelude.{◌+◌}
use Rattle.grammar.specs.reading.Common.{Bool, true, cond, Option, option_map, Terminal, Symbol, Word, Lexeme, no_forms, none, same}
use Rattle.std.proofs.Common.{ℕ, false, List, [], ◌∷◌, Some, None}
use Rattle.grammar.specs.reading.Parts.{args_rest, stop, unscoped}
use Rattle.grammar.specs.reading.Row.{ReadingRow, Val, Vals}
use Rattle.grammar.specs.reading.DeclParts.{fields_of}
use Rattle.grammar.specs.Machine.{is_seal, sealed}
use Rattle.grammar.specs.reading.Rows.{rows}
use Rattle.grammar.specs.declared.symbols.Symbol.TheVariants as s

-- what a rule that may be empty is read as where nothing stands
abbrev pub blank : (s : Symbol) → Option (Val s)
blank s.Targs = Some no_forms
blank s.Quids = Some None
blank s.Patoms = Some no_forms
blank s.AsPart = Some None
blank (s.Tail m u) = Some stop
blank s.Seal = Some tt
blank s.Args = Some none
blank (s.HeadRest b) = Some (unscoped none)
blank s.Scoped = Some None
blank s.Applied = Some (args_rest none)
blank s.Dots = Some []
blank s.File = Some []
blank s.Tvars = Some (record { vars = []; equation = None })
blank s.Upper = Some (fields_of (record { fields = []; constructors = []; others = [] }))
blank s.Fields = Some (record { fields = []; constructors = []; others = [] })
blank s.Algs = Some []
blank s.Params = Some []
blank s.Body = Some (record { definition = None; members = [] })
blank s.Members = Some []
blank s.Value = Some None
blank s.Clauses = Some (record { clauses = []; others = [] })
blank s.Renamed = Some None
blank s.Subst = Some []
blank s.Elems = Some []
blank s.Qids = Some None
blank _ = None

abbrev pub find : {s : Symbol} → List (ReadingRow s) → Terminal → Option (ReadingRow s)
find [] x = None
find (r ∷ rs) x = cond (same r.first x) (Some r) (find rs x)

abbrev pub with_blank : (s : Symbol) (k : List Symbol) → Option (Val s) → Option (Vals k)
    → Option (Val s × Vals k)
with_blank s k (Some v) (Some vs) = Some (v, vs)
with_blank s k None r = None
with_blank s k (Some v) None = None

abbrev pub by_row : (s : Symbol) (k : List Symbol) → ((k : List Symbol) → Option (Vals k)) → ℕ
    → Word → Option (ReadingRow s) → Option (Val s × Vals k) → Option (Val s × Vals k)
by_row s k rest i w (Some r) other = option_map (λ vs. r.act k i w vs) (rest (r.following k))
by_row s k rest i w None other = other

abbrev pub values_over : ((k : List Symbol) → Option (Vals k)) → ℕ → Lexeme → Bool
    → (k : List Symbol) → Option (Vals k)
values_over rest i x b [] = None
values_over rest i x b (s ∷ k) =
    cond (sealed b s) (with_blank s k (blank s) (values_over rest i x true k))
    (by_row s k rest i x.text (find (rows s) x.terminal)
    (with_blank s k (blank s) (values_over rest i x (is_seal s) k)))

abbrev pub at_end : (k : List Symbol) → Option (Vals k)
at_end [] = Some tt
at_end (s ∷ k) = with_blank s k (blank s) (at_end k)

abbrev pub read : List Lexeme → ℕ → Bool → (k : List Symbol) → Option (Vals k)
read [] i b k = at_end k
read (x ∷ xs) i b k = values_over (λ k'. read xs (i + 1) false k') i x b k
