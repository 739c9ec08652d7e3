-- Entries of a signature: type symbols, constructors with their projections, and tuples (Why3
-- manual, "logical declarations"; tuples).
use Rattle.std.specs.Prelude.{ℕ, suc, ◌==◌, ◌&&◌, cond, Bool, codes, List, [], ◌∷◌, ◌++◌, length, Option, Some, None}
use Rattle.std.specs.Fmt.{decimal}
use Rattle.std.specs.Str.{bytes_eq}
use Rattle.trees.specs.Tree.{Tree}
use Rattle.tasks.specs.declared.signature.SymbolKind.TheVariants.{Kind, Constructor, Projection}
use Rattle.tasks.specs.Task.{SymbolTree}
use Rattle.tasks.specs.Equations.{type_variables}
use Rattle.tasks.specs.Vocabulary.{is_constructor_kind}
use Rattle.tasks.specs.Valid.{own_type}

abbrev pub type_entry : List ℕ → List ℕ → ℕ → SymbolTree
type_entry theory name vars =
    record { theory = theory; name = name; kind = Kind; vars = vars; args = []; result = None }

-- the i-th projection of a constructor
abbrev pub projection_name : List ℕ → ℕ → List ℕ
projection_name constructor i = (constructor ++ codes "'") ++ decimal i

-- a projection to each of these fields, from the i-th on
abbrev pub projections : List ℕ → List ℕ → ℕ → Tree → ℕ → List Tree → List SymbolTree
projections theory constructor vars type i [] = []
projections theory constructor vars type i (f ∷ fs) =
    record {
      theory = theory;
      name = projection_name constructor i;
      kind = Projection;
      vars =
          vars;
      args = type ∷ [];
      result = Some f;
    }
    ∷ projections theory constructor vars type (suc i) fs

-- a constructor of a type, before its projections
abbrev pub constructor_entries : List ℕ → List ℕ → ℕ → Tree → List Tree → List SymbolTree
constructor_entries theory name vars type fields =
    record {
      theory = theory;
      name = name;
      kind = Constructor;
      vars = vars;
      args = fields;
      result =
          Some type;
    } ∷ projections theory name vars type 1 fields

-- ---- tuples
abbrev pub builtin : List ℕ
builtin = codes "BuiltIn"

abbrev pub is_tuple : ℕ → SymbolTree → Bool
is_tuple n e =
    is_constructor_kind e.kind && (bytes_eq e.theory builtin && (e.vars == n && length e.args == n))

-- the first constructor of tuples of a width, counted from k
abbrev pub tuple_from : ℕ → ℕ → List SymbolTree → Option ℕ
tuple_from n k [] = None
tuple_from n k (e ∷ es) = cond (is_tuple n e) (Some k) (tuple_from n (suc k) es)

abbrev pub tuple_in : List SymbolTree → ℕ → Option ℕ
tuple_in symbols n = tuple_from n 0 symbols

-- the type of the tuples of a width, of this number, with its constructor
abbrev pub tuple_entries : ℕ → ℕ → List SymbolTree
tuple_entries k n =
    type_entry builtin (codes "tuple" ++ decimal n) n
    ∷ constructor_entries builtin (codes "Tuple" ++ decimal n) n (own_type k n)
    (type_variables 0 n)

-- the entries of a width, where its constructor isn't there
abbrev pub wanting_tuple : List SymbolTree → ℕ → Option ℕ → List SymbolTree
wanting_tuple symbols n None = tuple_entries (length symbols) n
wanting_tuple symbols n (Some k) = []

-- the entries of those of some widths whose constructors aren't there
abbrev pub wanting_tuples : List SymbolTree → List ℕ → List SymbolTree
wanting_tuples symbols [] = []
wanting_tuples symbols (n ∷ ns) =
    let more = wanting_tuple symbols n (tuple_in symbols n) in
    more ++ wanting_tuples (symbols ++ more) ns
