-- The declarations of tuples: an algebraic type `tupleN` with the constructor `TupleN` for each
-- width N (Why3 manual, "tuples").
use Rattle.std.specs.Prelude.{ℕ, ◌+◌, ◌-◌, ◌==◌, ◌||◌, Bool, cond, if◌then◌else◌, codes, List, [], ◌∷◌, ◌++◌, length, Option, Some, None}
use Rattle.std.specs.List.{flat_map, range_with_len}
use Rattle.std.specs.Fmt.{decimal}
use Rattle.tasks.specs.Task.{SymbolTree, ConstructorTree, AlgebraicTree, Constructs, DeclarationTree}
use Rattle.tasks.specs.Equations.{type_variables}
use Rattle.tasks.specs.Entries.{builtin, tuple_in}
use Rattle.theory_states.specs.goal_tasks.Named.{is_among}
use Rattle.theory_states.specs.declared.goal_tasks.tuples.TupleName.{TupleName}

-- the tuples of a width, whose type has this number; the constructor has the next one, and the
-- projections have those after it
abbrev pub tuple_constructor : ℕ → ℕ → ConstructorTree
tuple_constructor n k =
    record { symbol = k + 1; fields = type_variables 0 n; projections = range_with_len (k + 2) n }

abbrev pub tuple_algebraic : ℕ → ℕ → AlgebraicTree
tuple_algebraic n k = record { symbol = k; cons = tuple_constructor n k ∷ [] }

abbrev pub tuple_declaration : ℕ → ℕ → DeclarationTree
tuple_declaration n k = record {
  theory = builtin;
  name = codes "tuple" ++ decimal n;
  vars =
      n;
  body = Constructs (tuple_algebraic n k ∷ []);
}

-- whether a constructor of tuples is named, or its type
abbrev pub tuple_occurs : List ℕ → ℕ → Bool
tuple_occurs ks c = is_among ks c || is_among ks (c - 1)

-- the declaration of a width whose constructor is this one, if it occurs
abbrev pub tuples_of : List ℕ → ℕ → Option ℕ → List DeclarationTree
tuples_of ks n None = []
tuples_of ks n (Some c) = if tuple_occurs ks c then tuple_declaration n (c - 1) ∷ [] else []

-- those of the widths that occur, in ascending order; tuples have more entries than their width
abbrev pub tuples_in : List SymbolTree → List ℕ → List DeclarationTree
tuples_in symbols ks =
    flat_map (λ n. tuples_of ks n (tuple_in symbols n)) (range_with_len 0 (length symbols))

-- the constructor that is kept for a width
abbrev pub symbol_of_width : List TupleName → ℕ → Option ℕ
symbol_of_width [] n = None
symbol_of_width (t ∷ ts) n = cond (t.width == n) (Some t.symbol) (symbol_of_width ts n)
