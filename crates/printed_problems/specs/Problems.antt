-- What is printed of a task under a driver.
use Rattle.std.specs.Prelude.{ℕ, ◌+◌, ◌&&◌, ◌||◌, ◌==◌, not, Bool, true, false, if◌then◌else◌, List, [], ◌∷◌, ◌++◌, map, Option, Some, None}
use Rattle.std.specs.List.{list_any}
use Rattle.std.specs.Str.{bytes_eq}
use Rattle.trees.specs.Tree.{Tree}
use Rattle.tasks.specs.declared.signature.SymbolKind.{SymbolKind}
use Rattle.tasks.specs.declared.signature.SymbolKind.TheVariants.{Kind}
use Rattle.tasks.specs.Task.{TaskTree, PropositionTree, DeclarationTree, symbol_or, props}
use Rattle.drivers.specs.declared.driver_parts.driver.Driver.{Driver}
use Rattle.name_tables.specs.declared.name_entries.names.NameEntry.{NameEntry}
use Rattle.name_tables.specs.Occurrences.{Occurrence}
use Rattle.name_tables.specs.Tables.{is_interpreted, problem_things, problem_names}
use Rattle.printed_problems.specs.Templates.{has_template}

abbrev pub is_kind : SymbolKind → Bool
is_kind Kind = true
is_kind _ = false

-- a type that is declared: one without a template, other than `int`
abbrev pub is_sort : Driver → TaskTree → Occurrence → Bool
is_sort d t o =
    is_kind (symbol_or t.symbols o.symbol).kind && not ((o.symbol == 0) || has_template d o.symbol)

-- a function or predicate that is declared: one without a template that is used, and so no symbol
-- of int.Int
abbrev pub is_declared_symbol : Driver → TaskTree → Occurrence → Bool
is_declared_symbol d t o = not
    (is_kind (symbol_or t.symbols o.symbol).kind
    || (is_interpreted t.ints o.symbol || has_template d o.symbol))

-- the places of those that pass a test, counted from a place on
abbrev pub places_from : (Occurrence → Bool) → ℕ → List Occurrence → List ℕ
places_from test place [] = []
places_from test place (o ∷ os) =
    if test o then place ∷ places_from test (place + 1) os else places_from test (place + 1) os

abbrev pub is_of_theory : List ℕ → DeclarationTree → Bool
is_of_theory path d = bytes_eq d.theory path

-- a prelude without a theory, and one whose theory has a declaration in the task
abbrev pub general : Option (List ℕ) → Bool
general None = true
general (Some path) = false

abbrev pub of_theories : List DeclarationTree → Option (List ℕ) → Bool
of_theories ds None = false
of_theories ds (Some path) = list_any (is_of_theory path) ds

abbrev pub texts_where : (Option (List ℕ) → Bool) → List (Option (List ℕ) × List ℕ) → List (List ℕ)
texts_where test [] = []
texts_where test (p ∷ ps) = if test p.0 then p.1 ∷ texts_where test ps else texts_where test ps

-- those without a theory come first, each kind in the driver's order
abbrev pub preludes : Driver → TaskTree → List (List ℕ)
preludes d t = texts_where general d.preludes ++ texts_where (of_theories t.decls) d.preludes

abbrev pub formula_of : PropositionTree → Tree
formula_of p = p.formula

-- a problem: its name table, the places of the types and of the symbols that are declared, and its
-- formulas
pub record ProblemTree : Type 0 where
  pub names : List NameEntry
  pub preludes : List (List ℕ)
  pub sorts : List ℕ
  pub symbols : List ℕ
  pub facts : List Tree
  pub locals : List Tree
  pub goal : Tree

abbrev pub problem_of : Driver → TaskTree → ProblemTree
problem_of d t = record {
  names = problem_names t;
  preludes = preludes d t;
  sorts = places_from (is_sort d t) 0 (problem_things t);
  symbols = places_from (is_declared_symbol d t) 0 (problem_things t);
  facts = map formula_of (props t);
  locals = t.locals;
  goal = t.goal;
}
