-- What the theories of a source tell the reader of a driver (Why3 manual, "Drivers").
use Rattle.std.specs.Prelude.{◌≡◌, ℕ, List, [], ◌∷◌, Option, Some, None, map, length, if◌then◌else◌, string_bytes}
use Rattle.std.specs.List.{flat_map}
use Rattle.std.specs.Str.{bytes_eq}
use Rattle.std.specs.Str.Lossy.{utf8_lossy}
use Rattle.tasks.specs.Task.{SymbolTree, DeclarationTree, BodyTree, Says}
use Rattle.tasks.specs.declared.declaration.Body.{Body}
use Rattle.tasks.specs.declared.declaration.Body.TheVariants.{Prop}
use Rattle.tasks.specs.declared.declaration.Decl.{Decl}
use Rattle.tasks.specs.declared.signature.SymbolInfo.{SymbolInfo}
use Rattle.tasks.specs.declared.signature.SymbolKind.{SymbolKind}
use Rattle.drivers.specs.driver_items.Symbols.{NamedTheories as NamedTheories, NamedTheory as NamedTheory}
use Rattle.theories.specs.theory_states.declared.goal_tasks.theories.Theory.{Theory}
use Rattle.theories.specs.theory_states.goal_tasks.Theories.{KnownTheoryTree, TheoriesTree}
use Rattle.theories.specs.theory_states.goal_tasks.Meaning.{placed}

-- the symbols that a driver may name, and the known theories, each with the names of its
-- propositions
pub record KnownByDriver : Type 0 where
  pub symbols : List SymbolTree
  pub theories : List (List ℕ × List (List ℕ))

-- Names are ASCII, so nothing is replaced in them.
abbrev pub said_name : List ℕ → BodyTree → List (List ℕ)
said_name name (Says a) = utf8_lossy name ∷ []
said_name name _ = []

-- the name of a proposition that the theory with this path itself declares
abbrev pub own_proposition_name : List ℕ → DeclarationTree → List (List ℕ)
own_proposition_name path d = if bytes_eq d.theory path then said_name d.name d.body else []

abbrev pub own_names : List ℕ → List DeclarationTree → List (List ℕ)
own_names path ds = flat_map (own_proposition_name path) ds

abbrev pub known_theory : KnownTheoryTree → List ℕ × List (List ℕ)
known_theory t = (utf8_lossy t.path, own_names t.path t.decls)

-- the theories of the source and those of the embedded library are known
abbrev pub known_of : TheoriesTree → KnownByDriver
known_of all = record { symbols = all.symbols; theories = map known_theory all.list }

abbrev pub named_bytes : NamedTheory → List ℕ × List (List ℕ)
named_bytes theory = (string_bytes theory.0, map string_bytes theory.1.items)

-- what a driver asks of an entry: its theory, its name and its kind, and how many type variables
-- and arguments it has
pub record AskedSymbol : Type 0 where
  pub theory : List ℕ
  pub name : List ℕ
  pub kind : SymbolKind
  pub vars : ℕ
  pub count : ℕ

abbrev pub asked_of : SymbolTree → AskedSymbol
asked_of e =
    record { theory = e.theory; name = e.name; kind = e.kind; vars = e.vars; count = length e.args }

abbrev pub asked_in : SymbolInfo → AskedSymbol
asked_in e =
    record { theory = e.theory; name = e.name; kind = e.kind; vars = e.vars; count = length e.args }

-- a signature and named theories tell a driver what is known
pub record IsKnownAs (known : KnownByDriver) (infos : List SymbolInfo)
    (named : NamedTheories) : Type 0 where
  pub symbols : map asked_in infos ≡ map asked_of known.symbols
  pub theories : map named_bytes named ≡ known.theories

-- ---- of declarations in code
abbrev pub said_names : List ℕ → Body → List (List ℕ)
said_names name (Prop a) = utf8_lossy name ∷ []
said_names name _ = []

abbrev pub own_in : List ℕ → Decl → List (List ℕ)
own_in path d = if bytes_eq d.theory path then said_names d.name d.body else []

abbrev pub own_names_at : List ℕ → Option Decl → List (List ℕ)
own_names_at path None = []
own_names_at path (Some d) = own_in path d

abbrev pub names_in : List ℕ → List Decl → List (List ℕ)
names_in path ds = flat_map (own_in path) ds

abbrev pub theory_in : List Decl → Theory → List ℕ × List (List ℕ)
theory_in ds t = (utf8_lossy t.path, names_in t.path (placed ds t.visible))
