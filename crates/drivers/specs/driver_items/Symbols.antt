-- What a driver's name of a symbol stands for (Why3 manual, "Drivers").
use Rattle.std.specs.Prelude.{ℕ, ◌+◌, Bool, true, false, ◌&&◌, ◌||◌, not, List, [], ◌∷◌, length, codes, nat_eq, is_some, Option, Some, None, String, Vec, string_bytes, if◌then◌else◌}
use Rattle.std.specs.declared.alloc.Global.{Global}
use Rattle.std.specs.List.{list_any}
use Rattle.word_tables.specs.Words.{is_same_word}
use Rattle.tokens_why.specs.OwnNames.{is_lower_own}
use Rattle.drivers.specs.declared.driver_tokens.terminal.NameKind.{NameKind}
use Rattle.drivers.specs.declared.driver_tokens.terminal.NameKind.TheVariants as n
use Rattle.tasks.specs.declared.signature.SymbolInfo.{SymbolInfo}
use Rattle.tasks.specs.declared.signature.SymbolKind.{SymbolKind}
use Rattle.tasks.specs.declared.signature.SymbolKind.TheVariants as k
use Rattle.drivers.specs.declared.driver_items.symbols.Target.{Target}
use Rattle.drivers.specs.declared.driver_items.symbols.Target.TheVariants.{Int, Equality, Entry}

-- the known theories, each with its propositions
abbrev pub NamedTheories : Type 0
NamedTheories = List (String Global × Vec (String Global) Global)

abbrev pub is_builtin : List ℕ → Bool
is_builtin path = is_same_word path (codes "BuiltIn")

abbrev pub NamedTheory : Type 0
NamedTheory = String Global × Vec (String Global) Global

abbrev pub is_path : List ℕ → NamedTheory → Bool
is_path path theory = is_same_word (string_bytes theory.0) path

-- the theory with a path
abbrev pub theory_with_path : List ℕ → NamedTheories → Option NamedTheory
theory_with_path path [] = None
theory_with_path path (t ∷ ts) = if is_path path t then Some t else theory_with_path path ts

abbrev pub is_known : NamedTheories → List ℕ → Bool
is_known theories path = is_builtin path || is_some (theory_with_path path theories)

-- A constructor and a named field are functions here. A projection without a name of its own is
-- none, `C'1`, and neither is the constructor of a record, `mk_r` of a type `r`: no name of a
-- source stands for them.
abbrev pub is_named_kind : NameKind → SymbolKind → List ℕ → Bool
is_named_kind n.Type k.Kind name = true
is_named_kind n.Function k.Function name = true
is_named_kind n.Function k.Constructor name = not (is_lower_own name)
is_named_kind n.Function k.Projection name = is_lower_own name
is_named_kind n.Predicate k.Predicate name = true
is_named_kind _ _ name = false

abbrev pub is_symbol_named : List ℕ → NameKind → List ℕ → SymbolInfo → Bool
is_symbol_named path kind name s =
    is_named_kind kind s.kind s.name && is_same_word s.theory path && is_same_word s.name name

-- the number of arguments that a template names
abbrev pub by_kind : SymbolKind → SymbolInfo → ℕ
by_kind k.Kind s = s.vars
by_kind _ s = length s.args

abbrev pub target_or_later : Option (Target × ℕ) → Option (Target × ℕ) → Option (Target × ℕ)
target_or_later earlier (Some t) = Some t
target_or_later earlier None = earlier

-- the last entry of a theory with this kind and name, counted from a number on
abbrev pub entry_from : List ℕ → NameKind → List ℕ → ℕ → List SymbolInfo → Option (Target × ℕ)
entry_from path kind name number [] = None
entry_from path kind name number (s ∷ ss) =
    target_or_later (if is_symbol_named path kind name s then Some (Entry number, by_kind s.kind s)
    else None) (entry_from path kind name (number + 1) ss)

-- the type `int`, and equality
abbrev pub builtin_of : NameKind → List ℕ → Option (Target × ℕ)
builtin_of n.Type name = if is_same_word name (codes "int") then Some (Int, 0) else None
builtin_of n.Predicate name = if is_same_word name (codes "=") then Some (Equality, 2) else None
builtin_of n.Function name = None

-- what a name of a theory stands for, with its number of arguments
abbrev pub target_of : List SymbolInfo → List ℕ → NameKind → List ℕ → Option (Target × ℕ)
target_of symbols path kind name =
    if is_builtin path then builtin_of kind name else entry_from path kind name 0 symbols

-- whether a theory has a proposition of this name
abbrev pub among : List (String Global) → List ℕ → Bool
among names name = list_any (λ its. is_same_word (string_bytes its) name) names

abbrev pub among_those : Option NamedTheory → List ℕ → Bool
among_those (Some theory) name = among theory.1.items name
among_those None name = false

abbrev pub has_proposition : NamedTheories → List ℕ → List ℕ → Bool
has_proposition theories path name =
    if is_builtin path then false else among_those (theory_with_path path theories) name
