-- Why a task can't be printed: its first fault, declaration by declaration, then the types of the
-- parameters, the locals, the goal.
use Rattle.std.specs.Prelude.{ℕ, ◌+◌, ◌&&◌, ◌==◌, Bool, true, false, not, if◌then◌else◌, List, [], ◌∷◌, ◌++◌, map, length, Option, Some, None}
use Rattle.trees.specs.Tree.{Tree, Leaf, One, Two, Three, Head, HLet, HIf, HCase, above_ty_vars}
use Rattle.drivers.specs.declared.driver_items.kinds.Syntax.{Syntax}
use Rattle.drivers.specs.driver_items.Syntaxes.{syntax_of}
use Rattle.drivers.specs.declared.driver_items.kinds.Syntax.TheVariants.{Smt, Tff}
use Rattle.drivers.specs.declared.driver_parts.driver.Driver.{Driver}
use Rattle.tasks.specs.Task.{TaskTree, DeclarationTree, BodyTree, MakesType, Makes, Defines, Induces, Constructs, Says}
use Rattle.name_tables.specs.Occurrences.{Occurrence, occurrences, in_type}
use Rattle.name_tables.specs.Tables.{is_interpreted, problem_things}
use Rattle.name_tables.specs.Seen.{has}
use Rattle.printed_problems.specs.declared.fault.PrintFault.{PrintFault}
use Rattle.printed_problems.specs.declared.fault.PrintFault.TheVariants.{Unprintable, Polymorphic, NoSyntax}
use Rattle.printed_problems.specs.Templates.{has_template}

abbrev pub is_smt : Syntax → Bool
is_smt Smt = true
is_smt Tff = false

-- SMT-LIB has every form of a term or formula but a match; TFF0 has no match, no `let` and no `if`
abbrev pub has_head : Syntax → Head → Bool
has_head p HCase = false
has_head p HLet = is_smt p
has_head p HIf = is_smt p
has_head p _ = true

-- whether a syntax has all forms of a term or formula
abbrev pub has_forms : Syntax → Tree → Bool
has_forms p (Leaf h) = has_head p h
has_forms p (One h a) = has_head p h && has_forms p a
has_forms p (Two h a b) = has_head p h && (has_forms p a && has_forms p b)
has_forms p (Three h a b c) = has_head p h && (has_forms p a && (has_forms p b && has_forms p c))

-- an interpreted symbol, which is printed by its template alone, without one
abbrev pub is_bare : Driver → TaskTree → Occurrence → Bool
is_bare d t o = is_interpreted t.ints o.symbol && not (has_template d o.symbol)

abbrev pub is_bare_in : Driver → TaskTree → List Occurrence → Occurrence → Bool
is_bare_in d t os o = is_bare d t o && has os o

-- the least place of one that passes a test, counted from a place on
abbrev pub place_where : (Occurrence → Bool) → ℕ → List Occurrence → Option ℕ
place_where test place [] = None
place_where test place (o ∷ os) = if test o then Some place else place_where test (place + 1) os

abbrev pub at_place : Option ℕ → Option PrintFault
at_place None = None
at_place (Some place) = Some (NoSyntax place)

-- where one of these is bare, by its place in the table; the least place counts
abbrev pub syntax_fault : Driver → TaskTree → List Occurrence → Option PrintFault
syntax_fault d t os = at_place (place_where (is_bare_in d t os) 0 (problem_things t))

-- of a formula that is the declaration of a number, or a local or the goal after all of them
abbrev pub formula_fault : Driver → TaskTree → ℕ → Tree → Option PrintFault
formula_fault d t n e =
    if not (has_forms (syntax_of d.printer) e) then Some (Unprintable n)
    else (if not (above_ty_vars e == 0) then Some (Polymorphic n) else syntax_fault d t
    (occurrences e))

-- what defines symbols or makes algebraic types has no text
abbrev pub printed_body_fault : Driver → TaskTree → ℕ → BodyTree → Option PrintFault
printed_body_fault d t n (MakesType k) = None
printed_body_fault d t n (Makes k) = None
printed_body_fault d t n (Defines ds) = Some (Unprintable n)
printed_body_fault d t n (Induces is) = Some (Unprintable n)
printed_body_fault d t n (Constructs ts) = Some (Unprintable n)
printed_body_fault d t n (Says e) = formula_fault d t n e

abbrev pub print_fault_or_else : Option PrintFault → Option PrintFault → Option PrintFault
print_fault_or_else None g = g
print_fault_or_else (Some f) g = Some f

abbrev pub first_print_fault : List (Option PrintFault) → Option PrintFault
first_print_fault [] = None
first_print_fault (f ∷ fs) = print_fault_or_else f (first_print_fault fs)

-- those of declarations, which are counted from a number on
abbrev pub declaration_faults : Driver → TaskTree → ℕ → List DeclarationTree
    → List (Option PrintFault)
declaration_faults d t n [] = []
declaration_faults d t n (x ∷ xs) =
    printed_body_fault d t n x.body ∷ declaration_faults d t (n + 1) xs

abbrev pub printed_type_fault : Driver → TaskTree → Tree → Option PrintFault
printed_type_fault d t type = syntax_fault d t (in_type type)

-- the first fault of a task
abbrev pub print_fault : Driver → TaskTree → Option PrintFault
print_fault d t =
    first_print_fault (declaration_faults d t 0 t.decls
    ++ (map (printed_type_fault d t) t.params
    ++ map (formula_fault d t (length t.decls)) (t.locals ++ t.goal ∷ [])))
