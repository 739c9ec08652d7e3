-- The words of transformations and printers in ascending order (Why3 manual, "Drivers").
use Rattle.std.specs.Prelude.{ℕ, List, [], ◌∷◌, codes, map, Option, slice_get}
use Rattle.std.specs.Option.{option_and_then}
use Rattle.word_tables.specs.Words.{place_in_words}
use Rattle.drivers.specs.declared.driver_items.kinds.Printer.{Printer}
use Rattle.drivers.specs.declared.driver_items.kinds.Printer.TheVariants as printers
use Rattle.drivers.specs.declared.driver_items.kinds.Trans.{Trans}
use Rattle.drivers.specs.declared.driver_items.kinds.Trans.TheVariants as transes

abbrev pub named_transformations : List (List ℕ × Trans)
named_transformations = (codes "discriminate", transes.Discriminate)
    ∷ (codes "eliminate_algebraic", transes.EliminateAlgebraic)
    ∷ (codes "eliminate_definition", transes.EliminateDefinition)
    ∷ (codes "eliminate_if", transes.EliminateIf)
    ∷ (codes "eliminate_inductive", transes.EliminateInductive)
    ∷ (codes "eliminate_let", transes.EliminateLet)
    ∷ (codes "eliminate_match", transes.EliminateMatch)
    ∷ (codes "eliminate_recursion", transes.EliminateRecursion)
    ∷ (codes "inline_all", transes.InlineAll)
    ∷ (codes "inline_goal", transes.InlineGoal)
    ∷ (codes "inline_trivial", transes.InlineTrivial)
    ∷ (codes "introduce_premises", transes.IntroducePremises)
    ∷ (codes "simplify_formula", transes.SimplifyFormula)
    ∷ (codes "split_goal_right", transes.SplitGoalRight) ∷ []

abbrev pub named_printers : List (List ℕ × Printer)
named_printers = (codes "smtv2", printers.Smt) ∷ (codes "tptp-tff0", printers.Tff) ∷ []

abbrev pub words_of_entries : {A : Type 0} → List (List ℕ × A) → List (List ℕ)
words_of_entries {A} entries = map (λ (e : List ℕ × A). e.0) entries

abbrev pub things_of : {A : Type 0} → List (List ℕ × A) → List A
things_of {A} entries = map (λ (e : List ℕ × A). e.1) entries

abbrev pub value_named : {A : Type 0} → List (List ℕ × A) → List ℕ → Option A
value_named entries word =
    option_and_then (slice_get (things_of entries)) (place_in_words word (words_of_entries entries))

-- the transformation that a word names
abbrev pub trans_of : List ℕ → Option Trans
trans_of = value_named named_transformations

abbrev pub printer_of : List ℕ → Option Printer
printer_of = value_named named_printers
