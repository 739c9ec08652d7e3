-- The words of driver files in ascending order, each with what it is (Why3 manual, "Drivers").
use Rattle.std.specs.Prelude.{ℕ, List, [], ◌∷◌, codes, map, Option, Some, None}
use Rattle.std.proofs.Common.{get_or}
use Rattle.word_tables.specs.Words.{place_in_words}
use Rattle.drivers.specs.declared.driver_tokens.terminal.DriverWord.{DriverWord}
use Rattle.drivers.specs.declared.driver_tokens.terminal.DriverWord.TheVariants as w
use Rattle.drivers.specs.declared.driver_tokens.terminal.Heading.TheVariants as h
use Rattle.drivers.specs.declared.driver_tokens.terminal.NameKind.TheVariants as k

abbrev pub known_words : List (List ℕ × DriverWord)
known_words = (codes "_", w.Line)
    ∷ (codes "allprops", w.Allprops)
    ∷ (codes "end", w.End)
    ∷ (codes "fail", w.Answer)
    ∷ (codes "filename", w.Heading h.Silent)
    ∷ (codes "function", w.Kind k.Function)
    ∷ (codes "import", w.Heading h.Import)
    ∷ (codes "invalid", w.Answer)
    ∷ (codes "meta", w.Meta)
    ∷ (codes "model_parser", w.Heading h.Silent)
    ∷ (codes "outofmemory", w.Answer)
    ∷ (codes "predicate", w.Kind k.Predicate)
    ∷ (codes "prelude", w.Prelude)
    ∷ (codes "printer", w.Heading h.Printer)
    ∷ (codes "prop", w.Prop)
    ∷ (codes "remove", w.Remove)
    ∷ (codes "steplimitexceeded", w.Answer)
    ∷ (codes "steps", w.Answer)
    ∷ (codes "syntax", w.Syntax)
    ∷ (codes "theory", w.Theory)
    ∷ (codes "time", w.Answer)
    ∷ (codes "timeout", w.Answer)
    ∷ (codes "transformation", w.Heading h.Transformation)
    ∷ (codes "type", w.Kind k.Type)
    ∷ (codes "unknown", w.Answer)
    ∷ (codes "valid", w.Answer) ∷ []

abbrev pub driver_words : List (List ℕ)
driver_words = map (λ (e : List ℕ × DriverWord). e.0) known_words

abbrev pub word_kinds : List DriverWord
word_kinds = map (λ (e : List ℕ × DriverWord). e.1) known_words

abbrev pub kind_if : Option ℕ → DriverWord
kind_if (Some place) = get_or word_kinds place w.Other
kind_if None = w.Other

-- what a word is
abbrev pub word_of : List ℕ → DriverWord
word_of word = kind_if (place_in_words word driver_words)
