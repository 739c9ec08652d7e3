-- Templates of a driver (Why3 manual, "Drivers"): how a symbol is printed where it isn't by its
-- name.
use Rattle.std.specs.Prelude.{ℕ, ◌==◌, Bool, if◌then◌else◌, List, [], ◌∷◌, ◌++◌, get_or, Option, Some, None}
use Rattle.std.specs.Option.{is_some}
use Rattle.drivers.specs.declared.driver_items.kinds.Piece.{Piece}
use Rattle.drivers.specs.declared.driver_items.kinds.Piece.TheVariants.{Literal, Argument}
use Rattle.drivers.specs.declared.driver_parts.driver.Driver.{Driver}

-- a template without arguments
abbrev pub bytes_alone : Option (List ℕ) → Option (List Piece)
bytes_alone None = None
bytes_alone (Some bytes) = Some (Literal bytes ∷ [])

abbrev pub template_in : List (ℕ × List Piece) → ℕ → Option (List Piece)
template_in [] k = None
template_in (t ∷ ts) k = if t.0 == k then Some t.1 else template_in ts k

-- the template of a symbol, by its entry; `int` is entry 0
abbrev pub template_of : Driver → ℕ → Option (List Piece)
template_of d k = if k == 0 then bytes_alone d.int_template else template_in d.templates k

abbrev pub has_template : Driver → ℕ → Bool
has_template d k = is_some (template_of d k)

abbrev pub piece_text : List (List ℕ) → Piece → List ℕ
piece_text args (Literal bytes) = bytes
piece_text args (Argument n) = get_or args n []

-- the text of a template, where its arguments have these texts
abbrev pub by_pieces : List Piece → List (List ℕ) → List ℕ
by_pieces [] args = []
by_pieces (p ∷ ps) args = piece_text args p ++ by_pieces ps args
