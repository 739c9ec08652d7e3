-- Templates (Why3 manual, "Drivers"): 37 is `%`. After it stands `%`, which stands for itself, or a
-- digit from 1 to 9.
use Rattle.std.specs.Prelude.{ℕ, zero, suc, ◌≡◌, ◌-◌, Bool, true, false, ◌&&◌, nat_eq, nat_lt, nat_le, List, [], ◌∷◌, ◌++◌, count_by, Option, Some, None, if◌then◌else◌}
use Rattle.std.specs.Option.{option_map}
use Rattle.drivers.specs.declared.driver_items.kinds.Piece.{Piece}
use Rattle.drivers.specs.declared.driver_items.kinds.Piece.TheVariants.{Literal, Argument}

-- bytes as they are, if there are some
abbrev pub literal_pieces : List ℕ → List Piece
literal_pieces [] = []
literal_pieces (a ∷ bs) = Literal (a ∷ bs) ∷ []

-- The pieces of a string, after a literal that goes on; whether a `%` is before.
abbrev pub pieces_from : Bool → List ℕ → List ℕ → Option (List Piece)
pieces_from true before [] = None
pieces_from false before [] = Some (literal_pieces before)
pieces_from false before (a ∷ bs) =
    if nat_eq a 37 then pieces_from true before bs else pieces_from false (before ++ a ∷ []) bs
pieces_from true before (a ∷ bs) = if nat_eq a 37 then pieces_from false (before ++ 37 ∷ []) bs
    else (if nat_le 49 a && nat_le a 57 then option_map (λ ps. literal_pieces before ++ ps)
    (option_map (λ ps. Argument (a - 49) ∷ ps) (pieces_from false [] bs))
    else None)

abbrev pub is_argument : ℕ → Piece → Bool
is_argument number (Literal text) = false
is_argument number (Argument its) = nat_eq its number

-- how often a symbol with so many arguments wants one: once each
abbrev pub wanted : ℕ → ℕ → ℕ
wanted arity number = if nat_lt number arity then 1 else 0

abbrev pub as_wanted : List Piece → ℕ → ℕ → Bool
as_wanted pieces arity number = nat_eq (count_by (is_argument number) pieces) (wanted arity number)

-- each argument below a number is named as often as it is wanted
abbrev pub all_wanted : List Piece → ℕ → ℕ → Bool
all_wanted pieces arity zero = nat_le arity 9
all_wanted pieces arity (suc n) = all_wanted pieces arity n && as_wanted pieces arity n

-- each of nine arguments is, and no more are wanted
abbrev pub fits : List Piece → ℕ → Bool
fits pieces arity = all_wanted pieces arity 9

abbrev pub if_fits : ℕ → Option (List Piece) → Option (List Piece)
if_fits arity None = None
if_fits arity (Some pieces) = if fits pieces arity then Some pieces else None

-- the pieces of a template for a symbol with so many arguments
abbrev pub template_pieces : List ℕ → ℕ → Option (List Piece)
template_pieces template arity = if_fits arity (pieces_from false [] template)

-- pieces that were read, and those that are read after them
abbrev pub pieces_onto : List Piece → Option (List Piece) → Option (List Piece)
pieces_onto pieces = option_map (λ ps. pieces ++ ps)

-- what a byte does where no `%` is before it, whatever is after
abbrev pub GoesOnPlain : ℕ → List ℕ → List ℕ → Bool → Type 0
GoesOnPlain byte before after percent =
    (bs : List ℕ) → pieces_from false before (byte ∷ bs) ≡ pieces_from percent after bs

-- what a byte does after `%`, if it may be there
abbrev pub GoesOnEscaped : ℕ → List Piece → List ℕ → List Piece → List ℕ → Bool → Type 0
GoesOnEscaped byte old before new after true = (bs : List ℕ)
    → pieces_onto old (pieces_from true before (byte ∷ bs))
    ≡ pieces_onto new (pieces_from false after bs)
GoesOnEscaped byte old before new after false =
    (bs : List ℕ) → pieces_from true before (byte ∷ bs) ≡ None

-- what a byte does, wherever it is: whether a `%` is before the next byte, or none where the byte
-- may not be there
abbrev pub GoesOn : Bool → ℕ → List Piece → List ℕ → List Piece → List ℕ → Option Bool → Type 0
GoesOn percent byte old before new after (Some next) = (bs : List ℕ)
    → pieces_onto old (pieces_from percent before (byte ∷ bs))
    ≡ pieces_onto new (pieces_from next after bs)
GoesOn percent byte old before new after None =
    (bs : List ℕ) → pieces_from percent before (byte ∷ bs) ≡ None
