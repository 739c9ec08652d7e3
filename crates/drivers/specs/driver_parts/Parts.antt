-- What has been read of a driver so far. The last printer counts, and the last template of a
-- symbol.
use Rattle.std.specs.Prelude.{ℕ, ◌≡◌, nat_eq, nat_lt, List, [], ◌∷◌, ◌++◌, length, slice_set, Option, Some, None, if◌then◌else◌}
use Rattle.drivers.specs.declared.driver_parts.driver.Driver.{Driver}
use Rattle.drivers.specs.declared.driver_items.kinds.Piece.{Piece}
use Rattle.drivers.specs.declared.driver_items.kinds.Piece.TheVariants.{Literal, Argument}
use Rattle.drivers.specs.declared.driver_items.kinds.Printer.{Printer}
use Rattle.drivers.specs.declared.driver_items.kinds.Trans.{Trans}
use Rattle.drivers.specs.declared.driver_parts.parts.DriverParts.{DriverParts}
use Rattle.drivers.specs.declared.driver_items.symbols.Target.{Target}
use Rattle.drivers.specs.declared.driver_items.symbols.Target.TheVariants.{Int, Equality, Entry}

-- nothing
abbrev pub no_parts : DriverParts
no_parts = record {
  printer = None;
  stages = [];
  removed = [];
  all_removed = [];
  templates =
      [];
  int_template = None;
  eq_template = None;
  preludes = [];
}

-- the bytes of a template without arguments
abbrev pub literal_of : List Piece → List ℕ
literal_of [] = []
literal_of (Literal text ∷ pieces) = text
literal_of (Argument number ∷ pieces) = []

-- the template of an entry in the place of its earlier one, or at the end
abbrev pub with_template_at : List (ℕ × List Piece) → ℕ → List Piece → List (ℕ × List Piece)
with_template_at [] entry pieces = (entry, pieces) ∷ []
with_template_at (t ∷ ts) entry pieces =
    if nat_eq t.0 entry then (entry, pieces) ∷ ts else t ∷ with_template_at ts entry pieces

abbrev pub with_template : DriverParts → Target → List Piece → DriverParts
with_template parts Int pieces = record parts { int_template = Some (literal_of pieces) }
with_template parts Equality pieces = record parts { eq_template = Some pieces }
with_template parts (Entry entry) pieces =
    record parts { templates = with_template_at parts.templates entry pieces }

abbrev pub with_stage : DriverParts → Trans → DriverParts
with_stage parts stage = record parts { stages = parts.stages ++ stage ∷ [] }

abbrev pub with_printer : DriverParts → Printer → DriverParts
with_printer parts printer = record parts { printer = Some printer }

abbrev pub with_removed : DriverParts → List ℕ → List ℕ → DriverParts
with_removed parts path name = record parts { removed = parts.removed ++ (path, name) ∷ [] }

abbrev pub with_all_removed : DriverParts → List ℕ → DriverParts
with_all_removed parts path = record parts { all_removed = parts.all_removed ++ path ∷ [] }

abbrev pub with_prelude : DriverParts → Option (List ℕ) → List ℕ → DriverParts
with_prelude parts path text = record parts { preludes = parts.preludes ++ (path, text) ∷ [] }

-- the driver of parts, with a printer and the number of the next file
abbrev pub driver_of : DriverParts → Printer → ℕ → Driver
driver_of parts printer next_file = record {
  printer = printer;
  stages = parts.stages;
  removed = parts.removed;
  all_removed = parts.all_removed;
  templates = parts.templates;
  int_template = parts.int_template;
  eq_template = parts.eq_template;
  preludes = parts.preludes;
  next_file = next_file;
}

-- where the template of an entry goes
abbrev pub template_placed : List (ℕ × List Piece) → ℕ → ℕ × List Piece → List (ℕ × List Piece)
template_placed ts place t = if nat_lt place (length ts) then slice_set ts place t else ts ++ t ∷ []

abbrev pub IsPlaceOf : List (ℕ × List Piece) → ℕ → ℕ → Type 0
IsPlaceOf ts entry place = (pieces : List Piece)
    → with_template_at ts entry pieces ≡ template_placed ts place (entry, pieces)
