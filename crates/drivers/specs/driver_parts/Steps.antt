-- What the items of a driver do to its parts, by kind (Why3 manual, "Drivers"), or what is wrong
-- with them.
use Rattle.std.specs.Prelude.{ℕ, Bool, List, Option, Some, None, Result, Ok, Err, if◌then◌else◌, ◌≡◌}
use Rattle.std.specs.Bool.{⊤}
use Rattle.tasks.specs.declared.signature.SymbolInfo.{SymbolInfo}
use Rattle.drivers.specs.declared.driver_items.kinds.Piece.{Piece}
use Rattle.drivers.specs.declared.driver_items.kinds.Printer.{Printer}
use Rattle.drivers.specs.declared.driver_items.kinds.Trans.{Trans}
use Rattle.drivers.specs.declared.driver_parts.fault.DriverFault.{DriverFault}
use Rattle.drivers.specs.declared.driver_parts.fault.DriverFault.TheVariants as f
use Rattle.drivers.specs.declared.driver_parts.parts.DriverParts.{DriverParts}
use Rattle.drivers.specs.declared.driver_items.symbols.Target.{Target}
use Rattle.drivers.specs.driver_parts.Items.{DriverItem, prelude, printer, transformation, block, end_of_block, template, removal, removal_of_all}
use Rattle.drivers.specs.driver_items.Names.{printer_of, trans_of}
use Rattle.drivers.specs.driver_parts.Parts.{with_template, with_stage, with_printer, with_removed, with_all_removed, with_prelude}
use Rattle.drivers.specs.driver_items.Symbols.{NamedTheories, is_known, target_of, has_proposition}
use Rattle.drivers.specs.driver_items.Templates.{template_pieces}

abbrev pub Read : Type 0
Read = Result DriverParts DriverFault

abbrev pub printer_read : ℕ → ℕ → DriverParts → Option Printer → Read
printer_read file byte parts (Some p) = Ok (with_printer parts p)
printer_read file byte parts None = Err (f.UnknownPrinter file byte)

abbrev pub staged : ℕ → ℕ → DriverParts → Option Trans → Read
staged file byte parts (Some t) = Ok (with_stage parts t)
staged file byte parts None = Err (f.UnknownTransformation file byte)

abbrev pub templated : ℕ → ℕ → DriverParts → Target → Option (List Piece) → Read
templated file byte parts target (Some pieces) = Ok (with_template parts target pieces)
templated file byte parts target None = Err (f.BadTemplate file byte)

-- the name (53) comes before the template (52)
abbrev pub targeted : ℕ → ℕ → ℕ → List ℕ → DriverParts → Option (Target × ℕ) → Read
targeted file name_byte byte text parts (Some t) =
    templated file byte parts t.0 (template_pieces text t.1)
targeted file name_byte byte text parts None = Err (f.UnknownSymbol file name_byte)

abbrev pub removed : ℕ → ℕ → DriverParts → List ℕ → List ℕ → Bool → Read
removed file byte parts path name known =
    if known then Ok (with_removed parts path name) else Err (f.UnknownSymbol file byte)

-- an item in the block of a known theory
abbrev pub block_step : List SymbolInfo → NamedTheories → ℕ → List ℕ → DriverItem
    → DriverParts → Read
block_step symbols theories file path (template kind name_byte name byte text) parts =
    targeted file name_byte byte text parts (target_of symbols path kind name)
block_step symbols theories file path (removal byte name) parts =
    removed file byte parts path name (has_proposition theories path name)
block_step symbols theories file path removal_of_all parts = Ok (with_all_removed parts path)
block_step symbols theories file path (prelude text) parts =
    Ok (with_prelude parts (Some path) text)
block_step symbols theories file path _ parts = Ok parts

-- The block of a theory that isn't known is passed over.
abbrev pub item_in_block : List SymbolInfo → NamedTheories → ℕ → Option (List ℕ) → DriverItem
    → DriverParts → Read
item_in_block symbols theories file None (prelude text) parts = Ok (with_prelude parts None text)
item_in_block symbols theories file None _ parts = Ok parts
item_in_block symbols theories file (Some path) item parts =
    if is_known theories path then block_step symbols theories file path item parts else Ok parts

-- an item, but for an import
abbrev pub item_step : List SymbolInfo → NamedTheories → ℕ → Option (List ℕ) → DriverItem
    → DriverParts → Read
item_step symbols theories file path (printer byte word) parts =
    printer_read file byte parts (printer_of word)
item_step symbols theories file path (transformation byte word) parts =
    staged file byte parts (trans_of word)
item_step symbols theories file path item parts =
    item_in_block symbols theories file path item parts

-- the block in which what comes after an item is
abbrev pub block_after : Option (List ℕ) → DriverItem → Option (List ℕ)
block_after path (block its) = Some its
block_after path end_of_block = None
block_after path _ = path

-- What a call answers, which changes a value, against what it should be; want of memory is free.
abbrev pub MeetsResult : {A X : Type 0} → Result X DriverFault → A → Result A DriverFault → Type 0
MeetsResult (Ok x) new read = read ≡ Ok new
MeetsResult (Err f.Memory) new read = ⊤
MeetsResult (Err e) new read = read ≡ Err e
