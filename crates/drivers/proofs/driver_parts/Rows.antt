-- Worked rows by computation: what items do to the parts of a driver, and what is wrong with them.
use Rattle.std.specs.Prelude.{◌≡◌, [], codes, None, Some, Ok, Err, refl}
use Rattle.drivers.specs.declared.driver_tokens.terminal.NameKind.TheVariants as n
use Rattle.drivers.specs.declared.driver_items.kinds.Printer.TheVariants as p
use Rattle.drivers.specs.declared.driver_parts.fault.DriverFault.TheVariants as f
use Rattle.drivers.specs.driver_parts.Items.{printer, transformation, template, removal, removal_of_all}
use Rattle.drivers.specs.driver_parts.Parts.{no_parts, with_printer, with_all_removed}
use Rattle.drivers.specs.driver_parts.Steps.{item_step}

-- `transformation "x"`
no_transformation : item_step [] [] 1 None (transformation 15 (codes "x")) no_parts ≡ Err (f.UnknownTransformation 1 15)
no_transformation = refl

-- `theory BuiltIn syntax type int "%1" end`
no_argument : item_step [] [] 1 (Some (codes "BuiltIn")) (template n.Type 27 (codes "int") 31 (codes "%1")) no_parts ≡ Err (f.BadTemplate 1 31)
no_argument = refl

-- `theory BuiltIn syntax type real "R" end`
no_real : item_step [] [] 1 (Some (codes "BuiltIn")) (template n.Type 27 (codes "real") 32 (codes "R")) no_parts ≡ Err (f.UnknownSymbol 1 27)
no_real = refl

-- `printer "smtv3"`
no_printer : item_step [] [] 1 None (printer 8 (codes "smtv3")) no_parts ≡ Err (f.UnknownPrinter 1 8)
no_printer = refl

-- the last printer counts
last_printer : item_step [] [] 1 None (printer 8 (codes "tptp-tff0")) (with_printer no_parts p.Smt) ≡ Ok (with_printer no_parts p.Tff)
last_printer = refl

-- the block of a theory that isn't known is passed over
unknown_theory : item_step [] [] 1 (Some (codes "U")) (removal 9 (codes "x")) no_parts ≡ Ok no_parts
unknown_theory = refl

built_in : item_step [] [] 1 (Some (codes "BuiltIn")) removal_of_all no_parts ≡ Ok (with_all_removed no_parts (codes "BuiltIn"))
built_in = refl
