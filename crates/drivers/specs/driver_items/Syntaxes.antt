-- The syntax in which each printer writes terms and formulas.
use Rattle.drivers.specs.declared.driver_items.kinds.Printer.{Printer}
use Rattle.drivers.specs.declared.driver_items.kinds.Printer.TheVariants as printers
use Rattle.drivers.specs.declared.driver_items.kinds.Syntax.{Syntax}
use Rattle.drivers.specs.declared.driver_items.kinds.Syntax.TheVariants.{Smt, Tff}

abbrev pub syntax_of : Printer → Syntax
syntax_of printers.Smt = Smt
syntax_of printers.Tff = Tff
