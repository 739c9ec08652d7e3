-- The reader of drivers, as a part of a run.
use Rattle.std.proofs.Common.{◌≡◌, ℕ, List, Option, Some, None, Result, Ok, Err}
use Rattle.statuses.specs.outside.State.{Files, LibraryState}
use Rattle.tasks.specs.declared.signature.SymbolInfo.{SymbolInfo}
use Rattle.drivers.specs.driver_items.Symbols.{NamedTheories}
use Rattle.drivers.specs.declared.driver_parts.driver.Driver.{Driver}
use Rattle.drivers.specs.declared.driver_parts.fault.DriverFault.{DriverFault}
use Rattle.drivers.specs.declared.driver_parts.fault.DriverFault.TheVariants as f
use Rattle.drivers.specs.driver_files.Reading.{ReadsAs, driver_named, ReachesReading as DriverReaches}
use Rattle.statuses.specs.fault_order.Answers.{Answers, Reaches}
use Rattle.statuses.specs.declared.fault_order.faults.RunFault.{RunFault}
use Rattle.program.specs.source_goals.Known.{KnownByDriver, IsKnownAs}
use Rattle.program.specs.source_goals.Order.{DriverOf}
use Rattle.program.specs.source_goals.Values.{driver_fault, next_after_driver}
use Rattle.tasks.proofs.plain_laws.Options.{if_some as told}

abbrev pub driver_in : Result Driver DriverFault → Result Driver RunFault
driver_in (Ok d) = Ok d
driver_in (Err e) = Err (driver_fault e)

reached : (limit : Option ℕ) (n : ℕ) → Reaches limit n → DriverReaches limit n
reached None n h = tt
reached (Some k) n h = h

module _ (known : KnownByDriver) (ss : List SymbolInfo) (ts : NamedTheories) (name : List ℕ) (k : IsKnownAs known ss ts) where
  pub driver_answers : (s0 s1 : LibraryState) (r : Result Driver DriverFault) → ReadsAs (driver_named ss ts name) 1 (λ d. d.next_file) s0 s1 r → Answers (DriverOf known name) 1 next_after_driver s0 s1 (driver_in r)
  driver_answers s0 s1 (Ok d) a = record {
    files = a.files;
    meets = (
      record { faults = a.meets.0.faults; absents = a.meets.0.absents },
      a.meets.1,
      told s0.files _ _ (λ files h limit reach. (ss, ts, k, h limit (reached limit d.next_file reach))) a.meets.2,
    );
  }
  driver_answers s0 s1 (Err f.Memory) a = record { files = a.files; meets = record { faults = a.meets.faults; absents = a.meets.absents } }
  driver_answers s0 s1 (Err (f.Absent file)) a = record {
    files = a.files;
    meets = (record { faults = a.meets.0.faults; later = a.meets.0.later; rose = a.meets.0.rose }, told s0.files _ _ (λ files h. (ss, ts, k, h)) a.meets.1);
  }
  driver_answers s0 s1 (Err (f.ReadFault file)) a = record {
    files = a.files;
    meets = (
      record { absents = a.meets.0.absents; later = a.meets.0.later; rose = a.meets.0.rose },
      a.meets.1,
      told s0.files _ _ (λ files h. (h.0, (ss, ts, k, h.1), h.2)) a.meets.2,
    );
  }
  driver_answers s0 s1 (Err (f.TooLong file)) a = record { files = a.files; meets = (record { faults = a.meets.0.faults; absents = a.meets.0.absents }, told s0.files _ _ (λ files h. (ss, ts, k, h)) a.meets.1) }
  driver_answers s0 s1 (Err (f.DriverSyntax file byte)) a = record { files = a.files; meets = (record { faults = a.meets.0.faults; absents = a.meets.0.absents }, told s0.files _ _ (λ files h. (ss, ts, k, h)) a.meets.1) }
  driver_answers s0 s1 (Err (f.UnknownTransformation file byte)) a = record { files = a.files; meets = (record { faults = a.meets.0.faults; absents = a.meets.0.absents }, told s0.files _ _ (λ files h. (ss, ts, k, h)) a.meets.1) }
  driver_answers s0 s1 (Err (f.BadTemplate file byte)) a = record { files = a.files; meets = (record { faults = a.meets.0.faults; absents = a.meets.0.absents }, told s0.files _ _ (λ files h. (ss, ts, k, h)) a.meets.1) }
  driver_answers s0 s1 (Err (f.UnknownSymbol file byte)) a = record { files = a.files; meets = (record { faults = a.meets.0.faults; absents = a.meets.0.absents }, told s0.files _ _ (λ files h. (ss, ts, k, h)) a.meets.1) }
  driver_answers s0 s1 (Err (f.ImportCycle file byte)) a = record { files = a.files; meets = (record { faults = a.meets.0.faults; absents = a.meets.0.absents }, told s0.files _ _ (λ files h. (ss, ts, k, h)) a.meets.1) }
  driver_answers s0 s1 (Err (f.UnknownPrinter file byte)) a = record { files = a.files; meets = (record { faults = a.meets.0.faults; absents = a.meets.0.absents }, told s0.files _ _ (λ files h. (ss, ts, k, h)) a.meets.1) }
