-- The texts of the parts of a goal, one after another, counted from 1.
use Rattle.std.specs.Prelude.{◌≡◌, ℕ, ◌+◌, List, [], ◌∷◌, ◌++◌, length}
use Rattle.tasks.specs.Task.{TaskTree}
use Rattle.drivers.specs.declared.driver_items.kinds.Printer.{Printer}
use Rattle.drivers.specs.declared.driver_items.kinds.Printer.TheVariants.{Smt, Tff}
use Rattle.drivers.specs.declared.driver_parts.driver.Driver.{Driver}
use Rattle.tasks.specs.declared.task.Task.{Task}
use Rattle.tasks.specs.Meaning.{task_at}
use Rattle.name_tables.specs.Tables.{problem_things}
use Rattle.name_tables.specs.Seen.{seen_occurrences}
use Rattle.printed_problems.specs.declared.printed.Problem.{Problem}
use Rattle.printed_problems.specs.declared.printed_terms.printer.TermPrinter.{TermPrinter}
use Rattle.printed_problems.specs.printed_terms.Meaning.{CanPrint}
use Rattle.printed_problems.specs.Problems.{problem_of}
use Rattle.printed_problems.specs.Made.{IsProblem}
use Rattle.part_texts.specs.smt_texts.Text.{smt_text}
use Rattle.part_texts.specs.tff_texts.Text.{tff_text}

abbrev pub text_by : Printer → Driver → ℕ → ℕ → TaskTree → List ℕ
text_by Smt d part parts t = smt_text d t (problem_of d t) part parts
text_by Tff d part parts t = tff_text d t (problem_of d t) part parts

-- the text of a part of so many, in the syntax of the driver's printer
abbrev pub part_text : Driver → ℕ → ℕ → TaskTree → List ℕ
part_text d part parts t = text_by d.printer d part parts t

abbrev pub texts_from : Driver → ℕ → ℕ → List TaskTree → List ℕ
texts_from d part parts [] = []
texts_from d part parts (t ∷ ts) = part_text d part parts t ++ texts_from d (part + 1) parts ts

abbrev pub part_texts : Driver → List TaskTree → List ℕ
part_texts d ts = texts_from d 1 (length ts) ts

-- a printer with what is in the table of a task's problem, and with the names of the problem
pub record PrintsTask (c : TermPrinter) (t : Task) (its : Problem) : Type 0 where
  pub can : CanPrint c
  pub things : seen_occurrences c.store.now c.things.now ≡ problem_things (task_at c.store.now t)
  pub names : c.names.now ≡ its.names
  pub problem : IsProblem c.store.now (problem_of c.driver.now (task_at c.store.now t)) its
