-- What the texts of problems in both syntaxes have in common.
use Rattle.std.specs.Prelude.{ℕ, List, ◌++◌, codes}
use Rattle.tasks.specs.Task.{TaskTree}
use Rattle.drivers.specs.declared.driver_parts.driver.Driver.{Driver}
use Rattle.name_tables.specs.Tables.{problem_things}
use Rattle.printed_problems.specs.Problems.{ProblemTree}
use Rattle.printed_problems.specs.printed_terms.Texts.{Printing}

-- a problem of a task is printed under its driver and by its names
abbrev pub printing_of : Driver → TaskTree → ProblemTree → Printing
printing_of d t q = record { driver = d; things = problem_things t; names = q.names }

abbrev pub line : List ℕ → List ℕ
line bytes = bytes ++ codes "\n"
