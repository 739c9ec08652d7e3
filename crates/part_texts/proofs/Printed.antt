-- What a printer with the names of a task's problem appends is the text of the part.
use Rattle.std.proofs.Common.{◌≡◌, ◌∙◌, ℕ, sym, ap}
use Rattle.tasks.specs.declared.task.Task.{Task}
use Rattle.tasks.specs.Meaning.{task_at}
use Rattle.drivers.specs.declared.driver_items.kinds.Printer.{Printer}
use Rattle.drivers.specs.declared.driver_items.kinds.Printer.TheVariants.{Smt, Tff}
use Rattle.printed_problems.specs.declared.printed.Problem.{Problem}
use Rattle.printed_problems.specs.declared.printed_terms.printer.TermPrinter.{TermPrinter}
use Rattle.printed_problems.specs.printed_terms.Meaning.{printing}
use Rattle.printed_problems.specs.printed_terms.Problems.{printing_of}
use Rattle.printed_problems.specs.Problems.{ProblemTree, problem_of}
use Rattle.printed_problems.specs.Made.{problem_at}
use Rattle.part_texts.specs.smt_texts.Text.{smt_text_by}
use Rattle.part_texts.specs.tff_texts.Text.{tff_text_by}
use Rattle.part_texts.specs.Texts.{part_text, text_by, PrintsTask}

module _ (c : TermPrinter) (t : Task) (problem : Problem) (part parts : ℕ) (h : PrintsTask c t problem) where
  same_printing : printing c ≡ printing_of c.driver.now (task_at c.store.now t) (problem_of c.driver.now (task_at c.store.now t))
  same_printing = (λ i. record { driver = c.driver.now; things = h.things i; names = (h.names ∙ ap (λ (q : ProblemTree). q.names) h.problem.is) i })

  pub smt_part : c.driver.now.printer ≡ Smt → smt_text_by (printing c) (task_at c.store.now t) (problem_at c.store.now problem) part parts ≡ part_text c.driver.now part parts (task_at c.store.now t)
  smt_part e = (λ i. smt_text_by (same_printing i) (task_at c.store.now t) (h.problem.is i) part parts) ∙ ap (λ (p : Printer). text_by p c.driver.now part parts (task_at c.store.now t)) (sym e)

  pub tff_part : c.driver.now.printer ≡ Tff → tff_text_by (printing c) (task_at c.store.now t) (problem_at c.store.now problem) part parts ≡ part_text c.driver.now part parts (task_at c.store.now t)
  tff_part e = (λ i. tff_text_by (same_printing i) (task_at c.store.now t) (h.problem.is i) part parts) ∙ ap (λ (p : Printer). text_by p c.driver.now part parts (task_at c.store.now t)) (sym e)
