use Rattle.std.proofs.Common.{◌+◌, Ok, map, string_bytes}
use Rattle.tasks.specs.trees.Node.{Grows}
use Rattle.tasks.specs.Meaning.{tasks_at}
use Rattle.stages.specs.evidence.Stages.{parts_at, PartsHeld}
use Rattle.statuses.specs.fault_order.Answers.{Answers}
use Rattle.program.specs.Order.{FirstFiles}
use Rattle.program.proofs.Files.{FirstClose}
use Rattle.program.proofs.refutations.read_files.Given as goal

abbrev pub invariant-loop-place : goal.invariant-loop-place
invariant-loop-place g l = record {
  answers : Answers (FirstFiles l.driver (tasks_at l.initial.store l.parts) (map string_bytes l.names) l.place) l.driver.next_file (λ _. l.place + l.driver.next_file) (g.L.Library.state l.initial.lib) (g.L.Library.state l.lib) (Ok (parts_at l.store l.handed.items));
  held : PartsHeld l.store l.handed.items;
  close : FirstClose (tasks_at l.initial.store l.parts) (parts_at l.store l.handed.items) l.place;
  grows : Grows l.initial.store l.store;
}
