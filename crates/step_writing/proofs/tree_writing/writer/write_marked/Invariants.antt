use Rattle.std.proofs.Common.{◌-◌, ◌≤◌, length}
use Rattle.step_writing.specs.tree_writing.Whole.{IsWritingOf}
use Rattle.step_writing.proofs.tree_writing.writer.write_marked.Given as goal

abbrev pub invariant-loop-alloc : goal.invariant-loop-alloc
invariant-loop-alloc l = record {
  within : length l.w.numbers.items ≤ length l.x.marks.now;
  writing : IsWritingOf l.x l.w;
}

abbrev pub decreases-loop-alloc : goal.decreases-loop-alloc
decreases-loop-alloc l = length l.x.marks.now - length l.w.numbers.items
