use Rattle.std.proofs.Common.{◌≡◌, length, refl, ap, arith}
use Rattle.step_writing.proofs.tree_writing.Whole.{writing_none}
use Rattle.step_writing.proofs.tree_writing.writer.write_marked.Goals as goal

pub loop-alloc-init : goal.loop-alloc-init
loop-alloc-init c =
    let none : length c.new-2.result.items ≡ 0 = ap length c.new-2.ensures.items in
    record {
      within = omega (arith, none);
      writing = writing_none c.args.x.now (record { text = c.new.result; numbers = c.new-2.result; types = 0; patterns = 0; expressions = 0 }) c.new.ensures.items c.new-2.ensures.items refl refl refl;
    }

pub loop-alloc-preserved : goal.loop-alloc-preserved
loop-alloc-preserved c =
    let done = c.if-not-branch.false in
    record {
      within = omega (arith, c.in_ok-write_next.ensures.longer done, c.loop-alloc-test.true, c.loop-alloc.w.numbers.ok.0);
      writing = c.in_ok-write_next.ensures.writing done;
    }
