use Rattle.std.proofs.Common.{◌<◌, length, subst, sym, arith, refl}
use Rattle.tasks.specs.trees.Node.{tree_at}
use Rattle.step_writing.specs.tree_writing.Referring.{HasLine}
use Rattle.step_writing.proofs.tree_writing.Partly.{ReferSoFar, refer_more, refer_all, others_all}
use Rattle.step_writing.proofs.tree_writing.referring.list_numbers.Goals as goal

pub loop-first-preserved : goal.loop-first-preserved
loop-first-preserved c =
    let s = c.args.store.now in
    let lines = c.args.lines.now in
    let i = c.loop-first.invariant in
    let rest = tree_at s c.loop-first.rest in
    let first = tree_at s c.in-Some.first in
    let others = tree_at s c.in-Some.others in
    let below : c.in-Some.others.0 < c.loop-first.rest.0 = c.in-Some.ensures.below.1 in
    let held : c.loop-first.rest.0 < length s = i.held in
    record {
      held = omega arith;
      lines = others_all (HasLine s lines) rest first others c.in-Some.ensures.cell i.lines;
      refer = subst (ReferSoFar s lines (tree_at s c.args.list) others) (sym c.in_ok-push.ensures.items)
          (refer_more s lines (tree_at s c.args.list) rest first others c.loop-first.all.items c.line_number.result (c.laws.ensures.sorted c.loop-first.rest i.held) c.in-Some.ensures.cell c.line_number.ensures i.refer);
    }

pub returns : goal.returns
returns c sort h =
    let s = c.args.store.now in
    refer_all s c.args.lines.now (tree_at s c.args.list) (tree_at s c.loop-first.rest) c.loop-first.all.items (c.in_default.ensures.none refl) c.loop-first.invariant.refer sort h
