use Rattle.std.proofs.Common.{◌<◌, length, arith}
use Rattle.tasks.specs.trees.Node.{tree_at}
use Rattle.step_writing.specs.tree_writing.Referring.{words_of}
use Rattle.step_writing.proofs.tree_writing.BranchesBack.{branches_start, branches_more, lines_there}
use Rattle.step_writing.proofs.tree_writing.branches.push_branches.Goals as goal

pub loop-pattern-init : goal.loop-pattern-init
loop-pattern-init c = record {
  held = c.requires.held;
  lines = c.requires.lines;
  pushed = branches_start c.args.x.now.store.now c.args.x.now.lines.now (tree_at c.args.x.now.store.now c.args.list) (words_of c.args.words.now.items);
}

pub loop-pattern-preserved : goal.loop-pattern-preserved
loop-pattern-preserved c =
    let s = c.args.x.now.store.now in
    let lines = c.args.x.now.lines.now in
    let i = c.loop-pattern.invariant in
    let b = c.in-Some in
    let rest = tree_at s c.loop-pattern.rest in
    let pattern = tree_at s b.pattern in
    let body = tree_at s b.body in
    let others = tree_at s b.others in
    let below : b.others.0 < c.loop-pattern.rest.0 = b.ensures.below.2 in
    let held : c.loop-pattern.rest.0 < length s = i.held in
    record {
      held = omega arith;
      lines = (lines_there s lines rest pattern body others b.ensures.branch i.lines).2;
      pushed = branches_more s lines (tree_at s c.args.list) rest pattern body others (words_of c.args.words.now.items) (words_of c.loop-pattern.words.items) (words_of c.push_numbers.new.words.items) c.line_number-first.result c.line_number-second.result
          (c.laws.ensures.sorted c.loop-pattern.rest i.held) b.ensures.branch c.line_number-first.ensures c.line_number-second.ensures c.in_ok-push_numbers.ensures i.pushed;
    }
