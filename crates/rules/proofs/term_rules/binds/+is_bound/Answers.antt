use Rattle.std.proofs.Common.{◌≡◌, ◌<◌, ◌≤◌, arith}
use Rattle.trees.specs.Tree.{pat_vars}
use Rattle.trees.specs.Node.{tree_at}
use Rattle.rules.specs.Meaning.{task_of}
use Rattle.rules.specs.term_rules.Asked.{list_at}
use Rattle.rules.proofs.term_rules.Bound.{in_alias, in_rest, in_first}
use Rattle.rules.proofs.term_rules.binds.+is_bound.Goals as goal

pub returns-else-back-eq0 : goal.returns-else-back-eq0
returns-else-back-eq0 t c =
    let s = c.args.x.now.store.now in
    let g = task_of c.args.x.now in
    let e = in_alias g (tree_at s c.args.pattern) (list_at g s c.args.list) (tree_at s c.in-PatAlias.inner) c.args.back c.in-PatAlias.ensures.tree (omega (arith, c.if-back-eq0.false)) c.requires.within in
    rw e c.is_bound.ensures

pub returns-then-back-count : goal.returns-then-back-count
returns-then-back-count t c =
    let s = c.args.x.now.store.now in
    let g = task_of c.args.x.now in
    let more = tree_at s c.in-Cell.more in
    let l : c.args.back < pat_vars more = omega (arith, c.pattern_variables-count.ensures, c.if-back-count.true) in
    let e = in_rest g (tree_at s c.args.pattern) (list_at g s c.args.list) (tree_at s c.in-Cell.first) more c.args.back c.in-Cell.ensures.tree l in
    rw (e, ← c.other_asked.ensures.trees) c.is_bound-then-back-count.ensures

pub returns-else-back-count : goal.returns-else-back-count
returns-else-back-count t c =
    let s = c.args.x.now.store.now in
    let g = task_of c.args.x.now in
    let more = tree_at s c.in-Cell.more in
    let n : c.pattern_variables-count.result ≡ pat_vars more = omega (arith, c.pattern_variables-count.ensures, c.if-back-count.false, c.requires.small) in
    let l : pat_vars more ≤ c.args.back = omega (arith, n, c.if-back-count.false) in
    let e = in_first g (tree_at s c.args.pattern) (list_at g s c.args.list) (tree_at s c.in-Cell.first) more c.args.back c.in-Cell.ensures.tree l c.requires.within in
    rw (e, ← c.first_asked-asked.ensures.tree, ← n) c.is_bound-else-back-count.ensures
