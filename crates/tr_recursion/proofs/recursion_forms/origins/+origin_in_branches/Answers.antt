use Rattle.trees.specs.Node.{tree_at}
use Rattle.tr_recursion.proofs.recursion_forms.Sought.{here_in_branches, after_in_branches}
use Rattle.tr_recursion.proofs.recursion_forms.origins.+origin_in_branches.Goals as goal

pub returns-then-k-eq0 : goal.returns-then-k-eq0
returns-then-k-eq0 t c = λ symbols equation i bs w.
    let s = c.args.store.now in
    rw c.if-k-eq0.true (here_in_branches symbols (record { symbol = c.args.symbol; equation = equation }) i (tree_at s c.args.arms) (tree_at s c.in-Cell.field-0) (tree_at s c.in-Cell.rest) c.in-Cell.ensures.tree bs w)

pub returns-else-k-eq0 : goal.returns-else-k-eq0
returns-else-k-eq0 t c = λ symbols equation i bs w.
    let s = c.args.store.now in
    after_in_branches symbols (record { symbol = c.args.symbol; equation = equation }) i (tree_at s c.args.arms) (tree_at s c.in-Cell.field-0) (tree_at s c.in-Cell.rest) c.in-Cell.ensures.tree bs w c.args.k c.origin_in_branches.result c.if-k-eq0.false
    (λ cs x. c.origin_in_branches.ensures symbols equation i cs x)
