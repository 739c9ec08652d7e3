use Rattle.std.proofs.Common.{◌≡◌, ◌<◌, ◌≤◌, ◌-◌, [], ◌∷◌, sym, ap, ◌∙◌, arith}
use Rattle.trees.specs.Tree.{pat_vars}
use Rattle.trees.specs.Node.{tree_at}
use Rattle.trees.specs.Binding.{Bound}
use Rattle.rules.specs.Meaning.{task_of}
use Rattle.rules.proofs.term_rules.Bound.{put_bound, put_above}
use Rattle.rules.proofs.term_rules.binds.is_put_bound.Goals as goal

pub returns-then-back-count : goal.returns-then-back-count
returns-then-back-count c =
    let s = c.args.x.now.store.now in
    let p = tree_at s c.args.pattern in
    let a = tree_at s c.args.term in
    let ty = tree_at s c.args.ty in
    let i = c.args.index in
    let l : i - c.args.depth < pat_vars p = omega (arith, c.pattern_variables-count.ensures, c.if-back-count.true) in
    let e = put_bound (task_of c.args.x.now) p (a ∷ []) c.args.depth i ty (c.laws.ensures.sorted c.args.pattern c.requires.pattern_held) (c.requires.closed, tt) c.requires.above l in
    (λ r. c.is_bound.ensures.0 r ∙ sym e, λ m. c.is_bound.ensures.1 (m ∙ e))

pub returns-else-back-count : goal.returns-else-back-count
returns-else-back-count c =
    let s = c.args.x.now.store.now in
    let p = tree_at s c.args.pattern in
    let a = tree_at s c.args.term in
    let ty = tree_at s c.args.ty in
    let i = c.args.index in
    let n : c.pattern_variables-count.result ≡ pat_vars p = omega (arith, c.pattern_variables-count.ensures, c.if-back-count.false, c.requires.small) in
    let l : pat_vars p ≤ i - c.args.depth = omega (arith, n, c.if-back-count.false) in
    let e = put_above (task_of c.args.x.now) p (a ∷ []) c.args.depth i ty c.requires.above l in
    let same = ap (λ k. Bound (i - k) ty) n in
    (λ r. c.is_variable.ensures.0 r ∙ same ∙ sym e, λ m. c.is_variable.ensures.1 (m ∙ e ∙ sym same))
