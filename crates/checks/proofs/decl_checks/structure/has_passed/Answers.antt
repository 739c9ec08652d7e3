use Rattle.std.proofs.Common.{List, subst, sym}
use Rattle.trees.specs.Node.{tree_at}
use Rattle.checks.specs.declared.decl_checks.standing.Standing.{Standing}
use Rattle.checks.specs.decl_checks.Kept.{AreAtLeast}
use Rattle.checks.proofs.decl_checks.Above.{uses_above}
use Rattle.checks.proofs.decl_checks.structure.has_passed.Goals as goal

pub returns-in-Some : goal.returns-in-Some
returns-in-Some c = λ symbols chosen s k t.
    let low = c.in-Some.low.now in
    let above : AreAtLeast low c.args.known.now = subst (λ (l : List Standing). AreAtLeast l c.args.known.now) c.as_slice.ensures (c.is_above.ensures t) in
    uses_above symbols chosen low c.args.known.now (tree_at s c.args.matched) (tree_at s c.args.e) above (k c.args.e.0 c.args.matched.0 low (sym c.in-Some.ensures.value))
