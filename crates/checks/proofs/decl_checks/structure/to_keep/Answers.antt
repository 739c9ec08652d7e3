use Rattle.std.proofs.Common.{◌≡◌, List, subst, sym, ap, ◌∙◌}
use Rattle.trees.specs.Node.{tree_at}
use Rattle.checks.specs.declared.decl_checks.standing.Standing.{Standing}
use Rattle.checks.specs.decl_checks.Structure.{UsesPassInside}
use Rattle.checks.specs.decl_checks.Kept.{lessers}
use Rattle.checks.proofs.decl_checks.Above.{uses_lessers}
use Rattle.checks.proofs.decl_checks.structure.to_keep.Goals as goal

pub returns-in_ok-lessers-in-Some : goal.returns-in_ok-lessers-in-Some
returns-in_ok-lessers-in-Some c = λ symbols chosen s k p.
    let low = c.in-Some.low.now in
    let known = c.args.known.now in
    let made : c.from_vec.result ≡ lessers low known = c.from_vec.ensures ∙ c.in_ok-lessers-in-Some.ensures ∙ ap (λ (l : List Standing). lessers l known) c.as_slice.ensures in
    subst (λ (l : List Standing). UsesPassInside symbols chosen l (tree_at s c.args.matched) (tree_at s c.args.e)) (sym made)
    (uses_lessers symbols chosen low known (tree_at s c.args.matched) (tree_at s c.args.e) (k c.args.e.0 c.args.matched.0 low (sym c.in-Some.ensures.value)) p)
