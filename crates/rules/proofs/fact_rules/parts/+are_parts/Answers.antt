use Rattle.std.proofs.Common.{rules, ◌≡◌, ◌∙◌}
use Rattle.trees.specs.declared.Op.TheVariants.{Imp}
use Rattle.trees.specs.Node.{tree_at}
use Rattle.tasks.specs.Equations.{bound_variables}
use Rattle.tasks.specs.Meaning.{trees_at}
use Rattle.rules.proofs.Sequents.{so, not_so}
use Rattle.rules.proofs.fact_rules.Putting.{parts_at, both_parts}
use Rattle.rules.proofs.fact_rules.parts.+are_parts.Goals as goal
use Rattle.tasks.proofs.Declared.{no}

pub returns-else-not-is_put : goal.returns-else-not-is_put
returns-else-not-is_put t c =
    let s = c.args.store.now in
    let imp : c.in-Join.connective ≡ Imp = search rules in
    let whole = parts_at c.args.under (bound_variables (trees_at s c.args.args.now)) (trees_at s c.args.types.now) c.in-Join.connective (tree_at s c.args.clause) (tree_at s c.in-Join.a) (tree_at s c.in-Join.b) c.in-Join.ensures.tree imp
    (not_so c.no_parts.result c.no_parts.ensures c.if-no_parts.false) in
    both_parts _ _ _ _ _ _ c.are_parts.result c.in-Some.ensures.some whole (so c.is_put-in-Some.result c.is_put-in-Some.ensures c.if-not-is_put.false) c.are_parts.ensures

pub returns-in-None : goal.returns-in-None
returns-in-None t c =
    let s = c.args.store.now in
    let imp : c.in-Join.connective ≡ Imp = search rules in
    let whole = parts_at c.args.under (bound_variables (trees_at s c.args.args.now)) (trees_at s c.args.types.now) c.in-Join.connective (tree_at s c.args.clause) (tree_at s c.in-Join.a) (tree_at s c.in-Join.b) c.in-Join.ensures.tree imp
    (not_so c.no_parts.result c.no_parts.ensures c.if-no_parts.false) in
    no (λ h. c.in-None.ensures.none _ _ (h ∙ whole))
