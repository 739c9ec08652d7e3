use Rattle.std.proofs.Common.{length, sym, ◌∙◌}
use Rattle.images.proofs.match_terms.Growing.{not_empty}
use Rattle.step_reading.proofs.quick_steps.NodeForms.{no_conjunction}
use Rattle.step_reading.proofs.quick_steps.matches.+is_conjunction.Goals as goal

pub returns-in_default : goal.returns-in_default
returns-in_default t c = (
  λ y. absurd (cc),
  λ q. absurd (no_conjunction c.args.store.now c.node.result c.args.formulas.now c.in-Some.rest.now c.in-Some.first.now c.in-Some.ensures.cases.0 (not_empty (length c.in-Some.rest.now) c.is_empty.result c.is_empty.ensures c.if-is_empty.false) c.in_default.not-Join (sym c.node.ensures.tree ∙ q)),
)
