use Rattle.std.proofs.Common.{◌≡◌, None, List, subst}
use Rattle.std.specs.Prelude.{◌↔◌}
use Rattle.trees.specs.declared.TermId.{TermId}
use Rattle.tasks.specs.Meaning.{symbols_at, trees_at}
use Rattle.checks.specs.match_cover.Shapes.{AreExhaustive}
use Rattle.theories.proofs.side_conditions.Covered.{none_true, true_none}
use Rattle.theories.proofs.side_conditions.sides.is_covered.Goals as goal

pub returns : goal.returns
returns c =
    let s = c.args.store.now in
    let symbols = symbols_at s c.args.sig.now.symbols in
    let e = subst (λ (z : List TermId). (c.in_ok-escaping.escaping ≡ None) ↔ AreExhaustive symbols (trees_at s z)) c.as_slice.ensures c.in_ok-escaping.ensures.exhaustive in
    (λ t. e.0 (none_true c.is_none.result c.in_ok-escaping.escaping c.is_none.ensures t), λ x. true_none c.is_none.result c.in_ok-escaping.escaping c.is_none.ensures (e.1 x))
