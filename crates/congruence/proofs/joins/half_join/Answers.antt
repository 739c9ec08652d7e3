use Rattle.std.proofs.Common.{ap, ◌∙◌}
use Rattle.std.proofs.lemmas.Result.{IfOk-weaker}
use Rattle.trees.specs.Node.{tree_at}
use Rattle.tasks.specs.Task.{neg}
use Rattle.evidence.specs.Laws.{Extends_trans, AddsTrees_extends}
use Rattle.evidence.proofs.Formulas.{none_formulas, two_formulas, formula_later}
use Rattle.congruence.proofs.Later.{tree_later, halves_later}
use Rattle.congruence.proofs.PlainScripts.{two_same, join_follows, join_lines_held}
use Rattle.congruence.proofs.joins.half_join.Goals as goal

pub derive-requires : goal.derive-requires
derive-requires c =
    let d = c.args.draft.now in
    let d1 = c.negation.new.draft in
    let n = c.in_ok-negated in
    let x = AddsTrees_extends d d1 n.ensures.grows in
    let r = c.requires in
    let f = c.args.first in
    let s = c.args.second in
    let e = c.deref.ensures.value ∙ c.in_ok-lines.ensures in
    let l = c.args.left in
    let g = c.args.right in
    let A = tree_at d.trees l.first in
    let B = tree_at d.trees g.first in
    let C = tree_at d.trees l.second in
    let E = tree_at d.trees g.second in
    record {
      front = none_formulas d1;
      tail = two_formulas d1 l.whole n.negated (formula_later d d1 x l.whole r.left.whole) n.ensures.formula;
      lines = join_lines_held d1 c.args.op f.there f.back s.there s.back c.deref.result.now e;
      follow = join_follows d1 A B C E f.there f.back s.there s.back (halves_later d d1 x A B f.there f.back r.first) (halves_later d d1 x C E s.there s.back r.second) d1.trees c.args.op (tree_at d1.trees l.whole) (tree_at d1.trees n.negated) c.deref.result.now e
          (tree_later d d1 x l.whole r.left.whole.held ∙ r.left.is) (n.ensures.tree ∙ ap neg r.right.is);
    }

pub returns : goal.returns
returns c =
    let d = c.args.draft.now in
    let d1 = c.negation.new.draft in
    let n = c.in_ok-negated in
    let x = AddsTrees_extends d d1 n.ensures.grows in
    record {
      refutes = IfOk-weaker c.derive.result _ _ (λ k h. two_same c.derive.new.draft k (tree_at d.trees c.args.left.whole) (neg (tree_at d.trees c.args.right.whole)) _ _ (tree_later d d1 x c.args.left.whole c.requires.left.whole.held) n.ensures.tree h) c.derive.ensures.refutes;
      grows = Extends_trans d d1 c.derive.new.draft x c.derive.ensures.grows;
    }
