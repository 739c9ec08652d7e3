use Rattle.std.proofs.Common.{◌∙◌, [], ◌∷◌}
use Rattle.trees.specs.Node.{tree_at}
use Rattle.evidence.specs.Laws.{AddsTrees_extends, Extends_trans}
use Rattle.evidence.proofs.Rules.{refutes_later}
use Rattle.evidence.specs.declared.proof_scripts.line.Places.TheVariants as places
use Rattle.evidence.specs.declared.proof_scripts.line.Word.TheVariants as word
use Rattle.evidence.specs.declared.proof_scripts.line.Line.TheVariants as line
use Rattle.congruence.proofs.Later.{tree_later}
use Rattle.congruence.proofs.Scripts.{not_follows}
use Rattle.evidence.proofs.Formulas.{none_formulas, two_formulas, formula_later}
use Rattle.congruence.proofs.PlainScripts.{held_lines, two_same}
use Rattle.std.proofs.lemmas.Result.{IfOk-weaker}
use Rattle.congruence.proofs.joins.half_not.Goals as goal

pub derive-requires : goal.derive-requires
derive-requires c =
    let d = c.args.draft.now in
    let d1 = c.negation.new.draft in
    let m = c.in_ok-whole in
    let x = AddsTrees_extends d d1 m.ensures.grows in
    let r = c.requires in
    record {
      front = none_formulas d1;
      tail = two_formulas d1 c.args.no_a m.whole (formula_later d d1 x c.args.no_a r.no_a) m.ensures.formula;
      lines = held_lines d1 (line.Rule (word.NotNot 1) ∷ line.Kept c.args.back (places.Two 2 0) ∷ []) ((tt, tt), (tt, tt));
      follow = not_follows d1 (tree_at d1.trees c.args.no_a) (tree_at d1.trees m.whole) (tree_at d.trees c.args.no_b) (tree_at d.trees c.args.a) (tree_at d.trees c.args.b) c.args.back (tree_later d d1 x c.args.no_a r.no_a.held ∙ r.no_a_is) m.ensures.tree r.no_b_is (refutes_later d d1 x c.args.back _ r.back);
    }

pub returns : goal.returns
returns c =
    let d = c.args.draft.now in
    let d1 = c.negation.new.draft in
    let m = c.in_ok-whole in
    let x = AddsTrees_extends d d1 m.ensures.grows in
    record {
      refutes = IfOk-weaker c.derive.result _ _ (λ k h. two_same c.derive.new.draft k _ _ _ _ (tree_later d d1 x c.args.no_a c.requires.no_a.held) m.ensures.tree h) c.derive.ensures.refutes;
      grows = Extends_trans d d1 c.derive.new.draft x c.derive.ensures.grows;
    }
