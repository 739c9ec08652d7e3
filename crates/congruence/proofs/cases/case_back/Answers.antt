use Rattle.std.proofs.Common.{[], ◌∷◌, ap, subst, ◌∙◌}
use Rattle.std.proofs.lemmas.Result.{IfOk-weaker}
use Rattle.trees.specs.Tree.{Tree}
use Rattle.trees.specs.Node.{tree_at}
use Rattle.tasks.specs.Task.{neg}
use Rattle.evidence.specs.Drafts.{Refutes}
use Rattle.evidence.specs.Laws.{Extends_trans, AddsTrees_extends}
use Rattle.evidence.proofs.Rules.{refutes_later}
use Rattle.evidence.proofs.Formulas.{none_formulas, formula_later}
use Rattle.trees.specs.declared.Op.TheVariants.{Iff}
use Rattle.evidence.specs.declared.proof_scripts.line.Places.TheVariants as places
use Rattle.evidence.specs.declared.proof_scripts.line.Word.TheVariants as word
use Rattle.evidence.specs.declared.proof_scripts.line.Line.TheVariants as line
use Rattle.congruence.proofs.Later.{tree_later}
use Rattle.congruence.proofs.CaseParts.{closed_formula, part_formula, iff_made}
use Rattle.congruence.proofs.Scripts.{claim_iff}
use Rattle.congruence.proofs.PlainScripts.{held_lines, three_formulas, three_same, case_back_follows}
use Rattle.congruence.proofs.cases.case_back.Goals as goal

pub derive-requires : goal.derive-requires
derive-requires c =
    let d = c.args.draft.now in
    let d1 = c.add.new.self in
    let d2 = c.negation.new.draft in
    let m = c.in_ok-claimed in
    let n = c.in_ok-negated in
    let x1 = AddsTrees_extends d d1 m.ensures.grows in
    let y = AddsTrees_extends d1 d2 n.ensures.grows in
    let x = Extends_trans d d1 d2 x1 y in
    let r = c.requires in
    let k = c.args.case in
    let p = r.case.pair in
    let H = tree_at d.trees k.hypothesis in
    let W = tree_at d.trees k.whole in
    let P = tree_at d.trees k.part in
    record {
      front = none_formulas d2;
      tail = three_formulas d2 k.hypothesis k.part n.negated (formula_later d d2 x k.hypothesis r.case.hypothesis) (formula_later d d2 x k.part (part_formula d k.whole k.part p r.formula)) n.ensures.formula;
      lines = held_lines d2 (line.Cut m.claimed ∷ line.Holding Iff 3 ∷ line.Rule (word.Clash 4 2) ∷ line.Rule (word.Clash 1 5) ∷ line.Kept k.value (places.Two 0 3) ∷ []) ((formula_later d1 d2 y m.claimed (iff_made d d1 x1 m.claimed k.whole k.part m.ensures.held m.ensures.tree (closed_formula d k.whole p.left r.formula) (part_formula d k.whole k.part p r.formula))), (tt, ((tt, tt), ((tt, tt), (tt, tt)))));
      follow = case_back_follows d2 H W P (tree_at d2.trees m.claimed) k.value (tree_later d1 d2 y m.claimed m.ensures.held ∙ m.ensures.tree) (subst (λ (z : Tree). Refutes d2 k.value (H ∷ neg z ∷ [])) (claim_iff W P r.formula) (refutes_later d d2 x k.value _ r.case.value))
          (tree_at d2.trees k.hypothesis) (tree_at d2.trees k.part) (tree_at d2.trees n.negated) (tree_later d d2 x k.hypothesis r.case.hypothesis.held) (tree_later d d2 x k.part p.right.held)
          (n.ensures.tree ∙ ap neg (tree_later d d1 x1 k.whole p.left.held));
    }

pub returns : goal.returns
returns c =
    let d = c.args.draft.now in
    let d1 = c.add.new.self in
    let d2 = c.negation.new.draft in
    let m = c.in_ok-claimed in
    let n = c.in_ok-negated in
    let x1 = AddsTrees_extends d d1 m.ensures.grows in
    let y = AddsTrees_extends d1 d2 n.ensures.grows in
    let x = Extends_trans d d1 d2 x1 y in
    let r = c.requires in
    let k = c.args.case in
    let p = r.case.pair in
    record {
      refutes = IfOk-weaker c.derive.result _ _ (λ i h. three_same c.derive.new.draft i (tree_at d.trees k.hypothesis) (tree_at d.trees k.part) (neg (tree_at d.trees k.whole)) _ _ _ (tree_later d d2 x k.hypothesis r.case.hypothesis.held) (tree_later d d2 x k.part p.right.held)
          (n.ensures.tree ∙ ap neg (tree_later d d1 x1 k.whole p.left.held)) h) c.derive.ensures.refutes;
      grows = Extends_trans d d2 c.derive.new.draft x c.derive.ensures.grows;
    }
