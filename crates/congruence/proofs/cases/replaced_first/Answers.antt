use Rattle.std.proofs.Common.{[], ◌∷◌, refl, sym, ap, subst, ◌∙◌}
use Rattle.trees.specs.Tree.{Tree}
use Rattle.trees.specs.Sorts.{sort_of}
use Rattle.trees.specs.Node.{tree_at}
use Rattle.tasks.specs.Task.{neg}
use Rattle.rules.specs.Forms.{equal}
use Rattle.evidence.specs.Drafts.{Refutes}
use Rattle.evidence.specs.Laws.{Extends_trans, AddsTrees_extends}
use Rattle.evidence.proofs.Rules.{refutes_later}
use Rattle.evidence.specs.declared.proof_scripts.line.Places.TheVariants as places
use Rattle.evidence.specs.declared.proof_scripts.line.Word.TheVariants as word
use Rattle.evidence.specs.declared.proof_scripts.line.Line.TheVariants as line
use Rattle.congruence.proofs.Later.{tree_later, held_later, pair_later}
use Rattle.congruence.proofs.CaseParts.{case_later}
use Rattle.congruence.proofs.HoleTemplates.{apart_later}
use Rattle.congruence.proofs.Scripts.{claim_equal, link_later, equal_at, replaced_two}
use Rattle.evidence.proofs.Formulas.{none_formulas, formula_later}
use Rattle.congruence.proofs.PlainScripts.{held_lines, three_formulas, three_same}
use Rattle.std.proofs.lemmas.Result.{IfOk-weaker}
use Rattle.congruence.proofs.cases.replaced_first.Goals as goal

pub equation-requires : goal.equation-requires
equation-requires c = record { pair = c.requires.left.pair; term = c.requires.term }

pub open_hole-requires : goal.open_hole-requires
open_hole-requires c =
    let d = c.args.draft.now in
    let d1 = c.equation.new.draft in
    let x = AddsTrees_extends d d1 c.in_ok-link.ensures.grows in
    let k = c.args.left in
    let r = c.requires in
    record { pair = pair_later d d1 x k.whole k.part r.left.pair; term = ap sort_of (tree_later d d1 x k.whole r.sides.left.held) ∙ r.term }

pub template_left-requires : goal.template_left-requires
template_left-requires c =
    let d = c.args.draft.now in
    let d1 = c.equation.new.draft in
    let d2 = c.open_hole.new.draft in
    let x1 = AddsTrees_extends d d1 c.in_ok-link.ensures.grows in
    let y = AddsTrees_extends d1 d2 c.in_ok-hole.ensures.grows in
    let x = Extends_trans d d1 d2 x1 y in
    let k = c.args.left in
    let r = c.requires in
    let s = ap sort_of (tree_later d d2 x k.whole r.sides.left.held) ∙ r.term in
    record {
      pair = pair_later d d2 x k.whole k.part r.left.pair;
      term = s;
      hole = c.in_ok-hole.ensures.hole;
      sides = pair_later d d2 x k.whole c.args.right.whole r.sides;
      middle_held = held_later d d2 x k.part r.left.pair.right.held;
      left_term = s;
    }

pub derive-requires : goal.derive-requires
derive-requires c =
    let d = c.args.draft.now in
    let d1 = c.equation.new.draft in
    let d2 = c.open_hole.new.draft in
    let d3 = c.template_left.new.draft in
    let n = c.in_ok-link in
    let m = c.in_ok-template in
    let x1 = AddsTrees_extends d d1 n.ensures.grows in
    let y = Extends_trans d1 d2 d3 (AddsTrees_extends d1 d2 c.in_ok-hole.ensures.grows) (AddsTrees_extends d2 d3 m.ensures.grows) in
    let x = Extends_trans d d1 d3 x1 y in
    let r = c.requires in
    let k = c.args.left in
    let o = c.args.right in
    let a = k.whole in
    let b = k.part in
    let ha = r.left.pair.left.held in
    let hb = r.left.pair.right.held in
    let ho = r.right.pair.left.held in
    let w = case_later d d3 x k r.left in
    let sort = ap sort_of (tree_later d d3 x a ha) ∙ r.term in
    let h3 = tree_at d3.trees o.hypothesis in
    record {
      front = none_formulas d3;
      tail = three_formulas d3 c.args.goal k.hypothesis o.hypothesis (formula_later d d3 x c.args.goal r.goal) w.hypothesis (formula_later d d3 x o.hypothesis r.right.hypothesis);
      lines = held_lines d3 (line.Cut n.link ∷ line.Rule (word.Replace 3 0 m.template) ∷ line.Kept c.args.step (places.Two 4 2) ∷ line.Kept k.value (places.Two 1 3) ∷ []) ((formula_later d1 d3 y n.link n.ensures.formula), ((m.ensures.held, tt), (tt, (tt, tt))));
      follow = replaced_two d3 (tree_at d3.trees a) (tree_at d3.trees b) (tree_at d3.trees m.template) (tree_at d3.trees n.link) (tree_at d3.trees c.args.goal) (tree_at d3.trees k.hypothesis) k.value
          (tree_later d1 d3 y n.link n.ensures.formula.held ∙ n.ensures.tree ∙ link_later d d3 x a b _ ha hb refl) m.ensures.template
          (apart_later d d3 x c.args.goal a o.whole r.goal.held ha ho r.goal_is ∙ m.ensures.before) (subst (λ (z : Tree). Refutes d3 k.value (tree_at d3.trees k.hypothesis ∷ neg z ∷ [])) (claim_equal (tree_at d3.trees a) (tree_at d3.trees b) sort) w.value)
          h3 c.args.step
          (subst (λ (z : Tree). Refutes d3 c.args.step (z ∷ h3 ∷ [])) m.ensures.after (subst (λ (z : Tree). Refutes d3 c.args.step (neg (equal (tree_at d3.trees b) (tree_at d3.trees o.whole)) ∷ z ∷ [])) (sym (tree_later d d3 x o.hypothesis r.right.hypothesis.held))
          (subst (λ (z : Tree). Refutes d3 c.args.step (neg z ∷ tree_at d.trees o.hypothesis ∷ [])) (equal_at d d3 x b o.whole hb ho) (refutes_later d d3 x c.args.step _ r.step))));
    }

pub returns-in_err-hole-clause-grows : goal.returns-in_err-hole-clause-grows
returns-in_err-hole-clause-grows c = Extends_trans _ _ _ (AddsTrees_extends _ _ c.in_ok-link.ensures.grows) (AddsTrees_extends _ _ c.in_err-hole.ensures.grows)

pub returns-in_err-template-clause-grows : goal.returns-in_err-template-clause-grows
returns-in_err-template-clause-grows c = Extends_trans _ _ _ (Extends_trans _ _ _ (AddsTrees_extends _ _ c.in_ok-link.ensures.grows) (AddsTrees_extends _ _ c.in_ok-hole.ensures.grows)) (AddsTrees_extends _ _ c.in_err-template.ensures.grows)

pub returns : goal.returns
returns c =
    let d = c.args.draft.now in
    let d1 = c.equation.new.draft in
    let d2 = c.open_hole.new.draft in
    let d3 = c.template_left.new.draft in
    let x = Extends_trans d d2 d3 (Extends_trans d d1 d2 (AddsTrees_extends d d1 c.in_ok-link.ensures.grows) (AddsTrees_extends d1 d2 c.in_ok-hole.ensures.grows)) (AddsTrees_extends d2 d3 c.in_ok-template.ensures.grows) in
    let r = c.requires in
    record {
      refutes = IfOk-weaker c.derive.result _ _ (λ k h. three_same c.derive.new.draft k _ _ _ _ _ _ (tree_later d d3 x c.args.goal r.goal.held) (tree_later d d3 x c.args.left.hypothesis r.left.hypothesis.held) (tree_later d d3 x c.args.right.hypothesis r.right.hypothesis.held) h) c.derive.ensures.refutes;
      grows = Extends_trans d d3 c.derive.new.draft x c.derive.ensures.grows;
    }
