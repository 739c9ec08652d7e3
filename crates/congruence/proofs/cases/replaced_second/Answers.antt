use Rattle.std.proofs.Common.{[], ◌∷◌, refl, ap, subst, ◌∙◌}
use Rattle.trees.specs.Tree.{Tree}
use Rattle.trees.specs.Sorts.{sort_of}
use Rattle.trees.specs.Node.{tree_at}
use Rattle.tasks.specs.Task.{neg}
use Rattle.evidence.specs.Drafts.{Refutes}
use Rattle.evidence.specs.Laws.{Extends_trans, AddsTrees_extends}
use Rattle.evidence.specs.declared.proof_scripts.line.Places.TheVariants as places
use Rattle.evidence.specs.declared.proof_scripts.line.Word.TheVariants as word
use Rattle.evidence.specs.declared.proof_scripts.line.Line.TheVariants as line
use Rattle.congruence.proofs.Later.{tree_later, pair_later}
use Rattle.congruence.proofs.CaseParts.{case_later}
use Rattle.congruence.proofs.HoleTemplates.{lemma_later, apart_later}
use Rattle.congruence.proofs.Scripts.{claim_equal, link_later, replaced_one}
use Rattle.evidence.proofs.Formulas.{none_formulas, two_formulas, formula_later}
use Rattle.congruence.proofs.PlainScripts.{held_lines, two_same}
use Rattle.std.proofs.lemmas.Result.{IfOk-weaker}
use Rattle.congruence.proofs.cases.replaced_second.Goals as goal

pub equation-requires : goal.equation-requires
equation-requires c = record { pair = c.requires.right.pair; term = c.requires.term }

pub template_beside-requires : goal.template_beside-requires
template_beside-requires c =
    let d = c.args.draft.now in
    let d1 = c.equation.new.draft in
    let x = AddsTrees_extends d d1 c.in_ok-link.ensures.grows in
    let k = c.args.right in
    let r = c.requires in
    record { pair = pair_later d d1 x k.whole k.part r.right.pair; beside = pair_later d d1 x k.whole c.args.other r.beside; term = ap sort_of (tree_later d d1 x k.whole r.beside.left.held) ∙ r.term }

pub derive-requires : goal.derive-requires
derive-requires c =
    let d = c.args.draft.now in
    let d1 = c.equation.new.draft in
    let d2 = c.template_beside.new.draft in
    let n = c.in_ok-link in
    let m = c.in_ok-template in
    let x1 = AddsTrees_extends d d1 n.ensures.grows in
    let y = AddsTrees_extends d1 d2 m.ensures.grows in
    let x = Extends_trans d d1 d2 x1 y in
    let r = c.requires in
    let k = c.args.right in
    let a = k.whole in
    let b = k.part in
    let ha = r.right.pair.left.held in
    let hb = r.right.pair.right.held in
    let ho = r.beside.right.held in
    let w = case_later d d2 x k r.right in
    let sort = ap sort_of (tree_later d d2 x a ha) ∙ r.term in
    record {
      front = none_formulas d2;
      tail = two_formulas d2 c.args.goal k.hypothesis (formula_later d d2 x c.args.goal r.goal) w.hypothesis;
      lines = held_lines d2 (line.Cut n.link ∷ line.Rule (word.Replace 2 0 m.template) ∷ line.Kept c.args.lemma (places.One 3) ∷ line.Kept k.value (places.Two 1 2) ∷ []) ((formula_later d1 d2 y n.link n.ensures.formula), ((m.ensures.held, tt), (tt, (tt, tt))));
      follow = replaced_one d2 (tree_at d2.trees a) (tree_at d2.trees b) (tree_at d2.trees m.template) (tree_at d2.trees n.link) (tree_at d2.trees c.args.goal) (tree_at d2.trees k.hypothesis) k.value
          (tree_later d1 d2 y n.link n.ensures.formula.held ∙ n.ensures.tree ∙ link_later d d2 x a b _ ha hb refl) m.ensures.template
          (apart_later d d2 x c.args.goal c.args.other a r.goal.held ho ha r.goal_is ∙ m.ensures.before) (subst (λ (z : Tree). Refutes d2 k.value (tree_at d2.trees k.hypothesis ∷ neg z ∷ [])) (claim_equal (tree_at d2.trees a) (tree_at d2.trees b) sort) w.value)
          c.args.lemma (subst (λ (z : Tree). Refutes d2 c.args.lemma (z ∷ [])) m.ensures.after (lemma_later d d2 x c.args.lemma c.args.other b ho hb r.lemma));
    }

pub returns-in_err-template-clause-grows : goal.returns-in_err-template-clause-grows
returns-in_err-template-clause-grows c = Extends_trans _ _ _ (AddsTrees_extends _ _ c.in_ok-link.ensures.grows) (AddsTrees_extends _ _ c.in_err-template.ensures.grows)

pub returns : goal.returns
returns c =
    let d = c.args.draft.now in
    let d1 = c.equation.new.draft in
    let d2 = c.template_beside.new.draft in
    let x = Extends_trans d d1 d2 (AddsTrees_extends d d1 c.in_ok-link.ensures.grows) (AddsTrees_extends d1 d2 c.in_ok-template.ensures.grows) in
    let r = c.requires in
    record {
      refutes = IfOk-weaker c.derive.result _ _ (λ k h. two_same c.derive.new.draft k _ _ _ _ (tree_later d d2 x c.args.goal r.goal.held) (tree_later d d2 x c.args.right.hypothesis r.right.hypothesis.held) h) c.derive.ensures.refutes;
      grows = Extends_trans d d2 c.derive.new.draft x c.derive.ensures.grows;
    }
