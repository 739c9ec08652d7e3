use Rattle.std.proofs.Common.{[], ◌∷◌, subst, ◌∙◌}
use Rattle.trees.specs.Tree.{Tree}
use Rattle.trees.specs.Node.{tree_at}
use Rattle.evidence.specs.Drafts.{Refutes}
use Rattle.evidence.specs.Laws.{AddsTrees_extends, Extends_trans}
use Rattle.evidence.proofs.Rules.{refutes_later}
use Rattle.evidence.specs.declared.proof_scripts.line.Places.TheVariants as places
use Rattle.evidence.specs.declared.proof_scripts.line.Word.TheVariants as word
use Rattle.evidence.specs.declared.proof_scripts.line.Line.TheVariants as line
use Rattle.congruence.proofs.Later.{tree_later, held_later}
use Rattle.congruence.proofs.Scripts.{link_later, inst_later, replaced_goal}
use Rattle.congruence.proofs.HoleTemplates.{template_later, lemma_later}
use Rattle.evidence.proofs.Formulas.{none_formulas, one_formula, formula_later}
use Rattle.congruence.proofs.PlainScripts.{held_lines, one_same}
use Rattle.std.proofs.lemmas.Result.{IfOk-weaker}
use Rattle.congruence.proofs.alike.by_replacing.Goals as goal

pub derive-requires : goal.derive-requires
derive-requires c =
    let d = c.args.draft.now in
    let d1 = c.equation.new.draft in
    let n = c.in_ok-link in
    let x = AddsTrees_extends d d1 n.ensures.grows in
    let r = c.requires in
    let a = c.args.a in
    let b = c.args.b in
    let e = c.args.template in
    let ha = r.pair.left.held in
    let hb = r.pair.right.held in
    record {
      front = none_formulas d1;
      tail = one_formula d1 c.args.goal (formula_later d d1 x c.args.goal r.goal);
      lines = held_lines d1 (line.Cut n.link ∷ line.Rule (word.Replace 1 0 e) ∷ line.Kept c.args.step (places.One 2) ∷ line.Kept c.args.lemma (places.One 1) ∷ []) (n.ensures.formula, ((held_later d d1 x e r.template_held, tt), (tt, (tt, tt))));
      follow = replaced_goal d1 (tree_at d1.trees a) (tree_at d1.trees b) (tree_at d1.trees e) (tree_at d1.trees n.link) c.args.lemma (link_later d d1 x a b (tree_at d1.trees n.link) ha hb n.ensures.tree) (template_later d d1 x a e ha r.template_held r.template)
          (lemma_later d d1 x c.args.lemma a b ha hb r.lemma) (tree_at d1.trees c.args.goal) c.args.step (tree_later d d1 x c.args.goal r.goal.held ∙ r.before ∙ inst_later d d1 x e a r.template_held ha)
          (subst (λ (z : Tree). Refutes d1 c.args.step (z ∷ [])) (inst_later d d1 x e b r.template_held hb) (refutes_later d d1 x c.args.step _ r.step));
    }

pub returns : goal.returns
returns c =
    let d = c.args.draft.now in
    let d1 = c.equation.new.draft in
    let x = AddsTrees_extends d d1 c.in_ok-link.ensures.grows in
    record {
      refutes = IfOk-weaker c.derive.result _ _ (λ k h. one_same c.derive.new.draft k _ _ (tree_later d d1 x c.args.goal c.requires.goal.held) h) c.derive.ensures.refutes;
      grows = Extends_trans d d1 c.derive.new.draft x c.derive.ensures.grows;
    }
