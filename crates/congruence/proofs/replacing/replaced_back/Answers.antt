use Rattle.std.proofs.Common.{refl, sym, ap, ◌∙◌, [], ◌∷◌}
use Rattle.trees.specs.Tree.{Tree}
use Rattle.trees.specs.Node.{tree_at}
use Rattle.trees.specs.Binding.{inst}
use Rattle.tasks.specs.Task.{neg}
use Rattle.evidence.specs.Laws.{AddsTrees_extends, Extends_trans}
use Rattle.evidence.specs.declared.proof_scripts.line.Places.TheVariants as places
use Rattle.evidence.specs.declared.proof_scripts.line.Word.TheVariants as word
use Rattle.evidence.specs.declared.proof_scripts.line.Line.TheVariants as line
use Rattle.congruence.proofs.Later.{tree_later, held_later}
use Rattle.congruence.proofs.HoleTemplates.{template_later, equal_terms_later}
use Rattle.congruence.proofs.Scripts.{link_later, inst_later, replaced_right}
use Rattle.evidence.proofs.Formulas.{none_formulas, two_formulas, formula_later}
use Rattle.congruence.proofs.PlainScripts.{held_lines, two_same}
use Rattle.std.proofs.lemmas.Result.{IfOk-weaker}
use Rattle.congruence.proofs.replacing.replaced_back.Goals as goal

pub derive-requires : goal.derive-requires
derive-requires c =
    let d = c.args.draft.now in
    let d1 = c.equation.new.draft in
    let n = c.in_ok-link in
    let x = AddsTrees_extends d d1 n.ensures.grows in
    let r = c.requires in
    let a = c.args.terms.a in
    let b = c.args.terms.b in
    let e = c.args.template in
    let ha = r.terms.pair.left.held in
    let hb = r.terms.pair.right.held in
    let h = r.hole.1.1 in
    record {
      front = none_formulas d1;
      tail = two_formulas d1 c.args.right c.args.no_left (formula_later d d1 x c.args.right r.right) (formula_later d d1 x c.args.no_left r.no_left);
      lines = held_lines d1 (line.Cut n.link ∷ line.Rule (word.Replace 2 1 e) ∷ line.Rule (word.Clash 0 3) ∷ line.Kept c.args.terms.step (places.One 2) ∷ []) (n.ensures.formula, ((held_later d d1 x e r.template_held, tt), ((tt, tt), (tt, tt))));
      follow = replaced_right d1 (tree_at d1.trees a) (tree_at d1.trees b) (tree_at d1.trees e) (tree_at d1.trees n.link) c.args.terms.step (link_later d d1 x a b (tree_at d1.trees n.link) ha hb n.ensures.tree) (template_later d d1 x a e ha r.template_held r.template)
          (equal_terms_later d d1 x c.args.terms r.terms).step (tree_at d1.trees c.args.right) (tree_at d1.trees c.args.no_left) (tree_at d1.trees c.args.right) refl
          (tree_later d d1 x c.args.no_left r.no_left.held ∙ r.no_left_is ∙ ap neg h.left ∙ ap (λ (z : Tree). inst z (tree_at d.trees a)) (sym r.template_is) ∙ inst_later d d1 x e a r.template_held ha)
          (sym (inst_later d d1 x e b r.template_held hb) ∙ ap (λ (z : Tree). inst z (tree_at d.trees b)) r.template_is ∙ ap neg (sym h.right ∙ sym (tree_later d d1 x c.args.right r.right.held)));
    }

pub returns : goal.returns
returns c =
    let d = c.args.draft.now in
    let d1 = c.equation.new.draft in
    let x = AddsTrees_extends d d1 c.in_ok-link.ensures.grows in
    record {
      refutes = IfOk-weaker c.derive.result _ _ (λ k h. two_same c.derive.new.draft k _ _ _ _ (tree_later d d1 x c.args.right c.requires.right.held) (tree_later d d1 x c.args.no_left c.requires.no_left.held) h) c.derive.ensures.refutes;
      grows = Extends_trans d d1 c.derive.new.draft x c.derive.ensures.grows;
    }
