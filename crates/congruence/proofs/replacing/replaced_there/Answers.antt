use Rattle.std.proofs.Common.{ap, ◌∙◌, [], ◌∷◌}
use Rattle.trees.specs.Node.{tree_at}
use Rattle.tasks.specs.Task.{neg}
use Rattle.evidence.specs.Laws.{Extends_trans, AddsTrees_extends}
use Rattle.evidence.specs.declared.proof_scripts.line.Places.TheVariants as places
use Rattle.evidence.specs.declared.proof_scripts.line.Word.TheVariants as word
use Rattle.evidence.specs.declared.proof_scripts.line.Line.TheVariants as line
use Rattle.congruence.proofs.Later.{held_later, tree_later}
use Rattle.congruence.proofs.HoleTemplates.{template_later, equal_terms_later}
use Rattle.congruence.proofs.Scripts.{link_later, inst_later, replaced_left}
use Rattle.evidence.proofs.Formulas.{none_formulas, two_formulas, formula_later}
use Rattle.congruence.proofs.PlainScripts.{held_lines, two_same}
use Rattle.std.proofs.lemmas.Result.{IfOk-weaker}
use Rattle.congruence.proofs.replacing.replaced_there.Goals as goal

pub equation-requires : goal.equation-requires
equation-requires c =
    let d = c.args.draft.now in
    let d1 = c.negation.new.draft in
    let x = AddsTrees_extends d d1 c.in_ok-negated.ensures.grows in
    let e = equal_terms_later d d1 x c.args.terms c.requires.terms in
    record { pair = e.pair; term = e.term }

pub derive-requires : goal.derive-requires
derive-requires c =
    let d = c.args.draft.now in
    let d1 = c.negation.new.draft in
    let d2 = c.equation.new.draft in
    let m = c.in_ok-negated in
    let n = c.in_ok-link in
    let x1 = AddsTrees_extends d d1 m.ensures.grows in
    let y = AddsTrees_extends d1 d2 n.ensures.grows in
    let x = Extends_trans d d1 d2 x1 y in
    let r = c.requires in
    let a = c.args.terms.a in
    let b = c.args.terms.b in
    let e = c.args.hole in
    let ha = r.terms.pair.left.held in
    let hb = r.terms.pair.right.held in
    let h = r.hole.1.1 in
    record {
      front = none_formulas d2;
      tail = two_formulas d2 c.args.left m.negated (formula_later d d2 x c.args.left r.left) (formula_later d1 d2 y m.negated m.ensures.formula);
      lines = held_lines d2 (line.Cut n.link ∷ line.Rule (word.Replace 2 0 e) ∷ line.Rule (word.Clash 3 1) ∷ line.Kept c.args.terms.step (places.One 2) ∷ []) (n.ensures.formula, ((held_later d d2 x e h.held, tt), ((tt, tt), (tt, tt))));
      follow = replaced_left d2 (tree_at d2.trees a) (tree_at d2.trees b) (tree_at d2.trees e) (tree_at d2.trees n.link) c.args.terms.step (link_later d1 d2 y a b (tree_at d2.trees n.link) (held_later d d1 x1 a ha) (held_later d d1 x1 b hb) n.ensures.tree) (template_later d d2 x a e ha h.held r.template)
          (equal_terms_later d d2 x c.args.terms r.terms).step (tree_at d2.trees c.args.left) (tree_at d2.trees m.negated) (tree_later d d2 x c.args.left r.left.held ∙ h.left ∙ inst_later d d2 x e a h.held ha)
          (tree_later d1 d2 y m.negated m.ensures.formula.held ∙ m.ensures.tree ∙ ap neg (h.right ∙ inst_later d d2 x e b h.held hb));
    }

pub returns-in_err-link-clause-grows : goal.returns-in_err-link-clause-grows
returns-in_err-link-clause-grows c = Extends_trans _ _ _ (AddsTrees_extends _ _ c.in_ok-negated.ensures.grows) (AddsTrees_extends _ _ c.in_err-link.ensures.grows)

pub returns : goal.returns
returns c =
    let d = c.args.draft.now in
    let d1 = c.negation.new.draft in
    let d2 = c.equation.new.draft in
    let m = c.in_ok-negated in
    let y = AddsTrees_extends d1 d2 c.in_ok-link.ensures.grows in
    let x = Extends_trans d d1 d2 (AddsTrees_extends d d1 m.ensures.grows) y in
    record {
      refutes = IfOk-weaker c.derive.result _ _ (λ k h. two_same c.derive.new.draft k _ _ _ _ (tree_later d d2 x c.args.left c.requires.left.held) (tree_later d1 d2 y m.negated m.ensures.formula.held ∙ m.ensures.tree) h) c.derive.ensures.refutes;
      grows = Extends_trans d d2 c.derive.new.draft x c.derive.ensures.grows;
    }
