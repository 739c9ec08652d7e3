use Rattle.std.proofs.Common.{sym, ap, ◌∙◌}
use Rattle.std.proofs.lemmas.Result.{IfOk-weaker}
use Rattle.tasks.specs.Task.{neg}
use Rattle.evidence.specs.Laws.{Extends_trans, AddsTrees_extends}
use Rattle.evidence.proofs.Formulas.{formula_later}
use Rattle.congruence.proofs.Later.{held_later, tree_later}
use Rattle.congruence.proofs.HoleTemplates.{hole_later, equal_terms_later}
use Rattle.congruence.proofs.PlainScripts.{two_same}
use Rattle.congruence.proofs.replacing.replaced_home.Goals as goal

pub negation-requires : goal.negation-requires
negation-requires c = c.requires.left

pub not_hole-requires : goal.not_hole-requires
not_hole-requires c =
    let d = c.args.draft.now in
    let d1 = c.negation.new.draft in
    let x = AddsTrees_extends d d1 c.in_ok-no_left.ensures.grows in
    let r = c.requires in
    let k = c.args in
    record {
      a_held = held_later d d1 x k.terms.a r.terms.pair.left.held;
      hole = hole_later d d1 x k.hole k.left k.right k.terms.a k.terms.b r.left.held r.right.held r.terms.pair.left.held r.terms.pair.right.held r.hole;
      left = formula_later d d1 x k.left r.left;
    }

pub replaced_back-requires : goal.replaced_back-requires
replaced_back-requires c =
    let d = c.args.draft.now in
    let d1 = c.negation.new.draft in
    let d2 = c.not_hole.new.draft in
    let n = c.in_ok-no_left in
    let m = c.in_ok-template in
    let x1 = AddsTrees_extends d d1 n.ensures.grows in
    let y = AddsTrees_extends d1 d2 m.ensures.grows in
    let x = Extends_trans d d1 d2 x1 y in
    let r = c.requires in
    let k = c.args in
    record {
      terms = equal_terms_later d d2 x k.terms r.terms;
      hole = hole_later d d2 x k.hole k.left k.right k.terms.a k.terms.b r.left.held r.right.held r.terms.pair.left.held r.terms.pair.right.held r.hole;
      template_held = m.ensures.held;
      template = m.ensures.template;
      template_is = m.ensures.is;
      left = formula_later d d2 x k.left r.left;
      right = formula_later d d2 x k.right r.right;
      no_left = formula_later d1 d2 y n.no_left n.ensures.formula;
      no_left_is = tree_later d1 d2 y n.no_left n.ensures.formula.held ∙ n.ensures.tree ∙ ap neg (sym (tree_later d d2 x k.left r.left.held));
    }

pub returns-in_err-template-clause-grows : goal.returns-in_err-template-clause-grows
returns-in_err-template-clause-grows c = Extends_trans _ _ _ (AddsTrees_extends _ _ c.in_ok-no_left.ensures.grows) (AddsTrees_extends _ _ c.in_err-template.ensures.grows)

pub returns : goal.returns
returns c =
    let d = c.args.draft.now in
    let d1 = c.negation.new.draft in
    let d2 = c.not_hole.new.draft in
    let n = c.in_ok-no_left in
    let x1 = AddsTrees_extends d d1 n.ensures.grows in
    let y = AddsTrees_extends d1 d2 c.in_ok-template.ensures.grows in
    let x = Extends_trans d d1 d2 x1 y in
    record {
      refutes = IfOk-weaker c.replaced_back.result _ _ (λ k h. two_same c.replaced_back.new.draft k _ _ _ _ (tree_later d d2 x c.args.right c.requires.right.held) (tree_later d1 d2 y n.no_left n.ensures.formula.held ∙ n.ensures.tree) h) c.replaced_back.ensures.refutes;
      grows = Extends_trans d d2 c.replaced_back.new.draft x c.replaced_back.ensures.grows;
    }
