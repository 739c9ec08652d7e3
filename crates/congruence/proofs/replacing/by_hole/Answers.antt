use Rattle.std.proofs.Common.{[], ◌∷◌, sym, ap, subst, ◌∙◌}
use Rattle.std.proofs.lemmas.Result.{IfOk-weaker}
use Rattle.trees.specs.Tree.{Tree}
use Rattle.trees.specs.Sorts.{sort_of}
use Rattle.evidence.specs.Drafts.{Refutes}
use Rattle.evidence.specs.Laws.{Extends_trans, AddsTrees_extends}
use Rattle.evidence.proofs.Formulas.{formula_later}
use Rattle.congruence.proofs.Later.{held_later, tree_later, pair_later}
use Rattle.congruence.proofs.HoleTemplates.{hole_later, equal_later, lemma_later, equal_terms_later}
use Rattle.congruence.proofs.PlainScripts.{one_same}
use Rattle.congruence.proofs.replacing.by_hole.Goals as goal

pub apart-requires : goal.apart-requires
apart-requires c = record { pair = c.requires.sides; term = c.requires.left_term }

pub template_left-requires : goal.template_left-requires
template_left-requires c =
    let d = c.args.draft.now in
    let d1 = c.apart.new.draft in
    let x = AddsTrees_extends d d1 c.in_ok-goal.ensures.grows in
    let r = c.requires in
    let k = c.args in
    let e = equal_terms_later d d1 x k.terms r.terms in
    record {
      pair = e.pair;
      term = e.term;
      hole = hole_later d d1 x k.hole k.left k.middle k.terms.a k.terms.b r.sides.left.held r.after.left.held r.terms.pair.left.held r.terms.pair.right.held r.hole;
      sides = pair_later d d1 x k.left k.right r.sides;
      middle_held = held_later d d1 x k.middle r.after.left.held;
      left_term = ap sort_of (tree_later d d1 x k.left r.sides.left.held) ∙ r.left_term;
    }

pub by_replacing-requires : goal.by_replacing-requires
by_replacing-requires c =
    let d = c.args.draft.now in
    let d1 = c.apart.new.draft in
    let d2 = c.template_left.new.draft in
    let n = c.in_ok-goal in
    let m = c.in_ok-template in
    let x1 = AddsTrees_extends d d1 n.ensures.grows in
    let y = AddsTrees_extends d1 d2 m.ensures.grows in
    let x = Extends_trans d d1 d2 x1 y in
    let r = c.requires in
    let k = c.args in
    let e = equal_terms_later d d2 x k.terms r.terms in
    record {
      pair = e.pair;
      term = e.term;
      goal = formula_later d1 d2 y n.goal n.ensures.formula;
      template_held = m.ensures.held;
      template = m.ensures.template;
      before = tree_later d1 d2 y n.goal n.ensures.formula.held ∙ n.ensures.tree ∙ sym (equal_later d1 d2 y k.left k.right (held_later d d1 x1 k.left r.sides.left.held) (held_later d d1 x1 k.right r.sides.right.held)) ∙ m.ensures.before;
      lemma = e.step;
      step = subst (λ (z : Tree). Refutes d2 k.step (z ∷ [])) m.ensures.after (lemma_later d d2 x k.step k.middle k.right r.after.left.held r.after.right.held r.step);
    }

pub returns-in_err-template-clause-grows : goal.returns-in_err-template-clause-grows
returns-in_err-template-clause-grows c = Extends_trans _ _ _ (AddsTrees_extends _ _ c.in_ok-goal.ensures.grows) (AddsTrees_extends _ _ c.in_err-template.ensures.grows)

pub returns : goal.returns
returns c =
    let d = c.args.draft.now in
    let d1 = c.apart.new.draft in
    let d2 = c.template_left.new.draft in
    let n = c.in_ok-goal in
    let x1 = AddsTrees_extends d d1 n.ensures.grows in
    let y = AddsTrees_extends d1 d2 c.in_ok-template.ensures.grows in
    let p = c.requires.sides in
    record {
      refutes = IfOk-weaker c.by_replacing.result _ _ (λ k h. one_same c.by_replacing.new.draft k _ _ (tree_later d1 d2 y n.goal n.ensures.formula.held ∙ n.ensures.tree ∙ equal_later d d1 x1 c.args.left c.args.right p.left.held p.right.held) h) c.by_replacing.ensures.refutes;
      grows = Extends_trans d d2 c.by_replacing.new.draft (Extends_trans d d1 d2 x1 y) c.by_replacing.ensures.grows;
    }
