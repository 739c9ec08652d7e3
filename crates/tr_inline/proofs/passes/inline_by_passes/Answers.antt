use Rattle.std.proofs.Common.{◌≡◌, [], ◌∷◌, length, sym, subst, ap, ◌∙◌}
use Rattle.trees.specs.Tree.{Tree}
use Rattle.trees.specs.Node.{tree_at}
use Rattle.tasks.specs.Task.{neg}
use Rattle.tasks.specs.Meaning.{definitions_at}
use Rattle.evidence.specs.Drafts.{Refutes}
use Rattle.evidence.specs.Laws.{Extends_trans}
use Rattle.evidence.proofs.Formulas.{formula_later}
use Rattle.congruence.proofs.Later.{tree_later}
use Rattle.inlining.specs.Inlining.{inlined}
use Rattle.walking.proofs.Binders.{formula_pair}
use Rattle.walking.proofs.Closed.{same_right, image_formula}
use Rattle.tr_inline.proofs.passes.inline_by_passes.Goals as goal

pub make_halves-requires-clause-pair : goal.make_halves-requires-clause-pair
make_halves-requires-clause-pair c =
    let d = c.args.draft.now in
    let d1 = c.inline_link.new.draft in
    formula_pair d1 [] c.args.formula c.parameter_count-number.result _ c.in_ok-made.made (formula_later d d1 c.in_ok-made.ensures.grows c.args.formula c.requires.formula) c.in_ok-made.ensures.link

pub returns-in_err-halves-clause-grows : goal.returns-in_err-halves-clause-grows
returns-in_err-halves-clause-grows c = Extends_trans _ _ _ c.in_ok-made.ensures.grows c.in_err-halves.ensures.grows

pub returns-clause-grows : goal.returns-clause-grows
returns-clause-grows c = Extends_trans _ _ _ c.in_ok-made.ensures.grows c.in_ok-halves.ensures.grows

pub returns-clause-image : goal.returns-clause-image
returns-clause-image c =
    let d = c.args.draft.now in
    let d1 = c.inline_link.new.draft in
    let d2 = c.make_halves.new.draft in
    let n = c.parameter_count-number.result in
    let m = c.in_ok-made.made in
    let k = c.in_ok-made.ensures.link in
    let h = c.in_ok-halves.halves in
    let f = formula_later d d1 c.in_ok-made.ensures.grows c.args.formula c.requires.formula in
    let e = inlined (definitions_at d.trees c.args.defs.items) (tree_at d.trees c.args.formula) in
    let l : tree_at d1.trees c.args.formula ≡ tree_at d.trees c.args.formula = tree_later d d1 c.in_ok-made.ensures.grows c.args.formula c.requires.formula.held in
    let r : tree_at d1.trees m.right ≡ e = same_right d1 m.image m.right n k.place ∙ k.is in
    record {
      formula = formula_later d1 d2 c.in_ok-halves.ensures.grows m.image (image_formula d1 c.args.formula n e m f.ground.sort k);
      is = tree_later d1 d2 c.in_ok-halves.ensures.grows m.image k.place.open_held ∙ k.is;
      there = subst (λ (z : Tree). Refutes d2 h.there (z ∷ neg e ∷ [])) l (subst (λ (z : Tree). Refutes d2 h.there (tree_at d1.trees c.args.formula ∷ neg z ∷ [])) r c.in_ok-halves.ensures.halves.there);
      back = subst (λ (z : Tree). Refutes d2 h.back (e ∷ neg z ∷ [])) l (subst (λ (z : Tree). Refutes d2 h.back (z ∷ neg (tree_at d1.trees c.args.formula) ∷ [])) r c.in_ok-halves.ensures.halves.back);
    }
