use Rattle.std.proofs.Common.{◌≡◌, [], ◌∷◌, length, sym, subst, ◌∙◌}
use Rattle.trees.specs.Tree.{Tree}
use Rattle.trees.specs.Node.{tree_at}
use Rattle.tasks.specs.Task.{neg}
use Rattle.evidence.specs.Drafts.{Refutes}
use Rattle.evidence.specs.Laws.{Extends_trans}
use Rattle.evidence.proofs.Formulas.{formula_later}
use Rattle.congruence.proofs.Later.{tree_later}
use Rattle.walking.proofs.Binders.{formula_pair}
use Rattle.walking.proofs.Closed.{same_right, image_formula}
use Rattle.walking.proofs.formulas.rewrite_formula.Goals as goal

pub make_halves-requires-clause-pair : goal.make_halves-requires-clause-pair
make_halves-requires-clause-pair g c =
    let d = c.args.draft.now in
    let d1 = c.walk_formula.new.draft in
    formula_pair d1 [] c.args.formula (length d.task.params) _ c.in_ok-made.made (formula_later d d1 c.in_ok-made.ensures.grows c.args.formula c.requires.formula) c.in_ok-made.ensures.link

pub returns-in_err-halves-clause-grows : goal.returns-in_err-halves-clause-grows
returns-in_err-halves-clause-grows g c = Extends_trans _ _ _ c.in_ok-made.ensures.grows c.in_err-halves.ensures.grows

pub returns-clause-grows : goal.returns-clause-grows
returns-clause-grows g c = Extends_trans _ _ _ c.in_ok-made.ensures.grows c.in_ok-halves.ensures.grows

pub returns-clause-formula : goal.returns-clause-formula
returns-clause-formula g c =
    let d = c.args.draft.now in
    let d1 = c.walk_formula.new.draft in
    let f = formula_later d d1 c.in_ok-made.ensures.grows c.args.formula c.requires.formula in
    formula_later d1 c.make_halves.new.draft c.in_ok-halves.ensures.grows c.in_ok-made.made.image (image_formula d1 c.args.formula (length d.task.params) _ c.in_ok-made.made f.ground.sort c.in_ok-made.ensures.link)

pub returns-clause-there : goal.returns-clause-there
returns-clause-there g c =
    let d = c.args.draft.now in
    let d1 = c.walk_formula.new.draft in
    let d2 = c.make_halves.new.draft in
    let m = c.in_ok-made.made in
    let k = c.in_ok-made.ensures.link in
    let l : tree_at d1.trees c.args.formula ≡ tree_at d.trees c.args.formula = tree_later d d1 c.in_ok-made.ensures.grows c.args.formula c.requires.formula.held in
    let r : tree_at d1.trees m.right ≡ tree_at d2.trees m.image = same_right d1 m.image m.right (length d.task.params) k.place ∙ sym (tree_later d1 d2 c.in_ok-halves.ensures.grows m.image k.place.open_held) in
    subst (λ (z : Tree). Refutes d2 c.in_ok-halves.halves.there (z ∷ neg (tree_at d2.trees m.image) ∷ [])) l (subst (λ (z : Tree). Refutes d2 c.in_ok-halves.halves.there (tree_at d1.trees c.args.formula ∷ neg z ∷ [])) r c.in_ok-halves.ensures.halves.there)

pub returns-clause-back : goal.returns-clause-back
returns-clause-back g c =
    let d = c.args.draft.now in
    let d1 = c.walk_formula.new.draft in
    let d2 = c.make_halves.new.draft in
    let m = c.in_ok-made.made in
    let k = c.in_ok-made.ensures.link in
    let l : tree_at d1.trees c.args.formula ≡ tree_at d.trees c.args.formula = tree_later d d1 c.in_ok-made.ensures.grows c.args.formula c.requires.formula.held in
    let r : tree_at d1.trees m.right ≡ tree_at d2.trees m.image = same_right d1 m.image m.right (length d.task.params) k.place ∙ sym (tree_later d1 d2 c.in_ok-halves.ensures.grows m.image k.place.open_held) in
    subst (λ (z : Tree). Refutes d2 c.in_ok-halves.halves.back (tree_at d2.trees m.image ∷ neg z ∷ [])) l (subst (λ (z : Tree). Refutes d2 c.in_ok-halves.halves.back (z ∷ neg (tree_at d1.trees c.args.formula) ∷ [])) r c.in_ok-halves.ensures.halves.back)
