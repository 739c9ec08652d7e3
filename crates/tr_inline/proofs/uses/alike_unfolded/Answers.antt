use Rattle.std.proofs.Common.{◌≡◌, [], ◌∷◌, List, subst, sym, ap, ◌∙◌}
use Rattle.trees.specs.Tree.{Tree}
use Rattle.trees.specs.Node.{tree_at}
use Rattle.tasks.specs.Task.{neg}
use Rattle.tasks.specs.Typing.{members}
use Rattle.evidence.specs.Drafts.{Refutes}
use Rattle.evidence.specs.Laws.{Extends_trans}
use Rattle.congruence.specs.Alike.{Shows}
use Rattle.congruence.specs.kernel.rules.Forms.{alike}
use Rattle.congruence.proofs.Later.{tree_later, held_later, pair_later}
use Rattle.inlining.specs.images.Instances.{for_all_at}
use Rattle.tr_inline.proofs.Claims.{none_found, here, takes_later, claimed}
use Rattle.tr_inline.proofs.uses.alike_unfolded.Goals as goal

pub unreachable-requires : goal.unreachable-requires
unreachable-requires c =
    let d = c.args.draft.now in
    none_found d c.args.def.symbol c.args.left c.find_use.result c.in_default.not-Some c.find_use.ensures c.requires.left_is.0 c.requires.left_is.1.0 c.requires.left_is.1.1

pub equation_lemma-requires-clause-types_held : goal.equation_lemma-requires-clause-types_held
equation_lemma-requires-clause-types_held c = c.in-Some.ensures.types_held

pub equation_lemma-requires-clause-closed : goal.equation_lemma-requires-clause-closed
equation_lemma-requires-clause-closed c = here c.args.draft.now c.args.def c.requires.defined c.args.left c.requires.pair.left c.in-Some.at c.in-Some.ensures

pub lemma_at_terms-requires-clause-terms_held : goal.lemma_at_terms-requires-clause-terms_held
lemma_at_terms-requires-clause-terms_held c = held_later c.args.draft.now c.equation_lemma.new.draft c.in_ok-equation.ensures.grows c.in-Some.at.args c.in-Some.ensures.args_held

pub lemma_at_terms-requires-clause-terms : goal.lemma_at_terms-requires-clause-terms
lemma_at_terms-requires-clause-terms c =
    let d = c.args.draft.now in
    let d1 = c.equation_lemma.new.draft in
    takes_later d c.args.def c.requires.defined c.args.left c.requires.pair.left c.in-Some.at c.in-Some.ensures d1 c.in_ok-equation.ensures.grows (tree_at d1.trees c.in_ok-equation.equation.formula) c.in_ok-equation.ensures.tree

pub alike_by_step-requires-clause-pair : goal.alike_by_step-requires-clause-pair
alike_by_step-requires-clause-pair c =
    pair_later c.args.draft.now c.lemma_at_terms.new.draft (Extends_trans _ _ _ c.in_ok-equation.ensures.grows c.in_ok-lemma.ensures.grows) c.args.left c.args.right c.requires.pair

pub alike_by_step-requires-clause-step : goal.alike_by_step-requires-clause-step
alike_by_step-requires-clause-step c =
    let d = c.args.draft.now in
    let d1 = c.equation_lemma.new.draft in
    let d2 = c.lemma_at_terms.new.draft in
    let x = c.in_ok-equation.ensures.grows in
    let z = Extends_trans d d1 d2 x c.in_ok-lemma.ensures.grows in
    let at = c.in-Some.at in
    let m = c.in_ok-lemma.lemma in
    let eq = tree_at d1.trees c.in_ok-equation.equation.formula in
    let l : tree_at d2.trees c.args.left ≡ tree_at d.trees c.args.left = tree_later d d2 z c.args.left c.requires.pair.left.held in
    let r : tree_at d2.trees c.args.right ≡ tree_at d.trees c.args.right = tree_later d d2 z c.args.right c.requires.pair.right.held in
    let f : tree_at d2.trees m.formula ≡ for_all_at eq (members (tree_at d.trees at.args)) = c.in_ok-lemma.ensures.tree ∙ ap (λ (t : Tree). for_all_at eq (members t)) (tree_later d d1 x at.args c.in-Some.ensures.args_held) in
    let q = claimed d c.args.def c.requires.defined c.args.left c.requires.pair.left at c.in-Some.ensures (tree_at d.trees c.args.right) (tree_at d2.trees m.formula) eq c.requires.right_is c.in_ok-equation.ensures.tree f in
    let e : tree_at d2.trees m.formula ≡ alike (tree_at d2.trees c.args.left) (tree_at d2.trees c.args.right) = q ∙ ap (λ (t : Tree). alike t (tree_at d.trees c.args.right)) (sym l) ∙ ap (alike (tree_at d2.trees c.args.left)) (sym r) in
    subst (λ (t : Tree). Refutes d2 m.step (neg t ∷ [])) e c.in_ok-lemma.ensures.lemma.refutes

pub returns-in_err-equation-clause-grows : goal.returns-in_err-equation-clause-grows
returns-in_err-equation-clause-grows c = c.equation_lemma.ensures.grows

pub returns-in_err-lemma-clause-grows : goal.returns-in_err-lemma-clause-grows
returns-in_err-lemma-clause-grows c = Extends_trans _ _ _ c.in_ok-equation.ensures.grows c.lemma_at_terms.ensures.grows

pub returns-in_err-made-clause-grows : goal.returns-in_err-made-clause-grows
returns-in_err-made-clause-grows c = Extends_trans _ _ _ (Extends_trans _ _ _ c.in_ok-equation.ensures.grows c.in_ok-lemma.ensures.grows) c.alike_by_step.ensures.grows

pub returns-clause-grows : goal.returns-clause-grows
returns-clause-grows c = Extends_trans _ _ _ (Extends_trans _ _ _ c.in_ok-equation.ensures.grows c.in_ok-lemma.ensures.grows) c.in_ok-made.ensures.grows

pub returns-clause-shows : goal.returns-clause-shows
returns-clause-shows c =
    let d = c.args.draft.now in
    let d2 = c.lemma_at_terms.new.draft in
    let d3 = c.alike_by_step.new.draft in
    let z = Extends_trans d c.equation_lemma.new.draft d2 c.in_ok-equation.ensures.grows c.in_ok-lemma.ensures.grows in
    subst (λ (t : Tree). Shows d3 c.in_ok-made.made t (tree_at d.trees c.args.right)) (tree_later d d2 z c.args.left c.requires.pair.left.held)
    (subst (λ (t : Tree). Shows d3 c.in_ok-made.made (tree_at d2.trees c.args.left) t) (tree_later d d2 z c.args.right c.requires.pair.right.held) c.in_ok-made.ensures.shows)
