use Rattle.std.proofs.Common.{◌≡◌, [], ◌∷◌, sym, ap, subst, ◌∙◌}
use Rattle.trees.specs.Tree.{Tree}
use Rattle.trees.specs.Node.{tree_at}
use Rattle.tasks.specs.Task.{TaskTree, neg}
use Rattle.congruence.specs.kernel.rules.Forms.{alike}
use Rattle.evidence.specs.Drafts.{Refutes}
use Rattle.evidence.specs.Laws.{Extends_trans, AddsTrees_extends, AddsTrees_trans}
use Rattle.evidence.proofs.Rules.{refutes_later}
use Rattle.evidence.proofs.Formulas.{formula_later}
use Rattle.congruence.specs.Alike.{Shows}
use Rattle.congruence.proofs.Later.{tree_later, pair_later}
use Rattle.tr_recursion.specs.constructor_matches.Asked.{AreOtherConstructors}
use Rattle.tr_recursion.proofs.constructor_matches.Follows.{other_follows}
use Rattle.tr_recursion.proofs.constructor_matches.matches.alike_rest.Goals as goal

pub derive-requires-clause-follow : goal.derive-requires-clause-follow
derive-requires-clause-follow c =
    let d = c.args.draft.now in
    let d1 = c.negation.new.draft in
    let d2 = c.negation-2.new.draft in
    let x = AddsTrees_extends d d1 c.in_ok-no_test.ensures.grows in
    let y = AddsTrees_extends d1 d2 c.in_ok-denied.ensures.grows in
    let e = tree_at d.trees c.args.k.condition in
    other_follows d2 (tree_at d2.trees c.in_ok-denied.denied) e (c.in_ok-denied.ensures.tree ∙ ap neg c.in_ok-no_test.ensures.tree) (subst (λ (t : TaskTree). AreOtherConstructors t e) (sym (Extends_trans d d1 d2 x y).task) c.requires.other)

pub alike_under-requires-clause-pair : goal.alike_under-requires-clause-pair
alike_under-requires-clause-pair c =
    let d = c.args.draft.now in
    pair_later d c.derive.new.draft (Extends_trans _ _ _ (AddsTrees_extends _ _ (AddsTrees_trans _ _ _ c.in_ok-no_test.ensures.grows c.in_ok-denied.ensures.grows)) c.in_ok-lemma.ensures.grows) c.args.k.whole c.args.k.else_part c.requires.parts.else_part

pub alike_under-requires-clause-hypothesis : goal.alike_under-requires-clause-hypothesis
alike_under-requires-clause-hypothesis c =
    formula_later c.negation.new.draft c.derive.new.draft (Extends_trans _ _ _ (AddsTrees_extends _ _ c.in_ok-denied.ensures.grows) c.in_ok-lemma.ensures.grows) c.in_ok-no_test.no_test c.in_ok-no_test.ensures.formula

pub alike_under-requires-clause-value : goal.alike_under-requires-clause-value
alike_under-requires-clause-value c =
    let d = c.args.draft.now in
    let d1 = c.negation.new.draft in
    let d3 = c.derive.new.draft in
    let x1 = AddsTrees_extends d d1 c.in_ok-no_test.ensures.grows in
    let x2 = Extends_trans _ _ _ (AddsTrees_extends _ _ c.in_ok-denied.ensures.grows) c.in_ok-lemma.ensures.grows in
    let x = Extends_trans d d1 d3 x1 x2 in
    let k = c.args.k in
    let p = c.requires.parts.else_part in
    let n : tree_at d3.trees c.in_ok-no_test.no_test ≡ neg (tree_at d.trees k.condition) = tree_later d1 d3 x2 c.in_ok-no_test.no_test c.in_ok-no_test.ensures.formula.held ∙ c.in_ok-no_test.ensures.tree in
    let a : alike (tree_at d.trees k.whole) (tree_at d.trees k.else_part) ≡ alike (tree_at d3.trees k.whole) (tree_at d3.trees k.else_part) =
    ap (λ (z : Tree). alike z (tree_at d.trees k.else_part)) (sym (tree_later d d3 x k.whole p.left.held)) ∙ ap (alike (tree_at d3.trees k.whole)) (sym (tree_later d d3 x k.else_part p.right.held)) in
    subst (λ (z : Tree). Refutes d3 c.args.else_value (tree_at d3.trees c.in_ok-no_test.no_test ∷ neg z ∷ [])) a
    (subst (λ (z : Tree). Refutes d3 c.args.else_value (z ∷ neg (alike (tree_at d.trees k.whole) (tree_at d.trees k.else_part)) ∷ [])) (sym n) (refutes_later d d3 x c.args.else_value _ c.requires.value))

pub alike_under-requires-clause-lemma : goal.alike_under-requires-clause-lemma
alike_under-requires-clause-lemma c =
    let d1 = c.negation.new.draft in
    let d2 = c.negation-2.new.draft in
    let d3 = c.derive.new.draft in
    let x2 = Extends_trans d1 d2 d3 (AddsTrees_extends d1 d2 c.in_ok-denied.ensures.grows) c.in_ok-lemma.ensures.grows in
    let same = tree_later d1 d3 x2 c.in_ok-no_test.no_test c.in_ok-no_test.ensures.formula.held in
    subst (λ (z : Tree). Refutes d3 c.in_ok-lemma.lemma (z ∷ [])) (c.in_ok-denied.ensures.tree ∙ ap neg (sym same)) c.in_ok-lemma.ensures.refutes

pub returns-clause-shows : goal.returns-clause-shows
returns-clause-shows c =
    let d = c.args.draft.now in
    let d3 = c.derive.new.draft in
    let d4 = c.alike_under.new.draft in
    let x = Extends_trans _ _ _ (AddsTrees_extends _ _ (AddsTrees_trans _ _ _ c.in_ok-no_test.ensures.grows c.in_ok-denied.ensures.grows)) c.in_ok-lemma.ensures.grows in
    let p = c.requires.parts.else_part in
    subst (λ (z : Tree). Shows d4 c.in_ok-made.made z (tree_at d.trees c.args.k.else_part)) (tree_later d d3 x c.args.k.whole p.left.held)
    (subst (λ (z : Tree). Shows d4 c.in_ok-made.made (tree_at d3.trees c.args.k.whole) z) (tree_later d d3 x c.args.k.else_part p.right.held) c.in_ok-made.ensures.shows)

pub returns-in_err-denied-clause-grows : goal.returns-in_err-denied-clause-grows
returns-in_err-denied-clause-grows c = AddsTrees_extends _ _ (AddsTrees_trans _ _ _ c.in_ok-no_test.ensures.grows c.negation-2.ensures.grows)

pub returns-in_err-lemma-clause-grows : goal.returns-in_err-lemma-clause-grows
returns-in_err-lemma-clause-grows c = Extends_trans _ _ _ (AddsTrees_extends _ _ (AddsTrees_trans _ _ _ c.in_ok-no_test.ensures.grows c.in_ok-denied.ensures.grows)) c.derive.ensures.grows

pub returns-in_err-made-clause-grows : goal.returns-in_err-made-clause-grows
returns-in_err-made-clause-grows c =
    Extends_trans _ _ _ (Extends_trans _ _ _ (AddsTrees_extends _ _ (AddsTrees_trans _ _ _ c.in_ok-no_test.ensures.grows c.in_ok-denied.ensures.grows)) c.in_ok-lemma.ensures.grows) c.in_err-made.ensures.grows

pub returns-clause-grows : goal.returns-clause-grows
returns-clause-grows c =
    Extends_trans _ _ _ (Extends_trans _ _ _ (AddsTrees_extends _ _ (AddsTrees_trans _ _ _ c.in_ok-no_test.ensures.grows c.in_ok-denied.ensures.grows)) c.in_ok-lemma.ensures.grows) c.in_ok-made.ensures.grows
