use Rattle.std.proofs.Common.{rules, ◌≡◌, ◌<◌, List, sym, ap, subst, ◌∙◌, arith}
use Rattle.trees.specs.Tree.{Tree, Two, HCell}
use Rattle.trees.specs.Node.{tree_at, node_tree, Holds}
use Rattle.tasks.specs.Typing.{members}
use Rattle.evidence.specs.Laws.{Extends_trans}
use Rattle.congruence.proofs.Later.{tree_later, held_later}
use Rattle.inlining.specs.images.Instances.{for_all_at}
use Rattle.tr_inline.specs.Lemmas.{IsLemma, TakesTerms}
use Rattle.tr_inline.proofs.PartlyInlined.{extends_itself}
use Rattle.tr_inline.proofs.Scripts.{first_taken, rest_taken, all_taken, none_taken, takes_terms_later}
use Rattle.tr_inline.proofs.lemmas.+lemma_at_terms.Goals as goal

pub lemma_at_term-requires-clause-term_held : goal.lemma_at_term-requires-clause-term_held
lemma_at_term-requires-clause-term_held t c = omega (arith, c.in-Cell.ensures.below.0, c.requires.terms_held)

pub lemma_at_term-requires-clause-term : goal.lemma_at_term-requires-clause-term
lemma_at_term-requires-clause-term t c =
    let d = c.args.draft.now in
    let e : tree_at d.trees c.args.terms ≡ Two HCell (tree_at d.trees c.in-Cell.first) (tree_at d.trees c.in-Cell.rest) =
    subst (λ (s : List Tree). tree_at s c.args.terms ≡ Two HCell (tree_at s c.in-Cell.first) (tree_at s c.in-Cell.rest)) c.store.ensures c.in-Cell.ensures.tree in
    first_taken d.task (tree_at d.trees c.args.lemma.formula) (tree_at d.trees c.args.terms) (tree_at d.trees c.in-Cell.first) (tree_at d.trees c.in-Cell.rest) e c.requires.terms

pub lemma_at_terms-requires : goal.lemma_at_terms-requires
lemma_at_terms-requires t c =
    let d = c.args.draft.now in
    let d1 = c.lemma_at_term.new.draft in
    let x = c.in_ok-next-in-Cell.ensures.grows in
    let next = c.in_ok-next-in-Cell.next in
    let first = c.in-Cell.first in
    let rest = c.in-Cell.rest in
    let e : tree_at d.trees c.args.terms ≡ Two HCell (tree_at d.trees first) (tree_at d.trees rest) = subst (λ (s : List Tree). tree_at s c.args.terms ≡ Two HCell (tree_at s first) (tree_at s rest)) c.store.ensures c.in-Cell.ensures.tree in
    let below : rest.0 < c.args.terms.0 = c.in-Cell.ensures.below.1 in
    let here : Holds d.trees rest = omega (arith, below, c.requires.terms_held) in
    let lemma : IsLemma d1 next = c.in_ok-next-in-Cell.ensures.lemma in
    let held : Holds d1.trees rest = held_later d d1 x rest here in
    let there : TakesTerms d.task (tree_at d1.trees next.formula) (tree_at d.trees rest) =
    rest_taken d.task (tree_at d.trees c.args.lemma.formula) (tree_at d.trees c.args.terms) (tree_at d.trees first) (tree_at d.trees rest) (tree_at d1.trees next.formula) e c.requires.terms c.in_ok-next-in-Cell.ensures.tree in
    let taken : TakesTerms d1.task (tree_at d1.trees next.formula) (tree_at d1.trees rest) = takes_terms_later d d1 x (tree_at d1.trees next.formula) rest here there in
    search rules

pub returns-in_err-made-in-Cell-clause-grows : goal.returns-in_err-made-in-Cell-clause-grows
returns-in_err-made-in-Cell-clause-grows t c = Extends_trans _ _ _ c.in_ok-next-in-Cell.ensures.grows c.lemma_at_terms.ensures.grows

pub returns-in_ok-made-in-Cell-clause-grows : goal.returns-in_ok-made-in-Cell-clause-grows
returns-in_ok-made-in-Cell-clause-grows t c = Extends_trans _ _ _ c.in_ok-next-in-Cell.ensures.grows c.in_ok-made-in-Cell.ensures.grows

pub returns-in_ok-made-in-Cell-clause-tree : goal.returns-in_ok-made-in-Cell-clause-tree
returns-in_ok-made-in-Cell-clause-tree t c =
    let d = c.args.draft.now in
    let d1 = c.lemma_at_term.new.draft in
    let d2 = c.lemma_at_terms.new.draft in
    let x = c.in_ok-next-in-Cell.ensures.grows in
    let next = c.in_ok-next-in-Cell.next in
    let first = c.in-Cell.first in
    let rest = c.in-Cell.rest in
    let e : tree_at d.trees c.args.terms ≡ Two HCell (tree_at d.trees first) (tree_at d.trees rest) = subst (λ (s : List Tree). tree_at s c.args.terms ≡ Two HCell (tree_at s first) (tree_at s rest)) c.store.ensures c.in-Cell.ensures.tree in
    let here : Holds d.trees rest = omega (arith, c.in-Cell.ensures.below.1, c.requires.terms_held) in
    all_taken d.task (tree_at d.trees c.args.lemma.formula) (tree_at d.trees c.args.terms) (tree_at d.trees first) (tree_at d.trees rest) (tree_at d1.trees next.formula) (tree_at d2.trees c.in_ok-made-in-Cell.made.formula) e c.requires.terms c.in_ok-next-in-Cell.ensures.tree
    (c.in_ok-made-in-Cell.ensures.tree ∙ ap (λ (z : Tree). for_all_at (tree_at d1.trees next.formula) (members z)) (tree_later d d1 x rest here))

pub returns-in_default : goal.returns-in_default
returns-in_default t c =
    let d = c.args.draft.now in
    let q : tree_at d.trees c.args.terms ≡ node_tree d.trees c.node.result = subst (λ (s : List Tree). tree_at s c.args.terms ≡ node_tree s c.node.result) c.store.ensures c.node.ensures.tree in
    let none = none_taken (tree_at d.trees c.args.lemma.formula) d.trees c.node.result c.in_default.not-Cell in
    record { lemma = c.requires.lemma; tree = sym (ap (λ (z : Tree). for_all_at (tree_at d.trees c.args.lemma.formula) (members z)) q ∙ none); grows = extends_itself d }
