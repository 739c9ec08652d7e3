use Rattle.std.proofs.Common.{◌≡◌, sym, ap, subst, ◌∙◌}
use Rattle.trees.specs.Tree.{Tree}
use Rattle.trees.specs.Node.{tree_at}
use Rattle.trees.specs.Binding.{inst}
use Rattle.evidence.specs.Laws.{AddsTrees_extends, Extends_trans}
use Rattle.congruence.proofs.Later.{tree_later, held_later}
use Rattle.tr_inline.proofs.Scripts.{closed_term, instance_formula, lemma_later, takes_term_later}
use Rattle.tr_inline.proofs.Claims.{lemma_made}
use Rattle.tr_inline.proofs.lemmas.lemma_at_term.Goals as goal

pub under_forall-body-requires-clause-universal : goal.under_forall-body-requires-clause-universal
under_forall-body-requires-clause-universal c = (c.requires.term.ty, (c.requires.term.body, c.requires.term.is))

pub instance-requires-clause-closed : goal.instance-requires-clause-closed
instance-requires-clause-closed c =
    let d = c.args.draft.now in
    closed_term d.task (tree_at d.trees c.args.lemma.formula) (tree_at d.trees c.args.term) c.requires.term

pub refute_instance-requires-clause-lemma : goal.refute_instance-requires-clause-lemma
refute_instance-requires-clause-lemma c = lemma_later c.args.draft.now c.instance.new.g (AddsTrees_extends _ _ c.in_ok-formula.ensures.grows) c.args.lemma c.requires.lemma

pub refute_instance-requires-clause-term_held : goal.refute_instance-requires-clause-term_held
refute_instance-requires-clause-term_held c = held_later c.args.draft.now c.instance.new.g (AddsTrees_extends _ _ c.in_ok-formula.ensures.grows) c.args.term c.requires.term_held

pub refute_instance-requires-clause-term : goal.refute_instance-requires-clause-term
refute_instance-requires-clause-term c = takes_term_later c.args.draft.now c.instance.new.g (AddsTrees_extends _ _ c.in_ok-formula.ensures.grows) c.args.lemma.formula c.args.term c.requires.lemma.formula.held c.requires.term_held c.requires.term

pub refute_instance-requires-clause-made : goal.refute_instance-requires-clause-made
refute_instance-requires-clause-made c =
    let d = c.args.draft.now in
    instance_formula d c.instance.new.g (AddsTrees_extends _ _ c.in_ok-formula.ensures.grows) c.args.lemma.formula c.args.term c.requires.lemma.formula c.requires.term (tree_at d.trees c.under_forall-body.result) (c.under_forall-body.ensures.tree c.requires.term.ty c.requires.term.body c.requires.term.is) c.in_ok-formula.formula
    c.in_ok-formula.ensures.held c.in_ok-formula.ensures.keeps

pub refute_instance-requires-clause-made_is : goal.refute_instance-requires-clause-made_is
refute_instance-requires-clause-made_is c = λ ty body q.
    let d = c.args.draft.now in
    let x = AddsTrees_extends d c.instance.new.g c.in_ok-formula.ensures.grows in
    let e : tree_at d.trees c.under_forall-body.result ≡ body = c.under_forall-body.ensures.tree ty body (sym (tree_later d c.instance.new.g x c.args.lemma.formula c.requires.lemma.formula.held) ∙ q) in
    c.in_ok-formula.ensures.tree ∙ ap (λ (z : Tree). inst z (tree_at d.trees c.args.term)) e ∙ ap (inst body) (sym (tree_later d c.instance.new.g x c.args.term c.requires.term_held))

pub returns-in_err-formula-clause-grows : goal.returns-in_err-formula-clause-grows
returns-in_err-formula-clause-grows c = AddsTrees_extends _ _ c.instance.ensures.grows

pub returns-in_err-step-clause-grows : goal.returns-in_err-step-clause-grows
returns-in_err-step-clause-grows c = Extends_trans _ _ _ (AddsTrees_extends _ _ c.in_ok-formula.ensures.grows) c.refute_instance.ensures.grows

pub returns-clause-grows : goal.returns-clause-grows
returns-clause-grows c = Extends_trans _ _ _ (AddsTrees_extends _ _ c.in_ok-formula.ensures.grows) c.in_ok-step.ensures.grows

pub returns-clause-lemma : goal.returns-clause-lemma
returns-clause-lemma c =
    let d = c.args.draft.now in
    let f = instance_formula d c.instance.new.g (AddsTrees_extends _ _ c.in_ok-formula.ensures.grows) c.args.lemma.formula c.args.term c.requires.lemma.formula c.requires.term (tree_at d.trees c.under_forall-body.result) (c.under_forall-body.ensures.tree c.requires.term.ty c.requires.term.body c.requires.term.is) c.in_ok-formula.formula
    c.in_ok-formula.ensures.held c.in_ok-formula.ensures.keeps in
    lemma_made c.instance.new.g c.refute_instance.new.draft c.in_ok-step.ensures.grows c.in_ok-formula.formula c.in_ok-step.step f c.in_ok-step.ensures.refutes

pub returns-clause-tree : goal.returns-clause-tree
returns-clause-tree c = λ ty body q.
    let d = c.args.draft.now in
    tree_later c.instance.new.g c.refute_instance.new.draft c.in_ok-step.ensures.grows c.in_ok-formula.formula c.in_ok-formula.ensures.held ∙ c.in_ok-formula.ensures.tree ∙ ap (λ (z : Tree). inst z (tree_at d.trees c.args.term)) (c.under_forall-body.ensures.tree ty body q)
