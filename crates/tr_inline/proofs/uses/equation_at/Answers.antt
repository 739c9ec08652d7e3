use Rattle.std.proofs.Common.{◌≡◌, ap, ◌∙◌}
use Rattle.trees.specs.Node.{tree_at}
use Rattle.evidence.specs.Laws.{Extends_trans, AddsTrees_extends}
use Rattle.congruence.proofs.Later.{tree_later}
use Rattle.tr_inline.proofs.Claims.{equation_tree, formula_here, types_here, fact_here, lemma_made}
use Rattle.tr_inline.proofs.uses.equation_at.Goals as goal

pub fact_lemma-requires-clause-types_held : goal.fact_lemma-requires-clause-types_held
fact_lemma-requires-clause-types_held c =
    let d = c.args.draft.now in
    types_here d c.args.def c.requires.defined (tree_at d.trees c.args.at.types) (tree_at d.trees c.args.at.args) c.requires.closed c.args.types.now c.requires.types_held c.requires.types c.inst_types.new.g (AddsTrees_extends _ _ c.in_ok-formula.ensures.grows) c.in_ok-formula.formula c.in_ok-formula.ensures.held c.in_ok-formula.ensures.tree

pub fact_lemma-requires-clause-formula : goal.fact_lemma-requires-clause-formula
fact_lemma-requires-clause-formula c =
    let d = c.args.draft.now in
    formula_here d c.args.def c.requires.defined (tree_at d.trees c.args.at.types) (tree_at d.trees c.args.at.args) c.requires.closed c.args.types.now c.requires.types_held c.requires.types c.inst_types.new.g (AddsTrees_extends _ _ c.in_ok-formula.ensures.grows) c.in_ok-formula.formula c.in_ok-formula.ensures.held c.in_ok-formula.ensures.tree

pub fact_lemma-requires-clause-fact : goal.fact_lemma-requires-clause-fact
fact_lemma-requires-clause-fact c =
    let d = c.args.draft.now in
    fact_here d c.args.def c.requires.defined (tree_at d.trees c.args.at.types) (tree_at d.trees c.args.at.args) c.requires.closed c.args.types.now c.requires.types_held c.requires.types c.inst_types.new.g (AddsTrees_extends _ _ c.in_ok-formula.ensures.grows) c.in_ok-formula.formula c.in_ok-formula.ensures.held c.in_ok-formula.ensures.tree

pub returns-in_err-formula-clause-grows : goal.returns-in_err-formula-clause-grows
returns-in_err-formula-clause-grows c = AddsTrees_extends _ _ c.inst_types.ensures.grows

pub returns-in_err-step-clause-grows : goal.returns-in_err-step-clause-grows
returns-in_err-step-clause-grows c = Extends_trans _ _ _ (AddsTrees_extends _ _ c.in_ok-formula.ensures.grows) c.fact_lemma.ensures.grows

pub returns-clause-grows : goal.returns-clause-grows
returns-clause-grows c = Extends_trans _ _ _ (AddsTrees_extends _ _ c.in_ok-formula.ensures.grows) c.in_ok-step.ensures.grows

pub returns-clause-lemma : goal.returns-clause-lemma
returns-clause-lemma c =
    let d = c.args.draft.now in
    let f = formula_here d c.args.def c.requires.defined (tree_at d.trees c.args.at.types) (tree_at d.trees c.args.at.args) c.requires.closed c.args.types.now c.requires.types_held c.requires.types c.inst_types.new.g (AddsTrees_extends _ _ c.in_ok-formula.ensures.grows) c.in_ok-formula.formula c.in_ok-formula.ensures.held c.in_ok-formula.ensures.tree in
    lemma_made c.inst_types.new.g c.fact_lemma.new.draft c.in_ok-step.ensures.grows c.in_ok-formula.formula c.in_ok-step.step f c.in_ok-step.ensures.refutes

pub returns-clause-tree : goal.returns-clause-tree
returns-clause-tree c =
    let d = c.args.draft.now in
    tree_later c.inst_types.new.g c.fact_lemma.new.draft c.in_ok-step.ensures.grows c.in_ok-formula.formula c.in_ok-formula.ensures.held
    ∙ equation_tree d c.args.def c.requires.defined (tree_at d.trees c.args.at.types) (tree_at d.trees c.args.at.args) c.requires.closed c.args.types.now c.requires.types_held c.requires.types c.inst_types.new.g (AddsTrees_extends _ _ c.in_ok-formula.ensures.grows) c.in_ok-formula.formula c.in_ok-formula.ensures.held c.in_ok-formula.ensures.tree
