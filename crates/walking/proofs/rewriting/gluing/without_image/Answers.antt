use Rattle.std.proofs.Common.{◌∙◌}
use Rattle.std.proofs.lemmas.Result.{IfOk-weaker}
use Rattle.evidence.specs.Laws.{Extends_trans, AddsTrees_extends}
use Rattle.evidence.proofs.Formulas.{formula_later, formulas_later}
use Rattle.walking.proofs.rewriting.Cuts.{all_formulas, kept_at, holds_cut, fails_cut, cut_done}
use Rattle.walking.proofs.rewriting.gluing.without_image.Goals as goal

pub negation-requires : goal.negation-requires
negation-requires c = c.requires.half.half_is.formula

pub keep-requires-clause-sequent : goal.keep-requires-clause-sequent
keep-requires-clause-sequent c =
    all_formulas c.args.draft.now c.negation.new.draft (AddsTrees_extends _ _ c.in_ok-negated.ensures.grows) c.args.sequent.now c.deref.result.now c.requires.sequent c.args.place c.args.half c.requires.half
    c.in_ok-negated.negated c.in_ok-negated.ensures.formula c.in_ok-negated.ensures.tree (c.deref.ensures.value ∙ c.in_ok-all.ensures)

pub keep-requires-clause-kept : goal.keep-requires-clause-kept
keep-requires-clause-kept c =
    kept_at c.args.draft.now c.negation.new.draft (AddsTrees_extends _ _ c.in_ok-negated.ensures.grows) c.args.sequent.now c.deref.result.now c.requires.sequent c.args.place c.args.half c.requires.half
    c.in_ok-negated.negated c.in_ok-negated.ensures.formula c.in_ok-negated.ensures.tree (c.deref.ensures.value ∙ c.in_ok-all.ensures)

pub returns-in_err-kept-clause-grows : goal.returns-in_err-kept-clause-grows
returns-in_err-kept-clause-grows c = Extends_trans _ _ _ (AddsTrees_extends _ _ c.in_ok-negated.ensures.grows) c.keep.ensures.grows

pub cut-requires-clause-sequent : goal.cut-requires-clause-sequent
cut-requires-clause-sequent c =
    let x = Extends_trans c.args.draft.now c.negation.new.draft c.keep.new.self (AddsTrees_extends _ _ c.in_ok-negated.ensures.grows) c.in_ok-kept.ensures.grows in
    formulas_later c.args.draft.now c.keep.new.self x c.args.sequent.now c.requires.sequent

pub cut-requires-clause-formula : goal.cut-requires-clause-formula
cut-requires-clause-formula c =
    let x = Extends_trans c.args.draft.now c.negation.new.draft c.keep.new.self (AddsTrees_extends _ _ c.in_ok-negated.ensures.grows) c.in_ok-kept.ensures.grows in
    formula_later c.args.draft.now c.keep.new.self x c.args.half.image c.requires.half.half_is.formula

pub cut-requires-clause-yes : goal.cut-requires-clause-yes
cut-requires-clause-yes c =
    holds_cut c.args.draft.now c.negation.new.draft (AddsTrees_extends _ _ c.in_ok-negated.ensures.grows) c.args.sequent.now c.deref.result.now c.requires.sequent c.args.place c.args.half c.requires.half
    c.in_ok-negated.negated c.in_ok-negated.ensures.formula c.in_ok-negated.ensures.tree (c.deref.ensures.value ∙ c.in_ok-all.ensures) c.keep.new.self c.in_ok-kept.ensures.grows c.args.step c.requires.step

pub cut-requires-clause-no : goal.cut-requires-clause-no
cut-requires-clause-no c =
    fails_cut c.args.draft.now c.negation.new.draft (AddsTrees_extends _ _ c.in_ok-negated.ensures.grows) c.args.sequent.now c.deref.result.now c.requires.sequent c.args.place c.args.half c.requires.half
    c.in_ok-negated.negated c.in_ok-negated.ensures.formula c.in_ok-negated.ensures.tree (c.deref.ensures.value ∙ c.in_ok-all.ensures) c.keep.new.self c.in_ok-kept.ensures.grows c.in_ok-kept.kept c.in_ok-kept.ensures.refutes

pub returns-clause-refutes : goal.returns-clause-refutes
returns-clause-refutes c =
    IfOk-weaker c.cut.result _ _ (λ k r.
    cut_done c.args.draft.now c.negation.new.draft (AddsTrees_extends _ _ c.in_ok-negated.ensures.grows) c.args.sequent.now c.deref.result.now c.requires.sequent c.args.place c.args.half c.requires.half
    c.in_ok-negated.negated c.in_ok-negated.ensures.formula c.in_ok-negated.ensures.tree (c.deref.ensures.value ∙ c.in_ok-all.ensures) c.keep.new.self c.in_ok-kept.ensures.grows c.cut.new.self k r) c.cut.ensures.refutes

pub returns-clause-grows : goal.returns-clause-grows
returns-clause-grows c = Extends_trans _ _ _ (Extends_trans _ _ _ (AddsTrees_extends _ _ c.in_ok-negated.ensures.grows) c.in_ok-kept.ensures.grows) c.cut.ensures.grows
