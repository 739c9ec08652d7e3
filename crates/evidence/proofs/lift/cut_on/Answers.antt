use Rattle.std.proofs.lemmas.Result.{IfOk-weaker}
use Rattle.evidence.specs.Laws.{Extends_trans, AddsTrees_extends}
use Rattle.evidence.proofs.Formulas.{none_formulas, one_formula, formula_later, formulas_later}
use Rattle.evidence.proofs.Lifted.{lemma_later, cut_yes, cut_no, cut_done}
use Rattle.evidence.proofs.lift.cut_on.Goals as goal

pub keep_but-requires-clause-front : goal.keep_but-requires-clause-front
keep_but-requires-clause-front c = none_formulas c.negation.new.draft

pub keep_but-requires-clause-middle : goal.keep_but-requires-clause-middle
keep_but-requires-clause-middle c = formulas_later c.args.draft.now c.negation.new.draft (AddsTrees_extends _ _ c.in_ok-no_fact.ensures.grows) c.args.sequent.now c.requires.sequent

pub keep_but-requires-clause-last : goal.keep_but-requires-clause-last
keep_but-requires-clause-last c = one_formula c.negation.new.draft c.in_ok-no_fact.no_fact c.in_ok-no_fact.ensures.formula

pub keep_but-requires-clause-step : goal.keep_but-requires-clause-step
keep_but-requires-clause-step c =
    lemma_later c.args.draft.now c.negation.new.draft (AddsTrees_extends _ _ c.in_ok-no_fact.ensures.grows) c.in_ok-no_fact.no_fact c.args.formula c.args.lemma c.in_ok-no_fact.ensures.tree c.requires.proved

pub returns-in_err-without-clause-grows : goal.returns-in_err-without-clause-grows
returns-in_err-without-clause-grows c = Extends_trans _ _ _ (AddsTrees_extends _ _ c.in_ok-no_fact.ensures.grows) c.keep_but.ensures.grows

pub cut-requires-clause-sequent : goal.cut-requires-clause-sequent
cut-requires-clause-sequent c =
    let x = Extends_trans c.args.draft.now c.negation.new.draft c.keep_but.new.draft (AddsTrees_extends _ _ c.in_ok-no_fact.ensures.grows) c.in_ok-without.ensures.grows in
    formulas_later c.args.draft.now c.keep_but.new.draft x c.args.sequent.now c.requires.sequent

pub cut-requires-clause-formula : goal.cut-requires-clause-formula
cut-requires-clause-formula c =
    let x = Extends_trans c.args.draft.now c.negation.new.draft c.keep_but.new.draft (AddsTrees_extends _ _ c.in_ok-no_fact.ensures.grows) c.in_ok-without.ensures.grows in
    formula_later c.args.draft.now c.keep_but.new.draft x c.args.formula c.requires.formula

pub cut-requires-clause-yes : goal.cut-requires-clause-yes
cut-requires-clause-yes c =
    let x = Extends_trans c.args.draft.now c.negation.new.draft c.keep_but.new.draft (AddsTrees_extends _ _ c.in_ok-no_fact.ensures.grows) c.in_ok-without.ensures.grows in
    cut_yes c.args.draft.now c.keep_but.new.draft x c.args.sequent.now c.requires.sequent c.args.formula c.args.with_fact c.requires.formula c.requires.taken

pub cut-requires-clause-no : goal.cut-requires-clause-no
cut-requires-clause-no c =
    let d = c.args.draft.now in
    let d1 = c.negation.new.draft in
    let y = AddsTrees_extends d d1 c.in_ok-no_fact.ensures.grows in
    let x = Extends_trans d d1 c.keep_but.new.draft y c.in_ok-without.ensures.grows in
    cut_no d c.keep_but.new.draft x c.args.sequent.now c.requires.sequent d1 y c.args.formula c.in_ok-no_fact.no_fact c.in_ok-without.without c.requires.formula c.in_ok-no_fact.ensures.tree c.in_ok-without.ensures.refutes

pub returns-clause-refutes : goal.returns-clause-refutes
returns-clause-refutes c =
    let d = c.args.draft.now in
    let x = Extends_trans d c.negation.new.draft c.keep_but.new.draft (AddsTrees_extends _ _ c.in_ok-no_fact.ensures.grows) c.in_ok-without.ensures.grows in
    IfOk-weaker c.cut.result _ _ (λ k r. cut_done d c.keep_but.new.draft x c.args.sequent.now c.requires.sequent c.cut.new.self k r) c.cut.ensures.refutes

pub returns-clause-grows : goal.returns-clause-grows
returns-clause-grows c = Extends_trans _ _ _ (Extends_trans _ _ _ (AddsTrees_extends _ _ c.in_ok-no_fact.ensures.grows) c.in_ok-without.ensures.grows) c.cut.ensures.grows
