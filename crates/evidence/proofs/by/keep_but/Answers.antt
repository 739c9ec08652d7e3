use Rattle.std.proofs.Common.{◌∙◌, subst, List}
use Rattle.std.proofs.lemmas.Result.{IfOk-weaker}
use Rattle.trees.specs.Tree.{Tree}
use Rattle.evidence.specs.Drafts.{Refutes}
use Rattle.evidence.proofs.Kept.{pushed_last}
use Rattle.evidence.proofs.Formulas.{both_formulas, whole_trees, but_kept_at}
use Rattle.evidence.proofs.by.keep_but.Goals as goal

pub keep-requires-clause-sequent : goal.keep-requires-clause-sequent
keep-requires-clause-sequent c =
    let d = c.args.draft.now in
    both_formulas d c.args.front.now c.deref.result.now c.deref-2.result.now (c.deref-2.ensures.value ∙ c.in_ok-sequent.ensures) c.requires.front (both_formulas d c.args.middle.now c.args.last.now c.deref.result.now (c.deref.ensures.value ∙ c.in_ok-tail.ensures) c.requires.middle c.requires.last)

pub keep-requires-clause-kept : goal.keep-requires-clause-kept
keep-requires-clause-kept c =
    but_kept_at c.args.draft.now c.args.front.now c.args.middle.now c.args.last.now c.deref.result.now c.deref-2.result.now c.new-places.result.items c.count_on.new.places.items c.deref-3.result.now c.args.step c.requires.step
    (c.deref.ensures.value ∙ c.in_ok-tail.ensures) (c.deref-2.ensures.value ∙ c.in_ok-sequent.ensures) c.new-places.ensures.items c.in_ok-count_on.ensures (c.deref-3.ensures.value ∙ c.in_ok-count_on-2.ensures)

pub returns-clause-refutes : goal.returns-clause-refutes
returns-clause-refutes c =
    let d = c.args.draft.now in
    let e = whole_trees d c.args.front.now c.args.middle.now c.args.last.now c.deref.result.now c.deref-2.result.now (c.deref.ensures.value ∙ c.in_ok-tail.ensures) (c.deref-2.ensures.value ∙ c.in_ok-sequent.ensures) in
    IfOk-weaker c.keep.result _ _ (λ k r. subst (λ (z : List Tree). Refutes c.keep.new.self k z) e r) c.keep.ensures.refutes

pub returns-clause-last : goal.returns-clause-last
returns-clause-last c = pushed_last c.keep.result c.args.draft.now c.keep.new.self _ c.keep.ensures.number c.keep.ensures.pushed
