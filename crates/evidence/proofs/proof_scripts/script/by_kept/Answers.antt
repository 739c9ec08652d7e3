use Rattle.std.proofs.Common.{rules, ◌∙◌, ◌+◌, ◌≤◌, length, List, subst, ap}
use Rattle.std.proofs.lemmas.Result.{IfOk-weaker}
use Rattle.std.proofs.lemmas.List.{length-map, map-append}
use Rattle.trees.specs.Tree.{Tree}
use Rattle.trees.specs.Node.{tree_at}
use Rattle.tasks.specs.Meaning.{trees_at}
use Rattle.evidence.specs.Drafts.{Refutes}
use Rattle.evidence.proofs.Formulas.{both_formulas}
use Rattle.evidence.specs.proof_scripts.Scripts.{places_of}
use Rattle.evidence.proofs.proof_scripts.Following.{kept_fits, kept_after}
use Rattle.evidence.proofs.proof_scripts.script.by_kept.Goals as goal

pub places_after-requires : goal.places_after-requires
places_after-requires c =
    let d = c.args.draft.now in
    let fits : length c.args.front.now + length c.args.tail.now ≤ 18446744073709551615 = search rules in
    kept_fits (length c.args.front.now) (length c.args.tail.now) (trees_at d.trees c.args.tail.now) c.args.places c.requires.kept.kept (length-map c.args.tail.now (tree_at d.trees)) fits c.requires.kept.are

pub keep-requires-clause-sequent : goal.keep-requires-clause-sequent
keep-requires-clause-sequent c = both_formulas c.args.draft.now c.args.front.now c.args.tail.now c.deref.result.now (c.deref.ensures.value ∙ c.in_ok-sequent.ensures) c.requires.front c.requires.tail

pub keep-requires-clause-kept : goal.keep-requires-clause-kept
keep-requires-clause-kept c =
    let n = c.deref-2.ensures.value ∙ c.in_ok-places.ensures in
    kept_after c.args.draft.now c.args.front.now c.args.tail.now c.deref.result.now (places_of c.args.places) c.deref-2.result.now c.args.step (c.deref.ensures.value ∙ c.in_ok-sequent.ensures) n c.requires.kept

pub returns-clause-refutes : goal.returns-clause-refutes
returns-clause-refutes c =
    let d = c.args.draft.now in
    let e = ap (trees_at d.trees) (c.deref.ensures.value ∙ c.in_ok-sequent.ensures) ∙ map-append (tree_at d.trees) c.args.front.now c.args.tail.now in
    IfOk-weaker c.keep.result _ _ (λ k r. subst (λ (z : List Tree). Refutes c.keep.new.self k z) e r) c.keep.ensures.refutes
