use Rattle.std.proofs.Common.{refl}
use Rattle.std.proofs.lemmas.Result.{IfOk-weaker, IfErr-weaker}
use Rattle.open_types.specs.unify_types.Pairs.{HasPrincipal}
use Rattle.open_types.specs.Patterns.{Notes}
use Rattle.open_types.specs.Drafts.{notes_at}
use Rattle.elab_groups.specs.parts.Elaborated.{IsTypingFault}
use Rattle.elab_groups.specs.parts.Values.{AreSolvedTypes, notes_after}
use Rattle.elab_groups.proofs.parts.Solving.{value_kind, if_err, clash_fault, first_fault, types_of_all}
use Rattle.elab_groups.proofs.parts.solution.solve_draft.Goals as goal

pub determine_types-requires : goal.determine_types-requires
determine_types-requires c u id l v = value_kind c.args.rigid c.solve.new.store _ c.in_ok-solution.solution c.in_ok-solution.ensures.general c.in_ok-solution.ensures.values u id l v

pub returns-in_err-solution-clause-err : goal.returns-in_err-solution-clause-err
returns-in_err-solution-clause-err c =
    let ns : Notes = notes_after c.args.rigid (notes_at c.args.store.now c.args.draft.now) in
    let k = clash_fault c.args.rigid ns c.in_err-solution.field-0.0 (rw c.as_slice.ensures at c.in_err-solution.ensures.clash) in
    if_err c.from_residual.result _ (IsTypingFault c.args.rigid ns) c.from_residual.ensures.1 (λ e h. rw h k)

pub returns-clause-ok : goal.returns-clause-ok
returns-clause-ok c =
    let r = c.args.rigid in
    let ns : Notes = notes_after r (notes_at c.args.store.now c.args.draft.now) in
    let general : HasPrincipal r ns.equations = rw c.as_slice.ensures at c.in_ok-solution.ensures.general in
    let values = rw c.as_slice.ensures at c.in_ok-solution.ensures.values in
    IfOk-weaker c.determine_types.result _ (λ types. AreSolvedTypes c.determine_types.new.store r ns types.items)
    (λ types a. types_of_all r ns c.args.draft.now.takers refl c.requires.own c.solve.new.store c.determine_types.new.store c.in_ok-solution.solution c.determine_types.ensures.grows general values types.items (rw c.as_slice-2.ensures at a)) c.determine_types.ensures.ok

pub returns-clause-err : goal.returns-clause-err
returns-clause-err c =
    let r = c.args.rigid in
    let ns : Notes = notes_after r (notes_at c.args.store.now c.args.draft.now) in
    let general : HasPrincipal r ns.equations = rw c.as_slice.ensures at c.in_ok-solution.ensures.general in
    let values = rw c.as_slice.ensures at c.in_ok-solution.ensures.values in
    IfErr-weaker c.determine_types.result _ (IsTypingFault r ns)
    (λ f a. first_fault r ns c.args.draft.now.takers refl c.requires.own c.solve.new.store c.determine_types.new.store c.in_ok-solution.solution c.determine_types.ensures.grows general values f (rw c.as_slice-2.ensures at a)) c.determine_types.ensures.err
