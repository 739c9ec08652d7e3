use Rattle.std.proofs.Common.{◌∙◌, ◌<◌, length, map, sym, ap, arith}
use Rattle.std.proofs.Math.ListN.{length-map}
use Rattle.std.proofs.lemmas.Option.{slice_get-get_or}
use Rattle.std.proofs.lemmas.Result.{on_ok_weaker}
use Rattle.surface.specs.SurfaceDeclarations.{element_of}
use Rattle.theory_states.specs.States.{StateTree}
use Rattle.theory_states.specs.Meaning.{known_at, state_at}
use Rattle.theory_states.specs.Uses.{last_part, alias_text, OrMemory, IsUnknownTheory}
use Rattle.elab_groups.proofs.parts.Solving.{if_err}
use Rattle.theories.specs.cloning.Cloned.{within_of, copying_in, with_copied_entries, IsCloneFault, of_path}
use Rattle.theories.specs.cloning.Owned.{no_theory}
use Rattle.theories.proofs.cloning.Faults.{or_weaker}
use Rattle.theories.proofs.cloning.TypedClone.{cloned_typed, cloned_placed}
use Rattle.theories.proofs.cloning.Counted.{number_stays}
use Rattle.theories.proofs.cloning.cloning.clone_theory.Goals as goal
use Rattle.tasks.proofs.outside.Passed.{no_ok}

pub returns-clause-typed : goal.returns-clause-typed
returns-clause-typed c =
    let x = c.clone_known in
    let before = state_at c.args.store.now c.args.typed.now c.args.open.now in
    let after = state_at x.new.store x.new.typed x.new.open in
    on_ok_weaker x.result (λ h. cloned_typed c.args.link c.args.path.now c.args.alias.now (map element_of c.args.elements.now) before after h c.requires.typed c.requires.placed) x.ensures.ok

pub returns-clause-placed : goal.returns-clause-placed
returns-clause-placed c =
    let x = c.clone_known in
    let before = state_at c.args.store.now c.args.typed.now c.args.open.now in
    let after = state_at x.new.store x.new.typed x.new.open in
    on_ok_weaker x.result (λ h. cloned_placed c.args.link c.args.path.now c.args.alias.now (map element_of c.args.elements.now) before after h c.requires.typed c.requires.placed) x.ensures.ok

pub returns-clause-count : goal.returns-clause-count
returns-clause-count c =
    let x = c.clone_known in
    let before = state_at c.args.store.now c.args.typed.now c.args.open.now in
    let es = map element_of c.args.elements.now in
    let within = within_of c.args.link (last_part c.args.path.now.parts) (alias_text c.args.alias.now) before.opened.within in
    on_ok_weaker x.result (λ h. ap (λ (z : StateTree). z.number) h.is ∙ number_stays (copying_in before h.theory es within) h.theory.visible (with_copied_entries before h.theory es within)) x.ensures.ok

pub clone_known-requires-clause-found : goal.clone_known-requires-clause-found
clone_known-requires-clause-found c =
    let s = c.args.store.now in
    let known = c.args.typed.now.known in
    let k = c.in_ok-theory.theory in
    let below : k < length (map (known_at s) known) = omega (arith, c.in_ok-theory.ensures.within, length-map known (known_at s)) in
    sym (c.in_ok-theory.ensures.found s) ∙ slice_get-get_or (map (known_at s) known) k no_theory below

pub returns-in_err-theory-clause-err : goal.returns-in_err-theory-clause-err
returns-in_err-theory-clause-err c =
    let s = c.args.store.now in
    let before = state_at s c.args.typed.now c.args.open.now in
    let p = c.args.path.now in
    let es = map element_of c.args.elements.now in
    let told = or_weaker (IsUnknownTheory p before.known before.number) (IsCloneFault p es before) (λ f h. of_path c.in-Ok.ensures h) c.in_err-theory.field-0.0 (c.in_err-theory.ensures.err s) in
    if_err c.from_residual.result _ (OrMemory (IsCloneFault p es before)) c.from_residual.ensures.1 (λ e h. rw h told)

pub returns-in_err-theory-clause-ok : goal.returns-in_err-theory-clause-ok
returns-in_err-theory-clause-ok c = no_ok _ _ c.from_residual.result c.from_residual.ensures.1

pub returns-in_err-theory-clause-held : goal.returns-in_err-theory-clause-held
returns-in_err-theory-clause-held c = no_ok _ _ c.from_residual.result c.from_residual.ensures.1

pub returns-in_err-theory-clause-typed : goal.returns-in_err-theory-clause-typed
returns-in_err-theory-clause-typed c = no_ok _ _ c.from_residual.result c.from_residual.ensures.1

pub returns-in_err-theory-clause-placed : goal.returns-in_err-theory-clause-placed
returns-in_err-theory-clause-placed c = no_ok _ _ c.from_residual.result c.from_residual.ensures.1

pub returns-in_err-theory-clause-count : goal.returns-in_err-theory-clause-count
returns-in_err-theory-clause-count c = no_ok _ _ c.from_residual.result c.from_residual.ensures.1
