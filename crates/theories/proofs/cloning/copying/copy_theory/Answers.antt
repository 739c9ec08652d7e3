use Rattle.std.proofs.Common.{◌≡◌, ℕ, List, map, All, sym, ap, subst, ◌∙◌}
use Rattle.std.specs.Option.{option_copied}
use Rattle.theory_states.specs.declared.moves.Move.{Move}
use Rattle.surface.specs.Lexeme.{Word}
use Rattle.theory_states.specs.Meaning.{move_at, state_at, MoveHeld}
use Rattle.theories.specs.cloning.Cloned.{within_of, with_names}
use Rattle.theories.specs.cloning.Owned.{known_theory_at}
use Rattle.theories.specs.cloning.ReadElements.{copying_by}
use Rattle.theories.specs.cloning.Copied.{IsCopyReady, AreContents}
use Rattle.theories.proofs.cloning.Stages.{named_state, named_held, copied_by}
use Rattle.theories.proofs.cloning.copying.copy_theory.Goals as goal
use Rattle.tasks.proofs.plain_laws.Results.{if_ok_both as ok_both}
use Rattle.tasks.proofs.outside.Passed.{no_ok}

pub copy_contents-requires : goal.copy_contents-requires
copy_contents-requires c =
    let within = within_of c.args.link c.args.last.now (option_copied c.args.alias) c.args.open.now.within.items in
    let is : c.as_slice-2.result.now ≡ within = c.as_slice-2.ensures.value ∙ (c.in_ok-within.ensures ∙ ap (within_of c.args.link c.args.last.now (option_copied c.args.alias)) c.as_slice.ensures.value) in
    subst (IsCopyReady c.args.store.now c.args.typed.now c.args.open.now c.args.theory c.args.own.now c.args.replacement.now) (sym is) c.requires

pub returns-clause-copied : goal.returns-clause-copied
returns-clause-copied c =
    let s = c.args.store.now in
    let before = state_at s c.args.typed.now c.args.open.now in
    let x = c.copy_contents in
    let o2 = x.new.open in
    let o3 = c.bring_names.new.open in
    let ms = map (move_at x.new.store) c.in_ok-moves.moves.items in
    let last = c.args.last.now in
    let alias = option_copied c.args.alias in
    let within = within_of c.args.link last alias c.args.open.now.within.items in
    let is : c.as_slice-2.result.now ≡ within = c.as_slice-2.ensures.value ∙ (c.in_ok-within.ensures ∙ ap (within_of c.args.link last alias) c.as_slice.ensures.value) in
    let theory = known_theory_at s c.args.typed.now c.args.theory in
    let after = state_at x.new.store x.new.typed o2 in
    let contents : AreContents theory (copying_by s before theory c.args.replacement.now within) ms before after =
    subst (λ (v : Word). AreContents theory (copying_by s before theory c.args.replacement.now v) ms before after) is c.in_ok-moves.ensures.copies in
    ok_both c.bring_names.result _ _ _ (λ u p q.
    let named : state_at x.new.store x.new.typed o3 ≡ with_names c.args.link last alias ms after =
    subst (λ (z : List (Move ℕ)). state_at x.new.store x.new.typed o3 ≡ with_names c.args.link last alias (map (move_at x.new.store) z) after) c.as_slice-3.ensures.value (named_state x.new.store x.new.typed o2 o3 c.args.link last alias c.as_slice-3.result.now c.bring_names.ensures.others p q) in
    copied_by c.args.link last alias theory (copying_by s before theory c.args.replacement.now within) ms before after (state_at x.new.store x.new.typed o3) contents named) c.bring_names.ensures.scope c.bring_names.ensures.moves

pub returns-clause-held : goal.returns-clause-held
returns-clause-held c =
    let x = c.copy_contents in
    let held = subst (All (MoveHeld x.new.store)) (sym c.as_slice-3.ensures.value) c.in_ok-moves.ensures.moves_held in
    ok_both c.bring_names.result _ _ _ (λ u p q. named_held x.new.store x.new.typed x.new.open c.bring_names.new.open c.args.link c.args.last.now (option_copied c.args.alias) c.as_slice-3.result.now c.bring_names.ensures.others p q held c.in_ok-moves.ensures.held)
    c.bring_names.ensures.scope c.bring_names.ensures.moves

pub returns-in_err-within-clause-copied : goal.returns-in_err-within-clause-copied
returns-in_err-within-clause-copied c = no_ok _ _ c.from_residual.result c.from_residual.ensures.1

pub returns-in_err-within-clause-held : goal.returns-in_err-within-clause-held
returns-in_err-within-clause-held c = no_ok _ _ c.from_residual.result c.from_residual.ensures.1

pub returns-in_err-moves-clause-copied : goal.returns-in_err-moves-clause-copied
returns-in_err-moves-clause-copied c = no_ok _ _ c.from_residual-in_err-moves.result c.from_residual-in_err-moves.ensures.1

pub returns-in_err-moves-clause-held : goal.returns-in_err-moves-clause-held
returns-in_err-moves-clause-held c = no_ok _ _ c.from_residual-in_err-moves.result c.from_residual-in_err-moves.ensures.1
