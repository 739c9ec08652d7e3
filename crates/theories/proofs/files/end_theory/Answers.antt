use Rattle.std.proofs.Common.{◌≡◌, ◌<◌, ℕ, List, map, length, All, refl, sym, ap, subst, ◌∙◌}
use Rattle.theory_states.specs.declared.moves.Move.{Move}
use Rattle.elaboration_laws.specs.theory_states.goal_tasks.Meaning.{goal_at}
use Rattle.theory_states.specs.declared.states.KnownTheory.{KnownTheory}
use Rattle.theory_states.specs.declared.states.Typed.{Typed}
use Rattle.theory_states.specs.States.{KnownTree, known_as}
use Rattle.theory_states.specs.Moves.{MoveTree}
use Rattle.theory_states.specs.Meaning.{move_at, known_at, opened_at, MoveHeld, KnownTheoryHeld}
use Rattle.theories.proofs.Ending.{ended_is, ended_right}
use Rattle.theories.proofs.Passed.{is_memory}
use Rattle.theories.proofs.files.end_theory.Goals as goal
use Rattle.tasks.proofs.outside.Passed.{no_ok, no_value}

pub returns-clause-right : goal.returns-clause-right
returns-clause-right c =
    let s = c.args.store.now in
    let t = c.args.typed.now in
    let o = c.args.ended in
    let k : KnownTheory = record { theory = record { path = o.path; visible = c.in_ok-visible.visible; goals = o.goals }; axioms = o.axioms; moves = c.from_vec.result } in
    let vis : c.in_ok-visible.visible ≡ o.visible.keys = c.in_ok-visible.ensures ∙ c.as_slice.ensures.keys in
    let mk : List ℕ → List MoveTree → KnownTree = λ vs ms. record { path = o.path; visible = vs; axioms = o.axioms; goals = map (goal_at s) o.goals; moves = ms } in
    let q : known_at s k ≡ known_as (opened_at s o) = ap (λ (vs : List ℕ). mk vs (map (move_at s) c.from_vec.result)) vis ∙ ap (λ (ms : List (Move ℕ)). mk o.visible.keys (map (move_at s) ms)) c.from_vec.ensures in
    let one : KnownTheoryHeld s (length t.decls) k = record { visible = subst (All (λ (p : ℕ). p < length t.decls)) (sym vis) c.requires.held.opened.visible; goals = c.requires.held.opened.goals; moves = subst (All (MoveHeld s)) (sym c.from_vec.ensures) c.requires.held.opened.moves } in
    ended_right s t (record t { known = c.push.new.self }) o k (ap (λ (ks : List KnownTheory). let it : Typed = record t { known = ks } in it) c.in_ok-push.ensures.ok) q one c.requires

pub returns-in_err-visible-clause-ok : goal.returns-in_err-visible-clause-ok
returns-in_err-visible-clause-ok c = no_value _ _ c.from_residual.result c.from_residual.ensures.1

pub returns-in_err-visible-clause-right : goal.returns-in_err-visible-clause-right
returns-in_err-visible-clause-right c = no_ok _ _ c.from_residual.result c.from_residual.ensures.1

pub returns-in_err-push-clause-ok : goal.returns-in_err-push-clause-ok
returns-in_err-push-clause-ok c = no_value _ _ c.from_residual-in_err-push.result c.from_residual-in_err-push.ensures.1

pub returns-in_err-push-clause-right : goal.returns-in_err-push-clause-right
returns-in_err-push-clause-right c = no_ok _ _ c.from_residual-in_err-push.result c.from_residual-in_err-push.ensures.1

pub returns-clause-ok : goal.returns-clause-ok
returns-clause-ok c =
    let s = c.args.store.now in
    let t = c.args.typed.now in
    let o = c.args.ended in
    let k : KnownTheory = record { theory = record { path = o.path; visible = c.in_ok-visible.visible; goals = o.goals }; axioms = o.axioms; moves = c.from_vec.result } in
    let vis : c.in_ok-visible.visible ≡ o.visible.keys = c.in_ok-visible.ensures ∙ c.as_slice.ensures.keys in
    let mk : List ℕ → List MoveTree → KnownTree = λ vs ms. record { path = o.path; visible = vs; axioms = o.axioms; goals = map (goal_at s) o.goals; moves = ms } in
    let q : known_at s k ≡ known_as (opened_at s o) = ap (λ (vs : List ℕ). mk vs (map (move_at s) c.from_vec.result)) vis ∙ ap (λ (ms : List (Move ℕ)). mk o.visible.keys (map (move_at s) ms)) c.from_vec.ensures in
    ended_is s t (record t { known = c.push.new.self }) o k (ap (λ (ks : List KnownTheory). let it : Typed = record t { known = ks } in it) c.in_ok-push.ensures.ok) q o.count refl

pub returns-in_err-visible-clause-err : goal.returns-in_err-visible-clause-err
returns-in_err-visible-clause-err c = is_memory c.from_residual.result c.from_residual.ensures.1

pub returns-in_err-push-clause-err : goal.returns-in_err-push-clause-err
returns-in_err-push-clause-err c = is_memory c.from_residual-in_err-push.result c.from_residual-in_err-push.ensures.1
