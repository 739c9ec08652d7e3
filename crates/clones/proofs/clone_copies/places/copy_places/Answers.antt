use Rattle.std.proofs.Common.{◌≡◌, ◌+◌, ℕ, List, drop, get_or, length, sym, ap, ◌∙◌, arith}
use Rattle.std.proofs.Math.ListN.{length-map}
use Rattle.std.proofs.lemmas.List.{at_drop_more}
use Rattle.tasks.specs.trees.Node.{Grows}
use Rattle.tasks.proofs.trees.Nodes.{Grows_trans}
use Rattle.tasks.specs.Meaning.{declaration_at, declarations_at}
use Rattle.theory_states.specs.States.{StateTree}
use Rattle.theory_states.specs.Meaning.{state_at}
use Rattle.clones.proofs.Steps.{map_held, known_on, known_back}
use Rattle.clones.specs.clone_copies.Places.{Copying, with_place, with_places}
use Rattle.clones.specs.clone_copies.Meaning.{copying_at}
use Rattle.clones.proofs.clone_copies.Pushed.{copying_stays}
use Rattle.clones.proofs.clone_copies.Longer.{place_longer}
use Rattle.clones.proofs.clone_copies.places.copy_places.Goals as goal
use Rattle.tasks.proofs.outside.Passed.{no_ok}

pub copy_place-requires-clause-map_held : goal.copy_place-requires-clause-map_held
copy_place-requires-clause-map_held c = map_held c.args.store.now c.loop-place.store c.loop-place.invariant.grows c.args.given.now.morphism.now c.requires.map_held

pub copy_place-requires-clause-known : goal.copy_place-requires-clause-known
copy_place-requires-clause-known c = known_on c.args.given.now.morphism.now c.args.store.now c.loop-place.store c.loop-place.invariant.grows c.requires.map_held c.loop-place.trees c.loop-place.invariant.known

pub loop-place-preserved : goal.loop-place-preserved
loop-place-preserved c =
    let s = c.args.store.now in
    let s1 = c.loop-place.store in
    let s2 = c.copy_place.new.store in
    let inv = c.loop-place.invariant in
    let w : Grows s s1 = inv.grows in
    let w2 : Grows s1 s2 = c.copy_place.ensures.grows in
    let j = c.args.given.now in
    let x = copying_at s j in
    let ks = c.args.places.now in
    let i = c.loop-place.place-index in
    let k = get_or ks i 0 in
    let t1 = c.loop-place.typed in
    let t2 = c.copy_place.new.typed in
    let old = state_at s1 t1 c.loop-place.open in
    let made : state_at s2 t2 c.copy_place.new.open ≡ with_place x k old = c.in_ok-copy_place.ensures.state ∙ ap (λ (y : Copying). with_place y k old) (copying_stays s s1 w j c.requires.map_held) in
    let n1 : length (declarations_at s1 t1.decls) ≡ length t1.decls = length-map t1.decls (declaration_at s1) in
    let n2 : length (declarations_at s2 t2.decls) ≡ length t2.decls = length-map t2.decls (declaration_at s2) in
    let n : length (declarations_at s2 t2.decls) ≡ length (with_place x k old).decls = ap (λ (v : StateTree). length v.decls) made in
    record {
      grows = Grows_trans s s1 s2 w w2;
      known = known_back j.morphism.now s s1 w c.requires.map_held s2 c.copy_place.new.trees c.in_ok-copy_place.ensures.known;
      held = c.in_ok-copy_place.ensures.held;
      longer = omega (arith, inv.longer, n1, n2, n, place_longer x k old);
      state = ap (with_places x (drop (i + 1) ks)) made ∙ (sym (at_drop_more (λ (ys : List ℕ). with_places x ys old) ks i 0 c.loop-place-test.true) ∙ inv.state);
    }

pub returns-in_err-copy_place-clause-state : goal.returns-in_err-copy_place-clause-state
returns-in_err-copy_place-clause-state c = no_ok _ _ c.from_residual.result c.from_residual.ensures.1

pub returns-in_err-copy_place-clause-held : goal.returns-in_err-copy_place-clause-held
returns-in_err-copy_place-clause-held c = no_ok _ _ c.from_residual.result c.from_residual.ensures.1

pub returns-in_err-copy_place-clause-known : goal.returns-in_err-copy_place-clause-known
returns-in_err-copy_place-clause-known c = no_ok _ _ c.from_residual.result c.from_residual.ensures.1

pub copy_place-requires-clause-held : goal.copy_place-requires-clause-held
copy_place-requires-clause-held c = c.loop-place.invariant.held

pub returns-in_err-copy_place-clause-grows : goal.returns-in_err-copy_place-clause-grows
returns-in_err-copy_place-clause-grows c = Grows_trans c.args.store.now c.loop-place.store c.copy_place.new.store c.loop-place.invariant.grows c.copy_place.ensures.grows

pub returns-clause-held : goal.returns-clause-held
returns-clause-held c = c.loop-place.invariant.held

pub returns-clause-known : goal.returns-clause-known
returns-clause-known c = c.loop-place.invariant.known

pub returns-clause-grows : goal.returns-clause-grows
returns-clause-grows c = c.loop-place.invariant.grows
