use Rattle.std.proofs.Common.{◌≡◌, ◌++◌, List, Some, length, get_or, slice_get, option_map, refl, sym, ap, subst, ◌∙◌, map}
use Rattle.std.proofs.lemmas.Option.{slice_get-map, slice_get_read}
use Rattle.trees.specs.Tree.{Tree}
use Rattle.theory_states.specs.declared.states.KnownTheory.{KnownTheory}
use Rattle.theory_states.specs.Moves.{brought, handed}
use Rattle.theory_states.specs.States.{joined_places}
use Rattle.theory_states.specs.Meaning.{known_at, KnownTheoryHeld}
use Rattle.theory_states.specs.Uses.{last_part, alias_text}
use Rattle.theory_states.proofs.Pushing.{state_used, held_used}
use Rattle.theory_states.proofs.uses.use_theory.Goals as goal

module _ (c : goal.In_ok-bring_names) where
  abbrev k : KnownTheory
  k = c.index-as_slice-place.result

  at_place : k ≡ get_or c.args.typed.now.known c.in_ok-place.place k
  at_place = c.index-as_slice-place.is ∙ ap (λ (ks : List KnownTheory). get_or ks c.in_ok-place.place k) c.as_slice.ensures

  keys : c.join.new.self.visible.keys ≡ joined_places c.args.open.now.visible.keys k.theory.visible
  keys = c.in_ok-join.ensures.visible ∙ ap (joined_places c.args.open.now.visible.keys) c.as_slice-2.ensures

  scope : c.bring_names.new.open.scope ≡ brought c.args.link (last_part c.args.path.now.parts) (alias_text c.args.alias.now) k.moves c.join.new.self.scope
  scope = cc (c.in_ok-bring_names.ensures.scope, c.last_part.ensures, c.alias_text.ensures, c.as_slice-moves.ensures)

  moves : c.bring_names.new.open.moves.items ≡ c.join.new.self.moves.items ++ handed c.args.link k.moves
  moves = cc (c.in_ok-bring_names.ensures.moves, c.as_slice-moves.ensures)

  here : (s : List Tree) → slice_get (map (known_at s) c.args.typed.now.known) c.in_ok-place.place ≡ Some (known_at s k)
  here s =
      let ks = c.args.typed.now.known in
      slice_get-map (known_at s) ks c.in_ok-place.place ∙ ap (option_map (known_at s)) (slice_get_read ks (length ks) c.in_ok-place.place k refl c.in_ok-place.ensures.within at_place)

pub returns-clause-ok : goal.returns-clause-ok
returns-clause-ok c = λ s. record {
  theory = known_at s (k c);
  found = sym (c.in_ok-place.ensures.found s) ∙ here c s;
  is = state_used s c.args.typed.now c.args.open.now c.join.new.self c.bring_names.new.open (k c) c.args.link (last_part c.args.path.now.parts) (alias_text c.args.alias.now) c.join.ensures.others (keys c) (scope c) (moves c) c.bring_names.ensures.others;
}

pub returns-clause-held : goal.returns-clause-held
returns-clause-held c = λ s h.
    let t = c.args.typed.now in
    held_used s t c.args.open.now c.join.new.self c.bring_names.new.open (k c) c.args.link (last_part c.args.path.now.parts) (alias_text c.args.alias.now) c.join.ensures.others (keys c) (scope c) (moves c) c.bring_names.ensures.others
    (subst (KnownTheoryHeld s (length t.decls)) (sym (at_place c)) (h.typed.known c.in_ok-place.place (k c) c.in_ok-place.ensures.within)) h
