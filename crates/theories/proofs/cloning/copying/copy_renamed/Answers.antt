use Rattle.std.proofs.Common.{◌<◌, ℕ, List, All, get_or, length, sym, ap, subst, ◌∙◌}
use Rattle.theory_states.specs.declared.states.KnownTheory.{KnownTheory}
use Rattle.tasks.proofs.trees.Nodes.{Grows_trans}
use Rattle.clones.proofs.Steps.{map_held, known_on}
use Rattle.theory_states.specs.Meaning.{MoveHeld}
use Rattle.theory_states.proofs.Moving.{moves_grow}
use Rattle.theories.proofs.cloning.Contents.{moves_are_held, visible_below, copies_kept, held_made, contents}
use Rattle.theories.proofs.cloning.copying.copy_renamed.Goals as goal
use Rattle.tasks.proofs.outside.Passed.{no_ok, no_value}

pub copy_symbols-requires-clause-signature : goal.copy_symbols-requires-clause-signature
copy_symbols-requires-clause-signature c = c.requires.ready.held.typed.signature

pub copy_symbols-requires-clause-map_held : goal.copy_symbols-requires-clause-map_held
copy_symbols-requires-clause-map_held c = c.requires.made.held

pub copy_symbols-requires-clause-known : goal.copy_symbols-requires-clause-known
copy_symbols-requires-clause-known c = c.requires.known

pub copy_symbols-requires-clause-moves : goal.copy_symbols-requires-clause-moves
copy_symbols-requires-clause-moves c = subst (All (MoveHeld c.args.store.now)) (sym c.as_slice-2.ensures) (moves_are_held c.args.store.now c.args.typed.now c.args.open.now c.args.theory c.args.own.now c.args.replacement.now c.args.within.now c.requires.ready c.args.made.now c.requires.made c.index-as_slice-theory.result (c.index-as_slice-theory.is ∙ ap (λ (ks : List KnownTheory). get_or ks c.args.theory c.index-as_slice-theory.result) c.as_slice.ensures))

pub copy_symbols-requires-clause-kept : goal.copy_symbols-requires-clause-kept
copy_symbols-requires-clause-kept c = copies_kept c.args.store.now c.args.typed.now c.args.open.now c.args.theory c.args.own.now c.args.replacement.now c.args.within.now c.requires.ready c.args.made.now c.requires.made c.index-as_slice-theory.result (c.index-as_slice-theory.is ∙ ap (λ (ks : List KnownTheory). get_or ks c.args.theory c.index-as_slice-theory.result) c.as_slice.ensures) c.as_slice-3.result.now c.as_slice-3.ensures

pub copy_places-requires-clause-held : goal.copy_places-requires-clause-held
copy_places-requires-clause-held c = held_made c.args.store.now c.args.typed.now c.args.open.now c.args.theory c.args.own.now c.args.replacement.now c.args.within.now c.requires.ready c.args.made.now c.requires.made c.index-as_slice-theory.result (c.index-as_slice-theory.is ∙ ap (λ (ks : List KnownTheory). get_or ks c.args.theory c.index-as_slice-theory.result) c.as_slice.ensures) c.as_slice-3.result.now c.as_slice-3.ensures c.copy_symbols.new.store c.copy_symbols.ensures.grows c.copy_symbols.new.sig c.in_ok-moves.ensures.entries

pub copy_places-requires-clause-within : goal.copy_places-requires-clause-within
copy_places-requires-clause-within c = subst (λ (ks : List ℕ). All (λ (p : ℕ). p < length c.args.typed.now.decls) ks) (sym c.as_slice-5.ensures) (visible_below c.args.store.now c.args.typed.now c.args.open.now c.args.theory c.args.own.now c.args.replacement.now c.args.within.now c.requires.ready c.args.made.now c.requires.made c.index-as_slice-theory.result (c.index-as_slice-theory.is ∙ ap (λ (ks : List KnownTheory). get_or ks c.args.theory c.index-as_slice-theory.result) c.as_slice.ensures))

pub copy_places-requires-clause-map_held : goal.copy_places-requires-clause-map_held
copy_places-requires-clause-map_held c = map_held c.args.store.now c.copy_symbols.new.store c.copy_symbols.ensures.grows c.args.made.now.morphism c.requires.made.held

pub copy_places-requires-clause-known : goal.copy_places-requires-clause-known
copy_places-requires-clause-known c = known_on c.args.made.now.morphism c.args.store.now c.copy_symbols.new.store c.copy_symbols.ensures.grows c.requires.made.held c.copy_symbols.new.trees c.in_ok-moves.ensures.known

pub returns-clause-copies : goal.returns-clause-copies
returns-clause-copies c =
    contents c.args.store.now c.args.typed.now c.args.open.now c.args.theory c.args.own.now c.args.replacement.now c.args.within.now c.requires.ready c.args.made.now c.requires.made c.index-as_slice-theory.result (c.index-as_slice-theory.is ∙ ap (λ (ks : List KnownTheory). get_or ks c.args.theory c.index-as_slice-theory.result) c.as_slice.ensures) c.as_slice-3.result.now c.as_slice-3.ensures c.copy_symbols.new.store c.copy_symbols.ensures.grows c.copy_symbols.new.sig c.in_ok-moves.ensures.entries
    c.as_slice-4.result.now c.as_slice-4.ensures c.as_slice-5.result.now c.as_slice-5.ensures c.copy_places.new.store c.copy_places.ensures.grows c.copy_places.new.typed c.copy_places.new.open c.in_ok-copy_places.ensures.state
    c.as_slice-2.result.now c.in_ok-moves.moves.items c.as_slice-2.ensures c.in_ok-moves.ensures.moves_held c.in_ok-moves.ensures.moves

pub returns-clause-moves_held : goal.returns-clause-moves_held
returns-clause-moves_held c = moves_grow c.copy_symbols.new.store c.copy_places.new.store c.copy_places.ensures.grows c.in_ok-moves.moves.items c.in_ok-moves.ensures.moves_held

pub returns-clause-held : goal.returns-clause-held
returns-clause-held c = c.in_ok-copy_places.ensures.held

pub returns-clause-grows : goal.returns-clause-grows
returns-clause-grows c = Grows_trans c.args.store.now c.copy_symbols.new.store c.copy_places.new.store c.copy_symbols.ensures.grows c.copy_places.ensures.grows

pub returns-in_err-moves-clause-copies : goal.returns-in_err-moves-clause-copies
returns-in_err-moves-clause-copies c = no_value _ _ c.from_residual.result c.from_residual.ensures.1

pub returns-in_err-moves-clause-moves_held : goal.returns-in_err-moves-clause-moves_held
returns-in_err-moves-clause-moves_held c = no_value _ _ c.from_residual.result c.from_residual.ensures.1

pub returns-in_err-moves-clause-held : goal.returns-in_err-moves-clause-held
returns-in_err-moves-clause-held c = no_ok _ _ c.from_residual.result c.from_residual.ensures.1

pub returns-in_err-copy_places-clause-copies : goal.returns-in_err-copy_places-clause-copies
returns-in_err-copy_places-clause-copies c = no_value _ _ c.from_residual-in_err-copy_places.result c.from_residual-in_err-copy_places.ensures.1

pub returns-in_err-copy_places-clause-moves_held : goal.returns-in_err-copy_places-clause-moves_held
returns-in_err-copy_places-clause-moves_held c = no_value _ _ c.from_residual-in_err-copy_places.result c.from_residual-in_err-copy_places.ensures.1

pub returns-in_err-copy_places-clause-held : goal.returns-in_err-copy_places-clause-held
returns-in_err-copy_places-clause-held c = no_ok _ _ c.from_residual-in_err-copy_places.result c.from_residual-in_err-copy_places.ensures.1
