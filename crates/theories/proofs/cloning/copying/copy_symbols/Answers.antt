use Rattle.std.proofs.Common.{◌≡◌, ◌++◌, ℕ, List, ap, ◌∙◌}
use Rattle.tasks.specs.trees.Node.{Grows}
use Rattle.tasks.specs.Task.{SymbolTree}
use Rattle.tasks.specs.Meaning.{symbols_at}
use Rattle.clones.specs.Mapped.{Map}
use Rattle.clones.specs.Meaning.{map_at}
use Rattle.clones.proofs.Steps.{map_held, map_stays, known_on, known_back}
use Rattle.elab_groups.proofs.parts.Entering.{entries_stay, signature_grows}
use Rattle.clones.specs.clone_copies.Entries.{entries_copied}
use Rattle.theory_states.proofs.Moving.{moves_stay, moves_grow}
use Rattle.theories.proofs.cloning.Kept.{all_held, signature_made}
use Rattle.theories.proofs.cloning.copying.copy_symbols.Goals as goal
use Rattle.tasks.proofs.outside.Passed.{no_ok, no_value}

pub push_entries-requires-clause-int : goal.push_entries-requires-clause-int
push_entries-requires-clause-int c = (signature_grows c.args.store.now c.map_moves.new.store c.map_moves.ensures.grows c.args.sig.now.symbols c.requires.signature).int

pub push_entries-requires-clause-entries : goal.push_entries-requires-clause-entries
push_entries-requires-clause-entries c = all_held c.map_moves.new.store c.args.sig.now.symbols (signature_grows c.args.store.now c.map_moves.new.store c.map_moves.ensures.grows c.args.sig.now.symbols c.requires.signature)

pub push_entries-requires-clause-map_held : goal.push_entries-requires-clause-map_held
push_entries-requires-clause-map_held c = map_held c.args.store.now c.map_moves.new.store c.map_moves.ensures.grows c.args.made.now.morphism c.requires.map_held

pub push_entries-requires-clause-known : goal.push_entries-requires-clause-known
push_entries-requires-clause-known c = known_on c.args.made.now.morphism c.args.store.now c.map_moves.new.store c.map_moves.ensures.grows c.requires.map_held c.map_moves.new.known c.in_ok-mapped.ensures.known

pub returns-clause-entries : goal.returns-clause-entries
returns-clause-entries c =
    let s = c.args.store.now in
    let s1 = c.map_moves.new.store in
    let s2 = c.push_entries.new.store in
    let w : Grows s s1 = c.map_moves.ensures.grows in
    let is = c.args.sig.now.symbols in
    let mo = c.args.made.now.morphism in
    let path = c.args.path.now in
    let within = c.args.within.now in
    let ks = c.args.made.now.symbols.items in
    let old = symbols_at s is in
    let copies = entries_copied old (map_at s mo) path within ks in
    let made : symbols_at s2 c.push_entries.new.sig.symbols ≡ old ++ copies =
    c.in_ok-push_entries.ensures.symbols
    ∙ (ap (λ (es : List SymbolTree). es ++ entries_copied es (map_at s1 mo) path within c.as_slice.result.now) (entries_stay s s1 w is c.requires.signature)
    ∙ (ap (λ (m : Map). old ++ entries_copied old m path within c.as_slice.result.now) (map_stays s s1 w mo c.requires.map_held)
    ∙ ap (λ (js : List ℕ). old ++ entries_copied old (map_at s mo) path within js) c.as_slice.ensures.value)) in
    record {
      symbols = made;
      signature = signature_made s s2 is c.push_entries.new.sig.symbols copies c.requires.signature made c.in_ok-push_entries.ensures.held c.requires.kept;
      ints = c.push_entries.ensures.ints;
    }

pub returns-clause-moves : goal.returns-clause-moves
returns-clause-moves c = moves_stay c.map_moves.new.store c.push_entries.new.store c.push_entries.ensures.grows c.in_ok-mapped.mapped.items c.in_ok-mapped.ensures.result_held ∙ c.in_ok-mapped.ensures.are c.args.store.now

pub returns-clause-moves_held : goal.returns-clause-moves_held
returns-clause-moves_held c = moves_grow c.map_moves.new.store c.push_entries.new.store c.push_entries.ensures.grows c.in_ok-mapped.mapped.items c.in_ok-mapped.ensures.result_held

pub returns-clause-known : goal.returns-clause-known
returns-clause-known c = known_back c.args.made.now.morphism c.args.store.now c.map_moves.new.store c.map_moves.ensures.grows c.requires.map_held c.push_entries.new.store c.push_entries.new.known c.in_ok-push_entries.ensures.known

pub returns-in_err-mapped-clause-entries : goal.returns-in_err-mapped-clause-entries
returns-in_err-mapped-clause-entries c = no_ok _ _ c.from_residual.result c.from_residual.ensures.1

pub returns-in_err-mapped-clause-moves : goal.returns-in_err-mapped-clause-moves
returns-in_err-mapped-clause-moves c = no_value _ _ c.from_residual.result c.from_residual.ensures.1

pub returns-in_err-mapped-clause-moves_held : goal.returns-in_err-mapped-clause-moves_held
returns-in_err-mapped-clause-moves_held c = no_value _ _ c.from_residual.result c.from_residual.ensures.1

pub returns-in_err-mapped-clause-known : goal.returns-in_err-mapped-clause-known
returns-in_err-mapped-clause-known c = no_ok _ _ c.from_residual.result c.from_residual.ensures.1

pub returns-in_err-push_entries-clause-entries : goal.returns-in_err-push_entries-clause-entries
returns-in_err-push_entries-clause-entries c = no_ok _ _ c.from_residual-in_err-push_entries.result c.from_residual-in_err-push_entries.ensures.1

pub returns-in_err-push_entries-clause-moves : goal.returns-in_err-push_entries-clause-moves
returns-in_err-push_entries-clause-moves c = no_value _ _ c.from_residual-in_err-push_entries.result c.from_residual-in_err-push_entries.ensures.1

pub returns-in_err-push_entries-clause-moves_held : goal.returns-in_err-push_entries-clause-moves_held
returns-in_err-push_entries-clause-moves_held c = no_value _ _ c.from_residual-in_err-push_entries.result c.from_residual-in_err-push_entries.ensures.1

pub returns-in_err-push_entries-clause-known : goal.returns-in_err-push_entries-clause-known
returns-in_err-push_entries-clause-known c = no_ok _ _ c.from_residual-in_err-push_entries.result c.from_residual-in_err-push_entries.ensures.1
