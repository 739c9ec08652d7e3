use Rattle.std.proofs.Common.{◌≡◌, true, false, map, sym, ap, ◌∙◌}
use Rattle.std.specs.Option.{option_map}
use Rattle.tasks.specs.trees.Node.{tree_at, Grows}
use Rattle.tasks.proofs.trees.Nodes.{Grows_trans}
use Rattle.tasks.specs.Task.{SymbolTree}
use Rattle.tasks.specs.Meaning.{trees_at}
use Rattle.tasks.proofs.Growth.{symbol_later}
use Rattle.clones.specs.Mapped.{Map, mapped}
use Rattle.clones.specs.Meaning.{map_at}
use Rattle.clones.proofs.Steps.{map_held, map_stays, known_on, known_back}
use Rattle.clones.proofs.clone_elements.elements.same_signature.Goals as goal
use Rattle.tasks.proofs.outside.Passed.{no_ok, no_value}

pub same_result-requires-clause-map_held : goal.same_result-requires-clause-map_held
same_result-requires-clause-map_held c = map_held c.args.store.now c.same_types.new.store c.same_types.ensures.grows c.args.morphism.now c.requires.map_held

pub same_result-requires-clause-known : goal.same_result-requires-clause-known
same_result-requires-clause-known c = known_on c.args.morphism.now c.args.store.now c.same_types.new.store c.same_types.ensures.grows c.requires.map_held c.same_types.new.known c.in_ok-args.ensures.known

pub returns-then-args-clause-same : goal.returns-then-args-clause-same
returns-then-args-clause-same c =
    let s = c.args.store.now in
    let s1 = c.same_types.new.store in
    let w : Grows s s1 = c.same_types.ensures.grows in
    let mo = c.args.morphism.now in
    let m = map_at s mo in
    let a = c.args.info.now in
    let b = c.args.other.now in
    let args : map (mapped m) (trees_at s a.args) ≡ trees_at s b.args = rw (c.as_slice-types.ensures, c.as_slice.ensures) at (c.in_ok-args.ensures.same.0 c.if-args.true) in
    let ra : option_map (tree_at s1) a.result ≡ option_map (tree_at s) a.result = ap (λ (e : SymbolTree). e.result) (symbol_later s s1 w a c.requires.held) in
    let rb : option_map (tree_at s1) b.result ≡ option_map (tree_at s) b.result = ap (λ (e : SymbolTree). e.result) (symbol_later s s1 w b c.requires.other_held) in
    let p : option_map (mapped (map_at s1 mo)) (option_map (tree_at s1) a.result) ≡ option_map (mapped m) (option_map (tree_at s) a.result) =
    ap (λ (v : Map). option_map (mapped v) (option_map (tree_at s1) a.result)) (map_stays s s1 w mo c.requires.map_held) ∙ ap (option_map (mapped m)) ra in
    (λ r. record { args = args; result = sym p ∙ (c.in_ok-results.ensures.same.0 r ∙ rb) }, λ h. c.in_ok-results.ensures.same.1 (p ∙ (h.result ∙ sym rb)))

pub returns-then-args-clause-known : goal.returns-then-args-clause-known
returns-then-args-clause-known c = known_back c.args.morphism.now c.args.store.now c.same_types.new.store c.same_types.ensures.grows c.requires.map_held c.same_result.new.store c.same_result.new.known c.in_ok-results.ensures.known

pub returns-else-args-clause-known : goal.returns-else-args-clause-known
returns-else-args-clause-known c = known_back c.args.morphism.now c.args.store.now c.same_types.new.store c.same_types.ensures.grows c.requires.map_held c.same_result.new.store c.same_result.new.known c.in_ok-results.ensures.known

pub same_types-requires-clause-map_held : goal.same_types-requires-clause-map_held
same_types-requires-clause-map_held c = c.requires.map_held

pub same_types-requires-clause-known : goal.same_types-requires-clause-known
same_types-requires-clause-known c = c.requires.known

pub returns-then-args-clause-grows : goal.returns-then-args-clause-grows
returns-then-args-clause-grows c = Grows_trans c.args.store.now c.same_types.new.store c.same_result.new.store c.same_types.ensures.grows c.same_result.ensures.grows

pub returns-else-args-clause-grows : goal.returns-else-args-clause-grows
returns-else-args-clause-grows c = Grows_trans c.args.store.now c.same_types.new.store c.same_result.new.store c.same_types.ensures.grows c.same_result.ensures.grows

pub returns-else-args-clause-same : goal.returns-else-args-clause-same
returns-else-args-clause-same c = (λ r. let e : false ≡ true = sym c.if-args.false ∙ r in cc, λ h. c.in_ok-args.ensures.same.1 (rw (c.as_slice-types.ensures, c.as_slice.ensures) h.args))

pub returns-in_err-args-clause-same : goal.returns-in_err-args-clause-same
returns-in_err-args-clause-same c = no_value _ _ c.from_residual.result c.from_residual.ensures.1

pub returns-in_err-args-clause-known : goal.returns-in_err-args-clause-known
returns-in_err-args-clause-known c = no_ok _ _ c.from_residual.result c.from_residual.ensures.1

pub returns-in_err-results-clause-same : goal.returns-in_err-results-clause-same
returns-in_err-results-clause-same c = no_value _ _ c.from_residual-in_err-results.result c.from_residual-in_err-results.ensures.1

pub returns-in_err-results-clause-known : goal.returns-in_err-results-clause-known
returns-in_err-results-clause-known c = no_ok _ _ c.from_residual-in_err-results.result c.from_residual-in_err-results.ensures.1

pub returns-in_err-args-clause-grows : goal.returns-in_err-args-clause-grows
returns-in_err-args-clause-grows c = c.same_types.ensures.grows

pub returns-in_err-results-clause-grows : goal.returns-in_err-results-clause-grows
returns-in_err-results-clause-grows c = Grows_trans c.args.store.now c.same_types.new.store c.same_result.new.store c.same_types.ensures.grows c.same_result.ensures.grows
