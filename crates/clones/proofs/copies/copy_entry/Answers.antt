use Rattle.std.proofs.Common.{◌≡◌, List, map, All, sym, ap, subst, ◌∙◌}
use Rattle.std.specs.Option.{option_map}
use Rattle.trees.specs.declared.TermId.{TermId}
use Rattle.trees.specs.Node.{tree_at, Holds, Grows}
use Rattle.trees.proofs.Nodes.{Grows_trans}
use Rattle.tasks.specs.Task.{SymbolTree}
use Rattle.tasks.specs.Meaning.{trees_at}
use Rattle.tasks.proofs.Growth.{trees_later, all_held_later, symbol_later, symbol_held_later}
use Rattle.clones.specs.Mapped.{Map, mapped}
use Rattle.clones.specs.Meaning.{map_at}
use Rattle.clones.proofs.Steps.{map_held, map_stays, known_on, known_back}
use Rattle.clones.proofs.copies.copy_entry.Goals as goal
use Rattle.tasks.proofs.outside.Passed.{no_ok, no_value}

pub map_result-requires-clause-map_held : goal.map_result-requires-clause-map_held
map_result-requires-clause-map_held c = map_held c.args.store.now c.map_trees.new.store c.in_ok-args.ensures.grows c.args.morphism.now c.requires.map_held

pub map_result-requires-clause-known : goal.map_result-requires-clause-known
map_result-requires-clause-known c = known_on c.args.morphism.now c.args.store.now c.map_trees.new.store c.in_ok-args.ensures.grows c.requires.map_held c.map_trees.new.known c.in_ok-args.ensures.new_known

pub map_result-requires-clause-held : goal.map_result-requires-clause-held
map_result-requires-clause-held c = (symbol_held_later c.args.store.now c.map_trees.new.store c.in_ok-args.ensures.grows c.args.info.now c.requires.held).result

pub returns-clause-tree : goal.returns-clause-tree
returns-clause-tree c =
    let s = c.args.store.now in
    let s1 = c.map_trees.new.store in
    let s2 = c.map_result.new.store in
    let m = map_at s c.args.morphism.now in
    let info = c.args.info.now in
    let w : Grows s s1 = c.in_ok-args.ensures.grows in
    let w2 : Grows s1 s2 = c.in_ok-result_type.ensures.grows in
    let args : trees_at s2 c.in_ok-args.args ≡ map (mapped m) (trees_at s info.args) =
    trees_later s1 s2 w2 c.in_ok-args.args c.in_ok-args.ensures.new_held ∙ c.in_ok-args.ensures.tree ∙ ap (λ (z : List TermId). map (mapped m) (trees_at s z)) c.as_slice.ensures in
    let given : option_map (tree_at s1) info.result ≡ option_map (tree_at s) info.result = ap (λ (e : SymbolTree). e.result) (symbol_later s s1 w info c.requires.held) in
    let result : option_map (tree_at s2) c.in_ok-result_type.result_type ≡ option_map (mapped m) (option_map (tree_at s) info.result) =
    c.in_ok-result_type.ensures.tree ∙ ap (λ (v : Map). option_map (mapped v) (option_map (tree_at s1) info.result)) (map_stays s s1 w c.args.morphism.now c.requires.map_held) ∙ ap (option_map (mapped m)) given in
    λ i. record { theory = c.in_ok-theory.ensures i; name = c.in_ok-name.ensures i; kind = info.kind; vars = info.vars; args = args i; result = result i }

pub returns-clause-new_known : goal.returns-clause-new_known
returns-clause-new_known c = known_back c.args.morphism.now c.args.store.now c.map_trees.new.store c.in_ok-args.ensures.grows c.requires.map_held c.map_result.new.store c.map_result.new.known c.in_ok-result_type.ensures.new_known

pub map_trees-requires-clause-map_held : goal.map_trees-requires-clause-map_held
map_trees-requires-clause-map_held c = c.requires.map_held

pub map_trees-requires-clause-known : goal.map_trees-requires-clause-known
map_trees-requires-clause-known c = c.requires.known

pub map_trees-requires-clause-held : goal.map_trees-requires-clause-held
map_trees-requires-clause-held c = subst (λ (z : List TermId). All (Holds c.args.store.now) z) (sym c.as_slice.ensures) c.requires.held.args

pub returns-clause-new_held : goal.returns-clause-new_held
returns-clause-new_held c =
    record { args = all_held_later c.map_trees.new.store c.map_result.new.store c.map_result.ensures.grows c.in_ok-args.args c.in_ok-args.ensures.new_held; result = c.in_ok-result_type.ensures.new_held }

pub returns-clause-grows : goal.returns-clause-grows
returns-clause-grows c = Grows_trans c.args.store.now c.map_trees.new.store c.map_result.new.store c.map_trees.ensures.grows c.map_result.ensures.grows

pub returns-in_err-args-clause-tree : goal.returns-in_err-args-clause-tree
returns-in_err-args-clause-tree c = no_value _ _ c.from_residual.result c.from_residual.ensures.1

pub returns-in_err-args-clause-new_held : goal.returns-in_err-args-clause-new_held
returns-in_err-args-clause-new_held c = no_value _ _ c.from_residual.result c.from_residual.ensures.1

pub returns-in_err-args-clause-new_known : goal.returns-in_err-args-clause-new_known
returns-in_err-args-clause-new_known c = no_ok _ _ c.from_residual.result c.from_residual.ensures.1

pub returns-in_err-args-clause-grows : goal.returns-in_err-args-clause-grows
returns-in_err-args-clause-grows c = c.map_trees.ensures.grows

pub returns-in_err-result_type-clause-tree : goal.returns-in_err-result_type-clause-tree
returns-in_err-result_type-clause-tree c = no_value _ _ c.from_residual-in_err-result_type.result c.from_residual-in_err-result_type.ensures.1

pub returns-in_err-result_type-clause-new_held : goal.returns-in_err-result_type-clause-new_held
returns-in_err-result_type-clause-new_held c = no_value _ _ c.from_residual-in_err-result_type.result c.from_residual-in_err-result_type.ensures.1

pub returns-in_err-result_type-clause-new_known : goal.returns-in_err-result_type-clause-new_known
returns-in_err-result_type-clause-new_known c = no_ok _ _ c.from_residual-in_err-result_type.result c.from_residual-in_err-result_type.ensures.1

pub returns-in_err-result_type-clause-grows : goal.returns-in_err-result_type-clause-grows
returns-in_err-result_type-clause-grows c = Grows_trans c.args.store.now c.map_trees.new.store c.map_result.new.store c.map_trees.ensures.grows c.map_result.ensures.grows

pub returns-in_err-theory-clause-tree : goal.returns-in_err-theory-clause-tree
returns-in_err-theory-clause-tree c = no_value _ _ c.from_residual-in_err-theory.result c.from_residual-in_err-theory.ensures.1

pub returns-in_err-theory-clause-new_held : goal.returns-in_err-theory-clause-new_held
returns-in_err-theory-clause-new_held c = no_value _ _ c.from_residual-in_err-theory.result c.from_residual-in_err-theory.ensures.1

pub returns-in_err-theory-clause-new_known : goal.returns-in_err-theory-clause-new_known
returns-in_err-theory-clause-new_known c = no_ok _ _ c.from_residual-in_err-theory.result c.from_residual-in_err-theory.ensures.1

pub returns-in_err-theory-clause-grows : goal.returns-in_err-theory-clause-grows
returns-in_err-theory-clause-grows c = Grows_trans c.args.store.now c.map_trees.new.store c.map_result.new.store c.map_trees.ensures.grows c.map_result.ensures.grows

pub returns-in_err-name-clause-tree : goal.returns-in_err-name-clause-tree
returns-in_err-name-clause-tree c = no_value _ _ c.from_residual-in_err-name.result c.from_residual-in_err-name.ensures.1

pub returns-in_err-name-clause-new_held : goal.returns-in_err-name-clause-new_held
returns-in_err-name-clause-new_held c = no_value _ _ c.from_residual-in_err-name.result c.from_residual-in_err-name.ensures.1

pub returns-in_err-name-clause-new_known : goal.returns-in_err-name-clause-new_known
returns-in_err-name-clause-new_known c = no_ok _ _ c.from_residual-in_err-name.result c.from_residual-in_err-name.ensures.1

pub returns-in_err-name-clause-grows : goal.returns-in_err-name-clause-grows
returns-in_err-name-clause-grows c = Grows_trans c.args.store.now c.map_trees.new.store c.map_result.new.store c.map_trees.ensures.grows c.map_result.ensures.grows
