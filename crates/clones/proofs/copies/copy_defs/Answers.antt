use Rattle.std.proofs.Common.{◌≡◌, get_or, map, All, sym, ap, subst, ◌∙◌, List}
use Rattle.std.proofs.lemmas.List.{get_or_default}
use Rattle.trees.proofs.Nodes.{Grows_trans}
use Rattle.tasks.specs.declared.declaration.Def.{Def}
use Rattle.tasks.specs.Task.{Defines}
use Rattle.tasks.specs.Meaning.{definition_at}
use Rattle.clones.specs.Meaning.{map_at}
use Rattle.clones.specs.Copies.{DefHeld, definition_mapped}
use Rattle.clones.proofs.Steps.{map_held, known_on}
use Rattle.clones.proofs.Stays.{def_stays, def_held}
use Rattle.clones.proofs.Loops.{copied_none, copied_all, copied_next}
use Rattle.clones.proofs.copies.copy_defs.Goals as goal
use Rattle.tasks.proofs.outside.Passed.{no_ok, no_value}

abbrev none : Def
none = record { symbol = 0; equation = record { 0 = 0 } }

pub loop-def-init : goal.loop-def-init
loop-def-init c = copied_none definition_at DefHeld definition_mapped c.args.morphism.now c.args.store.now c.args.known.now c.new-out.result.items c.new-out.ensures.items c.requires.known

pub map_tree-requires-clause-map_held : goal.map_tree-requires-clause-map_held
map_tree-requires-clause-map_held c = map_held c.args.store.now c.loop-def.store c.loop-def.invariant.grows c.args.morphism.now c.requires.map_held

pub map_tree-requires-clause-known : goal.map_tree-requires-clause-known
map_tree-requires-clause-known c = known_on c.args.morphism.now c.args.store.now c.loop-def.store c.loop-def.invariant.grows c.requires.map_held c.loop-def.known c.loop-def.invariant.are_known

pub map_tree-requires-clause-held : goal.map_tree-requires-clause-held
map_tree-requires-clause-held c = def_held c.args.store.now c.loop-def.store c.loop-def.invariant.grows (get_or c.args.defs.now c.loop-def.def-index none) (c.requires.held c.loop-def.def-index none c.loop-def-test.true)

pub loop-def-preserved : goal.loop-def-preserved
loop-def-preserved c =
    let s = c.loop-def.store in
    let t = c.map_tree.new.store in
    let mo = c.args.morphism.now in
    let x : Def = get_or c.args.defs.now c.loop-def.def-index none in
    let new : Def = record { symbol = c.map_symbol-symbol.result; equation = c.in_ok-equation.equation } in
    let made : definition_at t new ≡ definition_mapped (map_at s mo) (definition_at s x) = λ i. record { symbol = c.map_symbol-symbol.ensures i; equation = c.in_ok-equation.ensures.mapped.is i } in
    copied_next definition_at DefHeld definition_mapped def_stays def_held mo c.args.store.now s t c.loop-def.known c.map_tree.new.known c.args.defs.now c.loop-def.out.items c.push.new.self.items c.loop-def.def-index
    x new c.requires.map_held c.requires.held c.loop-def-test.true (get_or_default c.args.defs.now c.loop-def.def-index none x c.loop-def-test.true) c.loop-def.invariant c.in_ok-equation.ensures.grows c.in_ok-equation.ensures.known made (c.in_ok-equation.ensures.mapped.held) c.in_ok-push.ensures.items

pub returns-clause-tree : goal.returns-clause-tree
returns-clause-tree c = ap Defines (ap (map (definition_at c.loop-def.store)) c.from_vec.ensures ∙ copied_all definition_at DefHeld definition_mapped c.args.morphism.now c.args.store.now c.loop-def.store c.loop-def.known c.args.defs.now c.loop-def.out.items c.loop-def.def-index c.loop-def-test.false c.loop-def.invariant)

pub returns-clause-new_held : goal.returns-clause-new_held
returns-clause-new_held c = subst (λ (z : List Def). All (DefHeld c.loop-def.store) z) (sym c.from_vec.ensures) c.loop-def.invariant.held

pub returns-clause-new_known : goal.returns-clause-new_known
returns-clause-new_known c = c.loop-def.invariant.are_known

pub returns-clause-grows : goal.returns-clause-grows
returns-clause-grows c = c.loop-def.invariant.grows

pub returns-in_err-equation-clause-tree : goal.returns-in_err-equation-clause-tree
returns-in_err-equation-clause-tree c = no_value _ _ c.from_residual.result c.from_residual.ensures.1

pub returns-in_err-equation-clause-new_held : goal.returns-in_err-equation-clause-new_held
returns-in_err-equation-clause-new_held c = no_value _ _ c.from_residual.result c.from_residual.ensures.1

pub returns-in_err-equation-clause-new_known : goal.returns-in_err-equation-clause-new_known
returns-in_err-equation-clause-new_known c = no_ok _ _ c.from_residual.result c.from_residual.ensures.1

pub returns-in_err-equation-clause-grows : goal.returns-in_err-equation-clause-grows
returns-in_err-equation-clause-grows c = Grows_trans c.args.store.now c.loop-def.store c.map_tree.new.store c.loop-def.invariant.grows c.map_tree.ensures.grows

pub returns-in_err-push-clause-tree : goal.returns-in_err-push-clause-tree
returns-in_err-push-clause-tree c = no_value _ _ c.from_residual-in_err-push.result c.from_residual-in_err-push.ensures.1

pub returns-in_err-push-clause-new_held : goal.returns-in_err-push-clause-new_held
returns-in_err-push-clause-new_held c = no_value _ _ c.from_residual-in_err-push.result c.from_residual-in_err-push.ensures.1

pub returns-in_err-push-clause-new_known : goal.returns-in_err-push-clause-new_known
returns-in_err-push-clause-new_known c = no_ok _ _ c.from_residual-in_err-push.result c.from_residual-in_err-push.ensures.1

pub returns-in_err-push-clause-grows : goal.returns-in_err-push-clause-grows
returns-in_err-push-clause-grows c = Grows_trans c.args.store.now c.loop-def.store c.map_tree.new.store c.loop-def.invariant.grows c.map_tree.ensures.grows
