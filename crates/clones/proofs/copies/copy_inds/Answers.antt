use Rattle.std.proofs.Common.{◌≡◌, map, All, sym, ap, subst, ◌∙◌, List}
use Rattle.trees.specs.declared.TermId.{TermId}
use Rattle.trees.specs.Node.{Holds}
use Rattle.trees.proofs.Nodes.{Grows_trans}
use Rattle.tasks.specs.declared.declaration.Ind.{Ind}
use Rattle.tasks.specs.Task.{Induces}
use Rattle.tasks.specs.Meaning.{trees_at, inductive_at, InductiveHeld}
use Rattle.clones.specs.Mapped.{mapped}
use Rattle.clones.specs.Meaning.{map_at}
use Rattle.clones.specs.Copies.{inductive_mapped}
use Rattle.clones.proofs.Steps.{map_held, known_on}
use Rattle.clones.proofs.Stays.{ind_stays, ind_held}
use Rattle.clones.proofs.Loops.{copied_none, copied_all, copied_next}
use Rattle.clones.proofs.copies.copy_inds.Goals as goal
use Rattle.tasks.proofs.outside.Passed.{no_ok, no_value}

pub loop-ind-init : goal.loop-ind-init
loop-ind-init c = copied_none inductive_at InductiveHeld inductive_mapped c.args.morphism.now c.args.store.now c.args.known.now c.new-out.result.items c.new-out.ensures.items c.requires.known

pub map_trees-requires-clause-map_held : goal.map_trees-requires-clause-map_held
map_trees-requires-clause-map_held c = map_held c.args.store.now c.loop-ind.store c.loop-ind.invariant.grows c.args.morphism.now c.requires.map_held

pub map_trees-requires-clause-known : goal.map_trees-requires-clause-known
map_trees-requires-clause-known c = known_on c.args.morphism.now c.args.store.now c.loop-ind.store c.loop-ind.invariant.grows c.requires.map_held c.loop-ind.known c.loop-ind.invariant.are_known

pub map_trees-requires-clause-held : goal.map_trees-requires-clause-held
map_trees-requires-clause-held c =
    let s = c.args.store.now in
    let x = c.ind-item.result in
    let here : InductiveHeld s x = subst (InductiveHeld s) (sym c.ind-item.is) (c.requires.held c.loop-ind.ind-index x c.loop-ind-test.true) in
    subst (λ (z : List TermId). All (Holds c.loop-ind.store) z) (sym c.as_slice.ensures) (ind_held s c.loop-ind.store c.loop-ind.invariant.grows x here).clauses

pub loop-ind-preserved : goal.loop-ind-preserved
loop-ind-preserved c =
    let s = c.loop-ind.store in
    let t = c.map_trees.new.store in
    let mo = c.args.morphism.now in
    let x : Ind = c.ind-item.result in
    let new : Ind = record { symbol = c.map_symbol-symbol.result; clauses = c.in_ok-clauses.clauses } in
    let clauses : trees_at t c.in_ok-clauses.clauses ≡ map (mapped (map_at s mo)) (trees_at s x.clauses) = c.in_ok-clauses.ensures.tree ∙ ap (λ (z : List TermId). map (mapped (map_at s mo)) (trees_at s z)) c.as_slice.ensures in
    let made : inductive_at t new ≡ inductive_mapped (map_at s mo) (inductive_at s x) = λ i. record { symbol = c.map_symbol-symbol.ensures i; clauses = clauses i } in
    copied_next inductive_at InductiveHeld inductive_mapped ind_stays ind_held mo c.args.store.now s t c.loop-ind.known c.map_trees.new.known c.args.inds.now c.loop-ind.out.items c.push.new.self.items c.loop-ind.ind-index
    x new c.requires.map_held c.requires.held c.loop-ind-test.true c.ind-item.is c.loop-ind.invariant c.in_ok-clauses.ensures.grows c.in_ok-clauses.ensures.new_known made (record { clauses = c.in_ok-clauses.ensures.new_held }) c.in_ok-push.ensures.items

pub returns-clause-tree : goal.returns-clause-tree
returns-clause-tree c = ap Induces (ap (map (inductive_at c.loop-ind.store)) c.from_vec.ensures ∙ copied_all inductive_at InductiveHeld inductive_mapped c.args.morphism.now c.args.store.now c.loop-ind.store c.loop-ind.known c.args.inds.now c.loop-ind.out.items c.loop-ind.ind-index c.loop-ind-test.false c.loop-ind.invariant)

pub returns-clause-new_held : goal.returns-clause-new_held
returns-clause-new_held c = subst (λ (z : List Ind). All (InductiveHeld c.loop-ind.store) z) (sym c.from_vec.ensures) c.loop-ind.invariant.held

pub returns-clause-new_known : goal.returns-clause-new_known
returns-clause-new_known c = c.loop-ind.invariant.are_known

pub returns-clause-grows : goal.returns-clause-grows
returns-clause-grows c = c.loop-ind.invariant.grows

pub returns-in_err-clauses-clause-tree : goal.returns-in_err-clauses-clause-tree
returns-in_err-clauses-clause-tree c = no_value _ _ c.from_residual.result c.from_residual.ensures.1

pub returns-in_err-clauses-clause-new_held : goal.returns-in_err-clauses-clause-new_held
returns-in_err-clauses-clause-new_held c = no_value _ _ c.from_residual.result c.from_residual.ensures.1

pub returns-in_err-clauses-clause-new_known : goal.returns-in_err-clauses-clause-new_known
returns-in_err-clauses-clause-new_known c = no_ok _ _ c.from_residual.result c.from_residual.ensures.1

pub returns-in_err-clauses-clause-grows : goal.returns-in_err-clauses-clause-grows
returns-in_err-clauses-clause-grows c = Grows_trans c.args.store.now c.loop-ind.store c.map_trees.new.store c.loop-ind.invariant.grows c.map_trees.ensures.grows

pub returns-in_err-push-clause-tree : goal.returns-in_err-push-clause-tree
returns-in_err-push-clause-tree c = no_value _ _ c.from_residual-in_err-push.result c.from_residual-in_err-push.ensures.1

pub returns-in_err-push-clause-new_held : goal.returns-in_err-push-clause-new_held
returns-in_err-push-clause-new_held c = no_value _ _ c.from_residual-in_err-push.result c.from_residual-in_err-push.ensures.1

pub returns-in_err-push-clause-new_known : goal.returns-in_err-push-clause-new_known
returns-in_err-push-clause-new_known c = no_ok _ _ c.from_residual-in_err-push.result c.from_residual-in_err-push.ensures.1

pub returns-in_err-push-clause-grows : goal.returns-in_err-push-clause-grows
returns-in_err-push-clause-grows c = Grows_trans c.args.store.now c.loop-ind.store c.map_trees.new.store c.loop-ind.invariant.grows c.map_trees.ensures.grows
