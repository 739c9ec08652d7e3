use Rattle.std.proofs.Common.{◌≡◌, map, All, sym, ap, subst, ◌∙◌, List}
use Rattle.trees.specs.declared.TermId.{TermId}
use Rattle.trees.specs.Node.{Holds}
use Rattle.trees.proofs.Nodes.{Grows_trans}
use Rattle.tasks.specs.declared.declaration.Con.{Con}
use Rattle.tasks.specs.Meaning.{trees_at, con_at, ConHeld}
use Rattle.clones.specs.Mapped.{mapped}
use Rattle.clones.specs.Meaning.{map_at}
use Rattle.clones.specs.Copies.{con_mapped}
use Rattle.clones.proofs.Steps.{map_held, known_on}
use Rattle.clones.proofs.Stays.{con_stays, con_held}
use Rattle.clones.proofs.Loops.{copied_none, copied_all, copied_next}
use Rattle.clones.proofs.copies.copy_cons.Goals as goal
use Rattle.tasks.proofs.outside.Passed.{no_ok, no_value}

pub loop-con-init : goal.loop-con-init
loop-con-init c = copied_none con_at ConHeld con_mapped c.args.morphism.now c.args.store.now c.args.known.now c.new-out.result.items c.new-out.ensures.items c.requires.known

pub map_trees-requires-clause-map_held : goal.map_trees-requires-clause-map_held
map_trees-requires-clause-map_held c = map_held c.args.store.now c.loop-con.store c.loop-con.invariant.grows c.args.morphism.now c.requires.map_held

pub map_trees-requires-clause-known : goal.map_trees-requires-clause-known
map_trees-requires-clause-known c = known_on c.args.morphism.now c.args.store.now c.loop-con.store c.loop-con.invariant.grows c.requires.map_held c.loop-con.known c.loop-con.invariant.are_known

pub map_trees-requires-clause-held : goal.map_trees-requires-clause-held
map_trees-requires-clause-held c =
    let s = c.args.store.now in
    let x = c.con-item.result in
    let here : ConHeld s x = subst (ConHeld s) (sym c.con-item.is) (c.requires.held c.loop-con.con-index x c.loop-con-test.true) in
    subst (λ (z : List TermId). All (Holds c.loop-con.store) z) (sym c.as_slice-in-loop-con.ensures) (con_held s c.loop-con.store c.loop-con.invariant.grows x here).fields

pub loop-con-preserved : goal.loop-con-preserved
loop-con-preserved c =
    let s = c.loop-con.store in
    let t = c.map_trees.new.store in
    let mo = c.args.morphism.now in
    let x : Con = c.con-item.result in
    let new : Con = record { symbol = c.map_symbol-symbol.result; fields = c.in_ok-fields.fields; projections = c.in_ok-projections.projections } in
    let m = map_at s mo in
    let fields : trees_at t c.in_ok-fields.fields ≡ map (mapped m) (trees_at s x.fields) = c.in_ok-fields.ensures.tree ∙ ap (λ (z : List TermId). map (mapped m) (trees_at s z)) c.as_slice-in-loop-con.ensures in
    let projections : c.in_ok-projections.projections ≡ map m.symbols x.projections = c.in_ok-projections.ensures ∙ ap (map m.symbols) c.as_slice.ensures in
    let made : con_at t new ≡ con_mapped (map_at s mo) (con_at s x) = λ i. record { symbol = c.map_symbol-symbol.ensures i; fields = fields i; projections = projections i } in
    copied_next con_at ConHeld con_mapped con_stays con_held mo c.args.store.now s t c.loop-con.known c.map_trees.new.known c.args.cons.now c.loop-con.out.items c.push.new.self.items c.loop-con.con-index
    x new c.requires.map_held c.requires.held c.loop-con-test.true c.con-item.is c.loop-con.invariant c.in_ok-fields.ensures.grows c.in_ok-fields.ensures.new_known made (record { fields = c.in_ok-fields.ensures.new_held }) c.in_ok-push.ensures.items

pub returns-clause-tree : goal.returns-clause-tree
returns-clause-tree c = ap (map (con_at c.loop-con.store)) c.from_vec.ensures ∙ copied_all con_at ConHeld con_mapped c.args.morphism.now c.args.store.now c.loop-con.store c.loop-con.known c.args.cons.now c.loop-con.out.items c.loop-con.con-index c.loop-con-test.false c.loop-con.invariant

pub returns-clause-new_held : goal.returns-clause-new_held
returns-clause-new_held c = subst (λ (z : List Con). All (ConHeld c.loop-con.store) z) (sym c.from_vec.ensures) c.loop-con.invariant.held

pub returns-clause-new_known : goal.returns-clause-new_known
returns-clause-new_known c = c.loop-con.invariant.are_known

pub returns-clause-grows : goal.returns-clause-grows
returns-clause-grows c = c.loop-con.invariant.grows

pub returns-in_err-projections-clause-tree : goal.returns-in_err-projections-clause-tree
returns-in_err-projections-clause-tree c = no_value _ _ c.from_residual.result c.from_residual.ensures.1

pub returns-in_err-projections-clause-new_held : goal.returns-in_err-projections-clause-new_held
returns-in_err-projections-clause-new_held c = no_value _ _ c.from_residual.result c.from_residual.ensures.1

pub returns-in_err-projections-clause-new_known : goal.returns-in_err-projections-clause-new_known
returns-in_err-projections-clause-new_known c = no_ok _ _ c.from_residual.result c.from_residual.ensures.1

pub returns-in_err-projections-clause-grows : goal.returns-in_err-projections-clause-grows
returns-in_err-projections-clause-grows c = c.loop-con.invariant.grows

pub returns-in_err-fields-clause-tree : goal.returns-in_err-fields-clause-tree
returns-in_err-fields-clause-tree c = no_value _ _ c.from_residual-in_err-fields.result c.from_residual-in_err-fields.ensures.1

pub returns-in_err-fields-clause-new_held : goal.returns-in_err-fields-clause-new_held
returns-in_err-fields-clause-new_held c = no_value _ _ c.from_residual-in_err-fields.result c.from_residual-in_err-fields.ensures.1

pub returns-in_err-fields-clause-new_known : goal.returns-in_err-fields-clause-new_known
returns-in_err-fields-clause-new_known c = no_ok _ _ c.from_residual-in_err-fields.result c.from_residual-in_err-fields.ensures.1

pub returns-in_err-fields-clause-grows : goal.returns-in_err-fields-clause-grows
returns-in_err-fields-clause-grows c = Grows_trans c.args.store.now c.loop-con.store c.map_trees.new.store c.loop-con.invariant.grows c.map_trees.ensures.grows

pub returns-in_err-push-clause-tree : goal.returns-in_err-push-clause-tree
returns-in_err-push-clause-tree c = no_value _ _ c.from_residual-in_err-push.result c.from_residual-in_err-push.ensures.1

pub returns-in_err-push-clause-new_held : goal.returns-in_err-push-clause-new_held
returns-in_err-push-clause-new_held c = no_value _ _ c.from_residual-in_err-push.result c.from_residual-in_err-push.ensures.1

pub returns-in_err-push-clause-new_known : goal.returns-in_err-push-clause-new_known
returns-in_err-push-clause-new_known c = no_ok _ _ c.from_residual-in_err-push.result c.from_residual-in_err-push.ensures.1

pub returns-in_err-push-clause-grows : goal.returns-in_err-push-clause-grows
returns-in_err-push-clause-grows c = Grows_trans c.args.store.now c.loop-con.store c.map_trees.new.store c.loop-con.invariant.grows c.map_trees.ensures.grows
