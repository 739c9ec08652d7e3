use Rattle.std.proofs.Common.{◌≡◌, map, All, sym, ap, subst, ◌∙◌, List}
use Rattle.trees.proofs.Nodes.{Grows_trans}
use Rattle.tasks.specs.declared.declaration.Con.{Con}
use Rattle.tasks.specs.declared.declaration.Alg.{Alg}
use Rattle.tasks.specs.Task.{Constructs}
use Rattle.tasks.specs.Meaning.{cons_at, algebraic_at, ConHeld, AlgebraicHeld}
use Rattle.clones.specs.Meaning.{map_at}
use Rattle.clones.specs.Copies.{con_mapped, algebraic_mapped}
use Rattle.clones.proofs.Steps.{map_held, known_on}
use Rattle.clones.proofs.Stays.{alg_stays, alg_held}
use Rattle.clones.proofs.Loops.{copied_none, copied_all, copied_next}
use Rattle.clones.proofs.copies.copy_algs.Goals as goal
use Rattle.tasks.proofs.outside.Passed.{no_ok, no_value}

pub loop-alg-init : goal.loop-alg-init
loop-alg-init c = copied_none algebraic_at AlgebraicHeld algebraic_mapped c.args.morphism.now c.args.store.now c.args.known.now c.new-out.result.items c.new-out.ensures.items c.requires.known

pub copy_cons-requires-clause-map_held : goal.copy_cons-requires-clause-map_held
copy_cons-requires-clause-map_held c = map_held c.args.store.now c.loop-alg.store c.loop-alg.invariant.grows c.args.morphism.now c.requires.map_held

pub copy_cons-requires-clause-known : goal.copy_cons-requires-clause-known
copy_cons-requires-clause-known c = known_on c.args.morphism.now c.args.store.now c.loop-alg.store c.loop-alg.invariant.grows c.requires.map_held c.loop-alg.known c.loop-alg.invariant.are_known

pub copy_cons-requires-clause-held : goal.copy_cons-requires-clause-held
copy_cons-requires-clause-held c =
    let s = c.args.store.now in
    let x = c.alg-item.result in
    let here : AlgebraicHeld s x = subst (AlgebraicHeld s) (sym c.alg-item.is) (c.requires.held c.loop-alg.alg-index x c.loop-alg-test.true) in
    subst (λ (z : List Con). All (ConHeld c.loop-alg.store) z) (sym c.as_slice.ensures) (alg_held s c.loop-alg.store c.loop-alg.invariant.grows x here).cons

pub loop-alg-preserved : goal.loop-alg-preserved
loop-alg-preserved c =
    let s = c.loop-alg.store in
    let t = c.copy_cons.new.store in
    let mo = c.args.morphism.now in
    let x : Alg = c.alg-item.result in
    let new : Alg = record { symbol = c.map_symbol-symbol.result; cons = c.in_ok-cons.cons } in
    let m = map_at s mo in
    let cons : cons_at t c.in_ok-cons.cons ≡ map (con_mapped m) (cons_at s x.cons) = c.in_ok-cons.ensures.tree ∙ ap (λ (z : List Con). map (con_mapped m) (cons_at s z)) c.as_slice.ensures in
    let made : algebraic_at t new ≡ algebraic_mapped (map_at s mo) (algebraic_at s x) = λ i. record { symbol = c.map_symbol-symbol.ensures i; cons = cons i } in
    copied_next algebraic_at AlgebraicHeld algebraic_mapped alg_stays alg_held mo c.args.store.now s t c.loop-alg.known c.copy_cons.new.known c.args.algs.now c.loop-alg.out.items c.push.new.self.items c.loop-alg.alg-index
    x new c.requires.map_held c.requires.held c.loop-alg-test.true c.alg-item.is c.loop-alg.invariant c.in_ok-cons.ensures.grows c.in_ok-cons.ensures.new_known made (record { cons = c.in_ok-cons.ensures.new_held }) c.in_ok-push.ensures.items

pub returns-clause-tree : goal.returns-clause-tree
returns-clause-tree c = ap Constructs (ap (map (algebraic_at c.loop-alg.store)) c.from_vec.ensures ∙ copied_all algebraic_at AlgebraicHeld algebraic_mapped c.args.morphism.now c.args.store.now c.loop-alg.store c.loop-alg.known c.args.algs.now c.loop-alg.out.items c.loop-alg.alg-index c.loop-alg-test.false c.loop-alg.invariant)

pub returns-clause-new_held : goal.returns-clause-new_held
returns-clause-new_held c = subst (λ (z : List Alg). All (AlgebraicHeld c.loop-alg.store) z) (sym c.from_vec.ensures) c.loop-alg.invariant.held

pub returns-clause-new_known : goal.returns-clause-new_known
returns-clause-new_known c = c.loop-alg.invariant.are_known

pub returns-clause-grows : goal.returns-clause-grows
returns-clause-grows c = c.loop-alg.invariant.grows

pub returns-in_err-cons-clause-tree : goal.returns-in_err-cons-clause-tree
returns-in_err-cons-clause-tree c = no_value _ _ c.from_residual.result c.from_residual.ensures.1

pub returns-in_err-cons-clause-new_held : goal.returns-in_err-cons-clause-new_held
returns-in_err-cons-clause-new_held c = no_value _ _ c.from_residual.result c.from_residual.ensures.1

pub returns-in_err-cons-clause-new_known : goal.returns-in_err-cons-clause-new_known
returns-in_err-cons-clause-new_known c = no_ok _ _ c.from_residual.result c.from_residual.ensures.1

pub returns-in_err-cons-clause-grows : goal.returns-in_err-cons-clause-grows
returns-in_err-cons-clause-grows c = Grows_trans c.args.store.now c.loop-alg.store c.copy_cons.new.store c.loop-alg.invariant.grows c.copy_cons.ensures.grows

pub returns-in_err-push-clause-tree : goal.returns-in_err-push-clause-tree
returns-in_err-push-clause-tree c = no_value _ _ c.from_residual-in_err-push.result c.from_residual-in_err-push.ensures.1

pub returns-in_err-push-clause-new_held : goal.returns-in_err-push-clause-new_held
returns-in_err-push-clause-new_held c = no_value _ _ c.from_residual-in_err-push.result c.from_residual-in_err-push.ensures.1

pub returns-in_err-push-clause-new_known : goal.returns-in_err-push-clause-new_known
returns-in_err-push-clause-new_known c = no_ok _ _ c.from_residual-in_err-push.result c.from_residual-in_err-push.ensures.1

pub returns-in_err-push-clause-grows : goal.returns-in_err-push-clause-grows
returns-in_err-push-clause-grows c = Grows_trans c.args.store.now c.loop-alg.store c.copy_cons.new.store c.loop-alg.invariant.grows c.copy_cons.ensures.grows
