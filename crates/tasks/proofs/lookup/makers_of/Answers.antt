use Rattle.std.proofs.Common.{◌≡◌, ◌+◌, ◌-◌, sym, subst, ap, arith, length, List, ℕ, replicate, rules}
use Rattle.tasks.specs.declared.declaration.Decl.{Decl}
use Rattle.tasks.specs.Looking.{AreMadeBy}
use Rattle.tasks.proofs.Marking.{makers_none, makers_step, AreMakersFrom}
use Rattle.tasks.proofs.lookup.makers_of.Goals as goal

pub loop-place-init : goal.loop-place-init
loop-place-init c =
    let ds = c.as_slice-decls.result.now in
    let filled : c.in_ok-makers.makers.items ≡ replicate (length c.args.task.now.sig.value.symbols) (length ds) = search rules in
    (omega arith, makers_none ds (length c.args.task.now.sig.value.symbols) c.in_ok-makers.makers.items filled)

pub loop-place-preserved : goal.loop-place-preserved
loop-place-preserved c =
    let ds = c.as_slice-decls.result.now in
    let place = c.loop-place.place - 1 in
    let positive = c.loop-place-test.true in
    let bound = c.loop-place.invariant.0 in
    let q : c.loop-place.place ≡ place + 1 = omega arith in
    let m = rw c.as_slice.ensures.value at c.mark.ensures in
    let so : AreMakersFrom ds (place + 1) c.loop-place.makers.items = subst (λ (n : ℕ). AreMakersFrom ds n c.loop-place.makers.items) q c.loop-place.invariant.1 in
    (omega arith, makers_step ds place c.loop-place.makers.items c.mark.new.makers.items c.in_ok-symbols.symbols.items c.index-decls-place.result (omega arith) c.index-decls-place.is (subst (λ (d : Decl). AreMadeBy d.body c.in_ok-symbols.symbols.items) (sym c.index-decls-place.is) c.in_ok-symbols.ensures) m so)
