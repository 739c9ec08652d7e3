use Rattle.std.proofs.Common.{arith}
use Rattle.tasks.specs.Meaning.{symbols_at}
use Rattle.checks.specs.match_cover.Shapes.{IsConstructorEntryOf}
use Rattle.checks.proofs.match_cover.Tables.{found_step, found_all, constructor_within}
use Rattle.checks.proofs.match_cover.constructors.constructors_of.Goals as goal

pub loop-entry-preserved : goal.loop-entry-preserved
loop-entry-preserved c =
    let symbols = symbols_at c.args.store.now c.args.sig.now.symbols in
    found_step (IsConstructorEntryOf symbols c.args.symbol) c.loop-entry.found.items c.loop-entry.entry c.loop-entry.invariant
    c.is_constructor_of-yes.result c.push_if.new.out.items c.is_constructor_of-yes.ensures c.in_ok-push_if.ensures

pub returns : goal.returns
returns c =
    let symbols = symbols_at c.args.store.now c.args.sig.now.symbols in
    found_all (IsConstructorEntryOf symbols c.args.symbol) c.loop-entry.found.items c.loop-entry.entry c.loop-entry.invariant
    (λ k h. (let w = constructor_within c.args.store.now c.args.sig.now.symbols c.args.symbol k c.len-entry-end.result c.len-entry-end.ensures h in omega (arith, w, c.loop-entry-test.false)))
