use Rattle.std.proofs.Common.{◌≡◌, false, IsTrue, below_more, arith}
use Rattle.tasks.specs.Meaning.{symbols_at, definitions_at}
use Rattle.checks.proofs.decl_checks.Choosing.{passes_none}
use Rattle.checks.proofs.decl_checks.structure.is_structural.Goals as goal

pub loop-number-preserved : goal.loop-number-preserved
loop-number-preserved c =
    let no : c.in_ok-passes_at.field-0 ≡ false = cc in
    below_more _ _ c.loop-number.invariant (λ p. (let t : IsTrue c.in_ok-passes_at.field-0 = c.in_ok-passes_at.ensures.1 p in cc))

pub returns : goal.returns
returns c =
    let s = c.args.store.now in
    let none = passes_none (symbols_at s c.args.sig.now.symbols) (definitions_at s c.args.defs.now) c.args.count c.requires.count (λ n l. c.loop-number.invariant n (let past = c.loop-number-test.false in omega arith)) in
    (λ t. absurd (cc), λ f. absurd (none f))
