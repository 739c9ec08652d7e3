use Rattle.std.proofs.Common.{◌≡◌, ◌∙◌, rules}
use Rattle.std.specs.Str.{bytes_eq}
use Rattle.printed_problems.proofs.FactList.{theory_later, theory_here, theory_end}
use Rattle.printed_problems.proofs.making.has_theory.Goals as goal

pub loop-decl-preserved : goal.loop-decl-preserved
loop-decl-preserved c s =
    let same : bytes_eq c.decl-item.result.theory c.args.path.now ≡ c.eq.result = search rules in
    theory_later s c.args.path.now c.args.decls.now c.loop-decl.decl-index c.decl-item.result _ c.loop-decl-test.true c.decl-item.is (same ∙ c.if-eq.false) (c.loop-decl.invariant s)

pub returns-then-eq : goal.returns-then-eq
returns-then-eq c s =
    let same : bytes_eq c.decl-item.result.theory c.args.path.now ≡ c.eq.result = search rules in
    theory_here s c.args.path.now c.args.decls.now c.loop-decl.decl-index c.decl-item.result _ c.loop-decl-test.true c.decl-item.is (same ∙ c.if-eq.true) (c.loop-decl.invariant s)

pub returns : goal.returns
returns c s = theory_end s c.args.path.now c.args.decls.now c.loop-decl.decl-index _ c.loop-decl-test.false (c.loop-decl.invariant s)
