use Rattle.std.proofs.Common.{[], sym, ◌∙◌, arith}
use Rattle.tasks.specs.Meaning.{symbols_at}
use Rattle.name_resolution.proofs.Fielded.{step_back, stays_there, later_number}
use Rattle.name_resolution.proofs.records.constructor_before.Goals as goal

pub overflow_sub-at : goal.overflow_sub-at
overflow_sub-at c = later_number (symbols_at [] c.args.symbols.now) c.loop-at.at (sym (c.is_later_projection.ensures []) ∙ c.loop-at-test.true)

pub loop-at-smaller : goal.loop-at-smaller
loop-at-smaller c = let l = later_number (symbols_at [] c.args.symbols.now) c.loop-at.at (sym (c.is_later_projection.ensures []) ∙ c.loop-at-test.true) in omega (arith, l)

pub loop-at-preserved : goal.loop-at-preserved
loop-at-preserved c s = step_back (symbols_at s c.args.symbols.now) c.loop-at.at (sym (c.is_later_projection.ensures s) ∙ c.loop-at-test.true) ∙ c.loop-at.invariant s

pub returns : goal.returns
returns c s = sym (stays_there (symbols_at s c.args.symbols.now) c.loop-at.at (sym (c.is_later_projection.ensures s) ∙ c.loop-at-test.false)) ∙ c.loop-at.invariant s
