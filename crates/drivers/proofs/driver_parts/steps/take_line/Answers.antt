use Rattle.std.proofs.Common.{sym, subst, arith}
use Rattle.drivers.specs.driver_parts.Steps.{item_step, MeetsResult}
use Rattle.drivers.proofs.driver_parts.Saying.{two-tokens, short-line}
use Rattle.drivers.proofs.driver_parts.steps.take_line.Goals as goal

pub returns-then-tokens-lt2 : goal.returns-then-tokens-lt2
returns-then-tokens-lt2 c =
    short-line c.args.context.symbols.now c.args.context.theories.now c.args.at.file c.args.block.now c.args.parts.now c.args.at.text.now c.args.tokens.now (omega arith)

pub returns : goal.returns
returns c =
    subst (λ v. MeetsResult c.take_two.result c.take_two.new.parts (item_step c.args.context.symbols.now c.args.context.theories.now c.args.at.file c.args.block.now v c.args.parts.now)) (sym (two-tokens c.args.at.text.now c.args.tokens.now _ _ (omega arith))) c.take_two.ensures
