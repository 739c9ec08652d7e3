use Rattle.grammar.proofs.Common.{reverse, sym, ap, ◌∙◌, arith, refl, drop_of_length-le, may_end}
use Rattle.grammar.specs.declared.symbols.Symbol.TheVariants as s
use Rattle.tokens_why.specs.declared.terminal.Terminal.TheVariants as t
use Rattle.grammar.proofs.EndLemmas.{stop_more, stop_not}
use Rattle.grammar.proofs.ends.may_stop.Goals as goal

pub loop-symbol-init : goal.loop-symbol-init
loop-symbol-init c = refl

pub loop-symbol-preserved : goal.loop-symbol-preserved
loop-symbol-preserved c = c.loop-symbol.invariant ∙ stop_more c.args.stack.now c.loop-symbol.symbol-index (s.Take t.Lident) (omega arith) (sym c.may_be_empty.ensures ∙ c.if-not-may_be_empty.false)

pub returns-then-not-may_be_empty : goal.returns-then-not-may_be_empty
returns-then-not-may_be_empty c = sym (c.loop-symbol.invariant ∙ stop_not c.args.stack.now c.loop-symbol.symbol-index (s.Take t.Lident) (omega arith) (sym c.may_be_empty.ensures ∙ c.if-not-may_be_empty.true))

pub returns : goal.returns
returns c = sym (c.loop-symbol.invariant ∙ ap (λ v. may_end (reverse v)) (drop_of_length-le c.args.stack.now (omega arith)))
