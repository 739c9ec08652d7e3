use Rattle.grammar.proofs.recognise.Common.{◌≡◌, ◌<◌, ◌≤◌, get_or, length, ap, ◌∙◌, arith, nesting, nested, most_nested}
use Rattle.tokens_why.specs.declared.terminal.Terminal.TheVariants as t
use Rattle.grammar.proofs.recognise.DepthLemmas.{nested_more, nested_deep}
use Rattle.grammar.proofs.recognise.depth.too_deep.Goals as goal

pub loop-at-preserved : goal.loop-at-preserved
loop-at-preserved c =
    let xs = c.args.tokens.now in
    let lt : c.loop-at.at < length xs = omega arith in
    let low : c.in_ok-next.next.depth ≤ most_nested = let h = c.if-next-gt200.false in omega (arith, h) in
    let same : c.in_ok-next.next.counts ≡ nested (nesting (get_or xs c.loop-at.at t.Lident)) c.loop-at.counters.counts = c.in_ok-next.ensures ∙ ap (λ k. nested k c.loop-at.counters.counts) c.nests.ensures in
    (nested_more xs c.loop-at.at t.Lident c.loop-at.counters.counts c.in_ok-next.next.counts lt c.loop-at.invariant.0 same (let d = c.in_ok-next.next.is_depth in omega (arith, d, low)), low)

pub returns-then-next-gt200 : goal.returns-then-next-gt200
returns-then-next-gt200 c =
    let xs = c.args.tokens.now in
    let lt : c.loop-at.at < length xs = omega arith in
    let same : c.in_ok-next.next.counts ≡ nested (nesting (get_or xs c.loop-at.at t.Lident)) c.loop-at.counters.counts = c.in_ok-next.ensures ∙ ap (λ k. nested k c.loop-at.counters.counts) c.nests.ensures in
    nested_deep xs c.loop-at.at t.Lident c.loop-at.counters.counts c.in_ok-next.next.counts lt c.loop-at.invariant.0 same (let d = c.in_ok-next.next.is_depth in let h = c.if-next-gt200.true in omega (arith, d, h))
