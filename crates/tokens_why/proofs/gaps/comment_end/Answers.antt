use Rattle.tokens_why.proofs.Common.{drop, Some, sym, ap, ◌∙◌, arith, at_from}
use Rattle.tokens_why.proofs.GapLemmas.{comment-start, turn-star, turn-open, turn-close, turn-plain, closed}
use Rattle.tokens_why.proofs.gaps.comment_end.Goals as goal

pub loop-at-init : goal.loop-at-init
loop-at-init c = record { low = omega arith; high = omega arith; deep = omega arith; same = comment-start c.args.text.now c.args.from 1 2 (omega arith) }

pub loop-at-preserved-then-is_byte : goal.loop-at-preserved-then-is_byte
loop-at-preserved-then-is_byte c =
    let t = turn-star c.args.text.now c.loop-at.at c.loop-at.depth (omega arith) (sym c.is_pair.ensures ∙ c.if-is_pair.true) (sym c.is_byte.ensures ∙ c.if-is_byte.true) in
    record { low = omega arith; high = t.0; deep = omega arith; same = c.loop-at.invariant.same ∙ t.1 }

pub loop-at-preserved-else-is_byte : goal.loop-at-preserved-else-is_byte
loop-at-preserved-else-is_byte c =
    let t = turn-open c.args.text.now c.loop-at.at c.loop-at.depth (omega arith) (sym c.is_pair.ensures ∙ c.if-is_pair.true) (sym c.is_byte.ensures ∙ c.if-is_byte.false) in
    record { low = omega arith; high = t.0; deep = omega arith; same = c.loop-at.invariant.same ∙ t.1 }

pub loop-at-preserved-then-is_pair-2 : goal.loop-at-preserved-then-is_pair-2
loop-at-preserved-then-is_pair-2 c =
    let t = turn-close c.args.text.now c.loop-at.at c.loop-at.depth (omega arith) (sym c.is_pair.ensures ∙ c.if-is_pair.false) (sym c.is_pair-else-is_pair.ensures ∙ c.if-is_pair-2.true) in
    record { low = omega arith; high = t.0; deep = omega arith; same = c.loop-at.invariant.same ∙ t.1 }

pub loop-at-preserved : goal.loop-at-preserved
loop-at-preserved c =
    let t = turn-plain c.args.text.now c.loop-at.at c.loop-at.depth (omega arith) (omega arith) (sym c.is_pair.ensures ∙ c.if-is_pair.false) (sym c.is_pair-else-is_pair.ensures ∙ c.if-is_pair-2.false) in
    record { low = omega arith; high = omega arith; deep = omega arith; same = c.loop-at.invariant.same ∙ t }

pub returns-then-depth-eq0-clause-place : goal.returns-then-depth-eq0-clause-place
returns-then-depth-eq0-clause-place c =
    let e = closed (drop c.loop-at.at c.args.text.now) c.loop-at.depth c.if-depth-eq0.true in
    ap Some (omega arith) ∙ sym (c.loop-at.invariant.same ∙ ap (at_from c.loop-at.at) e)
