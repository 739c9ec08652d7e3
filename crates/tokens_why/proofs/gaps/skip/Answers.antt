use Rattle.std.proofs.Common.{sym, ◌∙◌, arith}
use Rattle.tokens_why.proofs.GapLemmas.{next-step}
use Rattle.tokens_why.proofs.gaps.skip.Goals as goal

pub loop-at-preserved : goal.loop-at-preserved
loop-at-preserved c =
    let n = c.piece_length-length in
    record {
      low = omega arith;
      high = n.ensures.within;
      same = c.loop-at.invariant.same ∙ next-step c.args.text.now c.loop-at.at n.result (sym n.ensures.place) (omega arith) n.ensures.within;
    }
