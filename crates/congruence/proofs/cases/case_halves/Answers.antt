use Rattle.evidence.specs.Laws.{Extends_trans}
use Rattle.evidence.proofs.Rules.{refutes_later}
use Rattle.congruence.proofs.Later.{held_later}
use Rattle.congruence.proofs.CaseParts.{same_steps}
use Rattle.congruence.proofs.cases.case_halves.Goals as goal

pub returns-in_err-back-clause-grows : goal.returns-in_err-back-clause-grows
returns-in_err-back-clause-grows c = Extends_trans _ _ _ c.in_ok-there.ensures.grows c.in_err-back.ensures.grows

pub returns-clause-halves : goal.returns-clause-halves
returns-clause-halves c =
    let d = c.args.draft.now in
    let d1 = c.case_there.new.draft in
    let d2 = c.case_back.new.draft in
    let x = c.in_ok-there.ensures.grows in
    let y = c.in_ok-back.ensures.grows in
    let k = c.args.case in
    let p = c.requires.case in
    record {
      there = same_steps d d2 (Extends_trans d d1 d2 x y) c.in_ok-there.there k.hypothesis k.whole c.args.other p.hypothesis.held p.pair.left.held c.requires.other.held (refutes_later d1 d2 y c.in_ok-there.there _ c.in_ok-there.ensures.refutes);
      back = same_steps d1 d2 y c.in_ok-back.back k.hypothesis k.part k.whole (held_later d d1 x k.hypothesis p.hypothesis.held) (held_later d d1 x k.part p.pair.right.held) (held_later d d1 x k.whole p.pair.left.held) c.in_ok-back.ensures.refutes;
    }

pub returns-clause-grows : goal.returns-clause-grows
returns-clause-grows c = Extends_trans _ _ _ c.in_ok-there.ensures.grows c.in_ok-back.ensures.grows
