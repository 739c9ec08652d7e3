use Rattle.std.proofs.lemmas.Result.{IfOk-weaker}
use Rattle.evidence.specs.Laws.{Extends_trans}
use Rattle.congruence.proofs.Later.{pair_later, shows_before}
use Rattle.congruence.proofs.CaseParts.{denied_step}
use Rattle.congruence.proofs.lets.alike_let.Goals as goal

pub unfold_let-requires : goal.unfold_let-requires
unfold_let-requires c = record { pair = c.requires.pair; whole_is = c.requires.whole_is; inner_is = c.requires.inner_is }

pub alike_by_step-requires : goal.alike_by_step-requires
alike_by_step-requires c =
    let d = c.args.draft.now in
    let d1 = c.unfold_let.new.draft in
    let n = c.in_ok-step in
    let p = c.requires.pair in
    record { pair = pair_later d d1 n.ensures.grows c.args.whole c.args.inner p; step = denied_step d d1 n.ensures.grows d1 n.step c.args.whole c.args.inner p.left.held p.right.held n.ensures.refutes }

pub returns : goal.returns
returns c =
    let d = c.args.draft.now in
    let d1 = c.unfold_let.new.draft in
    let d2 = c.alike_by_step.new.draft in
    let x = c.in_ok-step.ensures.grows in
    let p = c.requires.pair in
    record {
      shows = IfOk-weaker c.alike_by_step.result _ _ (λ w h. shows_before d d1 x d2 w c.args.whole c.args.inner p.left.held p.right.held h) c.alike_by_step.ensures.shows;
      grows = Extends_trans d d1 d2 x c.alike_by_step.ensures.grows;
    }
