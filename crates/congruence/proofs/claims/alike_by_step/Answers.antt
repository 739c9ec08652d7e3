use Rattle.std.proofs.Common.{[], ◌∷◌, sym, subst, ◌∙◌}
use Rattle.std.proofs.lemmas.Result.{IfOk-weaker}
use Rattle.trees.specs.Tree.{Tree}
use Rattle.tasks.specs.Task.{neg}
use Rattle.evidence.specs.Drafts.{Refutes}
use Rattle.evidence.specs.Laws.{Extends_trans, AddsTrees_extends}
use Rattle.evidence.proofs.Rules.{refutes_later}
use Rattle.congruence.proofs.Later.{pair_later, shows_before}
use Rattle.congruence.proofs.CaseParts.{same_alike}
use Rattle.congruence.proofs.claims.alike_by_step.Goals as goal

pub alike_claimed-requires : goal.alike_claimed-requires
alike_claimed-requires c =
    let d = c.args.draft.now in
    let d1 = c.claim.new.draft in
    let n = c.in_ok-claimed in
    let x = AddsTrees_extends d d1 n.ensures.grows in
    let p = c.requires.pair in
    let k = c.args in
    record {
      pair = pair_later d d1 x k.l k.r p;
      claimed = n.ensures.formula;
      claimed_is = n.ensures.tree ∙ same_alike d d1 x k.l k.r p.left.held p.right.held;
      lemma = subst (λ (z : Tree). Refutes d1 k.step (neg z ∷ [])) (sym n.ensures.tree) (refutes_later d d1 x k.step _ c.requires.step);
    }

pub returns : goal.returns
returns c =
    let d = c.args.draft.now in
    let d1 = c.claim.new.draft in
    let d2 = c.alike_claimed.new.draft in
    let x = AddsTrees_extends d d1 c.in_ok-claimed.ensures.grows in
    let p = c.requires.pair in
    record {
      shows = IfOk-weaker c.alike_claimed.result _ _ (λ w h. shows_before d d1 x d2 w c.args.l c.args.r p.left.held p.right.held h) c.alike_claimed.ensures.shows;
      grows = Extends_trans d d1 d2 x c.alike_claimed.ensures.grows;
    }
