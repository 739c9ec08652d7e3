use Rattle.std.proofs.Common.{[], ◌∷◌, sym, subst}
use Rattle.trees.specs.declared.Op.TheVariants.{Iff}
use Rattle.evidence.specs.Laws.{Extends_trans}
use Rattle.evidence.proofs.Rules.{refutes_later}
use Rattle.evidence.proofs.Formulas.{formula_later}
use Rattle.trees.specs.Tree.{Tree, HJoin}
use Rattle.tasks.specs.Task.{neg}
use Rattle.evidence.specs.Drafts.{Refutes}
use Rattle.congruence.proofs.Later.{tree_later, node_later, halves_made}
use Rattle.congruence.proofs.claims.claim_halves.Goals as goal

pub claim_there-requires : goal.claim_there-requires
claim_there-requires c = let r = c.requires in record { l = r.l; r = r.r; claimed = r.claimed; claimed_is = r.claimed_is; lemma = r.lemma }

pub claim_back-requires : goal.claim_back-requires
claim_back-requires c =
    let d = c.args.draft.now in
    let d1 = c.claim_there.new.draft in
    let x = c.in_ok-there.ensures.grows in
    let r = c.requires in
    let k = c.args.claimed in
    record {
      l = formula_later d d1 x c.args.l r.l;
      r = formula_later d d1 x c.args.r r.r;
      claimed = formula_later d d1 x k r.claimed;
      claimed_is = node_later d d1 x (HJoin Iff) k c.args.l c.args.r r.claimed.held r.l.held r.r.held r.claimed_is;
      lemma = subst (λ (z : Tree). Refutes d1 c.args.lemma (neg z ∷ [])) (sym (tree_later d d1 x k r.claimed.held)) (refutes_later d d1 x c.args.lemma _ r.lemma);
    }

pub returns-in_err-back-clause-grows : goal.returns-in_err-back-clause-grows
returns-in_err-back-clause-grows c = Extends_trans _ _ _ c.in_ok-there.ensures.grows c.in_err-back.ensures.grows

pub returns : goal.returns
returns c =
    let d = c.args.draft.now in
    let d1 = c.claim_there.new.draft in
    let d2 = c.claim_back.new.draft in
    let x = c.in_ok-there.ensures.grows in
    let y = c.in_ok-back.ensures.grows in
    record {
      halves = halves_made d d1 d2 x y c.args.l c.args.r c.in_ok-there.there c.in_ok-back.back c.requires.l.held c.requires.r.held c.in_ok-there.ensures.refutes c.in_ok-back.ensures.refutes;
      grows = Extends_trans d d1 d2 x y;
    }
