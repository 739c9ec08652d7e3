use Rattle.std.proofs.Common.{ap, ◌∙◌}
use Rattle.std.proofs.lemmas.Result.{IfOk-weaker}
use Rattle.tasks.specs.Task.{neg}
use Rattle.evidence.specs.Laws.{AddsTrees_trans}
use Rattle.congruence.proofs.claims.denial.Goals as goal

pub claim-requires : goal.claim-requires
claim-requires c = c.requires

pub negation-requires : goal.negation-requires
negation-requires c = c.in_ok-claimed.ensures.formula

pub returns : goal.returns
returns c =
    let n = c.in_ok-claimed in
    record {
      formula = c.negation.ensures.formula;
      tree = IfOk-weaker c.negation.result _ _ (λ i q. q ∙ ap neg n.ensures.tree) c.negation.ensures.tree;
      grows = AddsTrees_trans c.args.draft.now c.claim.new.draft c.negation.new.draft n.ensures.grows c.negation.ensures.grows;
    }
