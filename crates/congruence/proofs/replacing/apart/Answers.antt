use Rattle.std.proofs.Common.{sym, ap, ◌∙◌}
use Rattle.std.proofs.lemmas.Result.{IfOk-weaker}
use Rattle.tasks.specs.Task.{neg}
use Rattle.evidence.specs.Laws.{AddsTrees_trans, AddsTrees_extends}
use Rattle.congruence.proofs.HoleTemplates.{equal_later}
use Rattle.congruence.proofs.replacing.apart.Goals as goal

pub equation-requires : goal.equation-requires
equation-requires c = record { pair = c.requires.pair; term = c.requires.term }

pub negation-requires : goal.negation-requires
negation-requires c = c.in_ok-link.ensures.formula

pub returns : goal.returns
returns c =
    let d = c.args.draft.now in
    let d1 = c.equation.new.draft in
    let d2 = c.negation.new.draft in
    let n = c.in_ok-link in
    let e = c.negation.ensures.grows in
    let z = AddsTrees_trans d d1 d2 n.ensures.grows e in
    let p = c.requires.pair in
    record {
      formula = c.negation.ensures.formula;
      tree = IfOk-weaker c.negation.result _ _ (λ i q. q ∙ ap neg n.ensures.tree ∙ sym (equal_later d d2 (AddsTrees_extends d d2 z) c.args.l c.args.r p.left.held p.right.held)) c.negation.ensures.tree;
      grows = z;
    }
