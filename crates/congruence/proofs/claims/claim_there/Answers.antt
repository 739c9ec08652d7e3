use Rattle.std.proofs.Common.{[], ◌∷◌, subst, ◌∙◌}
use Rattle.std.proofs.lemmas.Result.{IfOk-weaker}
use Rattle.trees.specs.Tree.{Tree}
use Rattle.trees.specs.Node.{tree_at}
use Rattle.tasks.specs.Task.{neg}
use Rattle.evidence.specs.Drafts.{Refutes}
use Rattle.evidence.specs.Laws.{Extends_trans, AddsTrees_extends}
use Rattle.evidence.proofs.Rules.{refutes_later}
use Rattle.evidence.proofs.Formulas.{none_formulas, two_formulas, formula_later}
use Rattle.trees.specs.declared.Op.TheVariants.{Iff}
use Rattle.evidence.specs.declared.proof_scripts.line.Places.TheVariants as places
use Rattle.evidence.specs.declared.proof_scripts.line.Word.TheVariants as word
use Rattle.evidence.specs.declared.proof_scripts.line.Line.TheVariants as line
use Rattle.congruence.proofs.Later.{tree_later}
use Rattle.congruence.proofs.PlainScripts.{held_lines, two_same, there_follows}
use Rattle.congruence.proofs.claims.claim_there.Goals as goal

pub derive-requires : goal.derive-requires
derive-requires c =
    let d = c.args.draft.now in
    let d1 = c.negation.new.draft in
    let n = c.in_ok-negated in
    let x = AddsTrees_extends d d1 n.ensures.grows in
    let r = c.requires in
    let k = c.args.claimed in
    record {
      front = none_formulas d1;
      tail = two_formulas d1 c.args.l n.negated (formula_later d d1 x c.args.l r.l) n.ensures.formula;
      lines = held_lines d1 (line.Cut c.args.claimed ∷ line.Holding Iff 2 ∷ line.Rule (word.Clash 4 1) ∷ line.Rule (word.Clash 0 3) ∷ line.Kept c.args.lemma (places.One 2) ∷ []) ((formula_later d d1 x k r.claimed), (tt, ((tt, tt), ((tt, tt), (tt, tt)))));
      follow = there_follows d1 (tree_at d.trees c.args.l) (tree_at d.trees c.args.r) (tree_at d1.trees k) c.args.lemma (tree_later d d1 x k r.claimed.held ∙ r.claimed_is)
          (subst (λ (z : Tree). Refutes d1 c.args.lemma (neg z ∷ [])) r.claimed_is (refutes_later d d1 x c.args.lemma _ r.lemma)) (tree_at d1.trees c.args.l) (tree_at d1.trees n.negated) (tree_later d d1 x c.args.l r.l.held) n.ensures.tree;
    }

pub returns : goal.returns
returns c =
    let d = c.args.draft.now in
    let d1 = c.negation.new.draft in
    let n = c.in_ok-negated in
    let x = AddsTrees_extends d d1 n.ensures.grows in
    record {
      refutes = IfOk-weaker c.derive.result _ _ (λ k h. two_same c.derive.new.draft k (tree_at d.trees c.args.l) (neg (tree_at d.trees c.args.r)) _ _ (tree_later d d1 x c.args.l c.requires.l.held) n.ensures.tree h) c.derive.ensures.refutes;
      grows = Extends_trans d d1 c.derive.new.draft x c.derive.ensures.grows;
    }
