use Rattle.std.proofs.Common.{[], ◌∷◌}
use Rattle.trees.specs.Node.{tree_at}
use Rattle.evidence.specs.Laws.{AddsTrees_extends, Extends_trans}
use Rattle.evidence.specs.declared.proof_scripts.line.Word.TheVariants as word
use Rattle.evidence.specs.declared.proof_scripts.line.Line.TheVariants as line
use Rattle.congruence.proofs.Later.{pair_later}
use Rattle.congruence.proofs.CaseParts.{denied, last_later, pair_comparable}
use Rattle.congruence.proofs.Scripts.{branch_follows}
use Rattle.evidence.proofs.Formulas.{none_formulas, one_formula}
use Rattle.congruence.proofs.PlainScripts.{held_lines, one_same}
use Rattle.std.proofs.lemmas.Result.{IfOk-weaker}
use Rattle.congruence.proofs.cases.unfold_branch.Goals as goal

pub derive-requires : goal.derive-requires
derive-requires c =
    let d = c.args.draft.now in
    let d1 = c.denial.new.draft in
    let n = c.in_ok-goal in
    let x = AddsTrees_extends d d1 n.ensures.grows in
    let p = c.requires.pair in
    let w = c.args.whole in
    let i = c.args.inner in
    record {
      front = none_formulas d1;
      tail = one_formula d1 n.goal n.ensures.formula;
      lines = held_lines d1 (line.Branch w i ∷ line.Rule (word.Clash 1 0) ∷ []) ((pair_comparable d1 w i (pair_later d d1 x w i p)), ((tt, tt), tt));
      follow = branch_follows d1 (tree_at d1.trees n.goal) (tree_at d1.trees w) (tree_at d1.trees i) (pair_later d d1 x w i p).left.ground (last_later d d1 x w i p.left.held p.right.held c.requires.is) (denied d d1 x n.goal w i p.left.held p.right.held n.ensures.tree);
    }

pub returns : goal.returns
returns c =
    let d = c.args.draft.now in
    let d1 = c.denial.new.draft in
    let x = AddsTrees_extends d d1 c.in_ok-goal.ensures.grows in
    record {
      refutes = IfOk-weaker c.derive.result _ _ (λ k h. one_same c.derive.new.draft k _ _ c.in_ok-goal.ensures.tree h) c.derive.ensures.refutes;
      grows = Extends_trans d d1 c.derive.new.draft x c.derive.ensures.grows;
    }
