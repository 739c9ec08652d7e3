use Rattle.std.proofs.Common.{[], ◌∷◌}
use Rattle.std.proofs.lemmas.Result.{IfOk-weaker}
use Rattle.trees.specs.Node.{tree_at}
use Rattle.tasks.specs.Task.{neg}
use Rattle.evidence.specs.Laws.{Extends_trans, AddsTrees_extends}
use Rattle.evidence.proofs.Rules.{refutes_later}
use Rattle.evidence.proofs.Formulas.{none_formulas, two_formulas, formula_later}
use Rattle.evidence.specs.declared.proof_scripts.line.Places.TheVariants as places
use Rattle.evidence.specs.declared.proof_scripts.line.Line.TheVariants as line
use Rattle.congruence.proofs.Later.{tree_later}
use Rattle.congruence.proofs.PlainScripts.{held_lines, two_same, chain_follows}
use Rattle.congruence.proofs.alike.chain_half.Goals as goal

pub derive-requires : goal.derive-requires
derive-requires c =
    let d = c.args.draft.now in
    let d1 = c.negation.new.draft in
    let n = c.in_ok-negated in
    let x = AddsTrees_extends d d1 n.ensures.grows in
    let r = c.requires in
    let l = c.args.l in
    let m = c.args.m in
    record {
      front = none_formulas d1;
      tail = two_formulas d1 l n.negated (formula_later d d1 x l r.l) n.ensures.formula;
      lines = held_lines d1 (line.Cut c.args.m ∷ line.Kept c.args.second (places.Two 2 1) ∷ line.Kept c.args.first (places.Two 0 2) ∷ []) ((formula_later d d1 x m r.m), (tt, (tt, tt)));
      follow = chain_follows d1 (tree_at d.trees l) (tree_at d.trees m) (tree_at d.trees c.args.r) (tree_at d1.trees l) (tree_at d1.trees m) (tree_at d1.trees n.negated) c.args.first c.args.second (tree_later d d1 x l r.l.held) (tree_later d d1 x m r.m.held) n.ensures.tree
          (refutes_later d d1 x c.args.first _ r.first) (refutes_later d d1 x c.args.second _ r.second);
    }

pub returns : goal.returns
returns c =
    let d = c.args.draft.now in
    let d1 = c.negation.new.draft in
    let n = c.in_ok-negated in
    let x = AddsTrees_extends d d1 n.ensures.grows in
    record {
      refutes = IfOk-weaker c.derive.result _ _ (λ k h. two_same c.derive.new.draft k (tree_at d.trees c.args.l) (neg (tree_at d.trees c.args.r)) _ _ (tree_later d d1 x c.args.l c.requires.l.held) n.ensures.tree h) c.derive.ensures.refutes;
      grows = Extends_trans d d1 c.derive.new.draft x c.derive.ensures.grows;
    }
