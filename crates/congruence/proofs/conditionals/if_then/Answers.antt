use Rattle.std.proofs.Common.{[], ◌∷◌}
use Rattle.trees.specs.Node.{tree_at}
use Rattle.evidence.specs.Laws.{AddsTrees_extends, Extends_trans}
use Rattle.trees.specs.declared.Op.TheVariants.{And, Imp}
use Rattle.evidence.specs.declared.proof_scripts.line.Word.TheVariants as word
use Rattle.evidence.specs.declared.proof_scripts.line.Line.TheVariants as line
use Rattle.congruence.proofs.CaseParts.{parts_later, denied, if_later}
use Rattle.congruence.proofs.Scripts.{if_then_follows}
use Rattle.evidence.proofs.Formulas.{none_formulas, two_formulas}
use Rattle.congruence.proofs.PlainScripts.{held_lines, two_same}
use Rattle.congruence.proofs.Later.{held_later, tree_later}
use Rattle.std.proofs.lemmas.Result.{IfOk-weaker}
use Rattle.congruence.proofs.conditionals.if_then.Goals as goal

pub denial-requires : goal.denial-requires
denial-requires c = record { pair = c.requires.parts.then_part }

pub derive-requires : goal.derive-requires
derive-requires c =
    let d = c.args.draft.now in
    let d1 = c.denial.new.draft in
    let n = c.in_ok-goal in
    let x = AddsTrees_extends d d1 n.ensures.grows in
    let k = c.args.k in
    let p = c.requires.parts in
    let q = parts_later d d1 x k p in
    let m = denied d d1 x n.goal k.whole k.then_part p.whole.held p.then_part.right.held n.ensures.tree in
    record {
      front = none_formulas d1;
      tail = two_formulas d1 k.condition n.goal q.condition n.ensures.formula;
      lines = held_lines d1 (line.Rule (word.IfDef k.whole) ∷ line.Holding And 2 ∷ line.Holding Imp 3 ∷ line.Rule (word.Clash 0 5) ∷ line.Rule (word.Clash 5 1) ∷ []) ((held_later d d1 x k.whole p.whole.held, tt), (tt, (tt, ((tt, tt), ((tt, tt), tt)))));
      follow = if_then_follows d1 (tree_at d1.trees k.condition) (tree_at d1.trees k.whole) (tree_at d1.trees k.then_part) (tree_at d1.trees k.else_part) q.whole.ground (if_later d d1 x k p c.requires.is) (tree_at d1.trees n.goal) m;
    }

pub returns : goal.returns
returns c =
    let d = c.args.draft.now in
    let d1 = c.denial.new.draft in
    let n = c.in_ok-goal in
    let x = AddsTrees_extends d d1 n.ensures.grows in
    record {
      refutes = IfOk-weaker c.derive.result _ _ (λ k h. two_same c.derive.new.draft k _ _ _ _ (tree_later d d1 x c.args.k.condition c.requires.parts.condition.held) n.ensures.tree h) c.derive.ensures.refutes;
      grows = Extends_trans d d1 c.derive.new.draft x c.derive.ensures.grows;
    }
