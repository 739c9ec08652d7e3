use Rattle.std.proofs.Common.{ap, ◌∙◌, [], ◌∷◌}
use Rattle.std.proofs.lemmas.Result.{IfOk-weaker}
use Rattle.trees.specs.Node.{tree_at}
use Rattle.tasks.specs.Task.{neg}
use Rattle.evidence.specs.Laws.{Extends_trans, AddsTrees_extends}
use Rattle.evidence.proofs.Rules.{refutes_later}
use Rattle.evidence.proofs.Formulas.{none_formulas, one_formula}
use Rattle.trees.specs.declared.Op.TheVariants.{Iff}
use Rattle.evidence.specs.declared.proof_scripts.line.Places.TheVariants as places
use Rattle.evidence.specs.declared.proof_scripts.line.Line.TheVariants as line
use Rattle.congruence.proofs.CaseParts.{iff_made}
use Rattle.congruence.proofs.PlainScripts.{held_lines, one_same, iff_follows}
use Rattle.congruence.proofs.claims.iff_step.Goals as goal

pub negation-requires : goal.negation-requires
negation-requires c =
    let d = c.args.draft.now in
    let m = c.in_ok-claimed in
    iff_made d c.add.new.self (AddsTrees_extends d c.add.new.self m.ensures.grows) m.claimed c.args.l c.args.r m.ensures.held m.ensures.tree c.requires.l c.requires.r

pub derive-requires : goal.derive-requires
derive-requires c =
    let d = c.args.draft.now in
    let d1 = c.add.new.self in
    let d2 = c.negation.new.draft in
    let m = c.in_ok-claimed in
    let n = c.in_ok-goal in
    let x = Extends_trans d d1 d2 (AddsTrees_extends d d1 m.ensures.grows) (AddsTrees_extends d1 d2 n.ensures.grows) in
    let r = c.requires in
    record {
      front = none_formulas d2;
      tail = one_formula d2 n.goal n.ensures.formula;
      lines = held_lines d2 (line.Failing Iff 0 ∷ line.Kept c.args.halves.there (places.Two 1 2) ∷ line.Kept c.args.halves.back (places.Two 2 1) ∷ []) (tt, (tt, (tt, tt)));
      follow = iff_follows d2 (tree_at d2.trees n.goal) (tree_at d.trees c.args.l) (tree_at d.trees c.args.r) c.args.halves.there c.args.halves.back (n.ensures.tree ∙ ap neg m.ensures.tree) (refutes_later d d2 x c.args.halves.there _ r.halves.there) (refutes_later d d2 x c.args.halves.back _ r.halves.back);
    }

pub returns : goal.returns
returns c =
    let d = c.args.draft.now in
    let d1 = c.add.new.self in
    let d2 = c.negation.new.draft in
    let m = c.in_ok-claimed in
    let n = c.in_ok-goal in
    let x = Extends_trans d d1 d2 (AddsTrees_extends d d1 m.ensures.grows) (AddsTrees_extends d1 d2 n.ensures.grows) in
    record {
      refutes = IfOk-weaker c.derive.result _ _ (λ k h. one_same c.derive.new.draft k _ _ (n.ensures.tree ∙ ap neg m.ensures.tree) h) c.derive.ensures.refutes;
      grows = Extends_trans d d2 c.derive.new.draft x c.derive.ensures.grows;
    }
