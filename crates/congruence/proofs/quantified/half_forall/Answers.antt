use Rattle.std.proofs.Common.{true, [], ◌∷◌, sym, ap, ◌∙◌}
use Rattle.trees.specs.Node.{tree_at}
use Rattle.tasks.specs.Task.{neg}
use Rattle.evidence.specs.Laws.{AddsTrees_extends, Extends_trans}
use Rattle.evidence.proofs.Rules.{refutes_later}
use Rattle.evidence.specs.declared.proof_scripts.line.Places.TheVariants as places
use Rattle.evidence.specs.declared.proof_scripts.line.Word.TheVariants as word
use Rattle.evidence.specs.declared.proof_scripts.line.Line.TheVariants as line
use Rattle.congruence.proofs.Later.{tree_later, closed_later, held_later}
use Rattle.congruence.proofs.NewParameters.{new_later}
use Rattle.congruence.proofs.FormulasLater.{bodies_step, quantified_by}
use Rattle.congruence.proofs.Scripts.{forall_follows}
use Rattle.evidence.proofs.Formulas.{none_formulas, two_formulas, formula_later}
use Rattle.congruence.proofs.PlainScripts.{held_lines, two_same}
use Rattle.std.proofs.lemmas.Result.{IfOk-weaker}
use Rattle.congruence.proofs.quantified.half_forall.Goals as goal

pub derive-requires : goal.derive-requires
derive-requires c =
    let d = c.args.draft.now in
    let d1 = c.negation.new.draft in
    let m = c.in_ok-negated in
    let x = AddsTrees_extends d d1 m.ensures.grows in
    let r = c.requires in
    let q = c.args.quantifier in
    let l = c.args.left in
    let g = c.args.right in
    let ql = tree_later d d1 x l.whole r.left.whole.held in
    let qr = tree_later d d1 x g.whole r.right.whole.held in
    let new = new_later d d1 x q.number l.whole g.whole r.left.whole.held r.right.whole.held r.left.new r.right.new in
    record {
      front = none_formulas d1;
      tail = two_formulas d1 l.whole m.negated (formula_later d d1 x l.whole r.left.whole) m.ensures.formula;
      lines = held_lines d1 (line.Rule (word.NotForall 1 q.number) ∷ line.Rule (word.Forall 0 q.term) ∷ line.Kept c.args.step (places.Two 3 2) ∷ []) ((tt, tt), ((held_later d d1 x q.term r.quantifier.term.held, tt), (tt, tt)));
      follow = forall_follows d1 (tree_at d1.trees l.whole) (tree_at d1.trees g.whole) (tree_at d1.trees m.negated) (tree_at d.trees q.ty) (tree_at d.trees l.body) (tree_at d.trees g.body) (tree_at d1.trees q.term) q.number c.args.step
          (m.ensures.tree ∙ ap neg (sym qr)) (tree_later d d1 x q.term r.quantifier.term.held ∙ r.quantifier.term_is) (closed_later d d1 x q.term r.quantifier.term).ground new (refutes_later d d1 x c.args.step _ (bodies_step d q l g c.args.step r.left r.right r.step)) (ql ∙ quantified_by d q l true r.kind r.left) (qr ∙ quantified_by d q g true r.kind r.right);
    }

pub returns : goal.returns
returns c =
    let d = c.args.draft.now in
    let d1 = c.negation.new.draft in
    let m = c.in_ok-negated in
    let x = AddsTrees_extends d d1 m.ensures.grows in
    record {
      refutes = IfOk-weaker c.derive.result _ _ (λ k h. two_same c.derive.new.draft k _ _ _ _ (tree_later d d1 x c.args.left.whole c.requires.left.whole.held) m.ensures.tree h) c.derive.ensures.refutes;
      grows = Extends_trans d d1 c.derive.new.draft x c.derive.ensures.grows;
    }
