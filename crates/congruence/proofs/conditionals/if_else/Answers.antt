use Rattle.std.proofs.Common.{◌≡◌, [], ◌∷◌, sym, ap, subst, ◌∙◌}
use Rattle.std.proofs.lemmas.Result.{IfOk-weaker}
use Rattle.trees.specs.Tree.{Tree}
use Rattle.trees.specs.Node.{tree_at}
use Rattle.tasks.specs.Task.{neg}
use Rattle.rules.specs.Forms.{alike}
use Rattle.evidence.specs.Drafts.{Refutes}
use Rattle.evidence.specs.Laws.{Extends_trans, AddsTrees_extends}
use Rattle.trees.specs.declared.Op.TheVariants.{And, Imp}
use Rattle.evidence.specs.declared.proof_scripts.line.Word.TheVariants as word
use Rattle.evidence.specs.declared.proof_scripts.line.Line.TheVariants as line
use Rattle.congruence.proofs.Later.{held_later, tree_later}
use Rattle.congruence.proofs.CaseParts.{parts_later, denied, if_later}
use Rattle.congruence.proofs.Scripts.{if_else_follows}
use Rattle.evidence.proofs.Formulas.{none_formulas, two_formulas, formula_later}
use Rattle.congruence.proofs.PlainScripts.{held_lines}
use Rattle.congruence.proofs.conditionals.if_else.Goals as goal

pub denial-requires : goal.denial-requires
denial-requires c = record { pair = c.requires.parts.else_part }

pub negation-requires : goal.negation-requires
negation-requires c = formula_later c.args.draft.now c.denial.new.draft (AddsTrees_extends _ _ c.in_ok-goal.ensures.grows) c.args.k.condition c.requires.parts.condition

pub derive-requires : goal.derive-requires
derive-requires c =
    let d = c.args.draft.now in
    let d1 = c.denial.new.draft in
    let d2 = c.negation.new.draft in
    let n = c.in_ok-goal in
    let m = c.in_ok-negated in
    let x1 = AddsTrees_extends d d1 n.ensures.grows in
    let y = AddsTrees_extends d1 d2 m.ensures.grows in
    let x = Extends_trans d d1 d2 x1 y in
    let k = c.args.k in
    let p = c.requires.parts in
    let q = parts_later d d2 x k p in
    let e : tree_at d2.trees n.goal ≡ neg (alike (tree_at d2.trees k.whole) (tree_at d2.trees k.else_part)) = denied d d2 x n.goal k.whole k.else_part p.whole.held p.else_part.right.held (tree_later d1 d2 y n.goal n.ensures.formula.held ∙ n.ensures.tree) in
    let f : tree_at d2.trees m.negated ≡ neg (tree_at d2.trees k.condition) = m.ensures.tree ∙ ap neg (sym (tree_later d1 d2 y k.condition (held_later d d1 x1 k.condition p.condition.held))) in
    record {
      front = none_formulas d2;
      tail = two_formulas d2 m.negated n.goal m.ensures.formula (formula_later d1 d2 y n.goal n.ensures.formula);
      lines = held_lines d2 (line.Rule (word.IfDef k.whole) ∷ line.Holding And 2 ∷ line.Holding Imp 4 ∷ line.Rule (word.Clash 0 5) ∷ line.Rule (word.Clash 5 1) ∷ []) ((held_later d d2 x k.whole p.whole.held, tt), (tt, (tt, ((tt, tt), ((tt, tt), tt)))));
      follow = if_else_follows d2 (tree_at d2.trees k.condition) (tree_at d2.trees k.whole) (tree_at d2.trees k.then_part) (tree_at d2.trees k.else_part) q.whole.ground (if_later d d2 x k p c.requires.is) (tree_at d2.trees m.negated) (tree_at d2.trees n.goal) f e;
    }

pub returns-in_err-negated-clause-grows : goal.returns-in_err-negated-clause-grows
returns-in_err-negated-clause-grows c = Extends_trans _ _ _ (AddsTrees_extends _ _ c.in_ok-goal.ensures.grows) (AddsTrees_extends _ _ c.in_err-negated.ensures.grows)

pub returns-clause-grows : goal.returns-clause-grows
returns-clause-grows c = Extends_trans _ _ _ (Extends_trans _ _ _ (AddsTrees_extends _ _ c.in_ok-goal.ensures.grows) (AddsTrees_extends _ _ c.in_ok-negated.ensures.grows)) c.derive.ensures.grows

pub returns-clause-refutes : goal.returns-clause-refutes
returns-clause-refutes c =
    let d = c.args.draft.now in
    let d1 = c.denial.new.draft in
    let d2 = c.negation.new.draft in
    let n = c.in_ok-goal in
    let m = c.in_ok-negated in
    let x1 = AddsTrees_extends d d1 n.ensures.grows in
    let y = AddsTrees_extends d1 d2 m.ensures.grows in
    let k = c.args.k in
    let p = c.requires.parts in
    let e : tree_at d2.trees n.goal ≡ neg (alike (tree_at d.trees k.whole) (tree_at d.trees k.else_part)) = tree_later d1 d2 y n.goal n.ensures.formula.held ∙ n.ensures.tree in
    let f : tree_at d2.trees m.negated ≡ neg (tree_at d.trees k.condition) = m.ensures.tree ∙ ap neg (tree_later d d1 x1 k.condition p.condition.held) in
    IfOk-weaker c.derive.result _ _ (λ i r. subst (λ (z : Tree). Refutes c.derive.new.draft i (z ∷ neg (alike (tree_at d.trees k.whole) (tree_at d.trees k.else_part)) ∷ [])) f (subst (λ (z : Tree). Refutes c.derive.new.draft i (tree_at d2.trees m.negated ∷ z ∷ [])) e r)) c.derive.ensures.refutes
