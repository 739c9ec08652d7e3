use Rattle.std.proofs.Common.{◌≡◌, [], ◌∷◌, sym, ap, subst, ◌∙◌}
use Rattle.tasks.specs.trees.Tree.{Tree}
use Rattle.tasks.specs.trees.Node.{tree_at}
use Rattle.tasks.specs.Task.{neg}
use Rattle.congruence.specs.kernel.rules.Forms.{alike}
use Rattle.evidence.specs.Drafts.{Refutes}
use Rattle.evidence.specs.Laws.{Extends_trans, AddsTrees_extends}
use Rattle.evidence.proofs.Rules.{refutes_later}
use Rattle.evidence.proofs.Formulas.{formula_later}
use Rattle.congruence.proofs.Later.{held_later, tree_later}
use Rattle.congruence.proofs.CaseParts.{parts_later, values_later, values_made}
use Rattle.tr_if.specs.Atoms.{atom_cases}
use Rattle.tr_if.proofs.PlacedTerms.{placed_later}
use Rattle.tr_if.proofs.Cases.{case_conditional}
use Rattle.tr_if.proofs.firsts.first_values.Goals as goal

pub negation-requires : goal.negation-requires
negation-requires c = formula_later c.args.draft.now c.if_values.new.draft c.in_ok-values.ensures.grows c.args.case.at.condition c.requires.at.condition

pub value_in_place-requires : goal.value_in_place-requires
value_in_place-requires c =
    let d = c.args.draft.now in
    let d1 = c.if_values.new.draft in
    let d2 = c.negation.new.draft in
    let x1 = c.in_ok-values.ensures.grows in
    let x12 = AddsTrees_extends d1 d2 c.in_ok-negated.ensures.grows in
    let x2 = Extends_trans d d1 d2 x1 x12 in
    let k = c.args.case.at in
    let r = c.requires in
    record {
      hypothesis = formula_later d d2 x2 k.condition r.at.condition;
      placed = placed_later d d2 x2 _ r.then_placed;
      value = (values_later d1 d2 x12 k c.in_ok-values.values (parts_later d d1 x1 k r.at) c.in_ok-values.ensures.values).then_value;
    }

pub value_in_place-requires-2 : goal.value_in_place-requires-2
value_in_place-requires-2 c =
    let d = c.args.draft.now in
    let d1 = c.if_values.new.draft in
    let d2 = c.negation.new.draft in
    let d3 = c.value_in_place.new.draft in
    let x1 = c.in_ok-values.ensures.grows in
    let x12 = AddsTrees_extends d1 d2 c.in_ok-negated.ensures.grows in
    let x23 = c.in_ok-then_value.ensures.grows in
    let x13 = Extends_trans d1 d2 d3 x12 x23 in
    let x3 = Extends_trans d d1 d3 x1 x13 in
    let k = c.args.case.at in
    let r = c.requires in
    let m = c.in_ok-negated in
    let q : tree_at d3.trees m.negated ≡ neg (tree_at d3.trees k.condition) =
    tree_later d2 d3 x23 m.negated m.ensures.formula.held ∙ m.ensures.tree ∙ ap neg (sym (tree_later d1 d3 x13 k.condition (held_later d d1 x1 k.condition r.at.condition.held))) in
    record {
      hypothesis = formula_later d2 d3 x23 m.negated m.ensures.formula;
      placed = placed_later d d3 x3 _ r.else_placed;
      value = subst (λ (z : Tree). Refutes d3 c.in_ok-values.values.else_value (z ∷ neg (alike (tree_at d3.trees k.whole) (tree_at d3.trees k.else_part)) ∷ [])) (sym q)
          (values_later d1 d3 x13 k c.in_ok-values.values (parts_later d d1 x1 k r.at) c.in_ok-values.ensures.values).else_value;
    }

pub returns-in_err-negated-clause-grows : goal.returns-in_err-negated-clause-grows
returns-in_err-negated-clause-grows c = Extends_trans _ _ _ c.in_ok-values.ensures.grows (AddsTrees_extends _ _ c.in_err-negated.ensures.grows)

pub returns-in_err-then_value-clause-grows : goal.returns-in_err-then_value-clause-grows
returns-in_err-then_value-clause-grows c = Extends_trans _ _ _ (Extends_trans _ _ _ c.in_ok-values.ensures.grows (AddsTrees_extends _ _ c.in_ok-negated.ensures.grows)) c.in_err-then_value.ensures.grows

pub returns-in_err-else_value-clause-grows : goal.returns-in_err-else_value-clause-grows
returns-in_err-else_value-clause-grows c =
    Extends_trans _ _ _ (Extends_trans _ _ _ (Extends_trans _ _ _ c.in_ok-values.ensures.grows (AddsTrees_extends _ _ c.in_ok-negated.ensures.grows)) c.in_ok-then_value.ensures.grows) c.in_err-else_value.ensures.grows

pub returns-clause-grows : goal.returns-clause-grows
returns-clause-grows c =
    Extends_trans _ _ _ (Extends_trans _ _ _ (Extends_trans _ _ _ c.in_ok-values.ensures.grows (AddsTrees_extends _ _ c.in_ok-negated.ensures.grows)) c.in_ok-then_value.ensures.grows) c.in_ok-else_value.ensures.grows

pub returns-clause-values : goal.returns-clause-values
returns-clause-values c =
    let d = c.args.draft.now in
    let d1 = c.if_values.new.draft in
    let d2 = c.negation.new.draft in
    let d3 = c.value_in_place.new.draft in
    let d4 = c.value_in_place-2.new.draft in
    let x1 = c.in_ok-values.ensures.grows in
    let x12 = AddsTrees_extends d1 d2 c.in_ok-negated.ensures.grows in
    let x2 = Extends_trans d d1 d2 x1 x12 in
    let x23 = c.in_ok-then_value.ensures.grows in
    let x34 = c.in_ok-else_value.ensures.grows in
    let x13 = Extends_trans d1 d2 d3 x12 x23 in
    let k = c.args.case.at in
    let a = c.args.atom in
    let r = c.requires in
    let m = c.in_ok-negated in
    let q : tree_at d3.trees m.negated ≡ neg (tree_at d3.trees k.condition) =
    tree_later d2 d3 x23 m.negated m.ensures.formula.held ∙ m.ensures.tree ∙ ap neg (sym (tree_later d1 d3 x13 k.condition (held_later d d1 x1 k.condition r.at.condition.held))) in
    values_made d2 d3 d4 x23 x34 (atom_cases a c.args.case) c.in_ok-then_value.then_value c.in_ok-else_value.else_value (parts_later d d2 x2 (atom_cases a c.args.case) (case_conditional d c.args.env.now a c.args.fresh c.args.case r))
    (refutes_later d3 d4 x34 c.in_ok-then_value.then_value _ c.in_ok-then_value.ensures.refutes)
    (subst (λ (z : Tree). Refutes d4 c.in_ok-else_value.else_value (z ∷ neg (alike (tree_at d3.trees a.left) (tree_at d3.trees c.args.case.second.left)) ∷ [])) q c.in_ok-else_value.ensures.refutes)
