use Rattle.std.proofs.Common.{◌≡◌, [], ◌∷◌, ap, ◌∙◌, refl, sym, subst}
use Rattle.std.proofs.lemmas.Result.{IfOk-weaker}
use Rattle.tasks.specs.trees.declared.Op.TheVariants.{Imp}
use Rattle.tasks.specs.trees.Node.{tree_at}
use Rattle.tasks.specs.Task.{neg}
use Rattle.tasks.specs.Meaning.{trees_at}
use Rattle.evidence.specs.Laws.{Extends_trans, AddsTrees_extends}
use Rattle.evidence.proofs.Rules.{refutes_later}
use Rattle.evidence.proofs.Formulas.{same, formulas_later, formula_later, two_formulas}
use Rattle.evidence.specs.declared.proof_scripts.line.Line.TheVariants as line
use Rattle.evidence.specs.declared.proof_scripts.line.Word.TheVariants as word
use Rattle.tr_split.specs.parts.Split.{imp}
use Rattle.tr_split.specs.parts.Glue.{IsImplication}
use Rattle.tr_split.proofs.Glued.{lines_held, end_trees}
use Rattle.tr_split.proofs.Scripts.{under_follows}
use Rattle.tr_split.proofs.over.part_under.Goals as goal

pub end_formula-whole-requires : goal.end_formula-whole-requires
end_formula-whole-requires c = record { front = trees_at c.args.draft.now.trees c.args.front.now; whole = imp (tree_at c.args.draft.now.trees c.args.hypothesis) c.requires.end.part; refutes = c.requires.end.refutes }

pub right_side-part-requires-clause-formula : goal.right_side-part-requires-clause-formula
right_side-part-requires-clause-formula c = c.end_formula-whole.ensures.formula

pub right_side-part-requires-clause-implication : goal.right_side-part-requires-clause-implication
right_side-part-requires-clause-implication c =
    let d = c.args.draft.now in
    let e = c.end_formula-whole.ensures.is (trees_at d.trees c.args.front.now) (imp (tree_at d.trees c.args.hypothesis) c.requires.end.part) c.requires.end.refutes in
    subst IsImplication (sym e) tt

pub negation-requires : goal.negation-requires
negation-requires c = c.right_side-part.ensures.formula

pub derive-requires-clause-front : goal.derive-requires-clause-front
derive-requires-clause-front c = formulas_later c.args.draft.now c.negation.new.draft (AddsTrees_extends _ _ c.in_ok-no_part.ensures.grows) c.args.front.now c.requires.front

pub derive-requires-clause-tail : goal.derive-requires-clause-tail
derive-requires-clause-tail c =
    let d = c.args.draft.now in
    let F = c.args.front.now in
    let d1 = c.negation.new.draft in
    let x = AddsTrees_extends d d1 c.in_ok-no_part.ensures.grows in
    two_formulas d1 c.args.hypothesis c.in_ok-no_part.no_part (formula_later d d1 x c.args.hypothesis c.requires.hypothesis) c.in_ok-no_part.ensures.formula

pub derive-requires-clause-lines : goal.derive-requires-clause-lines
derive-requires-clause-lines c =
    let d = c.args.draft.now in
    let F = c.args.front.now in
    let d1 = c.negation.new.draft in
    let x = AddsTrees_extends d d1 c.in_ok-no_part.ensures.grows in
    let w = formula_later d d1 x c.end_formula-whole.result c.end_formula-whole.ensures.formula in
    lines_held d1 (line.Cut c.end_formula-whole.result ∷ line.Holding Imp 2 ∷ line.Rule (word.Clash 0 3) ∷ line.Rule (word.Clash 3 1) ∷ line.Given c.args.end 1 ∷ []) (w, (tt, ((tt, tt), ((tt, tt), (tt, tt)))))

pub derive-requires-clause-follow : goal.derive-requires-clause-follow
derive-requires-clause-follow c =
    let d = c.args.draft.now in
    let F = c.args.front.now in
    let d1 = c.negation.new.draft in
    let x = AddsTrees_extends d d1 c.in_ok-no_part.ensures.grows in
    let H = tree_at d.trees c.args.hypothesis in
    let part = c.requires.end.part in
    let ref = c.requires.end.refutes in
    let id = c.end_formula-whole.result in
    let is : tree_at d.trees id ≡ imp H part = c.end_formula-whole.ensures.is (trees_at d.trees F) (imp H part) ref in
    let w : tree_at d1.trees id ≡ imp H part = x.trees.same id.0 c.end_formula-whole.ensures.formula.held ∙ is in
    let h : tree_at d1.trees c.args.hypothesis ≡ H = x.trees.same c.args.hypothesis.0 c.requires.hypothesis.held in
    let m : tree_at d1.trees c.in_ok-no_part.no_part ≡ neg part = c.in_ok-no_part.ensures.tree ∙ ap neg (c.right_side-part.ensures.tree H part is) in
    let r = end_trees d1 c.args.end (sym (same d d1 x F c.requires.front)) refl (refutes_later d d1 x c.args.end _ ref) in
    rw (w, h, m) (under_follows d1 (trees_at d1.trees F) H part c.args.end r)

pub returns-clause-refutes : goal.returns-clause-refutes
returns-clause-refutes c =
    let d = c.args.draft.now in
    let F = c.args.front.now in
    let d1 = c.negation.new.draft in
    let x = AddsTrees_extends d d1 c.in_ok-no_part.ensures.grows in
    let b = same d d1 x F c.requires.front in
    let H = tree_at d.trees c.args.hypothesis in
    let h : tree_at d1.trees c.args.hypothesis ≡ H = x.trees.same c.args.hypothesis.0 c.requires.hypothesis.held in
    IfOk-weaker c.derive.result _ _ (λ k r part ref.
    let e = c.end_formula-whole.ensures.is (trees_at d.trees F) (imp H part) ref in
    let m : tree_at d1.trees c.in_ok-no_part.no_part ≡ neg part = c.in_ok-no_part.ensures.tree ∙ ap neg (c.right_side-part.ensures.tree H part e) in
    record { within = r.within; is = r.is ∙ cc (b, h, m) }) c.derive.ensures.refutes

pub returns-clause-grows : goal.returns-clause-grows
returns-clause-grows c = Extends_trans _ _ _ (AddsTrees_extends _ _ c.in_ok-no_part.ensures.grows) c.derive.ensures.grows
