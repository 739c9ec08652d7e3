use Rattle.std.proofs.Common.{◌≡◌, [], ◌∷◌, ◌∙◌, refl, sym, subst, arith}
use Rattle.std.proofs.lemmas.Result.{IfOk-weaker}
use Rattle.tasks.specs.trees.Tree.{Tree, Two, HForall}
use Rattle.tasks.specs.trees.Node.{tree_at}
use Rattle.tasks.specs.trees.Binding.{inst}
use Rattle.tasks.specs.Task.{TaskTree, neg}
use Rattle.tasks.specs.Meaning.{trees_at}
use Rattle.kernel.specs.Right.{IsGroundExpression}
use Rattle.evidence.specs.Laws.{Extends_trans, AddsTrees_extends}
use Rattle.evidence.proofs.Rules.{refutes_later}
use Rattle.evidence.proofs.Formulas.{same, formulas_later, formula_later, one_formula}
use Rattle.evidence.specs.declared.proof_scripts.line.Line.TheVariants as line
use Rattle.evidence.specs.declared.proof_scripts.line.Word.TheVariants as word
use Rattle.tr_split.specs.Over.{IsClosedIn}
use Rattle.tr_split.proofs.Glued.{lines_held, end_trees}
use Rattle.tr_split.proofs.Inner.{term_expression}
use Rattle.tr_split.proofs.Scripts.{opened_at}
use Rattle.tr_split.proofs.over.part_opened.Goals as goal

pub end_formula-whole-requires : goal.end_formula-whole-requires
end_formula-whole-requires c = record { front = trees_at c.args.draft.now.trees c.args.front.now; whole = Two HForall c.requires.end.ty c.requires.end.end.part; refutes = c.requires.end.end.refutes }

pub part_at-requires-clause-whole : goal.part_at-requires-clause-whole
part_at-requires-clause-whole c = c.end_formula-whole.ensures.formula

pub part_at-requires-clause-term : goal.part_at-requires-clause-term
part_at-requires-clause-term c =
    let d = c.args.draft.now in
    let e = c.end_formula-whole.ensures.is (trees_at d.trees c.args.front.now) (Two HForall c.requires.end.ty c.requires.end.end.part) c.requires.end.end.refutes in
    subst (λ (z : Tree). IsClosedIn d z c.args.term) (sym e) c.requires.end.term

pub derive-requires-clause-front : goal.derive-requires-clause-front
derive-requires-clause-front c = formulas_later c.args.draft.now c.part_at.new.draft (AddsTrees_extends _ _ c.in_ok-no_inner.ensures.grows) c.args.front.now c.requires.front

pub derive-requires-clause-tail : goal.derive-requires-clause-tail
derive-requires-clause-tail c =
    let d = c.args.draft.now in
    let F = c.args.front.now in
    let d1 = c.part_at.new.draft in
    let x = AddsTrees_extends d d1 c.in_ok-no_inner.ensures.grows in
    one_formula d1 c.in_ok-no_inner.no_inner c.in_ok-no_inner.ensures.formula

pub derive-requires-clause-lines : goal.derive-requires-clause-lines
derive-requires-clause-lines c =
    let d = c.args.draft.now in
    let F = c.args.front.now in
    let d1 = c.part_at.new.draft in
    let x = AddsTrees_extends d d1 c.in_ok-no_inner.ensures.grows in
    let w = formula_later d d1 x c.end_formula-whole.result c.end_formula-whole.ensures.formula in
    lines_held d1 (line.Cut c.end_formula-whole.result ∷ line.Rule (word.Forall 1 c.args.term) ∷ line.Rule (word.Clash 2 0) ∷ line.Given c.args.end 1 ∷ []) (w, ((omega (arith, x.trees.longer, c.requires.end.term.held), tt), ((tt, tt), (tt, tt))))

pub derive-requires-clause-follow : goal.derive-requires-clause-follow
derive-requires-clause-follow c =
    let d = c.args.draft.now in
    let F = c.args.front.now in
    let d1 = c.part_at.new.draft in
    let x = AddsTrees_extends d d1 c.in_ok-no_inner.ensures.grows in
    let T = c.requires.end.ty in
    let part = c.requires.end.end.part in
    let ref = c.requires.end.end.refutes in
    let U = tree_at d.trees c.args.term in
    let id = c.end_formula-whole.result in
    let is : tree_at d.trees id ≡ Two HForall T part = c.end_formula-whole.ensures.is (trees_at d.trees F) (Two HForall T part) ref in
    let w : tree_at d1.trees id ≡ Two HForall T part = x.trees.same id.0 c.end_formula-whole.ensures.formula.held ∙ is in
    let u : tree_at d1.trees c.args.term ≡ U = x.trees.same c.args.term.0 c.requires.end.term.held in
    let m : tree_at d1.trees c.in_ok-no_inner.no_inner ≡ neg (inst part U) = c.in_ok-no_inner.ensures.universal T part is in
    let g = subst (λ (z : TaskTree). IsGroundExpression z U) (sym x.task) (term_expression d T c.args.term c.requires.end.term) in
    let r = end_trees d1 c.args.end (sym (same d d1 x F c.requires.front)) refl (refutes_later d d1 x c.args.end _ ref) in
    opened_at d1 (trees_at d1.trees F) (tree_at d1.trees id) (tree_at d1.trees c.args.term) (tree_at d1.trees c.in_ok-no_inner.no_inner) T part U c.args.end w u m c.requires.end.term.term.type g r

pub returns-clause-refutes : goal.returns-clause-refutes
returns-clause-refutes c =
    let d = c.args.draft.now in
    let F = c.args.front.now in
    let d1 = c.part_at.new.draft in
    let x = AddsTrees_extends d d1 c.in_ok-no_inner.ensures.grows in
    let b = same d d1 x F c.requires.front in
    IfOk-weaker c.derive.result _ _ (λ k r ty part ref.
    let m = c.in_ok-no_inner.ensures.universal ty part (c.end_formula-whole.ensures.is (trees_at d.trees F) (Two HForall ty part) ref) in
    record { within = r.within; is = r.is ∙ cc (b, m) }) c.derive.ensures.refutes

pub returns-clause-grows : goal.returns-clause-grows
returns-clause-grows c = Extends_trans _ _ _ (AddsTrees_extends _ _ c.in_ok-no_inner.ensures.grows) c.derive.ensures.grows
