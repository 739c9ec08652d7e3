use Rattle.std.proofs.Common.{◌≡◌, [], ◌∷◌, ◌∙◌, refl, sym, subst}
use Rattle.std.proofs.lemmas.Result.{IfOk-weaker}
use Rattle.tasks.specs.trees.declared.Op.TheVariants.{Iff}
use Rattle.tasks.specs.trees.Tree.{Tree, Two, HLet}
use Rattle.tasks.specs.trees.Node.{tree_at}
use Rattle.tasks.specs.trees.Binding.{inst}
use Rattle.tasks.specs.Task.{TaskTree, neg}
use Rattle.tasks.specs.Valid.{IsGroundFormula}
use Rattle.tasks.specs.Meaning.{trees_at}
use Rattle.evidence.specs.Laws.{Extends_trans, AddsTrees_extends}
use Rattle.evidence.proofs.Rules.{refutes_later}
use Rattle.evidence.proofs.Typed.{as_expression}
use Rattle.evidence.proofs.Formulas.{same, formulas_later, formula_later, one_formula}
use Rattle.evidence.specs.declared.proof_scripts.line.Line.TheVariants as line
use Rattle.evidence.specs.declared.proof_scripts.line.Word.TheVariants as word
use Rattle.tr_split.specs.Over.{IsClosedIn}
use Rattle.tr_split.proofs.Glued.{lines_held, end_trees}
use Rattle.tr_split.proofs.Scripts.{valued_at}
use Rattle.tr_split.proofs.over.part_valued.Goals as goal

pub end_formula-whole-requires : goal.end_formula-whole-requires
end_formula-whole-requires c = record { front = trees_at c.args.draft.now.trees c.args.front.now; whole = Two HLet (tree_at c.args.draft.now.trees c.args.value) c.requires.end.part; refutes = c.requires.end.refutes }

pub part_at-requires-clause-whole : goal.part_at-requires-clause-whole
part_at-requires-clause-whole c = c.end_formula-whole.ensures.formula

pub part_at-requires-clause-term : goal.part_at-requires-clause-term
part_at-requires-clause-term c =
    let d = c.args.draft.now in
    let e = c.end_formula-whole.ensures.is (trees_at d.trees c.args.front.now) (Two HLet (tree_at d.trees c.args.value) c.requires.end.part) c.requires.end.refutes in
    subst (λ (z : Tree). IsClosedIn d z c.args.value) (sym e) (refl, c.requires.value)

pub derive-requires-clause-front : goal.derive-requires-clause-front
derive-requires-clause-front c = formulas_later c.args.draft.now c.part_at.new.draft (AddsTrees_extends _ _ c.in_ok-no_inner.ensures.grows) c.args.front.now c.requires.front

pub derive-requires-clause-tail : goal.derive-requires-clause-tail
derive-requires-clause-tail c =
    let d = c.args.draft.now in
    let F = c.args.front.now in
    let d1 = c.part_at.new.draft in
    let x = AddsTrees_extends d d1 c.in_ok-no_inner.ensures.grows in
    one_formula d1 c.in_ok-no_inner.no_inner c.in_ok-no_inner.ensures.formula

pub derive-requires-clause-lines : goal.derive-requires-clause-lines
derive-requires-clause-lines c =
    let d = c.args.draft.now in
    let F = c.args.front.now in
    let d1 = c.part_at.new.draft in
    let x = AddsTrees_extends d d1 c.in_ok-no_inner.ensures.grows in
    let w = formula_later d d1 x c.end_formula-whole.result c.end_formula-whole.ensures.formula in
    lines_held d1 (line.Cut c.end_formula-whole.result ∷ line.Rule (word.LetDef c.end_formula-whole.result) ∷ line.Holding Iff 2 ∷ line.Rule (word.Clash 4 0) ∷ line.Rule (word.Clash 1 3) ∷ line.Given c.args.end 1 ∷ []) (w, ((w.held, tt), (tt, ((tt, tt), ((tt, tt), (tt, tt))))))

pub derive-requires-clause-follow : goal.derive-requires-clause-follow
derive-requires-clause-follow c =
    let d = c.args.draft.now in
    let F = c.args.front.now in
    let d1 = c.part_at.new.draft in
    let x = AddsTrees_extends d d1 c.in_ok-no_inner.ensures.grows in
    let V = tree_at d.trees c.args.value in
    let part = c.requires.end.part in
    let ref = c.requires.end.refutes in
    let id = c.end_formula-whole.result in
    let f = c.end_formula-whole.ensures.formula in
    let is : tree_at d.trees id ≡ Two HLet V part = c.end_formula-whole.ensures.is (trees_at d.trees F) (Two HLet V part) ref in
    let w : tree_at d1.trees id ≡ Two HLet V part = x.trees.same id.0 f.held ∙ is in
    let m : tree_at d1.trees c.in_ok-no_inner.no_inner ≡ neg (inst part V) = c.in_ok-no_inner.ensures.valued V part is in
    let g = subst (λ (z : TaskTree). IsGroundFormula z (Two HLet V part)) (sym x.task) (subst (IsGroundFormula d.task) is f.ground) in
    let r = end_trees d1 c.args.end (sym (same d d1 x F c.requires.front)) refl (refutes_later d d1 x c.args.end _ ref) in
    valued_at d1 (trees_at d1.trees F) (tree_at d1.trees id) (tree_at d1.trees c.in_ok-no_inner.no_inner) V part c.args.end w m (as_expression d1.task (Two HLet V part) g) g.sort r

pub returns-clause-refutes : goal.returns-clause-refutes
returns-clause-refutes c =
    let d = c.args.draft.now in
    let F = c.args.front.now in
    let d1 = c.part_at.new.draft in
    let x = AddsTrees_extends d d1 c.in_ok-no_inner.ensures.grows in
    let b = same d d1 x F c.requires.front in
    let V = tree_at d.trees c.args.value in
    IfOk-weaker c.derive.result _ _ (λ k r part ref.
    let m = c.in_ok-no_inner.ensures.valued V part (c.end_formula-whole.ensures.is (trees_at d.trees F) (Two HLet V part) ref) in
    record { within = r.within; is = r.is ∙ cc (b, m) }) c.derive.ensures.refutes

pub returns-clause-grows : goal.returns-clause-grows
returns-clause-grows c = Extends_trans _ _ _ (AddsTrees_extends _ _ c.in_ok-no_inner.ensures.grows) c.derive.ensures.grows
