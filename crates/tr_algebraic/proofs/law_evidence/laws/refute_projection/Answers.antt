use Rattle.std.proofs.Common.{[], ◌∷◌, sym, subst}
use Rattle.std.proofs.lemmas.List.Elements.{All-cons, All-nil}
use Rattle.tasks.specs.trees.Node.{tree_at}
use Rattle.tasks.specs.Task.{TaskTree}
use Rattle.evidence.specs.declared.proof_scripts.line.Line.TheVariants as line
use Rattle.evidence.specs.declared.proof_scripts.line.Word.TheVariants as word
use Rattle.evidence.specs.proof_scripts.Scripts.{LineHeld}
use Rattle.evidence.specs.Laws.{AddsTrees_extends}
use Rattle.tr_algebraic.specs.law_evidence.Shapes.{IsProjected}
use Rattle.tr_algebraic.proofs.law_evidence.Sides.{comparable, left_ground, sides_are, claim_at}
use Rattle.tr_algebraic.proofs.law_evidence.Scripts.{projection_follows}
use Rattle.tr_algebraic.proofs.law_evidence.laws.refute_projection.Goals as goal

pub derive-requires-clause-lines : goal.derive-requires-clause-lines
derive-requires-clause-lines c =
    let d = c.args.draft.now in
    let d1 = c.negation.new.draft in
    let x = AddsTrees_extends d d1 c.in_ok-negated.ensures.grows in
    All-cons (LineHeld d1) (line.Field c.args.whole c.args.value) (line.Rule (word.Clash 1 0) ∷ []) (comparable d d1 x c.args.formula c.args.whole c.args.value c.requires.formula c.requires.is c.requires.whole_held c.requires.value_held) (All-cons (LineHeld d1) (line.Rule (word.Clash 1 0)) [] (tt, tt) (All-nil (LineHeld d1)))

pub derive-requires-clause-follow : goal.derive-requires-clause-follow
derive-requires-clause-follow c =
    let d = c.args.draft.now in
    let d1 = c.negation.new.draft in
    let m = c.in_ok-negated in
    let x = AddsTrees_extends d d1 m.ensures.grows in
    let r = c.requires in
    projection_follows d1 (tree_at d1.trees m.negated) (tree_at d.trees c.args.formula) (tree_at d1.trees c.args.whole) (tree_at d1.trees c.args.value) m.ensures.tree
    (sides_are d d1 x c.args.formula c.args.whole c.args.value r.formula r.is r.whole_held r.value_held) (claim_at d d1 x c.args.formula c.args.whole c.args.value r.formula r.is r.whole_held r.value_held)
    (subst (λ (t : TaskTree). IsProjected t (tree_at d.trees c.args.formula)) (sym x.task) r.shape) (left_ground d d1 x c.args.formula c.args.whole c.args.value r.formula r.is r.whole_held r.value_held)
