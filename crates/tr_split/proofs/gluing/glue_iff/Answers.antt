use Rattle.std.proofs.Common.{◌≡◌, ◌∙◌, ◌∷◌, [], get_or, refl, sym, ap, subst, arith}
use Rattle.tasks.specs.trees.declared.Op.TheVariants.{Iff, Imp}
use Rattle.tasks.specs.trees.Node.{tree_at}
use Rattle.tasks.specs.Meaning.{trees_at}
use Rattle.kernel.specs.rules.Forms.{join}
use Rattle.evidence.specs.Drafts.{Extends}
use Rattle.evidence.specs.Laws.{Extends_trans, AddsTrees_extends, AddsTrees_trans}
use Rattle.evidence.proofs.Rules.{refutes_later}
use Rattle.evidence.proofs.Formulas.{same, formulas_later, formula_later}
use Rattle.evidence.specs.declared.proof_scripts.line.Line.TheVariants as line
use Rattle.evidence.specs.declared.proof_scripts.line.Word.TheVariants as word
use Rattle.tr_split.specs.parts.Split.{imp, split}
use Rattle.tr_split.specs.parts.Glue.{EndsOfParts}
use Rattle.tr_split.proofs.parts.Pieces.{sides_of}
use Rattle.tr_split.proofs.Glued.{glued_none, glued_before, end_trees, lines_held}
use Rattle.tr_split.proofs.Scripts.{iff_follows}
use Rattle.tr_split.proofs.gluing.glue_iff.Goals as goal

pub refute_goal-requires-clause-front : goal.refute_goal-requires-clause-front
refute_goal-requires-clause-front c =
    let d = c.args.draft.now in
    let d1 = c.connect.new.draft in
    let d2 = c.connect-2.new.draft in
    let x1 = AddsTrees_extends d d1 c.in_ok-there.ensures.grows in
    let x2 = AddsTrees_extends d1 d2 c.in_ok-back.ensures.grows in
    let x : Extends d d2 = Extends_trans d d1 d2 x1 x2 in
    formulas_later d d2 x c.args.front.now c.requires.front

pub refute_goal-requires-clause-goal : goal.refute_goal-requires-clause-goal
refute_goal-requires-clause-goal c =
    let d = c.args.draft.now in
    let d1 = c.connect.new.draft in
    let d2 = c.connect-2.new.draft in
    let x1 = AddsTrees_extends d d1 c.in_ok-there.ensures.grows in
    let x2 = AddsTrees_extends d1 d2 c.in_ok-back.ensures.grows in
    let x : Extends d d2 = Extends_trans d d1 d2 x1 x2 in
    formula_later d d2 x c.args.goal c.requires.goal

pub refute_goal-requires-clause-lines : goal.refute_goal-requires-clause-lines
refute_goal-requires-clause-lines c =
    let d1 = c.connect.new.draft in
    let d2 = c.connect-2.new.draft in
    let there = formula_later d1 d2 (AddsTrees_extends d1 d2 c.in_ok-back.ensures.grows) c.in_ok-there.there c.in_ok-there.ensures.formula in
    lines_held d2 (line.Cut c.in_ok-there.there ∷ line.Cut c.in_ok-back.back ∷ line.Failing Iff 0 ∷ line.Holding Imp 1 ∷ line.Rule (word.Clash 3 5) ∷ line.Rule (word.Clash 5 4) ∷ line.Holding Imp 2 ∷ line.Rule (word.Clash 4 5) ∷ line.Rule (word.Clash 5 3) ∷ line.Given (get_or c.args.ends.now 1 0) 1 ∷ line.Given (get_or c.args.ends.now 0 0) 1 ∷ []) (there, (c.in_ok-back.ensures.formula, (tt, (tt, ((tt, tt), ((tt, tt), (tt, ((tt, tt), ((tt, tt), (tt, (tt, tt)))))))))))

pub refute_goal-requires-clause-follow : goal.refute_goal-requires-clause-follow
refute_goal-requires-clause-follow c =
    let d = c.args.draft.now in
    let d1 = c.connect.new.draft in
    let d2 = c.connect-2.new.draft in
    let x1 = AddsTrees_extends d d1 c.in_ok-there.ensures.grows in
    let x2 = AddsTrees_extends d1 d2 c.in_ok-back.ensures.grows in
    let x : Extends d d2 = Extends_trans d d1 d2 x1 x2 in
    let F = c.args.front.now in
    let j = c.requires.joins in
    let A = tree_at d.trees c.args.pair.left in
    let B = tree_at d.trees c.args.pair.right in
    let s = sides_of d c.args.goal Iff c.args.pair.left c.args.pair.right j c.requires.goal in
    let u : EndsOfParts d c.args.ends.now (trees_at d.trees F) (imp A B ∷ imp B A ∷ []) = subst (EndsOfParts d c.args.ends.now (trees_at d.trees F)) (ap split j.tree) c.requires.ends in
    let a1 : tree_at d1.trees c.args.pair.left ≡ A = x1.trees.same c.args.pair.left.0 s.left.held in
    let b1 : tree_at d1.trees c.args.pair.right ≡ B = x1.trees.same c.args.pair.right.0 s.right.held in
    let e : tree_at d2.trees c.args.goal ≡ join Iff A B = x.trees.same c.args.goal.0 c.requires.goal.held ∙ j.tree in
    let p : tree_at d2.trees c.in_ok-there.there ≡ join Imp A B = x2.trees.same c.in_ok-there.there.0 c.in_ok-there.ensures.formula.held ∙ c.in_ok-there.ensures.tree in
    let q : tree_at d2.trees c.in_ok-back.back ≡ join Imp B A = c.in_ok-back.ensures.tree ∙ cc (a1, b1) in
    let f = sym (same d d2 x F c.requires.front) in
    let l = end_trees d2 (get_or c.args.ends.now 0 0) f refl (refutes_later d d2 x _ _ (u.each 0 (omega arith))) in
    let r = end_trees d2 (get_or c.args.ends.now 1 0) f refl (refutes_later d d2 x _ _ (u.each 1 (omega arith))) in
    rw (e, p, q) (iff_follows d2 (trees_at d2.trees F) A B (get_or c.args.ends.now 0 0) (get_or c.args.ends.now 1 0) l r)

pub returns : goal.returns
returns c =
    let d = c.args.draft.now in
    let d1 = c.connect.new.draft in
    let d2 = c.connect-2.new.draft in
    let x1 = AddsTrees_extends d d1 c.in_ok-there.ensures.grows in
    let x2 = AddsTrees_extends d1 d2 c.in_ok-back.ensures.grows in
    let x : Extends d d2 = Extends_trans d d1 d2 x1 x2 in
    glued_before d d2 x c.args.front.now c.requires.front c.args.goal c.requires.goal c.refute_goal.new.draft c.refute_goal.result c.refute_goal.ensures

pub returns-in_err-there : goal.returns-in_err-there
returns-in_err-there c = glued_none _ _ _ _ c.from_residual.result _ (AddsTrees_extends _ _ c.connect.ensures.grows) c.from_residual.ensures.1

pub returns-in_err-back : goal.returns-in_err-back
returns-in_err-back c = glued_none _ _ _ _ c.from_residual-in_err-back.result _ (AddsTrees_extends _ _ (AddsTrees_trans _ _ _ c.in_ok-there.ensures.grows c.connect-2.ensures.grows)) c.from_residual-in_err-back.ensures.1

pub connect-requires-clause-a : goal.connect-requires-clause-a
connect-requires-clause-a c =
    let d = c.args.draft.now in
    let s = sides_of d c.args.goal Iff c.args.pair.left c.args.pair.right c.requires.joins c.requires.goal in
    s.left

pub connect-requires-clause-b : goal.connect-requires-clause-b
connect-requires-clause-b c =
    let d = c.args.draft.now in
    let s = sides_of d c.args.goal Iff c.args.pair.left c.args.pair.right c.requires.joins c.requires.goal in
    s.right

pub connect-requires-2-clause-a : goal.connect-requires-2-clause-a
connect-requires-2-clause-a c =
    let d = c.args.draft.now in
    let d1 = c.connect.new.draft in
    let x1 = AddsTrees_extends d d1 c.in_ok-there.ensures.grows in
    let s = sides_of d c.args.goal Iff c.args.pair.left c.args.pair.right c.requires.joins c.requires.goal in
    formula_later d d1 x1 c.args.pair.right s.right

pub connect-requires-2-clause-b : goal.connect-requires-2-clause-b
connect-requires-2-clause-b c =
    let d = c.args.draft.now in
    let d1 = c.connect.new.draft in
    let x1 = AddsTrees_extends d d1 c.in_ok-there.ensures.grows in
    let s = sides_of d c.args.goal Iff c.args.pair.left c.args.pair.right c.requires.joins c.requires.goal in
    formula_later d d1 x1 c.args.pair.left s.left

pub bounds-ends-0 : goal.bounds-ends-0
bounds-ends-0 c =
    let d = c.args.draft.now in
    let j = c.requires.joins in
    let A = tree_at d.trees c.args.pair.left in
    let B = tree_at d.trees c.args.pair.right in
    let e : EndsOfParts d c.args.ends.now (trees_at d.trees c.args.front.now) (imp A B ∷ imp B A ∷ []) = subst (EndsOfParts d c.args.ends.now (trees_at d.trees c.args.front.now)) (ap split j.tree) c.requires.ends in
    omega (arith, e.as_many)

pub bounds-ends-1 : goal.bounds-ends-1
bounds-ends-1 c =
    let d = c.args.draft.now in
    let j = c.requires.joins in
    let A = tree_at d.trees c.args.pair.left in
    let B = tree_at d.trees c.args.pair.right in
    let e : EndsOfParts d c.args.ends.now (trees_at d.trees c.args.front.now) (imp A B ∷ imp B A ∷ []) = subst (EndsOfParts d c.args.ends.now (trees_at d.trees c.args.front.now)) (ap split j.tree) c.requires.ends in
    omega (arith, e.as_many)
